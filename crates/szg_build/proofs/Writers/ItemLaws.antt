-- The numbers of the items of lists.
use Rattle.std.proofs.Common.{◌≡◌, ℕ, ◌<◌, List, [], ◌∷◌, ◌++◌, length, map, get_or, refl, sym, ap, ◌∙◌}
use Rattle.std.proofs.lemmas.List.{map-id, map-append}
use Rattle.szg_build.specs.Text.{lines_text, flat_map_beside, map_list_lines}
use Rattle.szg_build.proofs.Writers.WritingLaws.{four_at, mapped_item}

-- the numbers after one more item
pub one_more : {A B : Type 0} (number : A → B) (before after : List A) (item : A) → after ≡ before ++ item ∷ [] → map number after ≡ map number before ++ number item ∷ []
one_more number before after item e = ap (map number) e ∙ map-append number before (item ∷ [])

-- lists whose items are numbers are lists of their items' numbers
pub own_numbers : {A : Type 0} (items : A → List ℕ) (lists : List A) → map (λ list. map (λ n. n) (items list)) lists ≡ map items lists
own_numbers items [] = refl
own_numbers items (list ∷ lists) = ap (λ z. z ∷ map (λ list. map (λ n. n) (items list)) lists) (map-id (items list)) ∙ ap (λ z. items list ∷ z) (own_numbers items lists)

-- list j of four, by its lines
pub list_parsed : {A : Type 0} (numbers : A → List ℕ) (lists : List A) (j : ℕ) (list : A) → j < 4 → j < length lists → list ≡ get_or lists j list →
    lines_text (map_list_lines (get_or (0 ∷ 1 ∷ 2 ∷ 3 ∷ []) j 0) (get_or (map numbers lists) j [])) ≡ lines_text (map_list_lines j (numbers (get_or lists j list)))
list_parsed numbers lists j list here there is =
    ap (λ z. lines_text (map_list_lines z (get_or (map numbers lists) j []))) (four_at j here)
    ∙ ap (λ z. lines_text (map_list_lines j z)) (mapped_item lists numbers j list [] there is ∙ ap numbers is)

-- the four lists of a map, by their lines
pub lists_parsed : {A : Type 0} (items : A → List ℕ) (lists : List A) →
    lines_text (flat_map_beside map_list_lines (0 ∷ 1 ∷ 2 ∷ 3 ∷ []) (map items lists)) ≡ lines_text (flat_map_beside map_list_lines (0 ∷ 1 ∷ 2 ∷ 3 ∷ []) (map (λ list. map (λ n. n) (items list)) lists))
lists_parsed items lists = ap (λ z. lines_text (flat_map_beside map_list_lines (0 ∷ 1 ∷ 2 ∷ 3 ∷ []) z)) (sym (own_numbers items lists))
