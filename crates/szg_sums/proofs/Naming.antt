-- Parts of a path by its bytes, and the names for it by their list.
use Rattle.std.proofs.Common.{◌≡◌, ℕ, ◌+◌, ◌<◌, ◌==◌, Bool, true, false, cond, List, [], ◌∷◌, ◌++◌, length, get_or, drop, take, map, Option, None, refl, sym, ap, ◌∙◌, append_assoc, append-nil}
use Rattle.std.specs.List.{onto_first, slice_split}
use Rattle.std.proofs.lemmas.List.{map-append, take_more}
use Rattle.szg_sums.specs.Names.{Name, best, better, name_of, with_part, with_parts}
use Rattle.szg_sums.specs.declared.lists.Listed.{Listed}

-- the bytes of the part that is begun, before the parts of what follows
abbrev pub onto : List ℕ → List (List ℕ) → List (List ℕ)
onto begun [] = begun ∷ []
onto begun (part ∷ parts) = (begun ++ part) ∷ parts

abbrev pub cut : List ℕ → List (List ℕ)
cut path = slice_split (λ byte. byte == 47) path

-- the parts so far, and those of the bytes that are left
abbrev pub parts_with : List (List ℕ) → List ℕ → List ℕ → List (List ℕ)
parts_with parts begun left = with_parts parts (onto begun (cut left))

first_onto : (b : ℕ) (parts : List (List ℕ)) → onto [] (onto_first b parts) ≡ onto_first b parts
first_onto b [] = refl
first_onto b (part ∷ parts) = refl

by_slash : (slash : Bool) (b : ℕ) (parts : List (List ℕ)) → onto [] (cond slash ([] ∷ parts) (onto_first b parts)) ≡ cond slash ([] ∷ parts) (onto_first b parts)
by_slash true b parts = refl
by_slash false b parts = first_onto b parts

onto_nil : (path : List ℕ) → onto [] (cut path) ≡ cut path
onto_nil [] = refl
onto_nil (b ∷ bs) = by_slash (b == 47) b (cut bs)

onto_more : (begun : List ℕ) (b : ℕ) (parts : List (List ℕ)) → onto begun (onto_first b parts) ≡ onto (begun ++ b ∷ []) parts
onto_more begun b [] = refl
onto_more begun b (part ∷ parts) = ap (λ (z : List ℕ). z ∷ parts) (sym (append_assoc begun (b ∷ []) part))

-- a slash ends the part that is begun
pub slash_next : (parts : List (List ℕ)) (begun : List ℕ) (b : ℕ) (left : List ℕ) → (b == 47) ≡ true → parts_with parts begun (b ∷ left) ≡ parts_with (with_part parts begun) [] left
slash_next parts begun b left is = rw is (ap (λ (z : List ℕ). with_parts parts (z ∷ cut left)) (append-nil begun) ∙ sym (ap (with_parts (with_part parts begun)) (onto_nil left)))

-- another byte is one more of it
pub byte_next : (parts : List (List ℕ)) (begun : List ℕ) (b : ℕ) (left : List ℕ) → (b == 47) ≡ false → parts_with parts begun (b ∷ left) ≡ parts_with parts (begun ++ b ∷ []) left
byte_next parts begun b left is = rw is (ap (with_parts parts) (onto_more begun b (cut left)))

best_more : (path : List ℕ) (found : Option Name) (names : List Name) (name : Name) → best path found (names ++ name ∷ []) ≡ better path (best path found names) name
best_more path found [] name = refl
best_more path found (one ∷ names) name = best_more path (better path found one) names name

-- the best of the first names, and the next
pub best_next : (path : List ℕ) (all : List Listed) (i : ℕ) (item : Listed) (old new : Option Name) → i < length all → item ≡ get_or all i item → old ≡ best path None (map name_of (take i all)) →
    new ≡ better path old (name_of item) → new ≡ best path None (map name_of (take (i + 1) all))
best_next path all i item old new below is so_far next =
    next ∙ ap (λ (z : Option Name). better path z (name_of item)) so_far ∙ ap (λ (one : Listed). better path (best path None (map name_of (take i all))) (name_of one)) is
    ∙ sym (ap (λ (z : List Listed). best path None (map name_of z)) (take_more all i item below) ∙ ap (best path None) (map-append name_of (take i all) (get_or all i item ∷ []))
    ∙ best_more path None (map name_of (take i all)) (name_of (get_or all i item)))
