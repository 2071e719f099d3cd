-- Each part and side of a table, in file order, has its subtable.
use Rattle.std.proofs.Common.{◌≡◌, ℕ, zero, suc, ◌+◌, ◌<◌, Bool, List, [], ◌∷◌, ◌++◌, length, map, take, get_or, refl, sym, ap, subst, ◌∙◌, add-one, arith, inl, inr, Some, None}
use Rattle.std.specs.Prelude.{◌⊎◌, if◌then◌else◌}
use Rattle.std.specs.List.{flat_map}
use Rattle.std.proofs.lemmas.List.{length-map, map-append}
use Rattle.std.proofs.Math.Seq.{take-suc}
use Rattle.szg_values.specs.Material.{Sides, is_symmetric, has_pawns}
use Rattle.szg_values.specs.declared.Kind.{Kind}
use Rattle.szg_values.specs.declared.Kind.TheVariants.{Wdl, Dtz}
use Rattle.szg_file.specs.Contents.{Part, Subtable, constant, Contents, Slot, slots, slots_from, part_numbers, side_numbers}
use Rattle.szg_file.specs.Values.{slotted, found, subtable_at}
use Rattle.szg_file.specs.Accepted.{IsSubtable, IsPart, IsAccepted}
use Rattle.szg_file.proofs.Tables.TableFinds.{side_lengths}
use Rattle.szg_build.specs.Dump.{subtable_ids_of}
use Rattle.szg_build.specs.Built.{subtables_in}
use Rattle.szg_build.proofs.Texts.LinesLaws.{bool_cases}

-- for these sides and part numbers: each part and side has its subtable
abbrev Stand : Sides → List Part → List Subtable → List ℕ → List ℕ → Type 0
Stand material parts subs sides numbers = length numbers ≡ length parts → length (slots_from material sides 0 parts) ≡ length subs →
    map Some (slotted (slots_from material sides 0 parts) subs)
    ≡ map (λ (place : ℕ × ℕ). found place.0 place.1 (slotted (slots_from material sides 0 parts) subs)) (flat_map (λ part. map (λ side. (part, side)) sides) numbers)

one : (material : Sides) (parts : List Part) (subs : List Subtable) → Stand material parts subs (0 ∷ []) (0 ∷ [])
one material [] subs h h' = absurd (omega (arith, h))
one material (p ∷ []) [] h h' = absurd (omega (arith, h'))
one material (p ∷ []) (a ∷ []) h h' = refl
one material (p ∷ []) (a ∷ b ∷ subs) h h' = absurd (omega (arith, h'))
one material (p ∷ q ∷ parts) subs h h' = absurd (omega (arith, h))

two : (material : Sides) (parts : List Part) (subs : List Subtable) → Stand material parts subs (0 ∷ 1 ∷ []) (0 ∷ [])
two material [] subs h h' = absurd (omega (arith, h))
two material (p ∷ []) [] h h' = absurd (omega (arith, h'))
two material (p ∷ []) (a ∷ []) h h' = absurd (omega (arith, h'))
two material (p ∷ []) (a ∷ b ∷ []) h h' = refl
two material (p ∷ []) (a ∷ b ∷ c ∷ subs) h h' = absurd (omega (arith, h'))
two material (p ∷ q ∷ parts) subs h h' = absurd (omega (arith, h))

four_of : (material : Sides) (p q r s : Part) (subs : List Subtable) → Stand material (p ∷ q ∷ r ∷ s ∷ []) subs (0 ∷ []) (0 ∷ 1 ∷ 2 ∷ 3 ∷ [])
four_of material p q r s [] h h' = absurd (omega (arith, h'))
four_of material p q r s (a ∷ []) h h' = absurd (omega (arith, h'))
four_of material p q r s (a ∷ b ∷ []) h h' = absurd (omega (arith, h'))
four_of material p q r s (a ∷ b ∷ c ∷ []) h h' = absurd (omega (arith, h'))
four_of material p q r s (a ∷ b ∷ c ∷ d ∷ []) h h' = refl
four_of material p q r s (a ∷ b ∷ c ∷ d ∷ e ∷ subs) h h' = absurd (omega (arith, h'))

eight_of : (material : Sides) (p q r s : Part) (subs : List Subtable) → Stand material (p ∷ q ∷ r ∷ s ∷ []) subs (0 ∷ 1 ∷ []) (0 ∷ 1 ∷ 2 ∷ 3 ∷ [])
eight_of material p q r s [] h h' = absurd (omega (arith, h'))
eight_of material p q r s (a ∷ []) h h' = absurd (omega (arith, h'))
eight_of material p q r s (a ∷ b ∷ []) h h' = absurd (omega (arith, h'))
eight_of material p q r s (a ∷ b ∷ c ∷ []) h h' = absurd (omega (arith, h'))
eight_of material p q r s (a ∷ b ∷ c ∷ d ∷ []) h h' = absurd (omega (arith, h'))
eight_of material p q r s (a ∷ b ∷ c ∷ d ∷ e ∷ []) h h' = absurd (omega (arith, h'))
eight_of material p q r s (a ∷ b ∷ c ∷ d ∷ e ∷ f ∷ []) h h' = absurd (omega (arith, h'))
eight_of material p q r s (a ∷ b ∷ c ∷ d ∷ e ∷ f ∷ g ∷ []) h h' = absurd (omega (arith, h'))
eight_of material p q r s (a ∷ b ∷ c ∷ d ∷ e ∷ f ∷ g ∷ i ∷ []) h h' = refl
eight_of material p q r s (a ∷ b ∷ c ∷ d ∷ e ∷ f ∷ g ∷ i ∷ j ∷ subs) h h' = absurd (omega (arith, h'))

four_parts : (material : Sides) (parts : List Part) (subs : List Subtable) (sides : List ℕ) →
    ((p q r s : Part) → Stand material (p ∷ q ∷ r ∷ s ∷ []) subs sides (0 ∷ 1 ∷ 2 ∷ 3 ∷ [])) → Stand material parts subs sides (0 ∷ 1 ∷ 2 ∷ 3 ∷ [])
four_parts material [] subs sides all h h' = absurd (omega (arith, h))
four_parts material (p ∷ []) subs sides all h h' = absurd (omega (arith, h))
four_parts material (p ∷ q ∷ []) subs sides all h h' = absurd (omega (arith, h))
four_parts material (p ∷ q ∷ r ∷ []) subs sides all h h' = absurd (omega (arith, h))
four_parts material (p ∷ q ∷ r ∷ s ∷ []) subs sides all h h' = all p q r s h h'
four_parts material (p ∷ q ∷ r ∷ s ∷ t ∷ parts) subs sides all h h' = absurd (omega (arith, h))

side_cases : (material : Sides) (kind : Kind) → (side_numbers material kind ≡ 0 ∷ []) ⊎ (side_numbers material kind ≡ 0 ∷ 1 ∷ [])
side_cases material Wdl = elim (bool_cases (is_symmetric material)) [
  | inl e ↦ inl (ap (λ (b : Bool). if b then 0 ∷ [] else 0 ∷ 1 ∷ []) e)
  | inr e ↦ inr (ap (λ (b : Bool). if b then 0 ∷ [] else 0 ∷ 1 ∷ []) e)
]
side_cases material Dtz = inl refl

part_cases : (material : Sides) → (part_numbers material ≡ 0 ∷ []) ⊎ (part_numbers material ≡ 0 ∷ 1 ∷ 2 ∷ 3 ∷ [])
part_cases material = elim (bool_cases (has_pawns material)) [
  | inl e ↦ inr (ap (λ (b : Bool). if b then 0 ∷ 1 ∷ 2 ∷ 3 ∷ [] else 0 ∷ []) e)
  | inr e ↦ inl (ap (λ (b : Bool). if b then 0 ∷ 1 ∷ 2 ∷ 3 ∷ [] else 0 ∷ []) e)
]

valid_for : (material : Sides) (parts : List Part) (subs : List Subtable) (sides numbers : List ℕ) →
    (sides ≡ 0 ∷ []) ⊎ (sides ≡ 0 ∷ 1 ∷ []) → (numbers ≡ 0 ∷ []) ⊎ (numbers ≡ 0 ∷ 1 ∷ 2 ∷ 3 ∷ []) → Stand material parts subs sides numbers
valid_for material parts subs sides numbers (inl e) (inl e') =
    subst (λ (s : List ℕ). Stand material parts subs s numbers) (sym e) (subst (λ (n : List ℕ). Stand material parts subs (0 ∷ []) n) (sym e') (one material parts subs))
valid_for material parts subs sides numbers (inr e) (inl e') =
    subst (λ (s : List ℕ). Stand material parts subs s numbers) (sym e) (subst (λ (n : List ℕ). Stand material parts subs (0 ∷ 1 ∷ []) n) (sym e') (two material parts subs))
valid_for material parts subs sides numbers (inl e) (inr e') =
    subst (λ (s : List ℕ). Stand material parts subs s numbers) (sym e) (subst (λ (n : List ℕ). Stand material parts subs (0 ∷ []) n) (sym e')
    (four_parts material parts subs (0 ∷ []) (λ p q r s. four_of material p q r s subs)))
valid_for material parts subs sides numbers (inr e) (inr e') =
    subst (λ (s : List ℕ). Stand material parts subs s numbers) (sym e) (subst (λ (n : List ℕ). Stand material parts subs (0 ∷ 1 ∷ []) n) (sym e')
    (four_parts material parts subs (0 ∷ 1 ∷ []) (λ p q r s. eight_of material p q r s subs)))

pub places_are_valid : (t : Contents) (fill : List ℕ) → IsAccepted t fill → map Some (subtables_in t) ≡ map (λ (place : ℕ × ℕ). subtable_at t place.0 place.1) (subtable_ids_of t.material t.kind)
places_are_valid t fill h =
    valid_for t.material t.parts t.subtables (side_numbers t.material t.kind) (part_numbers t.material) (side_cases t.material t.kind) (part_cases t.material)
    (side_lengths (λ _. IsPart t.material t.kind) (part_numbers t.material) t.parts h.parts)
    (side_lengths IsSubtable (slots t.material t.kind t.parts) t.subtables h.subtables)

mapped_at : {A B : Type 0} (f : A → B) (xs : List A) (i : ℕ) (d : A) (e : B) → i < length xs → get_or (map f xs) i e ≡ f (get_or xs i d)
mapped_at f [] i d e h = absurd (omega (arith, h))
mapped_at f (x ∷ xs) zero d e h = refl
mapped_at f (x ∷ xs) (suc i) d e h = mapped_at f xs i d e (omega (arith, h))

abbrev pub no_pair : Slot × Subtable
no_pair = (record { part = 0; side = 0; size = 0 }, constant 0 0)

-- these parts and sides are those of a table's subtables, in order
abbrev pub PlacesValid : Contents → List (ℕ × ℕ) → Type 0
PlacesValid t places = map Some (subtables_in t) ≡ map (λ (place : ℕ × ℕ). subtable_at t place.0 place.1) places

pub place_count : (t : Contents) (places : List (ℕ × ℕ)) → PlacesValid t places → length (subtables_in t) ≡ length places
place_count t places stand =
    sym (length-map (subtables_in t) Some) ∙ ap length stand ∙ length-map places (λ (place : ℕ × ℕ). subtable_at t place.0 place.1)

-- The subtable of the i-th part and side.
pub place_at : (t : Contents) (places : List (ℕ × ℕ)) (i : ℕ) (d : ℕ × ℕ) → PlacesValid t places → i < length places →
    subtable_at t (get_or places i d).0 (get_or places i d).1 ≡ Some (get_or (subtables_in t) i no_pair)
place_at t places i d stand below =
    let inside : i < length (subtables_in t) = omega (arith, below, place_count t places stand) in
    sym (mapped_at (λ (place : ℕ × ℕ). subtable_at t place.0 place.1) places i d None below)
    ∙ ap (λ z. get_or z i None) (sym stand)
    ∙ mapped_at Some (subtables_in t) i no_pair None inside

-- One more item of a list that is made from pairs of slots and subtables.
pub pairs_more : {B : Type 0} (f : Slot × Subtable → B) (pairs : List (Slot × Subtable)) (i : ℕ) (stated : List B) (b : B) → i < length pairs → stated ≡ map f (take i pairs) → b ≡ f (get_or pairs i no_pair) →
    stated ++ b ∷ [] ≡ map f (take (i + 1) pairs)
pairs_more f pairs i stated b h e same =
    let longer : take (i + 1) pairs ≡ take i pairs ++ get_or pairs i no_pair ∷ [] = ap (λ (m : ℕ). take m pairs) (add-one i) ∙ take-suc pairs i no_pair h in
    ap (λ (z : List _). z ++ b ∷ []) e ∙ ap (λ z. map f (take i pairs) ++ z ∷ []) same ∙ sym (ap (map f) longer ∙ map-append f (take i pairs) (get_or pairs i no_pair ∷ []))
