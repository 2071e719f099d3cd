-- The changes of a material, and whether they are listed.
use Rattle.std.proofs.Common.{◌≡◌, List, [], ◌∷◌, ◌++◌, map, refl, sym, ap, ◌∙◌, Bool, true, false, inl, inr}
use Rattle.std.specs.Prelude.{filter, not, ◌&&◌, ◌||◌}
use Rattle.std.specs.List.{list_any, list_all}
use Rattle.std.proofs.lemmas.Bool.{cases_Bool}
use Rattle.std.proofs.lemmas.List.{append-nil}
use Rattle.szg_values.specs.Men.{is_color}
use Rattle.szg_values.specs.Material.{Sides, is_same_men}
use Rattle.szg_values.specs.declared.Man.{Man}
use Rattle.szg_values.specs.declared.Man.TheVariants.{Pawn, Knight, Bishop, Rook, Queen}
use Rattle.szg_values.specs.declared.Color.{Color}
use Rattle.szg_values.specs.declared.Color.TheVariants.{White, Black}
use Rattle.szg_verify.specs.Materials.{without, has_man, captured_from, promoted_from, changed_from, changes, is_same_material, kings_alone, is_listed}
use Rattle.szg_verify.specs.Walk.{colored_men, side_in}

all_both : {A : Type 0} (t : A → Bool) (xs ys : List A) → list_all t (xs ++ ys) ≡ (list_all t xs && list_all t ys)
all_both t [] ys = refl
all_both t (x ∷ xs) ys = ap (λ (b : Bool). t x && b) (all_both t xs ys) ∙ and_assoc (t x) (list_all t xs) (list_all t ys)
  where
    and_assoc : (a b c : Bool) → (a && (b && c)) ≡ ((a && b) && c)
    and_assoc true b c = refl
    and_assoc false b c = refl

all_map : {A B : Type 0} (t : B → Bool) (f : A → B) (xs : List A) → list_all t (map f xs) ≡ list_all (λ x. t (f x)) xs
all_map t f [] = refl
all_map t f (x ∷ xs) = ap (λ (b : Bool). t (f x) && b) (all_map t f xs)

all_filtered : {A : Type 0} (t h : A → Bool) (xs : List A) → list_all t (filter h xs) ≡ list_all (λ x. not (h x) || t x) xs
all_filtered t h [] = refl
all_filtered t h (x ∷ xs) = elim (cases_Bool (h x)) [
  | inl e ↦ rw e (ap (λ (b : Bool). t x && b) (all_filtered t h xs))
  | inr e ↦ rw e (all_filtered t h xs)
]

all_same : {A : Type 0} (t u : A → Bool) → ((x : A) → t x ≡ u x) → (xs : List A) → list_all t xs ≡ list_all u xs
all_same t u same [] = refl
all_same t u same (x ∷ xs) = ap (λ (b : Bool). b && list_all t xs) (same x) ∙ ap (λ (b : Bool). u x && b) (all_same t u same xs)

-- ---- the changes of a side

abbrev pub capturable : List Man
capturable = Queen ∷ Rook ∷ Bishop ∷ Knight ∷ Pawn ∷ []

abbrev pub promotable : List Man
promotable = Queen ∷ Rook ∷ Bishop ∷ Knight ∷ []

pub side_changes : (t : List Man → Bool) (side : List Man) →
    (list_all (λ man. not (has_man side man) || t (without man side)) capturable && (not (has_man side Pawn) || list_all (λ piece. t (piece ∷ without Pawn side)) promotable)) ≡ list_all t (changed_from side)
side_changes t side = sym (all_both t (captured_from side) (promoted_from side)
    ∙ ap (λ (b : Bool). b && list_all t (promoted_from side)) (all_map t (λ (man : Man). without man side) (filter (has_man side) capturable) ∙ all_filtered (λ (man : Man). t (without man side)) (has_man side) capturable)
    ∙ ap (λ (b : Bool). list_all (λ (man : Man). not (has_man side man) || t (without man side)) capturable && b) promotions)
  where
    promotions : list_all t (promoted_from side) ≡ (not (has_man side Pawn) || list_all (λ (piece : Man). t (piece ∷ without Pawn side)) promotable)
    promotions = elim (cases_Bool (has_man side Pawn)) [
      | inl e ↦ rw e (all_map t (λ (piece : Man). piece ∷ without Pawn side) promotable)
      | inr e ↦ rw e refl
    ]

-- ---- the changes of a material

abbrev pub pair : List Man → List Man → Sides
pair first second = record { first = first; second = second }

crossed : (p q r s : Bool) → ((p && q) || (r && s)) ≡ ((s && r) || (q && p))
crossed true true true true = refl
crossed true true true false = refl
crossed true true false true = refl
crossed true true false false = refl
crossed true false true true = refl
crossed true false true false = refl
crossed true false false true = refl
crossed true false false false = refl
crossed false true true true = refl
crossed false true true false = refl
crossed false true false true = refl
crossed false true false false = refl
crossed false false true true = refl
crossed false false true false = refl
crossed false false false true = refl
crossed false false false false = refl

-- which side is first does not matter
pub same_crossed : (a b : List Man) (m : Sides) → is_same_material (pair a b) m ≡ is_same_material (pair b a) m
same_crossed a b m = crossed (is_same_men a m.first) (is_same_men b m.second) (is_same_men a m.second) (is_same_men b m.first)

pub listed_crossed : (materials : List Sides) (a b : List Man) → is_listed materials (pair a b) ≡ is_listed materials (pair b a)
listed_crossed materials a b = each (kings_alone ∷ materials)
  where
    each : (ms : List Sides) → list_any (is_same_material (pair a b)) ms ≡ list_any (is_same_material (pair b a)) ms
    each [] = refl
    each (m ∷ ms) = ap (λ (t : Bool). t || list_any (is_same_material (pair a b)) ms) (same_crossed a b m) ∙ ap (λ (t : Bool). is_same_material (pair b a) m || t) (each ms)

pub changes_are : (t : Sides → Bool) → ((a b : List Man) → t (pair a b) ≡ t (pair b a)) → (sides : Sides) →
    (list_all (λ changed. t (pair changed sides.second)) (changed_from sides.first) && list_all (λ changed. t (pair changed sides.first)) (changed_from sides.second)) ≡ list_all t (changes sides)
changes_are t exchanged sides = sym (
    all_both t (map (λ (side : List Man). pair side sides.second) (changed_from sides.first)) (map (λ (side : List Man). pair sides.first side) (changed_from sides.second))
    ∙ ap (λ (b : Bool). b && list_all t (map (λ (side : List Man). pair sides.first side) (changed_from sides.second))) (all_map t (λ (side : List Man). pair side sides.second) (changed_from sides.first))
    ∙ ap (λ (b : Bool). list_all (λ (changed : List Man). t (pair changed sides.second)) (changed_from sides.first) && b)
    (all_map t (λ (side : List Man). pair sides.first side) (changed_from sides.second)
    ∙ all_same (λ (side : List Man). t (pair sides.first side)) (λ (side : List Man). t (pair side sides.first)) (λ side. exchanged sides.first side) (changed_from sides.second)))

-- not all are not: some is
pub not_all : {A : Type 0} (t : A → Bool) (xs : List A) → not (list_all (λ x. not (t x)) xs) ≡ list_any t xs
not_all t [] = refl
not_all t (x ∷ xs) = elim (cases_Bool (t x)) [ inl e ↦ rw e refl | inr e ↦ rw e (not_all t xs) ]

-- ---- the sides of a material

side_both : (color : Color) (xs ys : List (Man × Color)) → side_in color (xs ++ ys) ≡ side_in color xs ++ side_in color ys
side_both color [] ys = refl
side_both color (x ∷ xs) ys = elim (cases_Bool (is_color color x.1)) [
  | inl e ↦ rw e (ap (λ (side : List Man). x.0 ∷ side) (side_both color xs ys))
  | inr e ↦ rw e (side_both color xs ys)
]

side_own : (a b : Color) → is_color a b ≡ true → (side : List Man) → side_in a (map (λ (man : Man). (man, b)) side) ≡ side
side_own a b e [] = refl
side_own a b e (man ∷ side) = rw e (ap (λ (more : List Man). man ∷ more) (side_own a b e side))

side_other : (a b : Color) → is_color a b ≡ false → (side : List Man) → side_in a (map (λ (man : Man). (man, b)) side) ≡ []
side_other a b e [] = refl
side_other a b e (man ∷ side) = rw e (side_other a b e side)

pub white_side : (sides : Sides) → side_in White (colored_men sides) ≡ sides.first
white_side sides =
    side_both White (map (λ (man : Man). (man, White)) sides.first) (map (λ (man : Man). (man, Black)) sides.second)
    ∙ ap (λ (xs : List Man). xs ++ side_in White (map (λ (man : Man). (man, Black)) sides.second)) (side_own White White refl sides.first)
    ∙ ap (λ (xs : List Man). sides.first ++ xs) (side_other White Black refl sides.second)
    ∙ append-nil sides.first

pub black_side : (sides : Sides) → side_in Black (colored_men sides) ≡ sides.second
black_side sides =
    side_both Black (map (λ (man : Man). (man, White)) sides.first) (map (λ (man : Man). (man, Black)) sides.second)
    ∙ ap (λ (xs : List Man). xs ++ side_in Black (map (λ (man : Man). (man, Black)) sides.second)) (side_other Black White refl sides.first)
    ∙ side_own Black Black refl sides.second
