-- Tables in memory store the same for a position and for its images.
use Rattle.std.proofs.Common.{◌≡◌, ℕ, zero, suc, ◌+◌, ◌≤◌, inl, inr, List, [], ◌∷◌, length, map, refl, sym, ap, ◌∙◌, subst, Bool, true, false, cond, arith, Contains, Option, Some, None}
use Rattle.std.specs.Prelude.{◌==◌, nat_lt, nat_le, find, is_none, count_by, option_and_then, IsNone}
use Rattle.std.specs.List.{list_any}
use Rattle.std.proofs.Math.Bool.{not, ◌&&◌, ◌||◌}
use Rattle.std.proofs.lemmas.Bool.{cases_Bool, and_parts, leb-true, le-leb, eqb-true, not-true}
use Rattle.szg_values.specs.Men.{is_man, is_color, name_order}
use Rattle.szg_values.specs.Material.{Sides, is_same_men, has_pawns, pawn_count}
use Rattle.szg_values.specs.Placement.{PlacedMan, Board, IsPlacement, number_of, placement_fault, material_of}
use Rattle.szg_values.specs.declared.Man.{Man}
use Rattle.szg_values.specs.declared.Man.TheVariants.{Pawn, Knight, Bishop, Rook, Queen, King}
use Rattle.szg_values.specs.declared.Color.{Color}
use Rattle.szg_values.specs.declared.Color.TheVariants.{White, Black}
use Rattle.szg_values.specs.declared.Kind.{Kind}
use Rattle.szg_values.specs.declared.Kind.TheVariants.{Wdl, Dtz}
use Rattle.szg_values.proofs.MaterialOf.{all_kinds, all_counted}
use Rattle.szg_values.proofs.SideCounts.{men_of_placement}
use Rattle.szg_count.specs.Laws.{IsIn}
use Rattle.szg_file.specs.Contents.{Contents}
use Rattle.szg_file.specs.Held.{Shown}
use Rattle.szg_game.specs.declared.Class.{Class}
use Rattle.szg_place.specs.Layout.{IsLayout}
use Rattle.szg_place.specs.Normal.{exchanged_color}
use Rattle.szg_place.specs.Images.{IsBoardImage, keeps_spot}
use Rattle.szg_place.specs.Images as placed_images
use Rattle.szg_place.specs.Spots.{place_fault, spot_of}
use Rattle.szg_place.specs.Tables.{numbering_of, value_at, mapped_number}
use Rattle.szg_place.specs.declared.Spot.{Spot}
use Rattle.szg_place.specs.declared.PlaceFault.{PlaceFault}
use Rattle.szg_place.specs.declared.PlaceFault.TheVariants.{OtherMaterial, Irregular, KingsTouch, WrongSide}
use Rattle.szg_place.proofs.Ranks.Lists.{all-IsIn}
use Rattle.szg_place.proofs.MenOnSlots.Pieces.{count-cons}
use Rattle.szg_place.proofs.MenOnSlots.Standing.{sorted}
use Rattle.szg_place.proofs.Symmetries.ImageCounts.{material_same}
use Rattle.szg_place.proofs.Symmetries.ImageBoards.{all_in, law_image_spot}
use Rattle.szg_chess.specs.Position.{Position, IsPosition}
use Rattle.szg_chess.specs.Images.{Symmetry, Same, FlipFiles, FlipRanks, FlipDiagonal, ExchangeColors, man_image, IsImage}
use Rattle.szg_chess.proofs.Facts.{faultless, placed}
use Rattle.szg_chess.proofs.Images.Counts.{same_size}
use Rattle.szg_probe.specs.Images.{has_no_pawn, has_lone_pawns, shares_value, AreSymmetric}
use Rattle.szg_tables.specs.Stored.{board_of, is_kind, is_for, table_for, value_in, class_of_value, class_in, stored_classes, is_few, number_of_class, number_by, number_in, stored_numbers}
use Rattle.szg_tables.specs.Images.{HaveSymmetricNumbers}

-- ---- lists

pub to_in : {X : Type 0} (xs : List X) (x : X) → Contains xs x → IsIn x xs
to_in [] x held = absurd (omega (arith, held.1))
to_in (z ∷ xs) x (zero, h, e) = inl (sym e)
to_in (z ∷ xs) x (suc k, h, e) = inr (to_in xs x (k, omega arith, e))

pub from_in : {X : Type 0} (xs : List X) (x : X) → IsIn x xs → Contains xs x
from_in [] x i = absurd i
from_in (z ∷ xs) x (inl e) = (zero, omega arith, sym e)
from_in (z ∷ xs) x (inr i) = let r = from_in xs x i in let r1 = r.1 in (suc r.0, omega arith, r.2)

-- what the first that passes gives, from what each that passes gives
same_found : {A B : Type 0} (test : A → Bool) (g h : A → Option B) (xs : List A) → ((x : A) → IsIn x xs → test x ≡ true → g x ≡ h x) → option_and_then g (find test xs) ≡ option_and_then h (find test xs)
same_found test g h [] same = refl
same_found test g h (x ∷ xs) same = elim (cases_Bool (test x)) [
  | inl t ↦ rw t (same x (inl refl) t)
  | inr e ↦ rw e (same_found test g h xs (λ y i. same y (inr i)))
]

none_found : {A : Type 0} (test : A → Bool) (xs : List A) → ((x : A) → IsIn x xs → test x ≡ true → ⊥) → find test xs ≡ None
none_found test [] none = refl
none_found test (x ∷ xs) none = elim (cases_Bool (test x)) [
  | inl t ↦ absurd (none x (inl refl) t)
  | inr e ↦ rw e (none_found test xs (λ y i. none y (inr i)))
]

-- ---- the men of a material

kinds_once : (man : Man) → all_kinds (λ kind. cond (is_man kind man) 1 0) ≡ 1
kinds_once Pawn = refl
kinds_once Knight = refl
kinds_once Bishop = refl
kinds_once Rook = refl
kinds_once Queen = refl
kinds_once King = refl

kinds_counted : (men : List Man) → all_kinds (λ sort. count_by (is_man sort) men) ≡ length men
kinds_counted [] = refl
kinds_counted (man ∷ men) =
    let a = count-cons (is_man King) man men in let b = count-cons (is_man Queen) man men in let c = count-cons (is_man Rook) man men in
    let d = count-cons (is_man Bishop) man men in let e = count-cons (is_man Knight) man men in let f = count-cons (is_man Pawn) man men in
    let once = kinds_once man in let more = kinds_counted men in
    omega (arith, a, b, c, d, e, f, once, more)

counts_of : (a b : List Man) → is_same_men a b ≡ true → (sort : Man) → IsIn sort name_order → count_by (is_man sort) a ≡ count_by (is_man sort) b
counts_of a b e sort i = eqb-true (count_by (is_man sort) a) (count_by (is_man sort) b) (all-IsIn (λ kind. count_by (is_man kind) a == count_by (is_man kind) b) name_order sort e i)

same_length : (a b : List Man) → is_same_men a b ≡ true → length a ≡ length b
same_length a b e =
    let k = counts_of a b e King (inl refl) in let q = counts_of a b e Queen (inr (inl refl)) in let r = counts_of a b e Rook (inr (inr (inl refl))) in
    let s = counts_of a b e Bishop (inr (inr (inr (inl refl)))) in let n = counts_of a b e Knight (inr (inr (inr (inr (inl refl))))) in
    let p = counts_of a b e Pawn (inr (inr (inr (inr (inr (inl refl)))))) in
    let left = kinds_counted a in let right = kinds_counted b in
    omega (arith, k, q, r, s, n, p, left, right)

-- what is counted of both sides of the material is counted of the men
of_both : (f : (Man → ℕ) → ℕ) (men : List PlacedMan) → ((g h : Man → ℕ) → ((sort : Man) → g sort ≡ h sort) → f g ≡ f h) →
    f (λ sort. count_by (is_man sort) (material_of men).first) + f (λ sort. count_by (is_man sort) (material_of men).second) ≡ f (λ sort. number_of sort White men) + f (λ sort. number_of sort Black men)
of_both f men same = elim (men_of_placement men) [
  | inl r ↦
      let a = same (λ sort. count_by (is_man sort) (material_of men).first) (λ sort. number_of sort White men) r.0 in
      let b = same (λ sort. count_by (is_man sort) (material_of men).second) (λ sort. number_of sort Black men) r.1 in
      omega (arith, a, b)
  | inr r ↦
      let a = same (λ sort. count_by (is_man sort) (material_of men).first) (λ sort. number_of sort Black men) r.0 in
      let b = same (λ sort. count_by (is_man sort) (material_of men).second) (λ sort. number_of sort White men) r.1 in
      omega (arith, a, b)
]

material_length : (men : List PlacedMan) → length (material_of men).first + length (material_of men).second ≡ length men
material_length men =
    let both = of_both all_kinds men (λ g h e. let a = e King in let b = e Queen in let c = e Rook in let d = e Bishop in let k = e Knight in let p = e Pawn in omega (arith, a, b, c, d, k, p)) in
    let a = kinds_counted (material_of men).first in let b = kinds_counted (material_of men).second in let c = all_counted men in
    omega (arith, both, a, b, c)

no_pawns_of : (color : Color) (men : List PlacedMan) → list_any (λ s. is_man Pawn s.0) men ≡ false → number_of Pawn color men ≡ 0
no_pawns_of color [] e = refl
no_pawns_of color (s ∷ men) e = elim (cases_Bool (is_man Pawn s.0)) [
  | inl t ↦ absurd (let k : true ≡ false = rw t at e in cc)
  | inr f ↦
      let rest : list_any (λ s. is_man Pawn s.0) men ≡ false = rw f at e in
      count-cons (λ (t : PlacedMan). is_man Pawn t.0 && is_color color t.1) s men ∙ ap (λ (b : Bool). cond (b && is_color color s.1) 1 0 + number_of Pawn color men) f
      ∙ (let k = no_pawns_of color men rest in omega (arith, k))
]

-- with one pawn at most on each side, no lead pawns are mirror images
lone_counts : (a b : ℕ) → a ≤ 1 → b ≤ 1 → (not (nat_lt 0 (a + b)) || ((false || cond (nat_lt 0 a && (b == 0 || nat_le a b)) a b == 1) && true)) ≡ true
lone_counts zero zero h k = refl
lone_counts zero (suc zero) h k = refl
lone_counts (suc zero) zero h k = refl
lone_counts (suc zero) (suc zero) h k = refl
lone_counts zero (suc (suc b)) h k = absurd (omega arith)
lone_counts (suc zero) (suc (suc b)) h k = absurd (omega arith)
lone_counts (suc (suc a)) b h k = absurd (omega arith)

-- ---- a table for the men

module _ (kind : Kind) (men : List PlacedMan) (t : Shown) (layout : IsLayout (numbering_of t.contents)) (for_men : is_for kind (material_of men) t ≡ true) where
  same_men : (is_same_men (material_of men).first t.contents.material.first ≡ true) × (is_same_men (material_of men).second t.contents.material.second ≡ true)
  same_men =
      let first = is_same_men (material_of men).first t.contents.material.first in let second = is_same_men (material_of men).second t.contents.material.second in
      and_parts first second (and_parts (is_kind kind t.contents.kind) (first && second) for_men).1

  three_men : 3 ≤ length men
  three_men =
      let a = same_length (material_of men).first t.contents.material.first same_men.0 in let b = same_length (material_of men).second t.contents.material.second same_men.1 in
      let c = material_length men in
      let size = length t.contents.material.first + length t.contents.material.second in
      let d = leb-true 3 size (and_parts (nat_le 3 size) (nat_le size 6) (sorted t.contents.material layout.material).count).0 in
      omega (arith, a, b, c, d)

  pawns_none : has_no_pawn men ≡ true → has_pawns t.contents.material ≡ false
  pawns_none none =
      let no = not-true (list_any (λ (s : PlacedMan). is_man Pawn s.0) men) none in
      let pawn : IsIn Pawn name_order = inr (inr (inr (inr (inr (inl refl))))) in
      let a = counts_of (material_of men).first t.contents.material.first same_men.0 Pawn pawn in let b = counts_of (material_of men).second t.contents.material.second same_men.1 Pawn pawn in
      let both = of_both (λ g. g Pawn) men (λ g h e. e Pawn) in
      let w = no_pawns_of White men no in let k = no_pawns_of Black men no in
      let all : pawn_count t.contents.material.first + pawn_count t.contents.material.second ≡ 0 = omega (arith, a, b, both, w, k) in
      ap (λ (n : ℕ). nat_lt 0 n) all

  pawns_lone : has_lone_pawns men ≡ true → keeps_spot t.contents.material false true false ≡ true
  pawns_lone lone =
      let pawn : IsIn Pawn name_order = inr (inr (inr (inr (inr (inl refl))))) in
      let a = counts_of (material_of men).first t.contents.material.first same_men.0 Pawn pawn in let b = counts_of (material_of men).second t.contents.material.second same_men.1 Pawn pawn in
      let few = and_parts (nat_le (number_of Pawn White men) 1) (nat_le (number_of Pawn Black men) 1) lone in
      let white = leb-true (number_of Pawn White men) 1 few.0 in let black = leb-true (number_of Pawn Black men) 1 few.1 in
      let both : (pawn_count (material_of men).first ≤ 1) × (pawn_count (material_of men).second ≤ 1) = elim (men_of_placement men) [
        | inl r ↦ let c = r.0 Pawn in let d = r.1 Pawn in (omega (arith, c, white), omega (arith, d, black))
        | inr r ↦ let c = r.0 Pawn in let d = r.1 Pawn in (omega (arith, c, black), omega (arith, d, white))
      ] in
      let first = both.0 in let second = both.1 in
      lone_counts (pawn_count t.contents.material.first) (pawn_count t.contents.material.second) (omega (arith, a, first)) (omega (arith, b, second))

-- ---- images

-- what a symmetry does to a placement: colours exchanged, files flipped, ranks flipped
exchanges : Symmetry → Bool
exchanges Same = false
exchanges FlipFiles = false
exchanges FlipRanks = false
exchanges FlipDiagonal = false
exchanges ExchangeColors = true

flips_files : Symmetry → Bool
flips_files Same = false
flips_files FlipFiles = true
flips_files FlipRanks = false
flips_files FlipDiagonal = false
flips_files ExchangeColors = false

flips_ranks : Symmetry → Bool
flips_ranks Same = false
flips_ranks FlipFiles = false
flips_ranks FlipRanks = true
flips_ranks FlipDiagonal = false
flips_ranks ExchangeColors = true

same_map : (f g : PlacedMan → PlacedMan) (men : List PlacedMan) → ((s : PlacedMan) → f s ≡ g s) → map f men ≡ map g men
same_map f g [] e = refl
same_map f g (s ∷ men) e = ap (λ (t : PlacedMan). t ∷ map f men) (e s) ∙ ap (λ (l : List PlacedMan). g s ∷ l) (same_map f g men e)

board_image : (f : Symmetry) (p q : Position) → IsImage f p q → (e files ranks : Bool) → ((s : PlacedMan) → man_image f s ≡ placed_images.man_image e files ranks s) →
    q.mover ≡ exchanged_color e p.mover →
    IsBoardImage e files ranks (board_of p.placed_men p.mover) (board_of q.placed_men q.mover)
board_image f p q is e files ranks same mover = record {
  men = λ s.
      let images : map (man_image f) p.placed_men ≡ map (placed_images.man_image e files ranks) p.placed_men = same_map (man_image f) (placed_images.man_image e files ranks) p.placed_men same in (
        λ i. subst (λ (l : List PlacedMan). IsIn s l) images (to_in (map (man_image f) p.placed_men) s ((is.men s).0 (from_in q.placed_men s i))),
        λ i. to_in q.placed_men s ((is.men s).1 (from_in (map (man_image f) p.placed_men) s (subst (λ (l : List PlacedMan). IsIn s l) (sym images) i))),
      );
  mover = mover;
}

image_of : (f : Symmetry) (p q : Position) → IsImage f p q → shares_value f p.placed_men ≡ true → IsBoardImage (exchanges f) (flips_files f) (flips_ranks f) (board_of p.placed_men p.mover) (board_of q.placed_men q.mover)
unfolding exchanges flips_files flips_ranks
image_of Same p q is shares = board_image Same p q is false false false (λ s. refl) is.mover
image_of FlipFiles p q is shares = board_image FlipFiles p q is false true false (λ s. refl) is.mover
image_of FlipRanks p q is shares = board_image FlipRanks p q is false false true (λ s. refl) is.mover
image_of FlipDiagonal p q is shares = absurd (cc)
image_of ExchangeColors p q is shares = board_image ExchangeColors p q is true false true (λ s. refl) is.mover

or_true : (b : Bool) → (b || true) ≡ true
or_true true = refl
or_true false = refl

keeps_of : (f : Symmetry) (men : List PlacedMan) (sides : Sides) → shares_value f men ≡ true → (has_no_pawn men ≡ true → has_pawns sides ≡ false) →
    (has_lone_pawns men ≡ true → keeps_spot sides false true false ≡ true) → keeps_spot sides (exchanges f) (flips_files f) (flips_ranks f) ≡ true
unfolding exchanges flips_files flips_ranks
keeps_of Same men sides shares none lone = or_true (not (has_pawns sides))
keeps_of FlipFiles men sides shares none lone = lone shares
keeps_of FlipRanks men sides shares none lone = rw (none shares) refl
keeps_of FlipDiagonal men sides shares none lone = absurd (cc)
keeps_of ExchangeColors men sides shares none lone = or_true (not (has_pawns sides))

-- ---- what tables store

-- a board and its image have one spot in a table
pub record IsOneSpot (t : Contents) (a b : Board) : Type 0 where
  pub fault : place_fault (numbering_of t) b ≡ place_fault (numbering_of t) a
  pub spot : place_fault (numbering_of t) a ≡ None → spot_of (numbering_of t) b ≡ spot_of (numbering_of t) a

module _ (t : Contents) (a b : Board) (one : IsOneSpot t a b) where
  same_value : value_in b t ≡ value_in a t
  same_value = ap (λ (o : Option PlaceFault). cond (is_none o) (value_at t (spot_of (numbering_of t) b)) None) one.fault ∙ by_fault (place_fault (numbering_of t) a) refl
    where
      by_fault : (o : Option PlaceFault) → place_fault (numbering_of t) a ≡ o → cond (is_none o) (value_at t (spot_of (numbering_of t) b)) None ≡ cond (is_none o) (value_at t (spot_of (numbering_of t) a)) None
      by_fault None e = ap (value_at t) (one.spot e)
      by_fault (Some f) e = refl

  same_class : class_in b t ≡ class_in a t
  same_class = ap (option_and_then class_of_value) same_value

  pub same_number : (k : Class) → number_in b k t ≡ number_in a k t
  same_number k = ap (λ (o : Option PlaceFault). number_by o b k t) one.fault ∙ by_fault (place_fault (numbering_of t) a) refl
    where
      by_fault : (o : Option PlaceFault) → place_fault (numbering_of t) a ≡ o → number_by o b k t ≡ number_by o a k t
      by_fault None e = ap (λ (spot : Spot). option_and_then (λ v. is_few (mapped_number t spot.part (number_of_class k) v)) (value_at t spot)) (one.spot e)
      by_fault (Some WrongSide) e = refl
      by_fault (Some OtherMaterial) e = refl
      by_fault (Some Irregular) e = refl
      by_fault (Some KingsTouch) e = refl

abbrev pub AreNumbered : List Shown → Type 0
AreNumbered tables = (t : Shown) → IsIn t tables → IsLayout (numbering_of t.contents)

none_holds : {A : Type 0} (o : Option A) → o ≡ None → IsNone o
none_holds None e = refl
none_holds (Some x) e = cc

module _ (tables : List Shown) (numbered : AreNumbered tables) (f : Symmetry) (p q : Position) (position : IsPosition p) (is : IsImage f p q) (shares : shares_value f p.placed_men ≡ true) where
  abbrev here : Board
  here = board_of p.placed_men p.mover

  abbrev there : Board
  there = board_of q.placed_men q.mover

  no_fault : (r : Position) → IsPosition r → 3 ≤ length r.placed_men → placement_fault r.placed_men ≡ None
  no_fault r sound three = placed r (faultless r sound.no_fault) three

  placement : (r : Position) → IsPosition r → 3 ≤ length r.placed_men → IsPlacement r.placed_men
  placement r sound three = record { no_fault = none_holds (placement_fault r.placed_men) (no_fault r sound three); on_board = sound.squares.men }

  size : length q.placed_men ≡ length p.placed_men
  size = same_size f p q position is

  one_spot : (kind : Kind) (t : Shown) → IsIn t tables → is_for kind (material_of p.placed_men) t ≡ true → IsOneSpot t.contents here there
  one_spot kind t i for_men =
      let layout = numbered t i in
      let three = three_men kind p.placed_men t layout for_men in
      let r = law_image_spot (numbering_of t.contents) here there (exchanges f) (flips_files f) (flips_ranks f) layout (placement p position three) (placement q is.position (omega (arith, three, size))) (image_of f p q is shares)
      (keeps_of f p.placed_men t.contents.material shares (pawns_none kind p.placed_men t layout for_men) (pawns_lone kind p.placed_men t layout for_men)) in
      record { fault = r.0; spot = r.1 }

  -- what the table for the men gives
  pub same_by_table : {B : Type 0} (kind : Kind) (g : Board → Shown → Option B) → ((t : Shown) → IsIn t tables → IsOneSpot t.contents here there → g there t ≡ g here t) →
      option_and_then (g there) (table_for kind there tables) ≡ option_and_then (g here) (table_for kind here tables)
  same_by_table {B} kind g same = elim (cases_Bool (nat_le 3 (length p.placed_men))) [
    | inl t ↦
        let three = leb-true 3 (length p.placed_men) t in
        let material : material_of q.placed_men ≡ material_of p.placed_men =
        material_same (exchanges f) (flips_files f) (flips_ranks f) here there (all_in p.placed_men position.squares.men) (no_fault p position three) (no_fault q is.position (omega (arith, three, size))) (image_of f p q is shares) in
        ap (λ (m : Sides). option_and_then (g there) (find (is_for kind m) tables)) material
        ∙ same_found (is_for kind (material_of p.placed_men)) (g there) (g here) tables (λ x i e. same x i (one_spot kind x i e))
    | inr e ↦
        let few : (men : List PlacedMan) → length men ≡ length p.placed_men → find (is_for kind (material_of men)) tables ≡ None = λ men l.
        none_found (is_for kind (material_of men)) tables (λ x i h. clash (nat_le 3 (length p.placed_men)) (subst (λ (n : ℕ). nat_le 3 n ≡ true) l (le-leb 3 (length men) (three_men kind men x (numbered x i) h))) e) in
        ap (option_and_then (g there)) (few q.placed_men size) ∙ sym (ap (option_and_then (g here)) (few p.placed_men refl))
  ] where
    clash : (b : Bool) → b ≡ true → b ≡ false → ⊥
    clash true e f = cc
    clash false e f = cc

pub symmetric_classes : (tables : List Shown) → AreNumbered tables → AreSymmetric (stored_classes tables)
symmetric_classes tables numbered f p q position is shares =
    same_by_table tables numbered f p q position is shares Wdl (λ board t. class_in board t.contents) (λ t i one. same_class t.contents (board_of p.placed_men p.mover) (board_of q.placed_men q.mover) one)

pub symmetric_numbers : (tables : List Shown) → AreNumbered tables → HaveSymmetricNumbers (stored_numbers tables)
symmetric_numbers tables numbered f p q k position is shares =
    same_by_table tables numbered f p q position is shares Dtz (λ board t. number_in board k t.contents) (λ t i one. same_number t.contents (board_of p.placed_men p.mover) (board_of q.placed_men q.mover) one k)
