-- The men of an index, as the code finds them.
use Rattle.std.proofs.Common.{◌≡◌, ℕ, zero, suc, ◌<◌, ◌≤◌, List, [], ◌∷◌, ◌++◌, length, get_or, refl, sym, ap, ◌∙◌, subst, Bool, true, false, cond, arith, length-append}
use Rattle.std.specs.Prelude.{◌==◌, Option, Some, None, Result, Ok, IsNone, IsSome, IfSome, IsSomeAnd}
use Rattle.std.specs.List.{concat}
use Rattle.std.proofs.Math.Bool.{◌&&◌}
use Rattle.szg_values.specs.Material.{Sides, IsMaterial, is_symmetric, has_pawns}
use Rattle.szg_values.specs.Placement.{PlacedMan, Board, placement_fault}
use Rattle.szg_values.specs.declared.Kind.{Kind}
use Rattle.szg_values.specs.declared.Color.{Color}
use Rattle.szg_values.specs.declared.Color.TheVariants.{White, Black}
use Rattle.szg_values.specs.declared.PlacementFault.{PlacementFault}
use Rattle.szg_count.specs.Groups.{IsPart, Nibbles, order_fault, groups_of, counted, product}
use Rattle.szg_count.specs.Laws.{IsIn}
use Rattle.szg_file.specs.Contents.{Slot}
use Rattle.szg_file.specs.Index.{Index, IsIndex, slot_in}
use Rattle.szg_count.specs.Grouped.{is_regular}
use Rattle.szg_count.proofs.InSlots.{groups_are}
use Rattle.szg_place.specs.Layout.{IsLayout, is_dtz, nibbles_at, stored_side, part_count, side_count}
use Rattle.szg_values.specs.Men.{man_at, color_at}
use Rattle.szg_place.specs.Spots.{men_on_squares, men_by_group, counted_at, size_at, placement_refusal, board_at, mover_at}
use Rattle.szg_place.specs.Laws.{HasSpot}
use Rattle.szg_place.specs.Tables.{numbering_in}
use Rattle.szg_place.specs.declared.PlaceFault.TheVariants as fault
use Rattle.szg_place.proofs.Indexes.Spotted.{order_none}
use Rattle.szg_place.proofs.MenOnSlots.Codes.{concat-groups}
use Rattle.szg_place.proofs.Placements.Stated.{Sized, sized}
use Rattle.szg_place.proofs.Placements.BoardStated.{spot_of_placement}
use Rattle.szg_place.proofs.Indexes.Accepted.{parts_numbering}
use Rattle.szg_place.proofs.Indexes.Found.{slot_size, slot_below}
use Rattle.szg_place.proofs.Placements.Stating.{sets_stated, telling}
use Rattle.szg_place.proofs.Indexes.Indexed.{few_squares}

-- ---- men on squares

pub placed_men-long : (codes squares : List ℕ) → length squares ≡ length codes → length (men_on_squares codes squares) ≡ length codes
placed_men-long [] squares e = refl
placed_men-long (c ∷ cs) [] e = absurd (omega (arith, e))
placed_men-long (c ∷ cs) (s ∷ ss) e = ap suc (placed_men-long cs ss (omega (arith, e)))

pub placed_men-at : (codes squares : List ℕ) (i : ℕ) (d : PlacedMan) → i < length codes → length squares ≡ length codes →
    get_or (men_on_squares codes squares) i d ≡ (man_at (get_or codes i 0), color_at (get_or codes i 0), get_or squares i 0)
placed_men-at [] squares i d h e = absurd (omega (arith, h))
placed_men-at (c ∷ cs) [] i d h e = absurd (omega (arith, e))
placed_men-at (c ∷ cs) (s ∷ ss) zero d h e = refl
placed_men-at (c ∷ cs) (s ∷ ss) (suc i) d h e = placed_men-at cs ss i d (omega (arith, h)) (omega (arith, e))

placed_men-joined : (codes more squares others : List ℕ) → length squares ≡ length codes → men_on_squares (codes ++ more) (squares ++ others) ≡ men_on_squares codes squares ++ men_on_squares more others
placed_men-joined [] more [] others e = refl
placed_men-joined [] more (s ∷ ss) others e = absurd (omega (arith, e))
placed_men-joined (c ∷ cs) more [] others e = absurd (omega (arith, e))
placed_men-joined (c ∷ cs) more (s ∷ ss) others e = ap (λ (l : List PlacedMan). (man_at c, color_at c, s) ∷ l) (placed_men-joined cs more ss others (omega (arith, e)))

placed_men-groups : (groups sets : List (List ℕ)) → Sized groups sets → men_on_squares (concat groups) (concat sets) ≡ men_by_group groups sets
unfolding men_by_group
placed_men-groups [] [] h = refl
placed_men-groups [] (set ∷ sets) h = absurd h
placed_men-groups (group ∷ groups) [] h = absurd h
placed_men-groups (group ∷ groups) (set ∷ sets) h =
    placed_men-joined group (concat groups) set (concat sets) h.0 ∙ ap (λ (l : List PlacedMan). men_on_squares group set ++ l) (placed_men-groups groups sets h.1)

concat-sized : (groups sets : List (List ℕ)) → Sized groups sets → length (concat sets) ≡ length (concat groups)
concat-sized [] [] h = refl
concat-sized [] (set ∷ sets) h = absurd h
concat-sized (group ∷ groups) [] h = absurd h
concat-sized (group ∷ groups) (set ∷ sets) h =
    let a = length-append set (concat sets) in let b = length-append group (concat groups) in
    let r = concat-sized groups sets h.1 in let e = h.0 in omega (arith, a, b, r, e)

-- the men of the groups of an index
abbrev pub men_stated : Sides → ℕ → Nibbles → ℕ → List PlacedMan
men_stated sides part n index = men_by_group (counted sides part n).groups (sets_stated sides part n index)

pub record IsManned (sides : Sides) (part : ℕ) (n : Nibbles) (index : ℕ) : Type 0 where
  pub few : length (concat (sets_stated sides part n index)) ≤ 6
  pub same : length (concat (sets_stated sides part n index)) ≡ length n.men
  pub men : men_on_squares n.men (concat (sets_stated sides part n index)) ≡ men_stated sides part n index

manned : (sides : Sides) (part : ℕ) (n : Nibbles) (index : ℕ) → IsMaterial sides → IsPart sides part → order_fault sides n ≡ None → index < product (counted sides part n).ways →
    IsManned sides part n index
manned sides part n index m p o h =
    let sets = sets_stated sides part n index in let groups = groups_of sides n.men in
    let lists = (telling sides part n index sets m p o h refl).lists in
    let long = sized sides part [] groups sets lists in record {
      few = few_squares sides part n sets m o lists;
      same = concat-sized groups sets long ∙ ap length (concat-groups sides n.men);
      men = ap (λ (l : List ℕ). men_on_squares l (concat sets)) (sym (concat-groups sides n.men)) ∙ placed_men-groups groups sets long
          ∙ ap (λ (g : List (List ℕ)). men_by_group g sets) (sym (groups_are sides part n));
    }

-- ---- a side of a part

-- what is known while the placement of an index is computed
pub record IsAt (t : Index) (part side index : ℕ) (m : Sides) (n : Nibbles) : Type 0 where
  pub layout : IsLayout (numbering_in t)
  pub material : IsMaterial m
  pub same : m ≡ t.material
  pub has_part : part < part_count (numbering_in t)
  pub has_side : side < side_count (numbering_in t)
  pub below : index < size_at (numbering_in t) part side
  pub nibbles : n ≡ nibbles_at (numbering_in t) part side

size_below : (o : Option Slot) (i n : ℕ) → IsSomeAnd o (λ slot. slot.size ≡ n) → IfSome o (λ slot. i < slot.size) → i < n
size_below None i n e h = absurd e
size_below (Some x) i n e h = omega (arith, e, h)

pub at_of : {t : Index} {m : Sides} {n : Nibbles} (part side index : ℕ) → IsIndex t → m ≡ t.material → IsMaterial m → IsSome (slot_in t part side) →
    IfSome (slot_in t part side) (λ slot. index < slot.size) → n ≡ nibbles_at (numbering_in t) part side → IsAt t part side index m n
at_of {t} part side index a e k some below o =
    let r = slot_below t part side a some in record {
      layout = parts_numbering t (subst (λ (x : Sides). IsMaterial x) e k) a.parts_are_valid;
      material = k;
      same = e;
      has_part = r.0;
      has_side = r.1;
      below = size_below (slot_in t part side) index (size_at (numbering_in t) part side) (slot_size t part side a r.0 r.1) below;
      nibbles = o;
    }

pub part_at : {t : Index} {part side index : ℕ} {m : Sides} {n : Nibbles} → IsAt t part side index m n → IsPart m part
part_at {t} {part} a = subst (λ (x : Sides). IsPart x part) (sym a.same) a.has_part

pub ordered_at : {t : Index} {part side index : ℕ} {m : Sides} {n : Nibbles} → IsAt t part side index m n → order_fault m n ≡ None
ordered_at {t} {part} {side} {index} {m} {n} a =
    ap (λ (x : Sides). order_fault x n) a.same ∙ ap (λ (y : Nibbles). order_fault t.material y) a.nibbles ∙ order_none (numbering_in t) part side a.layout a.has_part a.has_side

pub below_at : {t : Index} {part side index : ℕ} {m : Sides} {n : Nibbles} → IsAt t part side index m n → index < product (counted m part n).ways
below_at {t} {part} {side} {index} {m} {n} a =
    let e : product (counted m part n).ways ≡ size_at (numbering_in t) part side =
    ap (λ (x : Sides). product (counted x part n).ways) a.same ∙ ap (λ (y : Nibbles). product (counted t.material part y).ways) a.nibbles in
    subst (λ (k : ℕ). index < k) (sym e) a.below

men_at : {t : Index} {part side index : ℕ} {m : Sides} {n : Nibbles} → IsAt t part side index m n → men_stated m part n index ≡ (board_at (numbering_in t) part side index).placed_men
unfolding board_at
men_at {t} {part} {side} {index} {m} {n} a = ap (λ (x : Sides). men_stated x part n index) a.same ∙ ap (λ (y : Nibbles). men_stated t.material part y index) a.nibbles

answered_at : {t : Index} {part side index : ℕ} {m : Sides} {n : Nibbles} → IsAt t part side index m n → placement_refusal (numbering_in t) part side ≡ None →
    HasSpot (numbering_in t) (board_at (numbering_in t) part side index)
answered_at {t} {part} {side} {index} a none =
    (spot_of_placement (numbering_in t) part side index a.layout (record { has_part = a.has_part; has_side = a.has_side; below = a.below; allowed = none })).0

pub inside_at : {t : Index} {part side index : ℕ} {m : Sides} {n : Nibbles} → IsAt t part side index m n → placement_refusal (numbering_in t) part side ≡ None →
    (s : PlacedMan) → IsIn s (men_stated m part n index) → s.2 < 64
inside_at a none s i =
    (answered_at a none).inside s (subst (λ (l : List PlacedMan). IsIn s l) (men_at a) i)

pub placed_at : {t : Index} {part side index : ℕ} {m : Sides} {n : Nibbles} {slice items : List PlacedMan} → IsAt t part side index m n → placement_refusal (numbering_in t) part side ≡ None →
    slice ≡ items → items ≡ men_stated m part n index → placement_fault slice ≡ None
placed_at a none e f =
    ap placement_fault (e ∙ f ∙ men_at a) ∙ (answered_at a none).placement

pub manned_at : {t : Index} {part side index : ℕ} {m : Sides} {n : Nibbles} → IsAt t part side index m n → IsManned m part n index
manned_at {t} {part} {side} {index} {m} {n} a = manned m part n index a.material (part_at a) (ordered_at a) (below_at a)

-- men with these codes on the squares of the index
pub men_placed : {t : Index} {part side index : ℕ} {m : Sides} {n : Nibbles} {codes squares : List ℕ} → IsAt t part side index m n → codes ≡ n.men → squares ≡ concat (sets_stated m part n index) →
    men_on_squares codes squares ≡ men_stated m part n index
men_placed {m = m} {n} {codes} {squares} a e f =
    ap (λ (l : List ℕ). men_on_squares l squares) e ∙ ap (λ (l : List ℕ). men_on_squares n.men l) f ∙ (manned_at a).men

pub board_same : {t : Index} {part side index : ℕ} {m : Sides} {n : Nibbles} {slice items : List PlacedMan} {mover : Color} → IsAt t part side index m n →
    slice ≡ items → items ≡ men_stated m part n index → mover ≡ mover_at (numbering_in t) part side →
    (let board : Board = record { placed_men = slice; mover = mover } in board) ≡ board_at (numbering_in t) part side index
unfolding board_at
board_same {t} {part} {side} {index} {m} {n} {slice} {items} {mover} a e f v =
    let make : List PlacedMan → Color → Board = λ s x. record { placed_men = s; mover = x } in
    ap (λ (s : List PlacedMan). make s mover) (e ∙ f ∙ men_at a) ∙ ap (λ (x : Color). make (board_at (numbering_in t) part side index).placed_men x) v

-- ---- the refusals

regular_at : {t : Index} {part side index : ℕ} {m : Sides} {n : Nibbles} {regular b : Bool} → IsAt t part side index m n → regular ≡ is_regular m (groups_of m n.men) → regular ≡ b →
    is_regular t.material (counted_at (numbering_in t) part side).groups ≡ b
regular_at {t} {part} {side} {index} {m} {n} a r e =
    let test : Sides → Nibbles → Bool = λ x y. is_regular x (groups_of x y.men) in
    ap (is_regular t.material) (groups_are t.material part (nibbles_at (numbering_in t) part side))
    ∙ sym (ap (λ (x : Sides). test x n) a.same ∙ ap (λ (y : Nibbles). test t.material y) a.nibbles) ∙ sym r ∙ e

pub refused_irregular : {t : Index} {part side index : ℕ} {m : Sides} {n : Nibbles} {regular : Bool} → IsAt t part side index m n → regular ≡ is_regular m (groups_of m n.men) → regular ≡ false →
    placement_refusal (numbering_in t) part side ≡ Some fault.Irregular
unfolding placement_refusal
refused_irregular a r e = let k = regular_at a r e in rw k refl

-- a DTZ subtable stores Black although both sides have the same men and there are pawns
abbrev pub has_no_placements : Index → ℕ → Bool
has_no_placements t part = is_dtz t.kind && is_symmetric t.material && has_pawns t.material && stored_side (numbering_in t) part == 1

unstated_is : (t : Index) (m : Sides) (part : ℕ) (kind : Kind) (stored : ℕ) (unstated : Bool) → unstated ≡ (is_dtz kind && is_symmetric m && has_pawns m && stored == 1) → kind ≡ t.kind → m ≡ t.material →
    stored ≡ stored_side (numbering_in t) part → unstated ≡ has_no_placements t part
unstated_is t m part kind stored unstated e a b d =
    e ∙ ap (λ (k : Kind). is_dtz k && is_symmetric m && has_pawns m && stored == 1) a
    ∙ ap (λ (s : Sides). is_dtz t.kind && is_symmetric s && has_pawns s && stored == 1) b
    ∙ ap (λ (k : ℕ). is_dtz t.kind && is_symmetric t.material && has_pawns t.material && k == 1) d

abbrev pub mover_by : Bool → Bool → ℕ → ℕ → Color
mover_by symmetric dtz stored side = cond symmetric White (cond (cond dtz stored side == 0) White Black)

pub mover_is : (t : Index) (m : Sides) (part side : ℕ) (kind : Kind) (stored : ℕ) (mover : Color) → mover ≡ mover_by (is_symmetric m) (is_dtz kind) stored side → kind ≡ t.kind → m ≡ t.material →
    stored ≡ stored_side (numbering_in t) part → mover ≡ mover_at (numbering_in t) part side
mover_is t m part side kind stored mover e a b d =
    e ∙ ap (λ (k : Kind). mover_by (is_symmetric m) (is_dtz k) stored side) a
    ∙ ap (λ (s : Sides). mover_by (is_symmetric s) (is_dtz t.kind) stored side) b
    ∙ ap (λ (k : ℕ). mover_by (is_symmetric t.material) (is_dtz t.kind) k side) d

pub refused_unstated : {t : Index} {part side index : ℕ} {m : Sides} {n : Nibbles} {kind : Kind} {stored : ℕ} {regular unstated : Bool} → IsAt t part side index m n → regular ≡ is_regular m (groups_of m n.men) → regular ≡ true →
    unstated ≡ (is_dtz kind && is_symmetric m && has_pawns m && stored == 1) → kind ≡ t.kind → stored ≡ stored_side (numbering_in t) part → unstated ≡ true → placement_refusal (numbering_in t) part side ≡ Some fault.WrongSide
unfolding placement_refusal
refused_unstated {t} {part} {m = m} {kind} {stored} {unstated = unstated} a r e u v w f =
    let k = regular_at a r e in let j : has_no_placements t part ≡ true = sym (unstated_is t m part kind stored unstated u v a.same w) ∙ f in rw (k, j) refl

pub refused_none : {t : Index} {part side index : ℕ} {m : Sides} {n : Nibbles} {kind : Kind} {stored : ℕ} {regular unstated : Bool} → IsAt t part side index m n → regular ≡ is_regular m (groups_of m n.men) → regular ≡ true →
    unstated ≡ (is_dtz kind && is_symmetric m && has_pawns m && stored == 1) → kind ≡ t.kind → stored ≡ stored_side (numbering_in t) part → unstated ≡ false → placement_refusal (numbering_in t) part side ≡ None
unfolding placement_refusal
refused_none {t} {part} {m = m} {kind} {stored} {unstated = unstated} a r e u v w f =
    let k = regular_at a r e in let j : has_no_placements t part ≡ false = sym (unstated_is t m part kind stored unstated u v a.same w) ∙ f in rw (k, j) refl

pub none_holds : {A : Type 0} (o : Option A) → o ≡ None → IsNone o
none_holds None e = refl
none_holds (Some x) e = cc

-- two placements of one result are equal
pub stated_same : (r : Result Board PlacementFault) (x y : Board) → r ≡ Ok x → r ≡ Ok y → x ≡ y
stated_same r x y e f = let k : ◌≡◌ {A = Result Board PlacementFault} (Ok x) (Ok y) = sym e ∙ f in cc
