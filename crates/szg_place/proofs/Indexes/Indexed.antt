-- What is known about a placement while its index is computed.
use Rattle.std.proofs.Common.{◌≡◌, ℕ, ◌<◌, ◌≤◌, inl, inr, List, [], ◌∷◌, length, take, refl, sym, ap, ◌∙◌, subst, Bool, true, false, cond, arith, length-take}
use Rattle.std.specs.Prelude.{◌==◌, Option, Some, None, IsNone, IsSome, IfSome, IfOk, IsSomeAnd, Result, Ok, Err, slice_get, slice_index, unwrap_or}
use Rattle.std.specs.List.{All, concat, list_all}
use Rattle.std.proofs.lemmas.List.Elements.{All-head, All-tail}
use Rattle.std.proofs.Math.Bool.{not, ◌&&◌}
use Rattle.std.proofs.lemmas.Bool.{eq-eqb, and_from}
use Rattle.szg_values.specs.Men.{is_color}
use Rattle.szg_values.specs.Material.{Sides, IsMaterial, is_symmetric, has_pawns, man_codes, count_of}
use Rattle.szg_values.specs.Placement.{PlacedMan, Board, AreOnBoard, placement_fault}
use Rattle.szg_values.specs.declared.Color.{Color}
use Rattle.szg_values.specs.declared.Color.TheVariants.{White}
use Rattle.szg_count.specs.Leads.{is_touching}
use Rattle.szg_count.specs.Groups.{Nibbles, order_fault, groups_of, lead_length, is_rearrangement, counted}
use Rattle.szg_count.specs.Laws.{IsIn}
use Rattle.szg_count.specs.Radix.{index_with}
use Rattle.szg_count.proofs.Pawns.{peopled, lead_length-fits}
use Rattle.szg_values.specs.declared.Kind.{Kind}
use Rattle.szg_file.specs.Contents.{Contents, Part, Slot, side_numbers}
use Rattle.szg_file.specs.Accepted.{IsAccepted}
use Rattle.szg_file.specs.Index.{Index, IsIndex, index_of, slot_in, nibbles_in_part}
use Rattle.szg_file.specs.Values.{subtable_at}
use Rattle.szg_file.proofs.Tables.IndexLaws.{slot_of_table}
use Rattle.szg_count.specs.Grouped.{is_regular, AreGroupsOf}
use Rattle.szg_count.proofs.InSlots.{some_group}
use Rattle.szg_count.specs.Views.{nibbles_in}
use Rattle.szg_count.specs.declared.side_groups.SideGroups.{SideGroups}
use Rattle.szg_values.specs.declared.Kind.TheVariants.{Wdl, Dtz}
use Rattle.szg_place.specs.declared.spots.Query.{Query}
use Rattle.szg_place.specs.Layout.{Layout, IsLayout, layout_in, is_dtz, nibbles_at, part_count, side_count}
use Rattle.szg_place.specs.Normal.{CodedMan, pieces_of, part_of, subtable_side, moving_side, is_exchanged, exchanged_color, chosen_groups, normal_of, normal_pieces, lead_squares, squares_by_group}
use Rattle.szg_place.specs.Slots.{AreReady}
use Rattle.szg_place.specs.Spots.{place_fault, is_of_material, is_kings_touching, is_wrong_side, spot_of, index_from, ranks_in_lists, size_at}
use Rattle.szg_place.specs.Ranks.{EachInList}
use Rattle.szg_place.specs.Laws.{IsOnBoard, HasSpot}
use Rattle.szg_place.specs.Known.{IsKnown, IsQuery, IsFound, IsLocated, IsLocatedIn, IsQueryOf}
use Rattle.szg_place.specs.Tables.{numbering_in}
use Rattle.szg_place.specs.declared.Spot.{Spot}
use Rattle.szg_place.specs.declared.PlaceFault.{PlaceFault}
use Rattle.szg_place.specs.declared.PlaceFault.TheVariants as fault
use Rattle.szg_place.proofs.Indexes.Spotted.{none_is, ordered, order_none, part_below, side_below}
use Rattle.szg_place.proofs.MenOnSlots.Pieces.{IsStood}
use Rattle.szg_place.proofs.MenOnSlots.Codes.{rearranged_length, concat-groups}
use Rattle.szg_place.proofs.MenOnSlots.Standing.{pieces_stood}
use Rattle.szg_place.proofs.Symmetries.Normals.{fit, lead_only, in_lists, below_size}
use Rattle.szg_place.proofs.Indexes.Indexing.{sets_long, sets_many}
use Rattle.szg_place.proofs.Indexes.Grouped.{takes_all}
use Rattle.szg_place.proofs.Indexes.Found.{slot_size, slot_below, some_first}
use Rattle.szg_place.proofs.Indexes.Accepted.{parts_numbering}

-- ---- the men

all_true : (test : ℕ → Bool) (xs : List ℕ) → ((x : ℕ) → test x ≡ true) → list_all test xs ≡ true
all_true test [] h = refl
all_true test (x ∷ xs) h = and_from (test x) (list_all test xs) (h x) (all_true test xs h)

own_men : (codes : List ℕ) → is_rearrangement codes codes ≡ true
own_men codes = and_from (length codes == length codes) (list_all (λ code. count_of code codes == count_of code codes) codes) (eq-eqb (length codes) (length codes) refl)
    (all_true (λ code. count_of code codes == count_of code codes) codes (λ code. eq-eqb (count_of code codes) (count_of code codes) refl))

pub stood_first : (sides : Sides) (board : Board) → IsKnown sides board → IsStood sides (man_codes sides) (pieces_of sides board)
stood_first sides board k = pieces_stood sides (man_codes sides) board k.material k.inside k.placement k.men (own_men (man_codes sides))

pub ready_of : (sides : Sides) (n : Nibbles) (board : Board) → IsKnown sides board → order_fault sides n ≡ None → is_regular sides (groups_of sides n.men) ≡ true →
    length (pieces_of sides board) ≤ 6 → AreReady sides (take (lead_length sides) n.men) (pieces_of sides board)
ready_of sides n board k o reg few =
    let m = k.material in
    let ok = ordered sides n o in
    let fits = fit sides n.men m ok.pieces ok.pawns reg in
    let stood = pieces_stood sides n.men board m k.inside k.placement k.men ok.pieces in
    let size = fits.lead_size in let lead = lead_length-fits sides m in let p = (peopled sides m).few in record {
      few = few;
      few_codes = omega (arith, size, lead, p);
      some = omega (arith, size, lead);
      differ = stood.differ;
      inside = stood.inside;
      pawns = stood.pawns;
      single = λ e c i. stood.counts c ∙ fits.single e c i;
      led = λ e c. lead_only sides n.men m e ok.pawns fits c;
    }

-- the lead group has as its length the material's number of lead men
pub lead_size : (sides : Sides) (n : Nibbles) → IsMaterial sides → order_fault sides n ≡ None → length (take (lead_length sides) n.men) ≡ lead_length sides
lead_size sides n m o =
    let ok = ordered sides n o in let lead = lead_length-fits sides m in
    let len = rearranged_length n.men (man_codes sides) ok.pieces in
    let t = length-take (lead_length sides) n.men in omega (arith, lead, len, t)

-- all groups together have at most six squares
pub few_squares : (sides : Sides) (part : ℕ) (n : Nibbles) (sets : List (List ℕ)) → IsMaterial sides → order_fault sides n ≡ None → EachInList sides part [] (groups_of sides n.men) sets → length (concat sets) ≤ 6
few_squares sides part n sets m o h =
    let groups = groups_of sides n.men in let ok = ordered sides n o in
    let many = sets_many sides part [] groups sets h in
    let long = sets_long sides part [] groups sets (length sets) h in
    let a = ap (λ (l : List (List ℕ)). length (concat l)) (takes_all sets (length sets) (omega arith)) in
    let b = ap (λ (l : List (List ℕ)). length (concat l)) (takes_all groups (length sets) (omega (arith, many))) in
    let c = ap length (concat-groups sides n.men) in
    let len = rearranged_length n.men (man_codes sides) ok.pieces in let p = (peopled sides m).few in
    omega (arith, long, a, b, c, len, p)

-- ---- the refusals

pub fault_material : (l : Layout) (board : Board) → is_of_material l.material board ≡ false → place_fault l board ≡ Some fault.OtherMaterial
unfolding place_fault
fault_material l board e = rw e refl

pub fault_irregular : (l : Layout) (board : Board) → is_of_material l.material board ≡ true → is_regular l.material (chosen_groups l board) ≡ false → place_fault l board ≡ Some fault.Irregular
unfolding place_fault
fault_irregular l board e f = rw (e, f) refl

pub fault_touch : (l : Layout) (board : Board) → is_of_material l.material board ≡ true → is_regular l.material (chosen_groups l board) ≡ true →
    is_kings_touching l.material (normal_of l board).squares ≡ true → place_fault l board ≡ Some fault.KingsTouch
unfolding place_fault
fault_touch l board e f g = rw (e, f, g) refl

pub fault_side : (l : Layout) (board : Board) → is_of_material l.material board ≡ true → is_regular l.material (chosen_groups l board) ≡ true →
    is_kings_touching l.material (normal_of l board).squares ≡ false → is_wrong_side l (normal_of l board).part (moving_side l.material board) ≡ true → place_fault l board ≡ Some fault.WrongSide
unfolding place_fault
fault_side l board e f g h = rw (e, f, g, h) refl

pub fault_none : (l : Layout) (board : Board) → is_of_material l.material board ≡ true → is_regular l.material (chosen_groups l board) ≡ true →
    is_kings_touching l.material (normal_of l board).squares ≡ false → is_wrong_side l (normal_of l board).part (moving_side l.material board) ≡ false → place_fault l board ≡ None
unfolding place_fault
fault_none l board e f g h = rw (e, f, g, h) refl

-- what the contract says of a fault
pub refused_is : (A : Type 0) (o : Option PlaceFault) (f : PlaceFault) → o ≡ Some f → IfSome o (λ x. ◌≡◌ {A = Result A PlaceFault} (Err f) (Err x))
refused_is A None f e = cc
refused_is A (Some x) f e = let k : f ≡ x = cc in ap (λ y. Err y) k

pub refused_not : {X : Type 0} (o : Option PlaceFault) (f : PlaceFault) → o ≡ Some f → IsNone o → X
refused_not None f e h = cc
refused_not (Some x) f e h = cc

pub answered_is : (P : PlaceFault → Type 0) (o : Option PlaceFault) → o ≡ None → IfSome o P
answered_is P None e = tt
answered_is P (Some x) e = cc

pub located_not : {l : Layout} {board : Board} {f : PlaceFault} → place_fault l board ≡ Some f → IsLocated l board (Err f)
located_not {l} {board} {f} e = record { refused = refused_is Spot (place_fault l board) f e; spot = refused_not (place_fault l board) f e; answered = tt }

pub located_other : {l : Layout} {board b : Board} {f : PlaceFault} → b ≡ board → (f ≡ fault.OtherMaterial) × (is_of_material l.material b ≡ false) → IsLocated l board (Err f)
located_other {l} {board} {b} {f} e h =
    subst (λ (x : PlaceFault). IsLocated l board (Err x)) (sym h.0) (located_not (fault_material l board (ap (is_of_material l.material) (sym e) ∙ h.1)))

-- what the contract says of a spot
pub located_at : {l : Layout} {board : Board} {spot : Spot} → HasSpot l board → spot ≡ spot_of l board → IsLocated l board (Ok spot)
located_at {l} {board} {spot} a e = record {
  refused = answered_is _ (place_fault l board) a.place;
  spot = λ _. ap (λ (s : Spot). Ok s) e;
  answered = a;
}

-- ---- the normal form

-- the lead group of the placement's subtable
pub lead_chosen : (l : Layout) (board : Board) → unwrap_or (slice_get (chosen_groups l board) 0) [] ≡
    take (lead_length l.material) (nibbles_at l (part_of l.material (pieces_of l.material board)) (subtable_side l board)).men
unfolding chosen_groups groups_of
lead_chosen l board = refl

pub squares_normal : (l : Layout) (board : Board) → (normal_of l board).squares ≡
    squares_by_group l.material (chosen_groups l board) (normal_pieces l.material (unwrap_or (slice_get (chosen_groups l board) 0) []) (pieces_of l.material board))
unfolding normal_of
squares_normal l board = refl

pub groups_chosen : (l : Layout) (board : Board) → chosen_groups l board ≡ groups_of l.material (nibbles_at l (part_of l.material (pieces_of l.material board)) (subtable_side l board)).men
unfolding chosen_groups
groups_chosen l board = refl

pub part_normal : (l : Layout) (board : Board) → (normal_of l board).part ≡ part_of l.material (pieces_of l.material board)
unfolding normal_of
part_normal l board = refl

first_squares : (sides : Sides) (groups : List (List ℕ)) (pieces : List CodedMan) → 0 < length groups →
    unwrap_or (slice_get (squares_by_group sides groups pieces) 0) [] ≡ lead_squares sides (unwrap_or (slice_get groups 0) []) pieces
unfolding squares_by_group
first_squares sides [] pieces h = absurd (omega (arith, h))
first_squares sides (lead ∷ groups) pieces h = refl

-- what the code tests of the kings
pub touching_is : (l : Layout) (board : Board) (lead squares : List ℕ) (pieces : List CodedMan) → lead ≡ unwrap_or (slice_get (chosen_groups l board) 0) [] →
    pieces ≡ normal_pieces l.material lead (pieces_of l.material board) → squares ≡ lead_squares l.material lead pieces → 0 < length (chosen_groups l board) →
    (not (has_pawns l.material) && lead_length l.material == 2 && is_touching (slice_index squares 0) (slice_index squares 1)) ≡ is_kings_touching l.material (normal_of l board).squares
touching_is l board lead squares pieces e f g h =
    let sides = l.material in
    let test : List ℕ → Bool = λ ss. not (has_pawns sides) && lead_length sides == 2 && is_touching (slice_index ss 0) (slice_index ss 1) in
    let raw = pieces_of sides board in
    ap test (g ∙ ap (lead_squares sides lead) f ∙ ap (λ (x : List ℕ). lead_squares sides x (normal_pieces sides x raw)) e
    ∙ sym (first_squares sides (chosen_groups l board) (normal_pieces sides (unwrap_or (slice_get (chosen_groups l board) 0) []) raw) h)
    ∙ sym (ap (λ (x : List (List ℕ)). unwrap_or (slice_get x 0) []) (squares_normal l board)))

-- the spot
pub spot_is : (l : Layout) (board : Board) (part side index : ℕ) → part ≡ part_of l.material (pieces_of l.material board) → side ≡ subtable_side l board →
    index ≡ index_with (ranks_in_lists l.material part [] (normal_of l board).squares) (counted l.material part (nibbles_at l part side)).factors →
    (let spot : Spot = record { part = part; side = side; index = index } in spot) ≡ spot_of l board
unfolding spot_of index_from normal_of
spot_is l board part side index e f g =
    let make : ℕ → ℕ → ℕ → Spot = λ p s i. record { part = p; side = s; index = i } in
    let squares = (normal_of l board).squares in
    ap (make part side) g
    ∙ ap (λ (p : ℕ). make p side (index_with (ranks_in_lists l.material p [] squares) (counted l.material p (nibbles_at l p side)).factors)) e
    ∙ ap (λ (s : ℕ). let p = part_of l.material (pieces_of l.material board) in make p s (index_with (ranks_in_lists l.material p [] squares) (counted l.material p (nibbles_at l p s)).factors)) f

-- a placement that has an index has a slot at its spot
pub spot_below : (x : Index) (board : Board) → IsLayout (numbering_in x) → IsIndex x → HasSpot (numbering_in x) board →
    (spot : Spot) → spot ≡ spot_of (numbering_in x) board → IsSomeAnd (slot_in x spot.part spot.side) (λ slot. spot.index < slot.size)
unfolding spot_of normal_of
spot_below x board h a answered spot e =
    let l = numbering_in x in
    let there = slot_size x (spot_of l board).part (spot_of l board).side a (part_below l.material (pieces_of l.material board)) (side_below l board) in
    let below = below_size l board h answered in
    subst (λ (s : Spot). IsSomeAnd (slot_in x s.part s.side) (λ slot. s.index < slot.size)) (sym e)
    (with_size (slot_in x (spot_of l board).part (spot_of l board).side) (spot_of l board).index (size_at l (spot_of l board).part (spot_of l board).side) there below)
  where
    with_size : (o : Option Slot) (i n : ℕ) → IsSomeAnd o (λ slot. slot.size ≡ n) → i < n → IsSomeAnd o (λ slot. i < slot.size)
    with_size None i n e h = absurd e
    with_size (Some x) i n e h = omega (arith, e, h)

-- ---- what the code has found

pub layout_same : (x : Index) (kind : Kind) (m : Sides) (parts : List Part) (flags : List ℕ) → kind ≡ x.kind → m ≡ x.material → parts ≡ x.parts → flags ≡ x.flags →
    numbering_in x ≡ layout_in kind m parts flags
layout_same x kind m parts flags a b c d =
    ap (λ (k : Kind). layout_in k x.material x.parts x.flags) (sym a)
    ∙ ap (λ (s : Sides). layout_in kind s x.parts x.flags) (sym b)
    ∙ ap (λ (p : List Part). layout_in kind m p x.flags) (sym c) ∙ ap (layout_in kind m parts) (sym d)

pub located_in : {x : Index} {board : Board} {result : Result Spot PlaceFault} → IsLayout (numbering_in x) → IsIndex x → IsLocated (numbering_in x) board result → IsLocatedIn x board result
located_in {x} {board} {result} h a stated = record {
  refused = stated.refused;
  spot = stated.spot;
  below = below result stated.spot stated.answered;
}
  where
    none_holds : (o : Option PlaceFault) → o ≡ None → IsNone o
    none_holds None e = refl
    none_holds (Some y) e = cc

    below : (r : Result Spot PlaceFault) → (IsNone (place_fault (numbering_in x) board) → r ≡ Ok (spot_of (numbering_in x) board)) → IfOk r (λ _. HasSpot (numbering_in x) board) →
        IfOk r (λ spot. IsSomeAnd (slot_in x spot.part spot.side) (λ slot. spot.index < slot.size))
    below (Err fault) stated answered = tt
    below (Ok spot) stated answered =
        let k : ◌≡◌ {A = Result Spot PlaceFault} (Ok spot) (Ok (spot_of (numbering_in x) board)) = stated (none_holds (place_fault (numbering_in x) board) answered.place) in
        spot_below x board h a answered spot (cc k)

pub located_by : {x : Index} {kind : Kind} {m : Sides} {parts : List Part} {flags : List ℕ} {board : Board} {result : Result Spot PlaceFault} → IsIndex x → kind ≡ x.kind → m ≡ x.material →
    IsMaterial m → parts ≡ x.parts → flags ≡ x.flags → IsLocated (layout_in kind m parts flags) board result → IsLocatedIn x board result
located_by {x} {kind} {m} {parts} {flags} {board} {result} a k e h p f stated =
    located_in (parts_numbering x (subst (λ (y : Sides). IsMaterial y) e h) a.parts_are_valid) a
    (subst (λ (l : Layout). IsLocated l board result) (sym (layout_same x kind m parts flags k e p f)) stated)

-- if a TableIndex has a slot at a spot, its table has a subtable there
pub below_table : (t : Contents) (fill : List ℕ) (x : Index) (result : Result Spot PlaceFault) → IsAccepted t fill → x ≡ index_of t →
    IfOk result (λ spot. IsSomeAnd (slot_in x spot.part spot.side) (λ slot. spot.index < slot.size)) →
    IfOk result (λ spot. IsSomeAnd (subtable_at t spot.part spot.side) (λ found. spot.index < found.0.size))
below_table t fill x (Err fault) a e h = tt
below_table t fill x (Ok spot) a e h =
    let at = subst (λ (y : Index). IsSomeAnd (slot_in y spot.part spot.side) (λ slot. spot.index < slot.size)) e h in
    some_first (λ slot. spot.index < slot.size) (subtable_at t spot.part spot.side)
    (subst (λ (o : Option Slot). IsSomeAnd o (λ slot. spot.index < slot.size)) (sym (slot_of_table t fill spot.part spot.side a)) at)

all_in : (xs : List PlacedMan) → All (λ (s : PlacedMan). s.2 < 64) xs → (s : PlacedMan) → IsIn s xs → s.2 < 64
all_in [] h s i = absurd i
all_in (x ∷ xs) h s (inl e) = subst (λ (y : PlacedMan). y.2 < 64) (sym e) (All-head (λ (y : PlacedMan). y.2 < 64) x xs h)
all_in (x ∷ xs) h s (inr i) = all_in xs (All-tail (λ (y : PlacedMan). y.2 < 64) x xs h) s i

board_inside : (list : List PlacedMan) (board : Board) → list ≡ board.placed_men → AreOnBoard list → IsOnBoard board
board_inside list board e h = all_in board.placed_men (subst (λ (l : List PlacedMan). AreOnBoard l) e h)

pub known_by : {m : Sides} {board : Board} {list : List PlacedMan} → IsMaterial m → list ≡ board.placed_men → AreOnBoard list → IsNone (placement_fault list) → is_of_material m board ≡ true → IsKnown m board
known_by {m} {board} {list} mat e inside h found = record {
  material = mat;
  inside = board_inside list board e inside;
  placement = none_is (placement_fault board.placed_men) (subst (λ (s : List PlacedMan). IsNone (placement_fault s)) e h);
  men = found;
}

pub requested_by : {m : Sides} {kind : Kind} {board : Board} {slice items : List CodedMan} {part side queried : ℕ} {exchanged : Bool} {mover : Color} → IsKnown m board → slice ≡ items → items ≡ pieces_of m board → length items ≤ 6 →
    exchanged ≡ is_exchanged m board → mover ≡ board.mover → queried ≡ cond (is_color White (exchanged_color exchanged mover)) 0 1 → part ≡ part_of m slice → side ≡ cond (is_dtz kind) 0 queried → IsQuery m kind board items part side queried
requested_by {m} {kind} {board} {slice} {items} {part} {side} {queried} {exchanged} {mover} k s i few x v a p z = record {
  known = k;
  pieces_are = i;
  few = few;
  part_is = p ∙ ap (part_of m) (s ∙ i);
  side_is = z;
  query_is = a ∙ ap (λ (y : Bool). number (is_color White (exchanged_color y mover))) x ∙ ap (λ (y : Color). number (is_color White (exchanged_color (is_exchanged m board) y))) v;
}
  where
    number : Bool → ℕ
    number b = cond b 0 1

pub found_requested : {l : Layout} {board : Board} {pieces : List CodedMan} {part side queried : ℕ} {n : Nibbles} → IsLayout l → IsQuery l.material l.kind board pieces part side queried →
    n ≡ nibbles_at l part side → IsFound l board part side queried n
found_requested {l} {board} {pieces} {part} {side} h a o =
    let side' : side ≡ subtable_side l board = a.side_is ∙ ap (zero_if (is_dtz l.kind)) a.query_is in record {
      layout = h;
      known = a.known;
      part_is = a.part_is;
      side_is = side';
      query_is = a.query_is;
      nibbles = o ∙ ap (λ (y : ℕ). nibbles_at l y side) a.part_is ∙ ap (nibbles_at l (part_of l.material (pieces_of l.material board))) side';
      at = o;
    }
  where
    zero_if : Bool → ℕ → ℕ
    zero_if b n = cond b 0 n

pub few_men : (sides : Sides) (n : Nibbles) → IsMaterial sides → order_fault sides n ≡ None → length n.men ≤ 6
few_men sides n m o =
    let ok = ordered sides n o in let len = rearranged_length n.men (man_codes sides) ok.pieces in let p = (peopled sides m).few in omega (arith, len, p)

pub ordered_found : {l : Layout} {board : Board} {part side queried : ℕ} {n : Nibbles} → IsFound l board part side queried n → order_fault l.material n ≡ None
ordered_found {l} {board} f =
    ap (order_fault l.material) f.nibbles
    ∙ order_none l (part_of l.material (pieces_of l.material board)) (subtable_side l board) f.layout (part_below l.material (pieces_of l.material board)) (side_below l board)

pub groups_found : {l : Layout} {board : Board} {part side queried : ℕ} {n : Nibbles} → IsFound l board part side queried n → groups_of l.material n.men ≡ chosen_groups l board
groups_found {l} {board} f = ap (λ (x : Nibbles). groups_of l.material x.men) f.nibbles ∙ sym (groups_chosen l board)

lead_found : {l : Layout} {board : Board} {part side queried : ℕ} {n : Nibbles} → IsFound l board part side queried n → take (lead_length l.material) n.men ≡ unwrap_or (slice_get (chosen_groups l board) 0) []
lead_found {l} {board} f = ap (λ (x : Nibbles). take (lead_length l.material) x.men) f.nibbles ∙ sym (lead_chosen l board)

pub regular_found : {l : Layout} {board : Board} {part side queried : ℕ} {n : Nibbles} {regular b : Bool} → IsFound l board part side queried n → regular ≡ is_regular l.material (groups_of l.material n.men) → regular ≡ b →
    is_regular l.material (chosen_groups l board) ≡ b
regular_found {l} f r e = ap (is_regular l.material) (sym (groups_found f)) ∙ sym r ∙ e

pub irregular_found : {l : Layout} {board : Board} {part side queried : ℕ} {n : Nibbles} {regular : Bool} → IsFound l board part side queried n → regular ≡ is_regular l.material (groups_of l.material n.men) → regular ≡ false →
    place_fault l board ≡ Some fault.Irregular
irregular_found {l} {board} f r e = fault_irregular l board f.known.men (regular_found f r e)

pub ready_found : {l : Layout} {board : Board} {part side queried : ℕ} {n : Nibbles} {items : List CodedMan} {lead : List ℕ} {regular : Bool} → IsFound l board part side queried n →
    regular ≡ is_regular l.material (groups_of l.material n.men) → regular ≡ true → items ≡ pieces_of l.material board → length items ≤ 6 → lead ≡ take (lead_length l.material) n.men → AreReady l.material lead items
ready_found {l} {board} {part} {side} {queried} {n} {items} f r e i few s =
    let size = ap length i in
    let ready = ready_of l.material n board f.known (ordered_found f) (sym r ∙ e) (omega (arith, few, size)) in
    subst (λ (x : List ℕ). AreReady l.material x items) (sym s) (subst (λ (x : List CodedMan). AreReady l.material (take (lead_length l.material) n.men) x) (sym i) ready)

-- what is known once the groups are regular: the men after the flips, and the lead squares
pub record IsLed (l : Layout) (board : Board) (part side queried : ℕ) (n : Nibbles) (lead leads : List ℕ) (normal : List CodedMan) : Type 0 where
  pub found : IsFound l board part side queried n
  pub regular : is_regular l.material (chosen_groups l board) ≡ true
  pub lead_is : lead ≡ take (lead_length l.material) n.men
  pub normal_is : normal ≡ normal_pieces l.material lead (pieces_of l.material board)
  pub leads_is : leads ≡ lead_squares l.material lead normal

touching_led : {l : Layout} {board : Board} {part side queried : ℕ} {n : Nibbles} {lead leads : List ℕ} {normal : List CodedMan} {touching b : Bool} → IsLed l board part side queried n lead leads normal →
    touching ≡ (not (has_pawns l.material) && lead_length l.material == 2 && is_touching (slice_index leads 0) (slice_index leads 1)) → touching ≡ b → is_kings_touching l.material (normal_of l board).squares ≡ b
touching_led {l} {board} {part} {side} {queried} {n} {lead} {leads} {normal} d t e =
    let some = some_group l.material n.men in let size = ap length (groups_found d.found) in
    sym (touching_is l board lead leads normal (d.lead_is ∙ lead_found d.found) d.normal_is d.leads_is (omega (arith, some, size))) ∙ sym t ∙ e

pub touch_led : {l : Layout} {board : Board} {part side queried : ℕ} {n : Nibbles} {lead leads : List ℕ} {normal : List CodedMan} {touching : Bool} → IsLed l board part side queried n lead leads normal →
    touching ≡ (not (has_pawns l.material) && lead_length l.material == 2 && is_touching (slice_index leads 0) (slice_index leads 1)) → touching ≡ true → place_fault l board ≡ Some fault.KingsTouch
touch_led {l} {board} d t e =
    fault_touch l board d.found.known.men d.regular (touching_led d t e)

wrong_led : {l : Layout} {board : Board} {part side queried : ℕ} {n : Nibbles} {wrong b : Bool} → IsFound l board part side queried n → wrong ≡ is_wrong_side l part queried → wrong ≡ b →
    is_wrong_side l (normal_of l board).part (moving_side l.material board) ≡ b
wrong_led {l} {board} {part} f w e =
    ap (λ (p : ℕ). is_wrong_side l p (moving_side l.material board)) (part_normal l board ∙ sym f.part_is) ∙ ap (is_wrong_side l part) (sym f.query_is) ∙ sym w ∙ e

pub side_led : {l : Layout} {board : Board} {part side queried : ℕ} {n : Nibbles} {lead leads : List ℕ} {normal : List CodedMan} {touching wrong : Bool} → IsLed l board part side queried n lead leads normal →
    touching ≡ (not (has_pawns l.material) && lead_length l.material == 2 && is_touching (slice_index leads 0) (slice_index leads 1)) → touching ≡ false →
    wrong ≡ is_wrong_side l part queried → wrong ≡ true → place_fault l board ≡ Some fault.WrongSide
side_led {l} {board} d t e w f =
    fault_side l board d.found.known.men d.regular (touching_led d t e) (wrong_led d.found w f)

pub none_led : {l : Layout} {board : Board} {part side queried : ℕ} {n : Nibbles} {lead leads : List ℕ} {normal : List CodedMan} {touching wrong : Bool} → IsLed l board part side queried n lead leads normal →
    touching ≡ (not (has_pawns l.material) && lead_length l.material == 2 && is_touching (slice_index leads 0) (slice_index leads 1)) → touching ≡ false →
    wrong ≡ is_wrong_side l part queried → wrong ≡ false → place_fault l board ≡ None
none_led {l} {board} d t e w f =
    fault_none l board d.found.known.men d.regular (touching_led d t e) (wrong_led d.found w f)

-- the squares of the groups are those of the normal form
sets_led : {l : Layout} {board : Board} {part side queried : ℕ} {n : Nibbles} {lead leads : List ℕ} {normal slice : List CodedMan} → IsLed l board part side queried n lead leads normal → slice ≡ normal →
    squares_by_group l.material (groups_of l.material n.men) slice ≡ (normal_of l board).squares
sets_led {l} {board} {part} {side} {queried} {n} {lead} d e =
    ap (squares_by_group l.material (groups_of l.material n.men)) (e ∙ d.normal_is)
    ∙ ap (λ (x : List (List ℕ)). squares_by_group l.material x (normal_pieces l.material lead (pieces_of l.material board))) (groups_found d.found)
    ∙ ap (λ (x : List ℕ). squares_by_group l.material (chosen_groups l board) (normal_pieces l.material x (pieces_of l.material board))) (d.lead_is ∙ lead_found d.found)
    ∙ sym (squares_normal l board)

pub answered_led : {l : Layout} {board : Board} {part side queried : ℕ} {n : Nibbles} → IsFound l board part side queried n → place_fault l board ≡ None → HasSpot l board
answered_led f e = record { inside = f.known.inside; placement = f.known.placement; place = e }

pub listed_led : {l : Layout} {board : Board} {part side queried : ℕ} {n : Nibbles} {lead leads : List ℕ} {normal slice : List CodedMan} → IsLed l board part side queried n lead leads normal → slice ≡ normal →
    place_fault l board ≡ None → EachInList l.material part [] (groups_of l.material n.men) (squares_by_group l.material (groups_of l.material n.men) slice)
unfolding normal_of
listed_led {l} {board} {part} {side} {queried} {n} d e none =
    let m = l.material in let p = part_of m (pieces_of m board) in let s = subtable_side l board in
    let lists : EachInList m p [] (groups_of m (nibbles_at l p s).men) (normal_of l board).squares = in_lists l board d.found.layout (answered_led d.found none) in
    subst (λ (x : List (List ℕ)). EachInList m part [] (groups_of m n.men) x) (sym (sets_led d e))
    (subst (λ (x : Nibbles). EachInList m part [] (groups_of m x.men) (normal_of l board).squares) (sym d.found.nibbles)
    (subst (λ (x : ℕ). EachInList m x [] (groups_of m (nibbles_at l p s).men) (normal_of l board).squares) (sym d.found.part_is) lists))

pub spot_led : {l : Layout} {board : Board} {part side queried : ℕ} {n : Nibbles} {lead leads : List ℕ} {normal slice : List CodedMan} {index : ℕ} → IsLed l board part side queried n lead leads normal → slice ≡ normal →
    index ≡ index_with (ranks_in_lists l.material part [] (squares_by_group l.material (groups_of l.material n.men) slice)) (counted l.material part n).factors →
    (let spot : Spot = record { part = part; side = side; index = index } in spot) ≡ spot_of l board
spot_led {l} {board} {part} {side} {queried} {n} {lead} {leads} {normal} {slice} {index} d e g =
    spot_is l board part side index d.found.part_is d.found.side_is
    (g ∙ ap (λ (x : List (List ℕ)). index_with (ranks_in_lists l.material part [] x) (counted l.material part n).factors) (sets_led d e)
    ∙ ap (λ (x : Nibbles). index_with (ranks_in_lists l.material part [] (normal_of l board).squares) (counted l.material part x).factors) d.found.at)

-- ---- the groups that an index keeps

-- the groups, by their own nibbles
pub regrouped : {s m : Sides} {part : ℕ} {n : Nibbles} {g : SideGroups} → m ≡ s → AreGroupsOf s part n g → AreGroupsOf m part (nibbles_in g.order) g
regrouped {s} {m} {part} {n} {g} e h =
    subst (λ (y : Sides). AreGroupsOf y part (nibbles_in g.order) g) (sym e) (subst (λ (k : Nibbles). AreGroupsOf s part k g) (sym h.nibbles) h)

sides_many : (material : Sides) (kind : Kind) → length (side_numbers material kind) ≡ cond (is_dtz kind) 1 (cond (is_symmetric material) 1 2)
sides_many material Dtz = refl
sides_many material Wdl = either (is_symmetric material) where
  either : (b : Bool) → length {A = ℕ} (cond b (0 ∷ []) (0 ∷ 1 ∷ [])) ≡ cond b 1 2
  either true = refl
  either false = refl

pub record IsKept (x : Index) (part side : ℕ) : Type 0 where
  pub has_part : part < length x.parts
  pub has_side : side < length (side_numbers x.material x.kind)

kept : (x : Index) (part side : ℕ) → IsLayout (numbering_in x) → part < part_count (numbering_in x) → side < side_count (numbering_in x) → IsKept x part side
kept x part side h p s =
    let many = h.parts in let sides = sides_many x.material x.kind in record { has_part = omega (arith, many, p); has_side = omega (arith, sides, s) }

-- an index keeps the groups of the slots that it has, and those of a query
pub kept_in : {x : Index} {part side : ℕ} → IsIndex x → IsMaterial x.material → IsSome (slot_in x part side) → IsKept x part side
kept_in {x} {part} {side} a m some =
    let r = slot_below x part side a some in kept x part side (parts_numbering x m a.parts_are_valid) r.0 r.1

pub query_same : {m s : Sides} {kind k : Kind} {board : Board} {q : Query} → m ≡ s → kind ≡ k → IsQueryOf m kind board q → IsQueryOf s k board q
query_same {m} {s} {kind} {k} {board} {q} e f h = subst (λ (y : Kind). IsQueryOf s y board q) f (subst (λ (y : Sides). IsQueryOf y kind board q) e h)

pub kept_by : {x : Index} {m : Sides} {kind : Kind} {board : Board} {q : Query} → IsIndex x → IsMaterial x.material → m ≡ x.material → kind ≡ x.kind → IsQueryOf m kind board q → IsKept x q.part q.side
kept_by {x} {m} {kind} {board} {q} a named e k h =
    let l = numbering_in x in let layout = parts_numbering x named a.parts_are_valid in let queried = (query_same e k h).queried in
    let f = found_requested {l = l} {n = nibbles_at l q.part q.side} layout queried refl in
    kept x q.part q.side layout (subst (λ (p : ℕ). p < part_count l) (sym queried.part_is) (part_below x.material (pieces_of x.material board)))
    (subst (λ (n : ℕ). n < side_count l) (sym f.side_is) (side_below l board))

-- what is known of a query and the groups of its side and part
pub found_kept : {x : Index} {m : Sides} {board : Board} {q : Query} {g : SideGroups} → IsIndex x → IsMaterial x.material → m ≡ x.material → IsQueryOf m x.kind board q →
    AreGroupsOf x.material q.part (nibbles_in_part x.parts q.part q.side) g → IsFound (layout_in x.kind m x.parts x.flags) board q.part q.side q.mover (nibbles_in g.order)
found_kept {x} {m} {board} {q} {g} a named e h groups =
    let layout = subst (λ (l : Layout). IsLayout l) (layout_same x x.kind m x.parts x.flags refl e refl refl) (parts_numbering x named a.parts_are_valid) in
    found_requested {l = layout_in x.kind m x.parts x.flags} {n = nibbles_in g.order} layout h.queried groups.nibbles

-- a placement of other men
pub located_nowhere : {x : Index} {m : Sides} {board : Board} → IsIndex x → IsMaterial x.material → m ≡ x.material → is_of_material m board ≡ false → IsLocatedIn x board (Err fault.OtherMaterial)
located_nowhere {x} {m} {board} a named e h =
    located_in (parts_numbering x named a.parts_are_valid) a (located_other {l = numbering_in x} refl (refl, ap (λ (s : Sides). is_of_material s board) (sym e) ∙ h))
