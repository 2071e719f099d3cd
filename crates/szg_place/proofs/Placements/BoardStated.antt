-- Unranking an index to a placement, and ranking this placement, returns the index.
use Rattle.std.proofs.Common.{◌≡◌, ℕ, zero, suc, ◌+◌, ◌%◌, ◌<◌, inl, inr, List, [], ◌∷◌, length, map, take, refl, sym, ap, ◌∙◌, subst, Bool, true, false, cond, arith, length-append}
use Rattle.std.specs.Prelude.{◌==◌, slice_get, slice_index, unwrap_or, count_by, Option, Some, None}
use Rattle.std.specs.List.{list_all, list_any, concat, zip}
use Rattle.std.proofs.Math.Bool.{not, ◌&&◌, ◌||◌}
use Rattle.std.proofs.lemmas.Bool.{cases_Bool, eqb-true, eq-eqb, and_parts, and_from, false_from_ne_true}
use Rattle.std.proofs.lemmas.List.{length-map}
use Rattle.szg_values.specs.Men.{code_of, is_man, is_color, name_order, rank_of}
use Rattle.szg_values.specs.Material.{Sides, IsMaterial, has_king_first, is_in_order, may_be_first, is_count, has_pawns, has_single_lead, count_of, man_codes, is_symmetric, is_same_men, lead_pawns}
use Rattle.szg_values.specs.Placement.{PlacedMan, Board, number_of, placement_fault, has_men, has_distinct_squares, has_pawns_on_inner_ranks, side_of, material_of}
use Rattle.szg_values.specs.declared.Man.{Man}
use Rattle.szg_values.specs.declared.Man.TheVariants.{Pawn, Knight, Bishop, Rook, Queen, King}
use Rattle.szg_values.specs.declared.Color.{Color}
use Rattle.szg_values.specs.declared.Color.TheVariants.{White, Black}
use Rattle.szg_values.proofs.SameMen.{same_men, same_men-refl, same_sides-Decides}
use Rattle.szg_values.proofs.SideOf.{white_first, black_first}
use Rattle.szg_values.proofs.MaterialOf.{material_of_placement}
use Rattle.szg_count.specs.Leads.{pawn_squares, is_touching, triples, king_pairs, lead_pawn_sets}
use Rattle.szg_count.specs.Groups.{Nibbles, IsPart, counted, groups_of, ways_of, positions_of, factors_of, ways_before, product, lead_length, lead_sets}
use Rattle.szg_count.specs.Radix.{EachBelow, index_with, decode_digits}
use Rattle.szg_count.specs.Laws.{IsIn, AllDiffer}
use Rattle.szg_count.proofs.Radix.{index_again}
use Rattle.szg_count.proofs.Free.{positions_order_groups}
use Rattle.szg_count.specs.Grouped.{is_regular}
use Rattle.szg_place.specs.Layout.{Layout, IsLayout, nibbles_at, is_dtz, stored_side, part_count, side_count}
use Rattle.szg_place.specs.Normal.{Normal, CodedMan, normal_of, normal_pieces, squares_by_group, chosen_groups, pieces_of, part_of, subtable_side, moving_side, is_exchanged, exchanged_color, colored_code}
use Rattle.szg_place.specs.Spots.{spot_of, index_from, counted_at, squares_of_ranks, ordered_sets, board_at, men_by_group, mover_at, place_fault, placement_refusal, is_of_material, is_kings_touching, is_wrong_side}
use Rattle.szg_place.specs.Ranks.{EachInList, EachRankBelow}
use Rattle.szg_place.specs.Laws.{HasSpot, LawSpotOfPlacement}
use Rattle.szg_place.specs.declared.Spot.{Spot}
use Rattle.szg_place.specs.declared.PlaceFault.TheVariants as fault
use Rattle.szg_place.proofs.Ranks.Lists.{all-IsIn, IsIn-map_back, not_true}
use Rattle.szg_place.proofs.Ranks.Ranking.{ranks_again}
use Rattle.szg_place.proofs.Ranks.Ways.{laid_none, each_rank, stated_in_lists}
use Rattle.szg_place.proofs.Indexes.Spotted.{ordered, order_none, ways_many}
use Rattle.szg_place.proofs.MenOnSlots.Pieces.{IsStood, count-cons, count-same, is_pawn_code}
use Rattle.szg_count.proofs.Rearranged.{rearranged_counts, count_of-in, count_of-some}
use Rattle.szg_place.proofs.MenOnSlots.Codes.{later_groups, rearranged_length, concat-groups}
use Rattle.szg_place.proofs.MenOnSlots.Standing.{raw_piece, count_raw, white_code, black_code, kind_count, codes_first, codes_second, sorted, squares_raw, exchanged_when, pieces_plain}
use Rattle.szg_place.proofs.Symmetries.Normals.{IsFit, fit}
use Rattle.szg_place.proofs.Placements.Stated.{digits_below, paired, raw_paired, code_valid}
use Rattle.szg_place.proofs.Symmetries.Again.{IsListed, codes_stated, pawn_stated, stated_stood, normal_stated, squares_stated_by_group, king_pairs_low}

-- ---- the men are a placement

-- the men of an index, and these men as a file codes them
record HasPlacement' (sides : Sides) (men : List ℕ) (placed_men : List PlacedMan) (pieces : List CodedMan) : Type 0 where
  material : IsMaterial sides
  raw : map (raw_piece false) placed_men ≡ pieces
  stood : IsStood sides men pieces
  coded : (c : ℕ) → count_of c men ≡ count_of c (man_codes sides)
  many : length pieces ≡ length (man_codes sides)
  pawns : (p : CodedMan) → IsIn p pieces → is_pawn_code p.code ≡ true → IsIn p.square pawn_squares

first_number : (sides : Sides) (men : List ℕ) (placed_men : List PlacedMan) (pieces : List CodedMan) → HasPlacement' sides men placed_men pieces → (kind : Man) → number_of kind White placed_men ≡ count_by (is_man kind) sides.first
first_number sides men placed_men pieces h kind =
    sym (count-same (λ (s : PlacedMan). colored_code s.0 s.1 == code_of kind) (λ s. is_man kind s.0 && is_color White s.1) placed_men (λ s i. white_code kind s.0 s.1))
    ∙ sym (count_raw false (code_of kind) placed_men) ∙ ap (count_by (λ (p : CodedMan). p.code == code_of kind)) h.raw
    ∙ h.stood.counts (code_of kind) ∙ h.coded (code_of kind) ∙ codes_first sides kind

second_number : (sides : Sides) (men : List ℕ) (placed_men : List PlacedMan) (pieces : List CodedMan) → HasPlacement' sides men placed_men pieces → (kind : Man) → number_of kind Black placed_men ≡ count_by (is_man kind) sides.second
second_number sides men placed_men pieces h kind =
    sym (count-same (λ (s : PlacedMan). colored_code s.0 s.1 == (8 + code_of kind)) (λ s. is_man kind s.0 && is_color Black s.1) placed_men (λ s i. black_code kind s.0 s.1))
    ∙ sym (count_raw false (8 + code_of kind) placed_men) ∙ ap (count_by (λ (p : CodedMan). p.code == (8 + code_of kind))) h.raw
    ∙ h.stood.counts (8 + code_of kind) ∙ h.coded (8 + code_of kind) ∙ codes_second sides kind

none_pass : (test : Man → Bool) (men : List Man) → list_any test men ≡ false → count_by test men ≡ 0
none_pass test [] e = refl
none_pass test (man ∷ men) e = let k = count-cons test man men in
    elim (cases_Bool (test man)) [
      | inl t ↦ let f = rw t at e in cc
      | inr f ↦ let g : list_any test men ≡ false = rw f at e in k ∙ ap (λ b. cond b 1 0 + count_by test men) f ∙ (let m = none_pass test men g in let z : 0 + count_by test men ≡ 0 = omega (arith, m) in z)
    ]

one_king : (men : List Man) → has_king_first men ≡ true → count_by (is_man King) men ≡ 1
one_king [] e = cc
one_king (man ∷ men) e =
    let r = and_parts (is_man King man) (not (list_any (is_man King) men)) e in
    count-cons (is_man King) man men ∙ ap (λ b. cond b 1 0 + count_by (is_man King) men) r.0
    ∙ (let m = none_pass (is_man King) men (false_from_ne_true (list_any (is_man King) men) (λ q. not_true (list_any (is_man King) men) r.1 q)) in let z : 1 + count_by (is_man King) men ≡ 1 = omega (arith, m) in z)

all_from : {A : Type 0} (test : A → Bool) (xs : List A) → ((x : A) → IsIn x xs → test x ≡ true) → list_all test xs ≡ true
all_from test [] h = refl
all_from test (x ∷ xs) h = and_from (test x) (list_all test xs) (h x (inl refl)) (all_from test xs (λ y i. h y (inr i)))

differ_apart : (placed_men : List PlacedMan) → AllDiffer (map (λ (s : PlacedMan). s.2) placed_men) → has_distinct_squares placed_men ≡ true
differ_apart [] d = refl
differ_apart (s ∷ placed_men) d = and_from (not (list_any (λ (t : PlacedMan). s.2 == t.2) placed_men)) (has_distinct_squares placed_men)
    (ap not (false_from_ne_true (list_any (λ (t : PlacedMan). s.2 == t.2) placed_men) (λ e. d.0 (there placed_men e)))) (differ_apart placed_men d.1)
  where
    there : (ts : List PlacedMan) → list_any (λ (t : PlacedMan). s.2 == t.2) ts ≡ true → IsIn s.2 (map (λ (t : PlacedMan). t.2) ts)
    there [] e = cc
    there (t ∷ ts) e = elim (cases_Bool (s.2 == t.2)) [
      | inl k ↦ inl (eqb-true s.2 t.2 k)
      | inr n ↦ inr (there ts (let f : list_any (λ (t : PlacedMan). s.2 == t.2) ts ≡ true = rw n at e in f))
    ]

pawn_code : (man : Man) (color : Color) → is_man Pawn man ≡ true → is_pawn_code (colored_code man color) ≡ true
pawn_code Pawn White e = refl
pawn_code Pawn Black e = refl
pawn_code Knight color e = cc
pawn_code Bishop color e = cc
pawn_code Rook color e = cc
pawn_code Queen color e = cc
pawn_code King color e = cc

inside_edge : (x : ℕ) → IsIn x pawn_squares → (rank_of x == 0 || rank_of x == 7) ≡ false
unfolding pawn_squares
inside_edge x h = false_from_ne_true (rank_of x == 0 || rank_of x == 7) (λ e. not_true (rank_of x == 0 || rank_of x == 7) (all-IsIn (λ y. not (rank_of y == 0 || rank_of y == 7)) pawn_squares x refl h) e)

all_pass : (a b c : Bool) → a ≡ true → b ≡ true → c ≡ true → (a && b && c) ≡ true
all_pass a b c e f g = rw (e, f, g) refl

length_codes : (sides : Sides) → length (man_codes sides) ≡ length sides.first + length sides.second
length_codes sides = length-append (map code_of sides.first) (map (λ (man : Man). 8 + code_of man) sides.second)
    ∙ ap (λ n. n + length (map (λ (man : Man). 8 + code_of man) sides.second)) (length-map sides.first code_of)
    ∙ ap (λ n. length sides.first + n) (length-map sides.second (λ (man : Man). 8 + code_of man))

stated_placement : (sides : Sides) (men : List ℕ) (placed_men : List PlacedMan) (pieces : List CodedMan) → HasPlacement' sides men placed_men pieces → placement_fault placed_men ≡ None
unfolding placement_fault
stated_placement sides men placed_men pieces h =
    let o = sorted sides h.material in
    let size : length placed_men ≡ length sides.first + length sides.second = sym (length-map placed_men (raw_piece false)) ∙ ap length h.raw ∙ h.many ∙ length_codes sides in
    let men_ok : has_men placed_men ≡ true = all_pass (is_count (length placed_men)) (number_of King White placed_men == 1) (number_of King Black placed_men == 1)
    (ap is_count size ∙ o.count)
    (eq-eqb (number_of King White placed_men) 1 (first_number sides men placed_men pieces h King ∙ one_king sides.first o.first_king))
    (eq-eqb (number_of King Black placed_men) 1 (second_number sides men placed_men pieces h King ∙ one_king sides.second o.second_king)) in
    let apart_ok : has_distinct_squares placed_men ≡ true = differ_apart placed_men
    (subst (λ (l : List ℕ). AllDiffer l) (ap (λ (l : List CodedMan). map (λ (p : CodedMan). p.square) l) (sym h.raw) ∙ squares_raw false placed_men) h.stood.differ) in
    let pawns_ok : has_pawns_on_inner_ranks placed_men ≡ true = all_from (λ (s : PlacedMan). not (is_man Pawn s.0 && (rank_of s.2 == 0 || rank_of s.2 == 7))) placed_men
    (λ s i. pawn_free (is_man Pawn s.0) (rank_of s.2 == 0 || rank_of s.2 == 7)
    (λ e. inside_edge s.2 (h.pawns (raw_piece false s) (subst (λ (l : List CodedMan). IsIn (raw_piece false s) l) h.raw (IsIn-map_back (raw_piece false) placed_men s i)) (pawn_code s.0 s.1 e)))) in
    rw (men_ok, apart_ok, pawns_ok) refl
  where
    pawn_free : (a b : Bool) → (a ≡ true → b ≡ false) → not (a && b) ≡ true
    pawn_free true b h = ap not (h refl)
    pawn_free false b h = refl

same_from : (a b : List Man) → ((kind : Man) → count_by (is_man kind) a ≡ count_by (is_man kind) b) → is_same_men a b ≡ true
same_from a b h = all_from (λ kind. count_by (is_man kind) a == count_by (is_man kind) b) name_order (λ kind i. eq-eqb (count_by (is_man kind) a) (count_by (is_man kind) b) (h kind))

-- White has the first side's men, Black the second's
record IsNamedWhite (sides : Sides) (placed_men : List PlacedMan) : Type 0 where
  white : side_of White placed_men ≡ sides.first
  material : material_of placed_men ≡ sides
  of_material : IsMaterial (material_of placed_men)

stated_named : (sides : Sides) (men : List ℕ) (placed_men : List PlacedMan) (pieces : List CodedMan) → HasPlacement' sides men placed_men pieces → IsNamedWhite sides placed_men
stated_named sides men placed_men pieces h =
    let m : IsMaterial (material_of placed_men) = material_of_placement placed_men (stated_placement sides men placed_men pieces h) in
    let o = sorted sides h.material in
    let white = side_of White placed_men in let black = side_of Black placed_men in
    let orders : (is_in_order white ≡ true) × (is_in_order black ≡ true) = elim (cases_Bool (may_be_first white black)) [
      | inl t ↦ let x = sorted (record { first = white; second = black }) (subst (λ (s : Sides). IsMaterial s) (white_first placed_men t) m) in (x.first, x.second)
      | inr f ↦ let x = sorted (record { first = black; second = white }) (subst (λ (s : Sides). IsMaterial s) (black_first placed_men f) m) in (x.second, x.first)
    ] in
    let w : white ≡ sides.first = same_men white sides.first orders.0 o.first (same_from white sides.first (λ kind. kind_count kind White placed_men ∙ first_number sides men placed_men pieces h kind)) in
    let b : black ≡ sides.second = same_men black sides.second orders.1 o.second (same_from black sides.second (λ kind. kind_count kind Black placed_men ∙ second_number sides men placed_men pieces h kind)) in
    let f : may_be_first white black ≡ true = ap (λ l. may_be_first l black) w ∙ ap (λ l. may_be_first sides.first l) b ∙ o.named in
    record {
      white = w;
      material = white_first placed_men f ∙ ap (λ l. (let s : Sides = record { first = l; second = black } in s)) w ∙ ap (λ l. (let s : Sides = record { first = sides.first; second = l } in s)) b;
      of_material = m;
    }

-- ---- the side to move

query_of : Bool → Bool → ℕ → ℕ → ℕ
query_of d s stored side = cond (is_color White (cond s White (cond (cond d stored side == 0) White Black))) 0 1

plain_exchange : (l : Layout) (part side : ℕ) (placed_men : List PlacedMan) → side_of White placed_men ≡ l.material.first →
    (let board : Board = record { placed_men = placed_men; mover = mover_at l part side } in is_exchanged l.material board ≡ false)
plain_exchange l part side placed_men w =
    let board : Board = record { placed_men = placed_men; mover = mover_at l part side } in
    elim (cases_Bool (is_symmetric l.material)) [
      | inl s ↦ symmetric s
      | inr n ↦ exchanged_when l.material board n ∙ ap not (subst (λ (men : List Man). is_same_men men l.material.first ≡ true) (sym w) (same_men-refl l.material.first))
    ]
  where
    symmetric : is_symmetric l.material ≡ true → (let board : Board = record { placed_men = placed_men; mover = mover_at l part side } in is_exchanged l.material board ≡ false)
    symmetric s = both (is_symmetric l.material) s where
      both : (b : Bool) → b ≡ true → cond b (is_color Black (cond b White (cond ((cond (is_dtz l.kind) (stored_side l part) side) == 0) White Black))) (not (is_same_men (side_of White placed_men) l.material.first)) ≡ false
      both true e = refl
      both false e = cc

requested_stated : (l : Layout) (part side : ℕ) (placed_men : List PlacedMan) → side_of White placed_men ≡ l.material.first →
    (let board : Board = record { placed_men = placed_men; mover = mover_at l part side } in moving_side l.material board ≡ query_of (is_dtz l.kind) (is_symmetric l.material) (stored_side l part) side)
unfolding query_of
requested_stated l part side placed_men w = ap (λ ex. number (is_color White (exchanged_color ex (mover_at l part side)))) (plain_exchange l part side placed_men w) where
  number : Bool → ℕ
  number b = cond b 0 1

side_stated : (d s : Bool) (stored side : ℕ) → side < cond d 1 (cond s 1 2) → cond d 0 (query_of d s stored side) ≡ side
unfolding query_of
side_stated true s stored side h = let k : 0 ≡ side = omega (arith, h) in k
side_stated false true stored side h = let k : 0 ≡ side = omega (arith, h) in k
side_stated false false zero zero h = refl
side_stated false false (suc stored) zero h = refl
side_stated false false stored (suc zero) h = refl
side_stated false false stored (suc (suc side)) h = absurd (omega (arith, h))

wrong_stated : (d s p : Bool) (stored side : ℕ) → stored < 2 → (d && s && p && stored == 1) ≡ false → (d && not (s && not p) && not (stored == query_of d s stored side)) ≡ false
unfolding query_of
wrong_stated false s p stored side h e = refl
wrong_stated true true false stored side h e = refl
wrong_stated true true true zero side h e = refl
wrong_stated true true true (suc zero) side h e = cc
wrong_stated true true true (suc (suc stored)) side h e = absurd (omega (arith, h))
wrong_stated true false p zero side h e = refl
wrong_stated true false p (suc zero) side h e = refl
wrong_stated true false p (suc (suc stored)) side h e = absurd (omega (arith, h))

-- ---- the refusals

passed : {A : Type 0} (b : Bool) (f : A) (rest : Option A) → cond (not b) (Some f) rest ≡ None → (b ≡ true) × (rest ≡ None)
passed true f rest e = (refl, e)
passed false f rest e = cc

stopped : {A : Type 0} (b : Bool) (f : A) (rest : Option A) → cond b (Some f) rest ≡ None → (b ≡ false) × (rest ≡ None)
stopped false f rest e = (refl, e)
stopped true f rest e = cc

no_refusal : (l : Layout) (part side : ℕ) → placement_refusal l part side ≡ None → (is_regular l.material (groups_of l.material (nibbles_at l part side).men) ≡ true)
    × ((is_dtz l.kind && is_symmetric l.material && has_pawns l.material && stored_side l part == 1) ≡ false)
unfolding placement_refusal counted
no_refusal l part side e =
    let a = passed (is_regular l.material (counted_at l part side).groups) _ _ e in
    let b = stopped (is_dtz l.kind && is_symmetric l.material && has_pawns l.material && stored_side l part == 1) _ _ a.1 in (a.0, b.0)

no_fault : (a b c d : Bool) → a ≡ true → b ≡ true → c ≡ false → d ≡ false →
    cond (not a) (Some fault.OtherMaterial) (cond (not b) (Some fault.Irregular) (cond c (Some fault.KingsTouch) (cond d (Some fault.WrongSide) None))) ≡ None
no_fault a b c d e f g h = rw (e, f, g, h) refl

kings_apart : (sides : Sides) (part : ℕ) (set : List ℕ) (sets : List (List ℕ)) → IsIn set (lead_sets sides part) → is_kings_touching sides (set ∷ sets) ≡ false
unfolding lead_sets
kings_apart sides part set sets h = cases (has_pawns sides) (has_single_lead sides) h where
  cases : (b s : Bool) → IsIn set (cond b (lead_pawn_sets (lead_pawns sides) part) (cond s triples king_pairs)) →
      (not b && cond b (lead_pawns sides) (cond s 3 2) == 2 && is_touching (slice_index set 0) (slice_index set 1)) ≡ false
  cases true s h = refl
  cases false true h = refl
  cases false false h = (king_pairs_low set h).apart

-- ---- the law

-- the normal form of a placement, by part, side and pieces
normal_by : Layout → ℕ → ℕ → List CodedMan → Normal
normal_by l part side pieces = let groups = groups_of l.material (nibbles_at l part side).men in
    record { part = part; side = side; squares = squares_by_group l.material groups (normal_pieces l.material (unwrap_or (slice_get groups 0) []) pieces) }

normal_same : (l : Layout) (board : Board) → normal_of l board ≡ normal_by l (part_of l.material (pieces_of l.material board)) (subtable_side l board) (pieces_of l.material board)
unfolding normal_of normal_by chosen_groups
normal_same l board = refl

spot_by : Layout → Normal → Spot
spot_by l normal = record { part = normal.part; side = normal.side; index = index_from l.material (counted_at l normal.part normal.side) normal }

spot_same : (l : Layout) (board : Board) → spot_of l board ≡ spot_by l (normal_of l board)
unfolding spot_of spot_by
spot_same l board = refl

groups_same : (l : Layout) (board : Board) → chosen_groups l board ≡ groups_of l.material (nibbles_at l (normal_of l board).part (normal_of l board).side).men
unfolding normal_of chosen_groups
groups_same l board = refl

fault_same : (l : Layout) (board : Board) (normal : Normal) → normal_of l board ≡ normal → is_of_material l.material board ≡ true →
    is_regular l.material (groups_of l.material (nibbles_at l normal.part normal.side).men) ≡ true → is_kings_touching l.material normal.squares ≡ false →
    is_wrong_side l normal.part (moving_side l.material board) ≡ false → place_fault l board ≡ None
unfolding place_fault
fault_same l board normal e a b c d =
    no_fault (is_of_material l.material board) (is_regular l.material (chosen_groups l board)) (is_kings_touching l.material (normal_of l board).squares) (is_wrong_side l (normal_of l board).part (moving_side l.material board)) a
    (ap (is_regular l.material) (groups_same l board) ∙ ap (λ (n : Normal). is_regular l.material (groups_of l.material (nibbles_at l n.part n.side).men)) e ∙ b)
    (ap (λ (n : Normal). is_kings_touching l.material n.squares) e ∙ c)
    (ap (λ (n : Normal). is_wrong_side l n.part (moving_side l.material board)) e ∙ d)

-- the placement of sets that are in their ordered lists has an index, and these sets are its normal form
stated_answered : (l : Layout) (part side : ℕ) (sets : List (List ℕ)) → IsLayout l → part < part_count l → side < side_count l → placement_refusal l part side ≡ None →
    EachInList l.material part [] (groups_of l.material (nibbles_at l part side).men) sets →
    (let board : Board = record { placed_men = men_by_group (groups_of l.material (nibbles_at l part side).men) sets; mover = mover_at l part side } in
    HasSpot l board × (normal_of l board ≡ record { part = part; side = side; squares = sets }))
unfolding groups_of normal_by ordered_sets
stated_answered l part side [] h hp hs none lists = absurd lists
stated_answered l part side (set ∷ sets) h hp hs none lists =
    let sides = l.material in
    let men = (nibbles_at l part side).men in
    let lead = take (lead_length sides) men in
    let later = later_groups sides men in
    let ok = ordered sides (nibbles_at l part side) (order_none l part side h hp hs) in
    let free = no_refusal l part side none in
    let fits = fit sides men h.material ok.pieces ok.pawns free.0 in
    let listed : IsListed sides part men lead set later sets = record { material = h.material; has_part = hp; is_lead = refl; is_later = refl; pieces = ok.pieces; pawns = ok.pawns; fits = fits; lists = lists } in
    let pieces = paired (lead ∷ later) (set ∷ sets) in
    let placed_men = men_by_group (lead ∷ later) (set ∷ sets) in
    let codes = codes_stated sides part men lead set later sets listed in
    let counts = rearranged_counts men (man_codes sides) ok.pieces in
    let groups_joined : concat (lead ∷ later) ≡ men = concat-groups sides men in
    let raw : map (raw_piece false) placed_men ≡ pieces = raw_paired (lead ∷ later) (set ∷ sets)
    (λ c i. code_valid sides c (count_of-some c (man_codes sides) (let k = count_of-in c men (subst (λ (x : List ℕ). IsIn c x) groups_joined i) in let z = counts c in omega (arith, k, z)))) in
    let stated : HasPlacement' sides men placed_men pieces = record {
      material = h.material;
      raw = raw;
      stood = stated_stood sides part men lead set later sets listed;
      coded = counts;
      many = sym (length-map pieces (λ (p : CodedMan). p.code)) ∙ ap length codes ∙ rearranged_length men (man_codes sides) ok.pieces;
      pawns = pawn_stated sides part men lead set later sets listed;
    } in
    let board : Board = record { placed_men = placed_men; mover = mover_at l part side } in
    let named = stated_named sides men placed_men pieces stated in
    let plain = plain_exchange l part side placed_men named.white in
    let queried = requested_stated l part side placed_men named.white in
    let those : pieces_of sides board ≡ pieces = pieces_plain sides board plain ∙ raw in
    let side_is : subtable_side l board ≡ side = ap (λ n. by_kind (is_dtz l.kind) n) queried ∙ side_stated (is_dtz l.kind) (is_symmetric sides) (stored_side l part) side hs in
    let part_is : part_of sides (pieces_of sides board) ≡ part = ap (part_of sides) those ∙ (normal_stated sides part men lead set later sets listed).part_is in
    let normal : normal_of l board ≡ record { part = part; side = side; squares = set ∷ sets } =
    normal_same l board
    ∙ ap (λ n. normal_by l n (subtable_side l board) (pieces_of sides board)) part_is
    ∙ ap (λ n. normal_by l part n (pieces_of sides board)) side_is
    ∙ ap (λ q. normal_by l part side q) those
    ∙ ap (λ (q : List (List ℕ)). (let n : Normal = record { part = part; side = side; squares = q } in n)) (squares_stated_by_group sides part men lead set later sets listed) in (
      record {
        inside = λ s i. stated.stood.inside (raw_piece false s) (subst (λ (q : List CodedMan). IsIn (raw_piece false s) q) raw (IsIn-map_back (raw_piece false) placed_men s i));
        placement = stated_placement sides men placed_men pieces stated;
        place = fault_same l board (record { part = part; side = side; squares = set ∷ sets }) normal
            ((same_sides-Decides (material_of placed_men) sides named.of_material h.material).1 named.material)
            free.0 (kings_apart sides part set sets lists.0)
            (ap (is_wrong_side l part) queried ∙ wrong_stated (is_dtz l.kind) (is_symmetric sides) (has_pawns sides) (stored_side l part) side (stored_below l part) free.1);
      },
      normal,
    )
  where
    by_kind : Bool → ℕ → ℕ
    by_kind d n = cond d 0 n

    stored_below : (l : Layout) (part : ℕ) → stored_side l part < 2
    stored_below l part = half (slice_index l.flags part) where
      half : (n : ℕ) → n % 2 < 2
      half n = omega arith

-- the squares with the ranks of an index have this index
index_of_ranks : (sides : Sides) (part : ℕ) (n : Nibbles) (group_ranks : List ℕ) (side i : ℕ) → part < 4 → EachRankBelow sides part [] (groups_of sides n.men) group_ranks →
    index_with group_ranks (counted sides part n).factors ≡ i →
    (let normal : Normal = record { part = part; side = side; squares = squares_of_ranks sides part [] (zip (groups_of sides n.men) group_ranks) } in index_from sides (counted sides part n) normal ≡ i)
unfolding index_from
index_of_ranks sides part n group_ranks side i p below e = ap (λ l. index_with l (counted sides part n).factors) (ranks_again sides part (groups_of sides n.men) group_ranks p below) ∙ e

part_four : (sides : Sides) (part : ℕ) → IsPart sides part → part < 4
part_four sides part h = cases (has_pawns sides) h where
  cases : (b : Bool) → part < cond b 4 1 → part < 4
  cases true h = h
  cases false h = omega (arith, h)

factors_length : (group_ranks ways : List ℕ) → length (factors_of group_ranks ways) ≡ length group_ranks
unfolding factors_of
factors_length group_ranks ways = length-map group_ranks (λ position. product (ways_before position group_ranks ways))

lead_first : (sides : Sides) (men : List ℕ) → IsFit sides men → (group : List ℕ) (more : List (List ℕ)) → groups_of sides men ≡ group ∷ more → length group ≡ lead_length sides
unfolding groups_of
lead_first sides men fits group more q = let e : group ≡ take (lead_length sides) men = cc in ap length e ∙ fits.lead_size

pub spot_of_placement : LawSpotOfPlacement
unfolding board_at counted spot_by
spot_of_placement l part side i h t =
    let sides = l.material in
    let n = nibbles_at l part side in
    let groups = groups_of sides n.men in
    let ok = ordered sides n (order_none l part side h t.has_part t.has_side) in
    let ways = ways_of sides part groups in
    let positions = positions_of n (length groups) in
    let factors = factors_of positions ways in
    let order = positions_order_groups sides n ok.group_ranks in
    let many = ways_many sides part n ok.group_ranks in
    let group_ranks = decode_digits factors ways i in
    let below : EachBelow group_ranks ways = digits_below factors ways i (many ∙ sym (factors_length positions ways)) (let b = t.below in omega (arith, b)) in
    let free = no_refusal l part side t.allowed in
    let fits = fit sides n.men h.material ok.pieces ok.pawns free.0 in
    let first : [] ≡ [] → (group : List ℕ) (more : List (List ℕ)) → groups ≡ group ∷ more → length group ≡ lead_length sides = λ e group more q. lead_first sides n.men fits group more q in
    let each = each_rank sides part [] [] groups group_ranks h.material t.has_part refl refl (laid_none sides) first below in
    let lists = stated_in_lists sides part [] groups group_ranks h.material t.has_part first each in
    let stated = stated_answered l part side (squares_of_ranks sides part [] (zip groups group_ranks)) h t.has_part t.has_side t.allowed lists in (
      stated.0,
      spot_same l (board_at l part side i) ∙ ap (spot_by l) stated.1
          ∙ ap (λ (k : ℕ). (let spot : Spot = record { part = part; side = side; index = k } in spot))
          (index_of_ranks sides part n group_ranks side i (part_four sides part t.has_part) each (index_again positions ways i order.0 many t.below)),
    )
