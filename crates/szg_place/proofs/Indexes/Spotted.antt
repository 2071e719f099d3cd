-- What follows if each group's squares are in its ordered list: the index is below the size, and decoding it
-- returns the squares.
use Rattle.std.proofs.Common.{◌≡◌, ℕ, zero, suc, ◌+◌, ◌-◌, ◌%◌, ◌<◌, inl, inr, List, [], ◌∷◌, length, refl, sym, ap, ◌∙◌, subst, Bool, true, false, cond, arith}
use Rattle.std.specs.Prelude.{◌==◌, min, Option, Some, None, IsNone, slice_index}
use Rattle.std.specs.List.{zip, range_with_len}
use Rattle.std.proofs.Math.Bool.{not, ◌&&◌}
use Rattle.std.proofs.lemmas.Bool.{cases_Bool, eqb-true}
use Rattle.std.proofs.lemmas.List.{length-map}
use Rattle.szg_values.specs.Men.{is_color, file_of}
use Rattle.szg_values.specs.Material.{Sides, IsMaterial, has_pawns, is_symmetric, is_same_men, lead_pawn_code, man_codes}
use Rattle.szg_values.specs.Placement.{Board, side_of}
use Rattle.szg_values.specs.declared.Color.{Color}
use Rattle.szg_values.specs.declared.Color.TheVariants.{White, Black}
use Rattle.szg_count.specs.Leads.{pawn_order}
use Rattle.szg_count.specs.Groups.{Nibbles, IsPart, counted, groups_of, group_ways, ways_of, positions_of, product, order_fault, has_valid_positions, has_pawns_first, is_rearrangement}
use Rattle.szg_count.specs.Radix.{EachBelow, index_with}
use Rattle.szg_count.proofs.Radix.{index_below, digits_again}
use Rattle.szg_count.proofs.Free.{positions_order_groups}
use Rattle.szg_count.specs.Grouped.{is_regular}
use Rattle.szg_place.specs.Layout.{Layout, IsLayout, nibbles_at, part_count, side_count, is_dtz, stored_side}
use Rattle.szg_place.specs.Normal.{Normal, CodedMan, normal_of, chosen_groups, pieces_of, part_of, subtable_side, moving_side, exchanged_color, squares_with}
use Rattle.szg_place.specs.Spots.{spot_of, index_from, counted_at, ranks_in_lists, squares_of_ranks, ranks_of_index, board_at, normal_board, place_fault, placement_refusal, is_wrong_side, is_of_material, is_kings_touching, mover_at, men_by_group}
use Rattle.szg_place.specs.Ranks.{EachInList}
use Rattle.szg_place.specs.Laws.{HasSpot, LawBelowSize, LawOneSpot, LawPlacementOfSpot}
use Rattle.szg_place.specs.declared.Spot.{Spot}
use Rattle.szg_place.specs.declared.PlaceFault.TheVariants as fault
use Rattle.szg_place.proofs.Ranks.Ranking.{squares_again}
use Rattle.szg_place.proofs.Ranks.Ways.{each_below, laid_none}

-- ---- what follows from the checks

pub record IsOrdered (sides : Sides) (n : Nibbles) : Type 0 where
  pub pieces : is_rearrangement n.men (man_codes sides) ≡ true
  pub pawns : has_pawns_first sides n.men ≡ true
  pub group_ranks : has_valid_positions sides n ≡ true

passed : {A : Type 0} (b : Bool) (f : A) (rest : Option A) → cond (not b) (Some f) rest ≡ None → (b ≡ true) × (rest ≡ None)
passed true f rest e = (refl, e)
passed false f rest e = cc

pub ordered : (sides : Sides) (n : Nibbles) → order_fault sides n ≡ None → IsOrdered sides n
unfolding order_fault
ordered sides n e =
    let a = passed (is_rearrangement n.men (man_codes sides)) _ _ e in
    let b = passed (has_pawns_first sides n.men) _ _ a.1 in
    let c = passed (has_valid_positions sides n) _ _ b.1 in
    record { pieces = a.0; pawns = b.0; group_ranks = c.0 }

pub none_is : {X : Type 0} (o : Option X) → IsNone o → o ≡ None
none_is None h = refl
none_is (Some x) h = cc

pub order_none : (l : Layout) (part side : ℕ) → IsLayout l → part < part_count l → side < side_count l → order_fault l.material (nibbles_at l part side) ≡ None
order_none l part side h p s = none_is (order_fault l.material (nibbles_at l part side)) (h.ordered part side p s)

pub record IsAllowed (l : Layout) (board : Board) : Type 0 where
  pub material : is_of_material l.material board ≡ true
  pub regular : is_regular l.material (chosen_groups l board) ≡ true
  pub apart : is_kings_touching l.material (normal_of l board).squares ≡ false
  pub sided : is_wrong_side l (normal_of l board).part (moving_side l.material board) ≡ false

stopped : {A : Type 0} (b : Bool) (f : A) (rest : Option A) → cond b (Some f) rest ≡ None → (b ≡ false) × (rest ≡ None)
stopped false f rest e = (refl, e)
stopped true f rest e = cc

pub allowed : (l : Layout) (board : Board) → place_fault l board ≡ None → IsAllowed l board
unfolding place_fault
allowed l board e =
    let a = passed (is_of_material l.material board) _ _ e in
    let b = passed (is_regular l.material (chosen_groups l board)) _ _ a.1 in
    let c = stopped (is_kings_touching l.material (normal_of l board).squares) _ _ b.1 in
    let d = stopped (is_wrong_side l (normal_of l board).part (moving_side l.material board)) _ _ c.1 in
    record { material = a.0; regular = b.0; apart = c.0; sided = d.0 }

-- ---- part and side

pub requested_symmetric : (sides : Sides) (board : Board) → is_symmetric sides ≡ true → moving_side sides board ≡ 0
requested_symmetric sides board e =
    ap (λ b. number (is_color White (exchanged_color (cond b (is_color Black board.mover) (not (is_same_men (side_of White board.placed_men) sides.first))) board.mover))) e
    ∙ both board.mover
  where
    number : Bool → ℕ
    number b = cond b 0 1

    both : (color : Color) → ◌≡◌ {A = ℕ} (cond (is_color White (exchanged_color (is_color Black color) color)) 0 1) 0
    both White = refl
    both Black = refl

zero_or_one : (b : Bool) → cond b 0 1 < 2
zero_or_one true = omega arith
zero_or_one false = omega arith

half_below : (file : ℕ) → file < 8 → min file (7 - file) < 4
half_below file h = omega arith

pub part_below : (sides : Sides) (pieces : List CodedMan) → IsPart sides (part_of sides pieces)
part_below sides pieces = cases (has_pawns sides) (slice_index (squares_with (lead_pawn_code sides ∷ []) pieces pawn_order) 0) where
  cases : (b : Bool) (x : ℕ) → cond b (min (file_of x) (7 - file_of x)) 0 < cond b 4 1
  cases true x = half_below (x % 8) (omega arith)
  cases false x = omega arith

pub side_below : (l : Layout) (board : Board) → subtable_side l board < side_count l
side_below l board = cases (is_dtz l.kind) (is_symmetric l.material) (moving_side l.material board) (requested_symmetric l.material board) (zero_or_one _) where
  cases : (d s : Bool) (queried : ℕ) → (s ≡ true → queried ≡ 0) → queried < 2 → cond d 0 queried < cond d 1 (cond s 1 2)
  cases true s queried e h = omega arith
  cases false true queried e h = let k = e refl in omega (arith, k)
  cases false false queried e h = h

-- ---- the index

length-range : (a n : ℕ) → length (range_with_len a n) ≡ n
length-range a zero = refl
length-range a (suc n) = ap suc (length-range (a + 1) n)

pub ways_many : (sides : Sides) (part : ℕ) (n : Nibbles) → has_valid_positions sides n ≡ true →
    length (ways_of sides part (groups_of sides n.men)) ≡ length (positions_of n (length (groups_of sides n.men)))
ways_many sides part n e = let groups = groups_of sides n.men in
    length-map (range_with_len 0 (length groups)) (group_ways sides part groups) ∙ length-range 0 (length groups) ∙ sym (positions_order_groups sides n e).1

pub ranks_below : (sides : Sides) (part : ℕ) (n : Nibbles) (squares : List (List ℕ)) → IsMaterial sides → IsPart sides part →
    EachInList sides part [] (groups_of sides n.men) squares → EachBelow (ranks_in_lists sides part [] squares) (ways_of sides part (groups_of sides n.men))
ranks_below sides part n squares m p h = each_below sides part [] [] (groups_of sides n.men) squares m p refl refl (laid_none sides) h

pub index_inside : (sides : Sides) (part : ℕ) (n : Nibbles) (squares : List (List ℕ)) → IsMaterial sides → IsPart sides part → has_valid_positions sides n ≡ true →
    EachInList sides part [] (groups_of sides n.men) squares →
    index_with (ranks_in_lists sides part [] squares) (counted sides part n).factors < product (counted sides part n).ways
unfolding counted
index_inside sides part n squares m p e h = let groups = groups_of sides n.men in
    index_below (positions_of n (length groups)) (ways_of sides part groups) (ranks_in_lists sides part [] squares)
    (positions_order_groups sides n e).0 (ways_many sides part n e) (ranks_below sides part n squares m p h)

pub squares_back : (sides : Sides) (part : ℕ) (n : Nibbles) (squares : List (List ℕ)) → IsMaterial sides → IsPart sides part → has_valid_positions sides n ≡ true →
    EachInList sides part [] (groups_of sides n.men) squares →
    squares_of_ranks sides part [] (zip (counted sides part n).groups (ranks_of_index (counted sides part n) (index_with (ranks_in_lists sides part [] squares) (counted sides part n).factors))) ≡ squares
unfolding counted
squares_back sides part n squares m p e h = let groups = groups_of sides n.men in
    ap (λ group_ranks. squares_of_ranks sides part [] (zip groups group_ranks))
    (digits_again (positions_of n (length groups)) (ways_of sides part groups) (ranks_in_lists sides part [] squares)
    (positions_order_groups sides n e).0 (ways_many sides part n e) (ranks_below sides part n squares m p h))
    ∙ squares_again sides part groups squares h

-- ---- the laws, from the ranks of squares in their lists

-- in a placement that has an index, each group of the normal form has a rank in its list
abbrev pub InLists : Type 0
InLists = (l : Layout) (board : Board) → IsLayout l → HasSpot l board →
    EachInList l.material (normal_of l board).part [] (groups_of l.material (nibbles_at l (normal_of l board).part (normal_of l board).side).men) (normal_of l board).squares

pub below_size_from : InLists → LawBelowSize
unfolding spot_of normal_of index_from
below_size_from lists l board h a =
    let normal = normal_of l board in
    let p = part_below l.material (pieces_of l.material board) in let s = side_below l board in
    index_inside l.material normal.part (nibbles_at l normal.part normal.side) normal.squares h.material p
    (ordered l.material (nibbles_at l normal.part normal.side) (order_none l normal.part normal.side h p s)).group_ranks (lists l board h a)

-- the squares of each group at an index
abbrev stated_at : Layout → ℕ → ℕ → ℕ → List (List ℕ)
stated_at l part side index = squares_of_ranks l.material part [] (zip (counted_at l part side).groups (ranks_of_index (counted_at l part side) index))

pub squares_stated_again : InLists → (l : Layout) (board : Board) → IsLayout l → HasSpot l board →
    stated_at l (spot_of l board).part (spot_of l board).side (spot_of l board).index ≡ (normal_of l board).squares
unfolding spot_of normal_of index_from
squares_stated_again lists l board h a =
    let normal = normal_of l board in
    let p = part_below l.material (pieces_of l.material board) in let s = side_below l board in
    squares_back l.material normal.part (nibbles_at l normal.part normal.side) normal.squares h.material p
    (ordered l.material (nibbles_at l normal.part normal.side) (order_none l normal.part normal.side h p s)).group_ranks (lists l board h a)

abbrev normal_at : Layout → Spot → Normal
normal_at l spot = record { part = spot.part; side = spot.side; squares = stated_at l spot.part spot.side spot.index }

normal_stated : InLists → (l : Layout) (board : Board) → IsLayout l → HasSpot l board → normal_at l (spot_of l board) ≡ normal_of l board
unfolding spot_of
normal_stated lists l board h a =
    ap (λ (squares : List (List ℕ)). let normal : Normal = record { part = (normal_of l board).part; side = (normal_of l board).side; squares = squares } in normal) (squares_stated_again lists l board h a)

spot_from : (l : Layout) (board : Board) → (normal : Normal) → normal ≡ normal_of l board →
    (let spot : Spot = record { part = normal.part; side = normal.side; index = index_from l.material (counted_at l normal.part normal.side) normal } in spot) ≡ spot_of l board
unfolding spot_of
spot_from l board normal e = ap (λ (n : Normal). let spot : Spot = record { part = n.part; side = n.side; index = index_from l.material (counted_at l n.part n.side) n } in spot) e

pub one_spot_from : InLists → LawOneSpot
one_spot_from lists l a b h x y = (
  λ e. sym (normal_stated lists l a h x) ∙ ap (normal_at l) e ∙ normal_stated lists l b h y,
  λ e. sym (spot_from l a (normal_of l a) refl) ∙ spot_from l b (normal_of l a) e,
)

allowed_side : (d s p : Bool) (queried : ℕ) (flag : ℕ) → (s ≡ true → queried ≡ 0) → (d && not (s && not p) && not (flag == queried)) ≡ false → (d && s && p && flag == 1) ≡ false
allowed_side true true true queried flag h e = let k = h refl in
    elim (cases_Bool (flag == 0)) [
      | inl t ↦ let z = eqb-true flag 0 t in rw z refl
      | inr f ↦ let g : not (flag == 0) ≡ false = subst (λ (n : ℕ). not (flag == n) ≡ false) k e in let c = rw f at g in cc
    ]
allowed_side true true false queried flag h e = refl
allowed_side true false p queried flag h e = refl
allowed_side false s p queried flag h e = refl

refusal_none : (a b : Bool) → a ≡ true → b ≡ false → cond (not a) (Some fault.Irregular) (cond b (Some fault.WrongSide) None) ≡ None
refusal_none a b e f = rw (e, f) refl

pub placement_of_spot_from : InLists → LawPlacementOfSpot
unfolding spot_of normal_of board_at normal_board placement_refusal chosen_groups counted
placement_of_spot_from lists l board h a =
    let normal = normal_of l board in
    let ok = allowed l board a.place in (
      refusal_none (is_regular l.material (chosen_groups l board)) (is_dtz l.kind && is_symmetric l.material && has_pawns l.material && stored_side l normal.part == 1)
          ok.regular (allowed_side (is_dtz l.kind) (is_symmetric l.material) (has_pawns l.material) (moving_side l.material board) (stored_side l normal.part) (requested_symmetric l.material board) ok.sided),
      ap (λ (squares : List (List ℕ)). let b : Board = record { placed_men = men_by_group (chosen_groups l board) squares; mover = mover_at l normal.part normal.side } in b)
          (squares_stated_again lists l board h a),
    )
