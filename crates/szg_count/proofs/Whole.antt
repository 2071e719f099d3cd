-- The checks of an order one after another, and the groups made from lists of lengths, ways and positions.
use Rattle.std.proofs.Common.{◌≡◌, ℕ, ◌^◌, ◌<◌, List, length, map, refl, sym, ap, ◌∙◌, subst, Bool, true, false, cond, arith}
use Rattle.std.specs.Prelude.{nat_lt, Option, Some, None, is_some}
use Rattle.std.specs.List.{range_with_len}
use Rattle.std.proofs.Math.Bool.{not}
use Rattle.std.proofs.lemmas.List.{get_or-map, length-map}
use Rattle.szg_values.specs.Material.{Sides, IsMaterial, man_codes, other_pawns}
use Rattle.szg_count.specs.declared.OrderFault.{OrderFault}
use Rattle.szg_count.specs.declared.OrderFault.TheVariants as fault
use Rattle.szg_count.specs.declared.Group.{Group}
use Rattle.szg_count.specs.Groups.{Nibbles, IsPart, is_rearrangement, has_pawns_first, has_valid_positions, has_other_pawns, order_fault, groups_of, counted, lead_ways, group_ways, ways_of, factors_of, ways_before, product}
use Rattle.szg_count.specs.Views.{group_at, groups_in_slot_order}
use Rattle.szg_count.specs.Steps.{are_valid_positions, positions_from, ways_by, group_from}
use Rattle.szg_count.proofs.Sizes.{size_below}
use Rattle.szg_count.proofs.Pawns.{has_other_pawns-counted}
use Rattle.szg_count.proofs.Counts.{group_ways-by, sum-take, length-at}
use Rattle.szg_count.proofs.Positions.{length-positions_from, map-range-same}

-- ---- the checks

abbrev chain : Bool → Bool → Bool → Option OrderFault
chain a b c = cond (not a) (Some fault.Pieces) (cond (not b) (Some fault.PawnsFirst) (cond (not c) (Some fault.OrderPlace) None))

first_fails : (a b c : Bool) → a ≡ false → chain a b c ≡ Some fault.Pieces
first_fails true b c e = cc
first_fails false b c e = refl

second_fails : (a b c : Bool) → a ≡ true → b ≡ false → chain a b c ≡ Some fault.PawnsFirst
second_fails true true c e f = cc
second_fails true false c e f = refl
second_fails false b c e f = cc

third_fails : (a b c : Bool) → a ≡ true → b ≡ true → c ≡ false → chain a b c ≡ Some fault.OrderPlace
third_fails true true true e f g = cc
third_fails true true false e f g = refl
third_fails true false c e f g = cc
third_fails false b c e f g = cc

none_fails : (a b c : Bool) → a ≡ true → b ≡ true → c ≡ true → chain a b c ≡ None
none_fails true true true e f g = refl
none_fails true true false e f g = cc
none_fails true false c e f g = cc
none_fails false b c e f g = cc

pub order_fault-pieces : (sides : Sides) (n : Nibbles) → is_rearrangement n.men (man_codes sides) ≡ false → order_fault sides n ≡ Some fault.Pieces
unfolding order_fault
order_fault-pieces sides n e = first_fails (is_rearrangement n.men (man_codes sides)) (has_pawns_first sides n.men) (has_valid_positions sides n) e

pub order_fault-pawns : (sides : Sides) (n : Nibbles) → is_rearrangement n.men (man_codes sides) ≡ true → has_pawns_first sides n.men ≡ false → order_fault sides n ≡ Some fault.PawnsFirst
unfolding order_fault
order_fault-pawns sides n e f = second_fails (is_rearrangement n.men (man_codes sides)) (has_pawns_first sides n.men) (has_valid_positions sides n) e f

pub order_fault-position : (sides : Sides) (n : Nibbles) → is_rearrangement n.men (man_codes sides) ≡ true → has_pawns_first sides n.men ≡ true → has_valid_positions sides n ≡ false →
    order_fault sides n ≡ Some fault.OrderPlace
unfolding order_fault
order_fault-position sides n e f g = third_fails (is_rearrangement n.men (man_codes sides)) (has_pawns_first sides n.men) (has_valid_positions sides n) e f g

pub order_fault-none : (sides : Sides) (n : Nibbles) → is_rearrangement n.men (man_codes sides) ≡ true → has_pawns_first sides n.men ≡ true → has_valid_positions sides n ≡ true →
    order_fault sides n ≡ None
unfolding order_fault
order_fault-none sides n e f g = none_fails (is_rearrangement n.men (man_codes sides)) (has_pawns_first sides n.men) (has_valid_positions sides n) e f g

-- valid positions in the code's terms
pub has_valid_positions-counted : (sides : Sides) (n : Nibbles) (other count : ℕ) → other ≡ other_pawns sides → count ≡ length (groups_of sides n.men) →
    are_valid_positions (nat_lt 0 other) n.lead n.other count ≡ has_valid_positions sides n
has_valid_positions-counted sides n other count e f =
    ap (λ m. are_valid_positions (nat_lt 0 m) n.lead n.other count) e
    ∙ ap (λ b. are_valid_positions b n.lead n.other count) (has_other_pawns-counted sides)
    ∙ ap (λ m. are_valid_positions (has_other_pawns sides) n.lead n.other m) f

-- ---- the results

abbrev lengths : List (List ℕ) → List ℕ
lengths gs = map (λ group. length group) gs

abbrev pub counts : Sides → ℕ → List ℕ → List ℕ
counts sides part ls = map (ways_by (lead_ways sides part) (has_other_pawns sides) ls) (range_with_len 0 (length ls))

counts-ways_of : (sides : Sides) (part : ℕ) (gs : List (List ℕ)) → counts sides part (lengths gs) ≡ ways_of sides part gs
counts-ways_of sides part gs =
    ap (λ n. map (ways_by (lead_ways sides part) (has_other_pawns sides) (lengths gs)) (range_with_len 0 n)) (length-map gs (λ group. length group))
    ∙ map-range-same (ways_by (lead_ways sides part) (has_other_pawns sides) (lengths gs)) (group_ways sides part gs) 0 (length gs) (λ i p q. sym (group_ways-by sides part gs i))

pub counts-fit : (sides : Sides) (part : ℕ) (n : Nibbles) → IsMaterial sides → IsPart sides part → order_fault sides n ≡ None →
    product (counts sides part (lengths (groups_of sides n.men))) < 2 ^ 33
unfolding counted
counts-fit sides part n h i o = let s = size_below sides part n h i o in
    subst (λ (l : List ℕ). product l < 2 ^ 33) (sym (counts-ways_of sides part (groups_of sides n.men))) s

abbrev group : ℕ → ℕ → ℕ → ℕ → Group
group a b c d = record { first = a; length = b; ways = c; factor = d }

same_group : (a b c d x y z : ℕ) → a ≡ x → b ≡ y → d ≡ z → group a b c d ≡ group x y c z
same_group a b c d x y z e f g = ap (λ n. group n b c d) e ∙ ap (λ n. group x n c d) f ∙ ap (λ n. group x y c n) g

-- the groups from lists are those of the definition
pub groups_in_slot_order-from : (sides : Sides) (part : ℕ) (n : Nibbles) → has_valid_positions sides n ≡ true →
    map (group_from (lengths (groups_of sides n.men)) (counts sides part (lengths (groups_of sides n.men))) (positions_from n.lead n.other (length (groups_of sides n.men))))
    (range_with_len 0 (length (lengths (groups_of sides n.men))))
    ≡ groups_in_slot_order (counted sides part n)
unfolding groups_in_slot_order counted factors_of
groups_in_slot_order-from sides part n h =
    let gs = groups_of sides n.men in
    let ways = ways_of sides part gs in
    let positions = positions_from n.lead n.other (length gs) in
    let many = length-positions_from (has_other_pawns sides) n.lead n.other (length gs) h in
    ap (λ ws. map (group_from (lengths gs) ws positions) (range_with_len 0 (length (lengths gs)))) (counts-ways_of sides part gs)
    ∙ ap (λ m. map (group_from (lengths gs) ways positions) (range_with_len 0 m)) (length-map gs (λ group. length group))
    ∙ map-range-same (group_from (lengths gs) ways positions) (group_at (counted sides part n)) 0 (length gs)
    (λ i p q. same_group _ _ _ _ _ _ _ (sym (sum-take i gs)) (sym (length-at i gs))
    (sym (get_or-map (λ position. product (ways_before position positions ways)) positions i 0 0 (omega (arith, many, q)))))

-- ---- the program's steps, on their arguments

pub rearranged : (sides : Sides) (men used codes : List ℕ) (b v : Bool) → used ≡ men → codes ≡ man_codes sides → b ≡ is_rearrangement used codes → b ≡ v →
    is_rearrangement men (man_codes sides) ≡ v
rearranged sides men used codes b v e f g h =
    ap (λ l. is_rearrangement l (man_codes sides)) (sym e) ∙ ap (λ l. is_rearrangement used l) (sym f) ∙ sym g ∙ h

pub pawns_first : (sides : Sides) (men used : List ℕ) (b v : Bool) → used ≡ men → b ≡ has_pawns_first sides used → b ≡ v → has_pawns_first sides men ≡ v
pawns_first sides men used b v e g h = ap (λ l. has_pawns_first sides l) (sym e) ∙ sym g ∙ h

pub groups_many : (sides : Sides) (men used ls : List ℕ) (count : ℕ) → used ≡ men → ls ≡ lengths (groups_of sides used) → count ≡ length ls → count ≡ length (groups_of sides men)
groups_many sides men used ls count e f g =
    g ∙ ap length f ∙ length-map (groups_of sides used) (λ group. length group) ∙ ap (λ l. length (groups_of sides l)) e

pub lengths_same : (sides : Sides) (men used ls : List ℕ) → used ≡ men → ls ≡ lengths (groups_of sides used) → ls ≡ lengths (groups_of sides men)
lengths_same sides men used ls e f = f ∙ ap (λ l. lengths (groups_of sides l)) e

-- a fault is not none
pub not_none : {A : Type 0} (o : Option OrderFault) (f : OrderFault) → o ≡ Some f → is_some o ≡ false → A
not_none o f e h = absurd (let k : is_some (Some f) ≡ false = ap (λ (x : Option OrderFault). is_some x) (sym e) ∙ h in cc)
