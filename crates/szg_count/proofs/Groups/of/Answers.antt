use Rattle.std.proofs.Common.{◌≡◌, ℕ, ◌<◌, ◌^◌, List, length, map, sym, ap, ◌∙◌, subst, true, false, refl}
use Rattle.std.specs.Prelude.{nat_lt}
use Rattle.std.specs.List.{range_with_len}
use Rattle.std.proofs.lemmas.List.FromFn.{length-map-range_with_len}
use Rattle.szg_count.specs.declared.OrderFault.TheVariants as fault
use Rattle.szg_count.specs.Groups.{order_fault, groups_of, product, lead_ways, has_other_pawns}
use Rattle.szg_count.specs.Views.{nibbles_in}
use Rattle.szg_count.specs.Steps.{group_from, ways_by, positions_from, are_valid_positions}
use Rattle.szg_count.proofs.Whole.{order_fault-pieces, order_fault-pawns, order_fault-position, order_fault-none, has_valid_positions-counted, counts, counts-fit, groups_in_slot_order-from, rearranged, pawns_first, groups_many, lengths_same, not_none}
use Rattle.szg_count.proofs.Positions.{length-positions_from}
use Rattle.szg_count.proofs.Groups.of.Goals as goal

pub returns-then-not-is_rearrangement-clause-ordered : goal.returns-then-not-is_rearrangement-clause-ordered
returns-then-not-is_rearrangement-clause-ordered c h =
    let sides = c.args.material.now in let n = nibbles_in c.args.order.now in
    let a = rearranged sides n.men c.as_slice-men.result.now c.as_slice.result.now c.is_rearrangement.result false c.as_slice-men.ensures.value
    (c.as_slice.ensures.value ∙ c.men-codes.ensures.codes) c.is_rearrangement.ensures c.if-not-is_rearrangement.true in
    not_none (order_fault sides n) fault.Pieces (order_fault-pieces sides n a) h

pub returns-then-not-is_rearrangement-clause-refused : goal.returns-then-not-is_rearrangement-clause-refused
returns-then-not-is_rearrangement-clause-refused c =
    let sides = c.args.material.now in let n = nibbles_in c.args.order.now in
    let a = rearranged sides n.men c.as_slice-men.result.now c.as_slice.result.now c.is_rearrangement.result false c.as_slice-men.ensures.value
    (c.as_slice.ensures.value ∙ c.men-codes.ensures.codes) c.is_rearrangement.ensures c.if-not-is_rearrangement.true in
    rw (order_fault-pieces sides n a) refl

pub returns-then-not-has_pawns_first-clause-ordered : goal.returns-then-not-has_pawns_first-clause-ordered
returns-then-not-has_pawns_first-clause-ordered c h =
    let sides = c.args.material.now in let n = nibbles_in c.args.order.now in
    let a = rearranged sides n.men c.as_slice-men.result.now c.as_slice.result.now c.is_rearrangement.result true c.as_slice-men.ensures.value
    (c.as_slice.ensures.value ∙ c.men-codes.ensures.codes) c.is_rearrangement.ensures c.if-not-is_rearrangement.false in
    let b = pawns_first sides n.men c.as_slice-men.result.now c.has_pawns_first.result false c.as_slice-men.ensures.value c.has_pawns_first.ensures c.if-not-has_pawns_first.true in
    not_none (order_fault sides n) fault.PawnsFirst (order_fault-pawns sides n a b) h

pub returns-then-not-has_pawns_first-clause-refused : goal.returns-then-not-has_pawns_first-clause-refused
returns-then-not-has_pawns_first-clause-refused c =
    let sides = c.args.material.now in let n = nibbles_in c.args.order.now in
    let a = rearranged sides n.men c.as_slice-men.result.now c.as_slice.result.now c.is_rearrangement.result true c.as_slice-men.ensures.value
    (c.as_slice.ensures.value ∙ c.men-codes.ensures.codes) c.is_rearrangement.ensures c.if-not-is_rearrangement.false in
    let b = pawns_first sides n.men c.as_slice-men.result.now c.has_pawns_first.result false c.as_slice-men.ensures.value c.has_pawns_first.ensures c.if-not-has_pawns_first.true in
    rw (order_fault-pawns sides n a b) refl

pub returns-then-not-are_valid_positions-clause-ordered : goal.returns-then-not-are_valid_positions-clause-ordered
returns-then-not-are_valid_positions-clause-ordered c h =
    let sides = c.args.material.now in let n = nibbles_in c.args.order.now in
    let a = rearranged sides n.men c.as_slice-men.result.now c.as_slice.result.now c.is_rearrangement.result true c.as_slice-men.ensures.value
    (c.as_slice.ensures.value ∙ c.men-codes.ensures.codes) c.is_rearrangement.ensures c.if-not-is_rearrangement.false in
    let b = pawns_first sides n.men c.as_slice-men.result.now c.has_pawns_first.result true c.as_slice-men.ensures.value c.has_pawns_first.ensures c.if-not-has_pawns_first.false in
    let many = groups_many sides n.men c.as_slice-men.result.now c.group_lengths-lengths.result.items c.len.result c.as_slice-men.ensures.value c.group_lengths-lengths.ensures.lengths c.len.ensures.value in
    let d = sym (has_valid_positions-counted sides n c.other_pawns-has_other.result c.len.result c.other_pawns-has_other.ensures many) ∙ sym c.are_valid_positions.ensures ∙ c.if-not-are_valid_positions.true in
    not_none (order_fault sides n) fault.OrderPlace (order_fault-position sides n a b d) h

pub returns-then-not-are_valid_positions-clause-refused : goal.returns-then-not-are_valid_positions-clause-refused
returns-then-not-are_valid_positions-clause-refused c =
    let sides = c.args.material.now in let n = nibbles_in c.args.order.now in
    let a = rearranged sides n.men c.as_slice-men.result.now c.as_slice.result.now c.is_rearrangement.result true c.as_slice-men.ensures.value
    (c.as_slice.ensures.value ∙ c.men-codes.ensures.codes) c.is_rearrangement.ensures c.if-not-is_rearrangement.false in
    let b = pawns_first sides n.men c.as_slice-men.result.now c.has_pawns_first.result true c.as_slice-men.ensures.value c.has_pawns_first.ensures c.if-not-has_pawns_first.false in
    let many = groups_many sides n.men c.as_slice-men.result.now c.group_lengths-lengths.result.items c.len.result c.as_slice-men.ensures.value c.group_lengths-lengths.ensures.lengths c.len.ensures.value in
    let d = sym (has_valid_positions-counted sides n c.other_pawns-has_other.result c.len.result c.other_pawns-has_other.ensures many) ∙ sym c.are_valid_positions.ensures ∙ c.if-not-are_valid_positions.true in
    rw (order_fault-position sides n a b d) refl

pub assembled-requires-clause-ways : goal.assembled-requires-clause-ways
assembled-requires-clause-ways c =
    let sides = c.args.material.now in
    let all = ap length (c.as_slice-5.ensures.value ∙ c.group_ways-ways.ensures.ways)
    ∙ length-map-range_with_len (ways_by (lead_ways sides c.args.part) (has_other_pawns sides) c.as_slice-3.result.now) 0 (length c.as_slice-3.result.now) in
    all ∙ ap length (c.as_slice-3.ensures.value ∙ sym c.as_slice-4.ensures.value)

pub assembled-requires-clause-positions : goal.assembled-requires-clause-positions
assembled-requires-clause-positions c =
    let same : c.len.result ≡ c.len-2.result = cc in
    let valid : are_valid_positions (nat_lt 0 c.other_pawns-has_other.result) c.args.order.now.lead c.args.order.now.other c.len-2.result ≡ true =
    ap (λ m. are_valid_positions (nat_lt 0 c.other_pawns-has_other.result) c.args.order.now.lead c.args.order.now.other m) (sym same) ∙ sym c.are_valid_positions.ensures ∙ c.if-not-are_valid_positions.false in
    ap length (c.as_slice-6.ensures.value ∙ c.positions_of-positions.ensures)
    ∙ length-positions_from (nat_lt 0 c.other_pawns-has_other.result) c.args.order.now.lead c.args.order.now.other c.len-2.result valid
    ∙ c.len-2.ensures.value ∙ ap length (sym c.as_slice-4.ensures.value)

pub assembled-requires-clause-fits : goal.assembled-requires-clause-fits
assembled-requires-clause-fits c =
    let sides = c.args.material.now in let n = nibbles_in c.args.order.now in
    let a = rearranged sides n.men c.as_slice-men.result.now c.as_slice.result.now c.is_rearrangement.result true c.as_slice-men.ensures.value
    (c.as_slice.ensures.value ∙ c.men-codes.ensures.codes) c.is_rearrangement.ensures c.if-not-is_rearrangement.false in
    let b = pawns_first sides n.men c.as_slice-men.result.now c.has_pawns_first.result true c.as_slice-men.ensures.value c.has_pawns_first.ensures c.if-not-has_pawns_first.false in
    let many = groups_many sides n.men c.as_slice-men.result.now c.group_lengths-lengths.result.items c.len.result c.as_slice-men.ensures.value c.group_lengths-lengths.ensures.lengths c.len.ensures.value in
    let d = sym (has_valid_positions-counted sides n c.other_pawns-has_other.result c.len.result c.other_pawns-has_other.ensures many) ∙ sym c.are_valid_positions.ensures ∙ c.if-not-are_valid_positions.false in
    let ls = lengths_same sides n.men c.as_slice-men.result.now c.group_lengths-lengths.result.items c.as_slice-men.ensures.value c.group_lengths-lengths.ensures.lengths in
    let ws = c.as_slice-5.ensures.value ∙ c.group_ways-ways.ensures.ways ∙ ap (λ l. counts sides c.args.part l) (c.as_slice-3.ensures.value ∙ ls) in
    subst (λ (l : List ℕ). product l < 2 ^ 33) (sym ws) (counts-fit sides c.args.part n c.men-codes.ensures.material c.requires (order_fault-none sides n a b d))

pub returns-clause-ordered : goal.returns-clause-ordered
returns-clause-ordered c h =
    let sides = c.args.material.now in let n = nibbles_in c.args.order.now in
    let many = groups_many sides n.men c.as_slice-men.result.now c.group_lengths-lengths.result.items c.len.result c.as_slice-men.ensures.value c.group_lengths-lengths.ensures.lengths c.len.ensures.value in
    let again = groups_many sides n.men c.as_slice-men.result.now c.group_lengths-lengths.result.items c.len-2.result c.as_slice-men.ensures.value c.group_lengths-lengths.ensures.lengths c.len-2.ensures.value in
    let d = sym (has_valid_positions-counted sides n c.other_pawns-has_other.result c.len.result c.other_pawns-has_other.ensures many) ∙ sym c.are_valid_positions.ensures ∙ c.if-not-are_valid_positions.false in
    let items = lengths_same sides n.men c.as_slice-men.result.now c.group_lengths-lengths.result.items c.as_slice-men.ensures.value c.group_lengths-lengths.ensures.lengths in
    let ls = c.as_slice-4.ensures.value ∙ items in
    let ws = c.as_slice-5.ensures.value ∙ c.group_ways-ways.ensures.ways ∙ ap (λ l. counts sides c.args.part l) (c.as_slice-3.ensures.value ∙ items) in
    let ps = c.as_slice-6.ensures.value ∙ c.positions_of-positions.ensures ∙ ap (λ m. positions_from c.args.order.now.lead c.args.order.now.other m) again in
    let made = c.assembled.ensures
    ∙ ap (λ l. map (group_from l c.as_slice-5.result.now c.as_slice-6.result.now) (range_with_len 0 (length l))) ls
    ∙ ap (λ l. map (group_from (map (λ group. length group) (groups_of sides n.men)) l c.as_slice-6.result.now) (range_with_len 0 (length (map (λ group. length group) (groups_of sides n.men))))) ws
    ∙ ap (λ l. map (group_from (map (λ group. length group) (groups_of sides n.men)) (counts sides c.args.part (map (λ group. length group) (groups_of sides n.men))) l) (range_with_len 0 (length (map (λ group. length group) (groups_of sides n.men))))) ps
    ∙ groups_in_slot_order-from sides c.args.part n d in
    cc

pub returns-clause-refused : goal.returns-clause-refused
returns-clause-refused c =
    let sides = c.args.material.now in let n = nibbles_in c.args.order.now in
    let a = rearranged sides n.men c.as_slice-men.result.now c.as_slice.result.now c.is_rearrangement.result true c.as_slice-men.ensures.value
    (c.as_slice.ensures.value ∙ c.men-codes.ensures.codes) c.is_rearrangement.ensures c.if-not-is_rearrangement.false in
    let b = pawns_first sides n.men c.as_slice-men.result.now c.has_pawns_first.result true c.as_slice-men.ensures.value c.has_pawns_first.ensures c.if-not-has_pawns_first.false in
    let many = groups_many sides n.men c.as_slice-men.result.now c.group_lengths-lengths.result.items c.len.result c.as_slice-men.ensures.value c.group_lengths-lengths.ensures.lengths c.len.ensures.value in
    let d = sym (has_valid_positions-counted sides n c.other_pawns-has_other.result c.len.result c.other_pawns-has_other.ensures many) ∙ sym c.are_valid_positions.ensures ∙ c.if-not-are_valid_positions.false in
    rw (order_fault-none sides n a b d) tt
