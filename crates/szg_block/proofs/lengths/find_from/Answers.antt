use Rattle.std.proofs.Common.{◌+◌, ◌/◌, ◌%◌, ◌^◌, ◌<◌, ◌≤◌, arith}
use Rattle.szg_block.proofs.ByEntry.{led_back, led_on, none_map, some_map}
use Rattle.szg_block.proofs.Powers.{shifted_one}
use Rattle.szg_block.proofs.lengths.find_from.Goals as goal

pub returns-then-at-middle-clause-location : goal.returns-then-at-middle-clause-location
returns-then-at-middle-clause-location g c = λ good.
    let w = shifted_one c.args.span_bits (omega (arith, c.requires.bits)) in
    let h : 2 ^ c.args.span_bits / 2 ≤ c.args.i % 2 ^ c.args.span_bits + c.args.offset = rw w at c.if-at-middle.true in
    let on = led_on (g.I.BlockIndex.lengths c.args.index.now) c.args.span_bits c.args.i (record { block = c.args.first; offset = c.args.offset }) good h in
    rw (w, on) at c.walk_on.ensures.location

pub returns-then-at-middle-clause-none : goal.returns-then-at-middle-clause-none
returns-then-at-middle-clause-none g c = λ good.
    let w = shifted_one c.args.span_bits (omega (arith, c.requires.bits)) in
    let h : 2 ^ c.args.span_bits / 2 ≤ c.args.i % 2 ^ c.args.span_bits + c.args.offset = rw w at c.if-at-middle.true in
    let on = led_on (g.I.BlockIndex.lengths c.args.index.now) c.args.span_bits c.args.i (record { block = c.args.first; offset = c.args.offset }) good h in
    rw (w, on) at c.walk_on.ensures.none

pub returns-else-at-middle-clause-location : goal.returns-else-at-middle-clause-location
returns-else-at-middle-clause-location g c = λ good.
    let w = shifted_one c.args.span_bits (omega (arith, c.requires.bits)) in
    let h : c.args.i % 2 ^ c.args.span_bits + c.args.offset < 2 ^ c.args.span_bits / 2 = rw w at c.if-at-middle.false in
    let back = led_back (g.I.BlockIndex.lengths c.args.index.now) c.args.span_bits c.args.i (record { block = c.args.first; offset = c.args.offset }) good h in
    some_map c.walk_back.result _ _ (rw (w, back) at c.walk_back.ensures.location) (λ at is. omega (arith, is))

pub returns-else-at-middle-clause-none : goal.returns-else-at-middle-clause-none
returns-else-at-middle-clause-none g c = λ good.
    let w = shifted_one c.args.span_bits (omega (arith, c.requires.bits)) in
    let h : c.args.i % 2 ^ c.args.span_bits + c.args.offset < 2 ^ c.args.span_bits / 2 = rw w at c.if-at-middle.false in
    let back = led_back (g.I.BlockIndex.lengths c.args.index.now) c.args.span_bits c.args.i (record { block = c.args.first; offset = c.args.offset }) good h in
    none_map c.walk_back.result (rw (w, back) at c.walk_back.ensures.none) (λ before. absurd (omega (arith, before good.0)))
