use Rattle.std.proofs.Common.{ℕ, ◌≡◌, ◌+◌, ◌-◌, ◌/◌, ◌^◌, ◌<◌, length, ap, sym, ◌∙◌, arith}
use Rattle.std.proofs.lemmas.Option.{slice_get-get_or}
use Rattle.szg_block.specs.Sound.{middle_of_span}
use Rattle.szg_block.proofs.KeptLayouts.{good_before, middle_first, middle_next}
use Rattle.szg_block.proofs.Powers.{shifted_one}
use Rattle.szg_block.proofs.lengths.kept_middle.Goals as goal

pub returns-then-n-eq0-clause-good : goal.returns-then-n-eq0-clause-good
returns-then-n-eq0-clause-good c = λ kept.
    let w = shifted_one c.args.span_bits (omega (arith, c.requires.bits)) in
    (omega arith, rw (w, c.if-n-eq0.true) (middle_first c.args.lengths.now c.args.span_bits))

pub returns-clause-good : goal.returns-clause-good
returns-clause-good c = λ kept.
    let w = shifted_one c.args.span_bits (omega (arith, c.requires.bits)) in
    let n : ℕ = c.args.i / 2 ^ c.args.span_bits in
    let next : n ≡ (n - 1) + 1 = omega (arith, c.if-n-eq0.false) in
    let here : n - 1 < length c.args.sparse.now = omega (arith, c.requires.there) in
    let at = slice_get-get_or c.args.sparse.now (n - 1) (record { block = 0; offset = 0 }) here in
    let good = good_before c.args.sparse.now c.args.lengths.now c.args.span_bits c.args.i kept c.args.entry c.requires.entry (n - 1) _ next at in
    let middle = middle_next c.args.lengths.now c.args.span_bits (n - 1) _ good ∙ ap (λ (k : ℕ). middle_of_span c.args.span_bits k) (sym next) in
    (good.0, rw (w, c.from-2.ensures) middle)
