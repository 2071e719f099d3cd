use Rattle.std.proofs.Common.{ℕ, ◌+◌, ◌-◌, List, [], ◌++◌, length, ap, sym, ◌∙◌, subst, arith, length-append}
use Rattle.szg_code.specs.Cursor.{Cursor, EndlessCursor}
use Rattle.szg_pairs.specs.Expansion.{expansion_of}
use Rattle.szg_block.specs.Reached.{IsAhead, IsReached}
use Rattle.szg_block.specs.declared.words.Reached.{Reached}
use Rattle.szg_block.specs.Spelled.{values_spelled}
use Rattle.szg_block.proofs.Ahead.{is_reached}
use Rattle.szg_block.proofs.Spelling.{values_spelled-taken_two}
use Rattle.szg_block.proofs.words.reach_in_two.Goals.{then-ahead-before, else-ahead-before}
use Rattle.szg_block.proofs.words.reach_in_two.Goals as goal

pub returns : goal.returns
returns c =
    let code = c.args.code.now in
    let entries : List (List ℕ) = c.args.dict.now in
    let old : EndlessCursor = c.copied-next.result in
    let new = c.next_two.new.words in
    let within = c.in_ok-left.ensures.within in
    let taken = c.in_ok-first.ensures.found within.0 in
    let xs : List ℕ = expansion_of entries c.in_ok-first.first in
    let ys : List ℕ = expansion_of entries c.in_ok-first.second in
    let rest : List ℕ = values_spelled code entries new.cursor.left in
    let e = values_spelled-taken_two code c.requires.accepted entries old.cursor new.cursor c.in_ok-first.first c.in_ok-first.second taken.1 in
    let n = ap (λ u. length u) e ∙ length-append xs (ys ++ rest) in
    let m = length-append ys rest in
    let same = ap (λ (k : Cursor). length (values_spelled code entries k.left)) within.1 in
    let first = c.from-before.ensures ∙ c.len.ensures.number in
    let second = c.from.ensures ∙ c.len-2.ensures.number in
    let reached : ℕ × ℕ → Reached = λ p. record { symbol = p.0; index = p.1; decoded = c.from-before.result + c.from.result - c.args.ahead; left = c.in_ok-left.left } in
    λ all i at.
    let is = subst (λ (k : EndlessCursor). IsAhead code entries all i k c.args.ahead) (sym c.copied-next.ensures) at in
    elim c.if-ahead-before.branch [
      | then-ahead-before w ↦
          subst (λ (p : ℕ × ℕ). IsReached code entries all i (reached p)) (sym w.symbol-is)
          (is_reached code entries all i old c.args.ahead is _ [] (ys ++ rest) taken.0 (omega (arith, c.in_ok-first.ensures.there, c.requires.symbols)) (omega (arith, c.len.ensures.number, c.len.ensures.at_most)) e
          (omega arith) (omega arith) (omega (arith, first, w.if-ahead-before.true)) (omega (arith, c.if-ahead-count.false)) (omega (arith, n, m, same, first, second, c.if-ahead-count.false)))
      | else-ahead-before w ↦
          subst (λ (p : ℕ × ℕ). IsReached code entries all i (reached p)) (sym w.symbol-is)
          (is_reached code entries all i old c.args.ahead is _ xs rest taken.0 (omega (arith, c.in_ok-first.ensures.there, c.requires.symbols)) (omega (arith, c.len-2.ensures.number, c.len-2.ensures.at_most)) e
          (omega (arith, first, w.if-ahead-before.false)) (omega (arith, first)) (omega (arith, first, second, c.if-ahead-count.false, w.if-ahead-before.false)) (omega (arith, c.if-ahead-count.false)) (omega (arith, n, m, same, first, second, c.if-ahead-count.false)))
    ]
