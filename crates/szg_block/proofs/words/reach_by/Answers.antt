use Rattle.std.proofs.Common.{ℕ, ◌<◌, List, [], length, ap, ◌∙◌, arith}
use Rattle.szg_code.specs.Cursor.{Cursor}
use Rattle.szg_pairs.specs.Expansion.{expansion_of}
use Rattle.szg_block.specs.Spelled.{values_spelled}
use Rattle.szg_block.proofs.Ahead.{few_values, is_reached, passed}
use Rattle.szg_block.proofs.Spelling.{values_spelled-taken, length-values_spelled-taken}
use Rattle.szg_block.proofs.words.reach_by.Goals as goal

pub words-preserved : goal.words-preserved
words-preserved g c =
    let code = c.args.code.now in
    let entries : List (List ℕ) = c.args.dict.now in
    let all : List ℕ = values_spelled code entries c.args.left.left in
    let is = c.skip-ahead.ensures.ahead all c.args.index c.words.invariant in
    passed code entries all c.args.index _ _ is c.next_endless.new.words (expansion_of entries c.in_ok-symbol.symbol) c.from-count.result
    (c.from-count.ensures ∙ c.lengths-lengths.ensures.each c.in_ok-symbol.symbol (omega (arith, c.in_ok-symbol.ensures.there, c.requires.symbols))) (omega (arith, c.if-ahead-count.false))
    (λ inside. let t = c.in_ok-symbol.ensures.found inside in (t.0, values_spelled-taken code c.requires.accepted entries _ c.next_endless.new.words.cursor c.in_ok-symbol.symbol t.1))
    (λ past. few_values code entries all c.args.index _ _ is (c.in_ok-symbol.ensures.past past))

pub returns-in-Some-clause-found : goal.returns-in-Some-clause-found
returns-in-Some-clause-found g c =
    let all : List ℕ = values_spelled c.args.code.now c.args.dict.now c.args.left.left in
    c.in-Some.ensures all c.args.index (c.skip-ahead.ensures.ahead all c.args.index c.words.invariant)

pub returns-in_err-symbol-clause-none : goal.returns-in_err-symbol-clause-none
returns-in_err-symbol-clause-none g c =
    let all : List ℕ = values_spelled c.args.code.now c.args.dict.now c.args.left.left in
    let is = c.skip-ahead.ensures.ahead all c.args.index c.words.invariant in
    rw c.from_residual.ensures (few_values c.args.code.now c.args.dict.now all c.args.index _ _ is c.in_err-symbol.ensures.none)

pub returns-in_err-left-clause-none : goal.returns-in_err-left-clause-none
returns-in_err-left-clause-none g c =
    let all : List ℕ = values_spelled c.args.code.now c.args.dict.now c.args.left.left in
    let is = c.skip-ahead.ensures.ahead all c.args.index c.words.invariant in
    rw c.from_residual-in_err-left.ensures (few_values c.args.code.now c.args.dict.now all c.args.index _ _ is (c.in_ok-symbol.ensures.past c.in_err-left.ensures.past.0))

pub returns-then-ahead-count-clause-found : goal.returns-then-ahead-count-clause-found
returns-then-ahead-count-clause-found g c =
    let code = c.args.code.now in
    let entries : List (List ℕ) = c.args.dict.now in
    let all : List ℕ = values_spelled code entries c.args.left.left in
    let is = c.skip-ahead.ensures.ahead all c.args.index c.words.invariant in
    let within = c.in_ok-left.ensures.within in
    let taken = c.in_ok-symbol.ensures.found within.0 in
    let e = values_spelled-taken code c.requires.accepted entries _ c.next_endless.new.words.cursor c.in_ok-symbol.symbol taken.1 in
    let n = length-values_spelled-taken code c.requires.accepted entries _ c.next_endless.new.words.cursor c.in_ok-symbol.symbol taken.1 in
    let same = ap (λ (k : Cursor). length (values_spelled code entries k.left)) within.1 in
    let there : c.in_ok-symbol.symbol < length entries = omega (arith, c.in_ok-symbol.ensures.there, c.requires.symbols) in
    let each = c.lengths-lengths.ensures.each c.in_ok-symbol.symbol there in
    let count = c.from-count.ensures ∙ each in
    let few = c.lengths-lengths.ensures.at_most c.in_ok-symbol.symbol there in
    is_reached code entries all c.args.index _ _ is _ [] (values_spelled code entries c.next_endless.new.words.cursor.left) taken.0
    there (omega (arith, each, few)) e
    (omega arith) (omega arith) (omega (arith, count, c.if-ahead-count.true)) (omega (arith, c.if-ahead-count.true)) (omega (arith, n, same, count, c.if-ahead-count.true))
