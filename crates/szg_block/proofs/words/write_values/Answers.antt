use Rattle.std.proofs.Common.{ℕ, ◌≡◌, ◌-◌, ◌++◌, List, length, take, ap, sym, ◌∙◌, arith, length-append}
use Rattle.szg_code.specs.Cursor.{Cursor}
use Rattle.szg_pairs.specs.Expansion.{expansion_of}
use Rattle.szg_block.specs.Spelled.{values_spelled}
use Rattle.szg_block.proofs.Spelling.{values_spelled-none, values_spelled-taken, values_spelled-taken_two}
use Rattle.szg_block.proofs.words.write_values.Goals.{then-two+in_default, else-two}
use Rattle.szg_block.proofs.words.write_values.Goals as goal

pub unreachable-requires : goal.unreachable-requires
unreachable-requires c =
    let same : c.if-two.words ≡ c.words.words = elim c.if-two.branch [ then-two+in_default w ↦ w.words-is ∙ w.in_default.ensures.none | else-two w ↦ w.words-is ] in
    let e = values_spelled-none c.args.code.now c.args.dict.now c.if-two.words.left c.in_default-next.ensures.none.0 in
    let n = ap (λ (k : Cursor). length (values_spelled c.args.code.now c.args.dict.now k.left)) same in
    omega (arith, ap (λ u. length u) e, n, c.words.invariant.within, c.words-test.true)

pub words-preserved : goal.words-preserved
words-preserved c =
    let code = c.args.code.now in
    let entries : List (List ℕ) = c.args.dict.now in
    let values : List ℕ = c.words.values in
    let xs : List ℕ = expansion_of entries c.in-Some-next.symbol in
    let rest : List ℕ = values_spelled code entries c.next.new.bits.left in
    let same : c.if-two.words ≡ c.words.words = elim c.if-two.branch [ then-two+in_default w ↦ w.words-is ∙ w.in_default.ensures.none | else-two w ↦ w.words-is ] in
    let e = ap (λ (k : Cursor). values_spelled code entries k.left) (sym same)
    ∙ values_spelled-taken code c.requires.accepted entries c.if-two.words c.next.new.bits c.in-Some-next.symbol c.in-Some-next.ensures.found in
    let n = ap (λ u. length u) e ∙ length-append xs rest in
    let w = c.write_word-at-in-words.ensures in
    record {
      there = omega (arith, w.long, w.at, c.words.invariant.there);
      within = omega (arith, w.long, w.at, n, c.words.invariant.within);
      joined = w.written rest ∙ ap (λ u. take c.words.at values ++ take (length values - c.words.at) u) (sym e) ∙ c.words.invariant.joined;
    }

pub words-preserved-in-Some : goal.words-preserved-in-Some
words-preserved-in-Some c =
    let code = c.args.code.now in
    let entries : List (List ℕ) = c.args.dict.now in
    let values : List ℕ = c.words.values in
    let xs : List ℕ = expansion_of entries c.in-Some.first in
    let ys : List ℕ = expansion_of entries c.in-Some.second in
    let rest : List ℕ = values_spelled code entries c.next_two_if.new.words.left in
    let e = values_spelled-taken_two code c.requires.accepted entries c.words.words c.next_two_if.new.words c.in-Some.first c.in-Some.second c.in-Some.ensures.found in
    let n = ap (λ u. length u) e ∙ length-append xs (ys ++ rest) in
    let m = length-append ys rest in
    let v = c.write_word-at.ensures in
    let w = c.write_word-at-in-Some.ensures in
    record {
      there = omega (arith, v.long, w.long, v.at, w.at, c.words.invariant.there);
      within = omega (arith, v.long, w.long, v.at, w.at, n, m, c.words.invariant.within);
      joined = w.written rest ∙ v.written (ys ++ rest) ∙ ap (λ u. take c.words.at values ++ take (length values - c.words.at) u) (sym e) ∙ c.words.invariant.joined;
    }
