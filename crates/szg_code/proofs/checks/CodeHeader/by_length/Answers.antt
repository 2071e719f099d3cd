use Rattle.std.proofs.Common.{List, ℕ, ◌≡◌, ◌+◌, ◌-◌, ◌^◌, ◌<◌, ◌≤◌, length, get_or, ap, ◌∙◌, arith}
use Rattle.std.proofs.lemmas.List.{length-set}
use Rattle.szg_code.specs.Canonical.{CanonicalCode, base, lowest_of}
use Rattle.szg_code.specs.CodeHeader.{code_of}
use Rattle.szg_code.specs.Least.{shifted_base, zero_symbol}
use Rattle.szg_code.proofs.BaseSteps.{items_between, shift_whole}
use Rattle.szg_code.proofs.Prefixes.{zero_symbol-is}
use Rattle.szg_code.proofs.checks.CodeHeader.by_length.Goals as goal

pub loop-length-preserved : goal.loop-length-preserved
loop-length-preserved c =
    let code : CanonicalCode = code_of c.args.self.now in
    let xs : List ℕ = c.loop-length.shifted in
    let ys : List ℕ = c.loop-length.symbols in
    let l : ℕ = c.loop-length.length in
    let inv = c.loop-length.invariant in
    let xs_placed : length xs ≡ 34 = inv.shifted_placed in
    let ys_placed : length ys ≡ 33 = inv.symbols_placed in
    let each : length code.lowest + code.min_length ≡ code.max_length + 1 = c.requires.accepted.lengths.each in
    let most : code.max_length ≤ 32 = c.requires.accepted.lengths.at_most in
    let min : c.from-min.result ≡ code.min_length = c.from-min.ensures in
    let long : code.min_length ≤ l = omega (arith, min, c.loop-length.auto.length) in
    let short : l ≤ code.max_length = omega (arith, c.loop-length-test.true, c.from-length-end.ensures) in
    let at : code.min_length + (l - code.min_length) ≡ l = omega (arith, long) in
    let b : c.from-base.result ≡ base code l = c.from-base.ensures ∙ ap (λ (m : ℕ). get_or c.args.bases.now (l - m) 0) min ∙ c.requires.bases (l - code.min_length) (omega (arith, each, long, short)) ∙ ap (base code) at in
    let low : c.from-first.result ≡ get_or code.lowest (l - code.min_length) 0 =
    c.from-first.ensures ∙ ap (λ (m : ℕ). get_or c.deref-lowest.result.now (l - m) 0) min ∙ ap (λ (xs : List ℕ). get_or xs (l - code.min_length) 0) c.deref-lowest.ensures.value in
    record {
      shifted_placed = length-set xs l _ ∙ xs_placed;
      shifted = items_between (λ (k : ℕ) (n : ℕ). n ≡ shifted_base code 64 k) xs code.min_length l _ (omega (arith, xs_placed, short, most)) inv.shifted
          (shift_whole code c.requires.accepted l c.from-base.result long short b);
      symbols_placed = length-set ys l _ ∙ ys_placed;
      symbols = items_between (λ (k : ℕ) (n : ℕ). (lowest_of code k < 2 ^ 16) × (n ≡ zero_symbol code k)) ys code.min_length l _ (omega (arith, ys_placed, short, most)) inv.symbols
          (zero_symbol-is code l c.from-first.result c.from-base.result low (let fit = c.type_inv.lowest (l - c.from-min.result) in omega (arith, fit, c.from-first.ensures)) b);
    }
