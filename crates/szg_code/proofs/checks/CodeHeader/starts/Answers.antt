use Rattle.std.proofs.Common.{ℕ, ◌≡◌, ◌≤◌, List, length, ◌∙◌, arith}
use Rattle.std.proofs.lemmas.List.{length-set}
use Rattle.szg_code.specs.CodeHeader.{code_of}
use Rattle.szg_code.specs.Least.{IsStart}
use Rattle.szg_code.proofs.BaseSteps.{items_next}
use Rattle.szg_code.proofs.checks.CodeHeader.starts.Goals as goal

pub reached_length_from-requires : goal.reached_length_from-requires
reached_length_from-requires c =
    let order : c.args.self.now.min ≤ c.args.self.now.max = c.requires.accepted.lengths.in_order in
    let min : c.from.result ≡ c.args.self.now.min = c.from.ensures in
    record {
      accepted = c.requires.accepted;
      bases = c.requires.bases;
      long = omega (arith, min);
      short = omega (arith, min, order);
      before = λ k long less. absurd (omega (arith, min, long, less));
    }

pub overflow_cast-starts : goal.overflow_cast-starts
overflow_cast-starts c = let most : c.args.self.now.max ≤ 32 = c.requires.accepted.lengths.at_most in omega (arith, most, c.reached_length_from.ensures.short)

pub loop-first-preserved : goal.loop-first-preserved
loop-first-preserved c =
    let xs : List ℕ = c.loop-first.starts in
    let j : ℕ = c.loop-first.first in
    let v : ℕ = c.reached_length_from.result in
    let placed : length xs ≡ 256 = c.loop-first.invariant.placed in
    let is : IsStart (code_of c.args.self.now) j v = record {
      long_enough = c.reached_length_from.ensures.long;
      short_enough = c.reached_length_from.ensures.short;
      before = λ k long less. let h = c.reached_length_from.ensures.before k long less in omega (arith, h);
      reached = let h = c.reached_length_from.ensures.reaches in omega (arith, h);
    } in
    record {
      placed = length-set xs j v ∙ placed;
      done = items_next (λ (k : ℕ) (n : ℕ). IsStart (code_of c.args.self.now) k n) xs j v (omega arith) c.loop-first.invariant.done is;
    }
