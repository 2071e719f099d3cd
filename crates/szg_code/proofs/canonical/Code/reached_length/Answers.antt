use Rattle.std.proofs.Common.{ℕ, ◌≡◌, ◌+◌, ◌/◌, ◌^◌, ◌≤◌, inl, inr, get_or, ap, ◌∙◌, arith}
use Rattle.std.proofs.lemmas.Bool.{cases_lt, lt-ltb, le-ltb}
use Rattle.szg_code.specs.Acceptance.{IsCode}
use Rattle.szg_code.specs.Canonical.{CanonicalCode}
use Rattle.szg_code.specs.CodeHeader.{code_of}
use Rattle.szg_code.specs.Least.{IsStart, shifted_base}
use Rattle.szg_code.proofs.Prefixes.{next_length}
use Rattle.szg_code.proofs.canonical.Code.reached_length.Goals.{then-this-ne0, else-this-ne0}
use Rattle.szg_code.proofs.canonical.Code.reached_length.Goals as goal

pub reached_length_from-requires : goal.reached_length_from-requires
reached_length_from-requires g c =
    let code : CanonicalCode = code_of c.self.inside.header in
    let accepted : IsCode code = c.self.invariant.0 in
    let order : code.min_length ≤ code.max_length = accepted.lengths.in_order in
    elim c.if-this-ne0.branch [
      | else-this-ne0 w ↦
          let first : ℕ = c.args.window / 2 ^ 56 in
          let start : IsStart code first (get_or c.self.inside.starts first 0) = c.self.invariant.2 first (omega arith) in
          let is : c.if-this-ne0.start ≡ get_or c.self.inside.starts first 0 = w.start-is ∙ w.from-start.ensures in
          record {
            accepted = accepted;
            bases = c.self.invariant.1;
            long = let h = start.long_enough in omega (arith, h, is);
            short = let h = start.short_enough in omega (arith, h, is);
            before = λ k long less. let h = start.before k long (omega (arith, less, is)) in omega (arith, h);
          }
      | then-this-ne0 w ↦
          let least : ℕ = get_or c.self.inside.bases c.from-least.result 0 in
          let min : c.from-least.result ≡ code.min_length = c.from-least.ensures in
          let at : least ≡ shifted_base code 64 code.min_length = rw min (c.self.invariant.1 code.min_length (omega arith) order) in
          elim (cases_lt c.args.window least) [
            | inl below ↦
                let one : c.if-this-ne0.start ≡ c.from-least.result + 1 = w.start-is ∙ ap (λ (n : ℕ). c.from-least.result + n) (rw (lt-ltb c.args.window least below) at w.from.ensures) in
                let n = next_length code c.args.window code.min_length order (omega (arith, at, below)) (λ k long less. absurd (omega (arith, long, less))) in
                record {
                  accepted = accepted;
                  bases = c.self.invariant.1;
                  long = omega (arith, one, min);
                  short = let h = n.0 in omega (arith, one, min, h);
                  before = λ k long less. n.1 k long (omega (arith, one, min, less));
                }
            | inr above ↦
                let none : c.if-this-ne0.start ≡ c.from-least.result + 0 = w.start-is ∙ ap (λ (n : ℕ). c.from-least.result + n) (rw (le-ltb c.args.window least above) at w.from.ensures) in
                record {
                  accepted = accepted;
                  bases = c.self.invariant.1;
                  long = omega (arith, none, min);
                  short = omega (arith, none, min, order);
                  before = λ k long less. absurd (omega (arith, none, min, long, less));
                }
          ]
    ]
