use Rattle.std.proofs.Common.{ℕ, ◌≡◌, ◌+◌, ◌-◌, ◌*◌, ◌%◌, ◌^◌, ◌≤◌, sym, ap, ◌∙◌, subst, arith}
use Rattle.std.proofs.lemmas.Nat.{one_shl}
use Rattle.szg_code.specs.Canonical.{CanonicalCode, base, top}
use Rattle.szg_code.specs.CodeHeader.{code_of}
use Rattle.szg_code.proofs.Words.{top-least, top-step}
use Rattle.szg_code.proofs.canonical.Code.top_at.Goals as goal

pub returns-then-j-eq0 : goal.returns-then-j-eq0
returns-then-j-eq0 c =
    let code : CanonicalCode = code_of c.self.inside.header in
    let is : code ≡ c.args.self.now = c.self.view_is in
    let first : code.min_length + c.args.j ≡ code.min_length = omega arith in
    let t = top-least code (code.min_length + c.args.j) first in
    let most : code.max_length ≤ 32 = c.self.invariant.0.lengths.at_most in
    let order : code.min_length ≤ code.max_length = c.self.invariant.0.lengths.in_order in
    let s = one_shl code.min_length 64 (omega arith) in
    subst (λ (k : CanonicalCode). 1 * 2 ^ code.min_length % 18446744073709551616 ≡ top k (k.min_length + c.args.j)) is (s ∙ ap (λ (n : ℕ). 2 ^ n) (sym first) ∙ sym t)

pub returns-else-j-eq0 : goal.returns-else-j-eq0
returns-else-j-eq0 c =
    let code : CanonicalCode = c.args.self.now in
    let later : c.args.j ≡ 0 → ⊥ = c.if-j-eq0.false in
    let t = top-step code (code.min_length + c.args.j) (omega arith) in
    let e : code.min_length + c.args.j - 1 ≡ code.min_length + (c.args.j - 1) = omega arith in
    let b : c.base_at.result ≡ base code (code.min_length + (c.args.j - 1)) = c.base_at.ensures.base in
    let t' : top code (code.min_length + c.args.j) ≡ 2 * base code (code.min_length + (c.args.j - 1)) = rw e at t in
    omega (arith, t', b)
