use Rattle.std.proofs.Common.{ℕ, ◌≡◌, ◌+◌, ◌-◌, ◌/◌, ◌^◌, ◌<◌, ◌≤◌, subst, ap, arith}
use Rattle.std.proofs.lemmas.Nat.{shr_below}
use Rattle.std.proofs.Math.Nat.{pow-le-pow_right}
use Rattle.szg_code.specs.Canonical.{CanonicalCode}
use Rattle.szg_code.specs.CodeHeader.{code_of}
use Rattle.szg_code.specs.Least.{HasZeroSymbols}
use Rattle.szg_code.proofs.Prefixes.{reaches_base, zero_symbol-add}
use Rattle.szg_code.proofs.canonical.Code.symbol_number.Goals as goal

-- the number that a window's first bits represent has at most 32 bits
leading_fits : (window shift : ℕ) → window < 2 ^ 64 → 32 ≤ shift → window / 2 ^ shift < 2 ^ 32
leading_fits window shift below long =
    let p : 2 ^ 64 ≤ 2 ^ (32 + shift) = pow-le-pow_right {n = 2} (omega arith) {i = 64} {j = 32 + shift} (omega arith) in
    shr_below window 32 shift (omega (arith, p))

pub returns : goal.returns
returns c =
    let code : CanonicalCode = c.args.self.now in
    let is : code_of c.self.inside.header ≡ code = c.self.view_is in
    let zeros : HasZeroSymbols code c.self.inside.zero_symbols = subst (λ (k : CanonicalCode). HasZeroSymbols k c.self.inside.zero_symbols) is c.self.invariant.3 in
    let most : c.self.inside.header.max ≤ 32 = c.self.invariant.0.lengths.at_most in
    let max : c.self.inside.header.max ≡ code.max_length = ap (λ (k : CanonicalCode). k.max_length) is in
    let zero = zeros c.args.length c.requires.long c.requires.short in
    let fits = leading_fits c.args.window (64 - c.args.length) (omega arith) (omega (arith, most, max, c.requires.short)) in
    let e = zero_symbol-add code c.args.length (c.args.window / 2 ^ (64 - c.args.length)) zero.0 (reaches_base code c.args.length c.args.window c.requires.reaches) fits in
    rw zero.1 e
