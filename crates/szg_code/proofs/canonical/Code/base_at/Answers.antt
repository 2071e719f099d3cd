use Rattle.std.proofs.Common.{ℕ, ◌≡◌, ◌+◌, ◌-◌, ◌/◌, ◌^◌, length, get_or, ap, subst, ◌∙◌, arith}
use Rattle.szg_code.specs.Acceptance.{IsCode}
use Rattle.szg_code.specs.Canonical.{CanonicalCode, base}
use Rattle.szg_code.specs.CodeHeader.{code_of}
use Rattle.szg_code.specs.Least.{HasShiftedBases}
use Rattle.szg_code.proofs.BaseSteps.{base_fits}
use Rattle.szg_code.proofs.Prefixes.{shifted_back}
use Rattle.szg_code.proofs.canonical.Code.base_at.Goals as goal

pub returns : goal.returns
returns c =
    let code : CanonicalCode = c.args.self.now in
    let is : code_of c.self.inside.header ≡ code = c.self.view_is in
    let accepted = c.self.invariant.0 in
    let bases : HasShiftedBases code c.self.inside.bases = subst (λ (k : CanonicalCode). HasShiftedBases k c.self.inside.bases) is c.self.invariant.1 in
    let accepted' : IsCode code = subst IsCode is accepted in
    let each : length c.self.inside.header.lowest.items + c.self.inside.header.min ≡ c.self.inside.header.max + 1 = accepted.lengths.each in
    let n : length c.self.inside.header.lowest.items ≡ length code.lowest = ap (λ (k : CanonicalCode). length k.lowest) is in
    let max : c.self.inside.header.max ≡ code.max_length = ap (λ (k : CanonicalCode). k.max_length) is in
    let min : c.from.result ≡ code.min_length = c.from.ensures ∙ ap (λ (k : CanonicalCode). k.min_length) is in
    let min' : c.self.inside.header.min ≡ code.min_length = ap (λ (k : CanonicalCode). k.min_length) is in
    let at = bases (code.min_length + c.args.j) (omega arith) (omega (arith, each, n, max, min', c.requires)) in
    let back : get_or c.self.inside.bases (code.min_length + c.args.j) 0 / 2 ^ (64 - (code.min_length + c.args.j)) ≡ base code (code.min_length + c.args.j) =
    ap (λ (m : ℕ). m / 2 ^ (64 - (code.min_length + c.args.j))) at ∙ shifted_back code (code.min_length + c.args.j) in
    let fits = base_fits code accepted' c.args.j c.requires in
    rw min (record { accepted = accepted'; base = back; fits = rw back fits })
