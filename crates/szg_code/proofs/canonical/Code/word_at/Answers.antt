use Rattle.std.proofs.Common.{ℕ, ◌≡◌, ◌+◌, ◌≤◌, List, length, get_or, ap, arith}
use Rattle.szg_code.specs.Canonical.{CanonicalCode, base}
use Rattle.szg_code.proofs.Prefixes.{IsWord-of_number, number-of_IsWord, number_fits}
use Rattle.szg_code.proofs.canonical.Code.word_at.Goals as goal

pub returns-then-s-lowest-clause-none : goal.returns-then-s-lowest-clause-none
returns-then-s-lowest-clause-none c word long w =
    let code : CanonicalCode = c.args.self.now in
    let low : get_or c.lowest.result.now c.args.j 0 ≡ get_or code.lowest c.args.j 0 = ap (λ (xs : List ℕ). get_or xs c.args.j 0) c.lowest.ensures in
    let r = number-of_IsWord code c.args.j c.args.s word long w in
    absurd (omega (arith, r.0))

pub returns-then-number-top_at-clause-none : goal.returns-then-number-top_at-clause-none
returns-then-number-top_at-clause-none c word long w =
    let code : CanonicalCode = c.args.self.now in
    let low : get_or c.lowest.result.now c.args.j 0 ≡ get_or code.lowest c.args.j 0 = ap (λ (xs : List ℕ). get_or xs c.args.j 0) c.lowest.ensures in
    let b : c.base_at.result ≡ base code (code.min_length + c.args.j) = c.base_at.ensures.base in
    let r = number-of_IsWord code c.args.j c.args.s word long w in
    absurd (omega (arith, r.0, r.1))

pub overflow_cast-result : goal.overflow_cast-result
overflow_cast-result c =
    let each : length c.args.self.now.lowest + c.args.self.now.min_length ≡ c.args.self.now.max_length + 1 = c.base_at.ensures.accepted.lengths.each in
    let most : c.args.self.now.max_length ≤ 32 = c.base_at.ensures.accepted.lengths.at_most in
    omega arith

pub overflow_add-result : goal.overflow_add-result
overflow_add-result c =
    let each : length c.args.self.now.lowest + c.args.self.now.min_length ≡ c.args.self.now.max_length + 1 = c.base_at.ensures.accepted.lengths.each in
    let most : c.args.self.now.max_length ≤ 32 = c.base_at.ensures.accepted.lengths.at_most in
    omega arith

pub overflow_cast-result-2 : goal.overflow_cast-result-2
overflow_cast-result-2 c =
    let code : CanonicalCode = c.args.self.now in
    let t = number_fits code c.base_at.ensures.accepted c.args.j c.requires.length in
    omega (arith, t)

pub returns-clause-found : goal.returns-clause-found
returns-clause-found c =
    let code : CanonicalCode = c.args.self.now in
    let low : get_or c.lowest.result.now c.args.j 0 ≡ get_or code.lowest c.args.j 0 = ap (λ (xs : List ℕ). get_or xs c.args.j 0) c.lowest.ensures in
    let b : c.base_at.result ≡ base code (code.min_length + c.args.j) = c.base_at.ensures.base in
    let v : ℕ = c.base_at.result + c.from.result in
    rw c.min.ensures (IsWord-of_number code c.base_at.ensures.accepted c.args.j c.args.s (get_or c.lowest.result.now c.args.j 0) v c.requires.length c.requires.there low (omega arith) (omega arith) (omega arith))
