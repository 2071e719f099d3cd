use Rattle.std.proofs.Common.{ℕ, Bool, ◌≡◌, ◌+◌, ◌-◌, ◌*◌, ◌%◌, ◌^◌, List, length, drop, ap, ◌∙◌, arith}
use Rattle.std.proofs.lemmas.List.{drop-drop}
use Rattle.szg_code.specs.Bits.{bits, number}
use Rattle.szg_code.specs.Window.{padded}
use Rattle.szg_code.proofs.ByteBits.{length-left}
use Rattle.szg_code.proofs.Windows.{number-read, number-shifted}
use Rattle.szg_code.proofs.reader.read_u64_at.Goals as goal

pub returns-then-at-bytes-clause-number : goal.returns-then-at-bytes-clause-number
returns-then-at-bytes-clause-number c = c.read_u64.ensures ∙ number-read c.args.bytes.now c.args.at (λ k. let f = c.type_inv.bytes k in omega arith)

pub returns-clause-number : goal.returns-clause-number
returns-clause-number c =
    let xs : List ℕ = c.args.bytes.now in
    let last : ℕ = length xs - 8 in
    let l : ℕ = 8 * (c.args.at - last) in
    let read : c.read_u64-2.result ≡ number (padded 64 (drop (8 * last) (bits xs))) = c.read_u64-2.ensures ∙ number-read xs last (λ k. let f = c.type_inv.bytes k in omega arith) in
    let there : 8 * last + l ≡ 8 * c.args.at = omega arith in
    let d : drop l (drop (8 * last) (bits xs)) ≡ drop (8 * c.args.at) (bits xs) = drop-drop l (8 * last) (bits xs) ∙ ap (λ (k : ℕ). drop k (bits xs)) there in
    ap (λ (n : ℕ). n * 2 ^ l % 18446744073709551616) read ∙ number-shifted (drop (8 * last) (bits xs)) l (omega arith) (let n = length-left (8 * last) xs in omega (arith, n)) ∙ ap (λ (u : List Bool). number (padded 64 u)) d
