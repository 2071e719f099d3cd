use Rattle.std.proofs.Common.{ℕ, ◌-◌, ◌*◌, ◌%◌, ◌^◌, List, length, ap, ◌∙◌, arith}
use Rattle.szg_code.proofs.Windows.{number-read_short}
use Rattle.szg_code.proofs.reader.read_short.Goals as goal

pub returns : goal.returns
returns c =
    let xs : List ℕ = c.args.bytes.now in
    let n : ℕ = length xs - c.args.at in
    ap (λ (m : ℕ). m * 2 ^ (8 * (8 - n)) % 18446744073709551616) c.read_uint.ensures ∙ number-read_short xs c.args.at n (omega arith) (omega arith) (λ k. let f = c.type_inv.bytes k in omega arith)
