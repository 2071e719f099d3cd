use Rattle.std.proofs.Common.{ℕ, false, ◌≡◌, ◌*◌, ◌+◌, ◌-◌, ◌/◌, List, ◌++◌, length, take, replicate, arith}
use Rattle.szg_code.specs.Bits.{bits}
use Rattle.szg_code.proofs.ByteBits.{length-taken}
use Rattle.szg_code.proofs.writer.BitBuf.bytes.Goals as goal

pub returns-clause-whole : goal.returns-clause-whole
returns-clause-whole c =
    let bytes : List ℕ = c.self.inside.bytes.items in
    let count : ℕ = c.self.inside.count in
    let whole : length bytes ≡ (count + 7) / 8 = c.self.invariant.whole in
    let n : length (take count (bits bytes)) ≡ count = length-taken count bytes (omega arith) in
    rw (← c.self.view_is, c.deref.ensures.value) (omega arith)

pub returns-clause-zero_padded : goal.returns-clause-zero_padded
returns-clause-zero_padded c =
    let bytes : List ℕ = c.self.inside.bytes.items in
    let count : ℕ = c.self.inside.count in
    let whole : length bytes ≡ (count + 7) / 8 = c.self.invariant.whole in
    let n : length (take count (bits bytes)) ≡ count = length-taken count bytes (omega arith) in
    let zero_padded : bits bytes ≡ take count (bits bytes) ++ replicate (8 * length bytes - count) false = c.self.invariant.zero_padded in
    rw (← c.self.view_is, c.deref.ensures.value, n) zero_padded
