-- The bytes read ahead after a line was taken from them.
use Rattle.std.proofs.Common.{◌≡◌, ℕ, ◌+◌, ◌-◌, ◌<◌, ◌≤◌, List, ◌++◌, length, take, drop, sym, ap, ◌∙◌, arith}
use Rattle.std.specs.List.{copy_within}
use Rattle.std.proofs.lemmas.List.{length-take, length-drop, drop-take, drop-drop}
use Rattle.std.proofs.lemmas.List.Edits.{take-paste}
use Rattle.std.proofs.Math.Seq.{paste}
use borrow.Rule.Slice.PartMut.{put_mid}
use Rattle.szg_io.proofs.DeviceLaws.{chunk_prefix}

drop_front : (bytes : List ℕ) (from to n : ℕ) → from + n ≤ to → take (to - (from + n)) (drop (from + n) bytes) ≡ drop n (take (to - from) (drop from bytes))
drop_front bytes from to n le =
    let e : to - from ≡ n + (to - (from + n)) = omega (arith, le) in
    sym (ap (λ (m : ℕ). drop n (take m (drop from bytes))) e ∙ drop-take n (to - (from + n)) (drop from bytes) ∙ ap (λ (z : List ℕ). take (to - (from + n)) z) (drop-drop n from bytes))

pub split_held : (bytes : List ℕ) (from to size : ℕ) → size < length (take (to - from) (drop from bytes)) →
    take (to - ((from + size) + 1)) (drop ((from + size) + 1) bytes) ≡ drop (size + 1) (take (to - from) (drop from bytes))
split_held bytes from to size h =
    let le : from + (size + 1) ≤ to = omega (arith, h, length-take (to - from) (drop from bytes)) in
    let e : (from + size) + 1 ≡ from + (size + 1) = omega arith in
    ap (λ (m : ℕ). take (to - m) (drop m bytes)) e ∙ drop_front bytes from to (size + 1) le

-- The buffered bytes after they were moved to the front of the buffer and a chunk was read after them.
pub refill_held : (bytes room chunk : List ℕ) (from to got k : ℕ) → room ≡ copy_within bytes from to 0 → to ≤ length bytes → got ≤ length chunk →
    take (((to - from) + got) - 0) (drop 0 (put_mid (to - from) k room chunk)) ≡ take (to - from) (drop from bytes) ++ take got chunk
refill_held bytes room chunk from to got k e within fits =
    let n : ℕ = to - from in
    let none : (n + got) - 0 ≡ n + got = omega arith in
    let zeroed : 0 + n ≡ n = omega arith in
    let long : n ≤ length (drop from bytes) = omega (arith, length-drop from bytes, within) in
    let packed : take n room ≡ take n (drop from bytes) = ap (λ (z : List ℕ). take n z) e ∙ ap (λ (m : ℕ). take m (paste bytes 0 (drop from bytes) n)) (sym zeroed) ∙ take-paste bytes 0 (drop from bytes) n (omega arith) long in
    let there : n ≤ length room = omega (arith, ap length packed, length-take n room, length-take n (drop from bytes), long) in
    ap (λ (m : ℕ). take m (put_mid n k room chunk)) none
    ∙ chunk_prefix n got k room chunk there fits
    ∙ ap (λ (z : List ℕ). z ++ take got chunk) packed
