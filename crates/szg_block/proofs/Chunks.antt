-- Laws of lists that are divided into chunks of one length.
use Rattle.std.proofs.Common.{ℕ, zero, suc, ◌≡◌, ◌+◌, ◌-◌, ◌*◌, ◌^◌, ◌<◌, ◌≤◌, List, ◌++◌, length, take, drop, ap, sym, ◌∙◌, arith, drop-drop}
use Rattle.std.specs.List.{flat_map, range_with_len}
use Rattle.std.proofs.Math.Seq.{drop-append-add, take-append_seam, take-add}
use Rattle.szg_block.specs.Block.{block_at}
use Rattle.szg_block.specs.BlocksTrait.{packed_blocks, bytes_at}

suc_times : (j w : ℕ) → suc j * w ≡ w + j * w
suc_times j w = omega arith

-- after j chunks of the joined list come the other chunks
drop-chunks : (f : ℕ → List ℕ) (w a n j : ℕ) → j ≤ n → ((k : ℕ) → k < a + n → length (f k) ≡ w) → drop (j * w) (flat_map f (range_with_len a n)) ≡ flat_map f (range_with_len (a + j) (n - j))
drop-chunks f w a n zero h e =
    let z : 0 * w ≡ 0 = omega arith in
    let b : a + 0 ≡ a = omega arith in
    let c : n - 0 ≡ n = omega arith in
    rw (z, b, c)
drop-chunks f w a zero (suc j) h e = absurd (omega arith)
drop-chunks f w a (suc n) (suc j) h e =
    let l : length (f a) ≡ w = e a (omega arith) in
    let s : suc j * w ≡ length (f a) + j * w = suc_times j w ∙ ap (λ k. k + j * w) (sym l) in
    let d : drop (length (f a) + j * w) (f a ++ flat_map f (range_with_len (a + 1) n)) ≡ drop (j * w) (flat_map f (range_with_len (a + 1) n)) = drop-append-add (f a) (flat_map f (range_with_len (a + 1) n)) (j * w) in
    let i : drop (j * w) (flat_map f (range_with_len (a + 1) n)) ≡ flat_map f (range_with_len (a + 1 + j) (n - j)) = drop-chunks f w (a + 1) n j (omega arith) (λ k g. e k (omega arith)) in
    let b : a + 1 + j ≡ a + suc j = omega arith in
    let c : suc n - suc j ≡ n - j = omega arith in
    rw (s, d, i, b, c)

-- block j of the joined blocks is block j
pub block_at-packed_blocks : (f : ℕ → List ℕ) (bits count j : ℕ) → j < count → ((k : ℕ) → k < count → length (f k) ≡ 2 ^ bits) → block_at bits (packed_blocks f count) j ≡ f j
unfolding block_at
block_at-packed_blocks f bits count j h e =
    let d : drop (j * 2 ^ bits) (flat_map f (range_with_len 0 count)) ≡ flat_map f (range_with_len (0 + j) (count - j)) = drop-chunks f (2 ^ bits) 0 count j (omega arith) (λ k g. e k (omega arith)) in
    let z : 0 + j ≡ j = omega arith in
    let c : count - j ≡ suc (count - j - 1) = omega arith in
    let l : length (f j) ≡ 2 ^ bits = e j h in
    let t : take (length (f j)) (f j ++ flat_map f (range_with_len (j + 1) (count - j - 1))) ≡ f j = take-append_seam (f j) (flat_map f (range_with_len (j + 1) (count - j - 1))) in
    rw (d, z, c, ← l) t

list_chunks : (content : List ℕ) (w at a count : ℕ) → flat_map (λ k. take w (drop (at + k * w) content)) (range_with_len a count) ≡ take (count * w) (drop (at + a * w) content)
list_chunks content w at a zero = let z : 0 * w ≡ 0 = omega arith in rw z
list_chunks content w at a (suc count) =
    let s : suc count * w ≡ w + count * w = suc_times count w in
    let t : take (w + count * w) (drop (at + a * w) content) ≡ take w (drop (at + a * w) content) ++ take (count * w) (drop w (drop (at + a * w) content)) = take-add w (count * w) (drop (at + a * w) content) in
    let d : drop w (drop (at + a * w) content) ≡ drop (at + a * w + w) content = drop-drop w (at + a * w) content in
    let e : at + a * w + w ≡ at + (a + 1) * w = omega arith in
    let i : flat_map (λ k. take w (drop (at + k * w) content)) (range_with_len (a + 1) count) ≡ take (count * w) (drop (at + (a + 1) * w) content) = list_chunks content w at (a + 1) count in
    rw (s, t, d, e) (ap (λ u. take w (drop (at + a * w) content) ++ u) i)

-- the chunks of a list from an offset on, joined, are the list from there on
pub packed_blocks-chunks : (content : List ℕ) (w at count : ℕ) → packed_blocks (λ k. take w (drop (at + k * w) content)) count ≡ bytes_at content at (count * w)
packed_blocks-chunks content w at count =
    let z : at + 0 * w ≡ at = omega arith in
    let p = list_chunks content w at 0 count in
    rw z at p
