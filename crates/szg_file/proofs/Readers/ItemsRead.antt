-- Consecutive items, read one at a time.
use Rattle.std.proofs.Common.{◌≡◌, ℕ, zero, suc, ◌+◌, ◌*◌, ◌<◌, ◌≤◌, List, [], ◌∷◌, ◌++◌, length, map, take, drop, slice_index, refl, sym, ap, ◌∙◌, arith}
use Rattle.std.proofs.lemmas.List.{drop-drop, drop-take, length-drop, length-take-le, map-append, take_at}
use Rattle.std.proofs.Math.Seq.{take-add}
use Rattle.szg_block.specs.Layout.{SparseEntry}
use Rattle.szg_file.specs.File.{entry_of_bytes}
use Rattle.byteorder.specs.Endian.{little_number, IsRead}
use Rattle.byteorder.specs.Numbers.{little_from-cons}
use Rattle.szg_file.specs.Contents.{number_of, items}

-- one more item
pub items-more : (size n : ℕ) (bytes : List ℕ) → items size (suc n) bytes ≡ items size n bytes ++ take size (drop (size * n) bytes) ∷ []
items-more size zero bytes = let e : size * 0 ≡ 0 = omega arith in ap (λ (k : ℕ). take size (drop k bytes) ∷ []) (sym e)
items-more size (suc n) bytes =
    let e : size + size * n ≡ size * suc n = omega arith in
    ap (λ (z : List (List ℕ)). take size bytes ∷ z) (items-more size n (drop size bytes))
    ∙ ap (λ (z : List ℕ). take size bytes ∷ (items size n (drop size bytes) ++ take size z ∷ [])) (drop-drop (size * n) size bytes ∙ ap (λ (k : ℕ). drop k bytes) e)

-- the two definitions of a little-endian number agree
pub little-number_of : (n : ℕ) (xs : List ℕ) → n ≤ length xs → little_number n xs ≡ number_of (take n xs)
little-number_of zero xs h = refl
little-number_of (suc n) [] h = absurd (omega (arith, h))
little-number_of (suc n) (x ∷ xs) h =
    ap (λ (r : ℕ). x + 256 * r) (little_from-cons 0 n x xs ∙ little-number_of n xs (omega (arith, h)))

-- a list of decoded items, and one more item
pub mapped-more : {X : Type 0} (f : List ℕ → X) (size n : ℕ) (bytes : List ℕ) (list : List X) (x : X) → list ≡ map f (items size n bytes) →
    x ≡ f (take size (drop (size * n) bytes)) → list ++ x ∷ [] ≡ map f (items size (n + 1) bytes)
mapped-more {X = X} f size n bytes list x e h =
    let next : n + 1 ≡ suc n = omega arith in
    let one : map f (items size (suc n) bytes) ≡ map f (items size n bytes) ++ f (take size (drop (size * n) bytes)) ∷ [] =
    ap (map f) (items-more size n bytes) ∙ map-append f (items size n bytes) (take size (drop (size * n) bytes) ∷ []) in
    ap (λ (z : List X). z ++ x ∷ []) e ∙ ap (λ (y : X). map f (items size n bytes) ++ y ∷ []) h ∙ sym one ∙ ap (λ (k : ℕ). map f (items size k bytes)) (sym next)

-- one more item, not decoded
pub rows-more : (size n : ℕ) (bytes : List ℕ) (list : List (List ℕ)) (x : List ℕ) → list ≡ items size n bytes →
    x ≡ take size (drop (size * n) bytes) → list ++ x ∷ [] ≡ items size (n + 1) bytes
rows-more size n bytes list x e h =
    let next : n + 1 ≡ suc n = omega arith in
    ap (λ (z : List (List ℕ)). z ++ x ∷ []) e ∙ ap (λ (y : List ℕ). items size n bytes ++ y ∷ []) h ∙ sym (items-more size n bytes)
    ∙ ap (λ (k : ℕ). items size k bytes) (sym next)

pub three_bytes : (xs : List ℕ) → 3 ≤ length xs → slice_index xs 0 ∷ slice_index xs 1 ∷ slice_index xs 2 ∷ [] ≡ take 3 xs
three_bytes [] h = absurd (omega (arith, h))
three_bytes (a ∷ []) h = absurd (omega (arith, h))
three_bytes (a ∷ b ∷ []) h = absurd (omega (arith, h))
three_bytes (a ∷ b ∷ c ∷ xs) h = refl

-- an entry of a sparse index: four bytes of block number, two of offset
pub six_bytes : (xs : List ℕ) (block offset : ℕ) → 6 ≤ length xs → block ≡ little_number 4 xs → offset ≡ little_number 2 (drop 4 xs) →
    (let entry : SparseEntry = record { block = block; offset = offset } in entry ≡ entry_of_bytes (take 6 xs))
six_bytes xs block offset h b o =
    let first : take 4 (take 6 xs) ≡ take 4 xs =
    ap (take 4) (take-add 4 2 xs) ∙ take_at (take 4 xs) (take 2 (drop 4 xs)) 4 (length-take-le 4 xs (omega (arith, h))) in
    let low : block ≡ number_of (take 4 (take 6 xs)) = b ∙ little-number_of 4 xs (omega (arith, h)) ∙ ap number_of (sym first) in
    let high : offset ≡ number_of (drop 4 (take 6 xs)) =
    o ∙ little-number_of 2 (drop 4 xs) (omega (arith, h, length-drop 4 xs)) ∙ ap number_of (sym (drop-take 4 2 xs)) in
    ap (λ (n : ℕ). let e : SparseEntry = record { block = n; offset = offset } in e) low
    ∙ ap (λ (n : ℕ). let e : SparseEntry = record { block = number_of (take 4 (take 6 xs)); offset = n } in e) high

-- numbers that are read by `read_u16_into`
pub numbers_read : (dst src : List ℕ) → IsRead little_number 2 src dst → length src ≡ 2 * length dst → dst ≡ map number_of (items 2 (length dst) src)
numbers_read [] src h e = refl
numbers_read (x ∷ dst) src h e =
    let some : 0 < length (x ∷ dst) = omega arith in
    let there : 2 ≤ length src = omega (arith, e) in
    let left : length (drop 2 src) ≡ 2 * length dst = omega (arith, length-drop 2 src, e) in
    let first : x ≡ number_of (take 2 src) = h 0 some ∙ little-number_of 2 src there in
    let others : IsRead little_number 2 (drop 2 src) dst = λ k l.
    let below : suc k < length (x ∷ dst) = omega (arith, l) in
    let on : 2 + 2 * k ≡ 2 * suc k = omega arith in
    h (suc k) below ∙ ap (little_number 2) (sym (drop-drop (2 * k) 2 src ∙ ap (λ (n : ℕ). drop n src) on)) in
    ap (λ (n : ℕ). n ∷ dst) first ∙ ap (λ (z : List ℕ). number_of (take 2 src) ∷ z) (numbers_read dst (drop 2 src) others left)
