-- Walks over block lengths, forwards and backwards.
use Rattle.std.proofs.Common.{ℕ, suc, ◌≡◌, ◌+◌, ◌<◌, ◌≤◌, inl, inr, List, None, Some, length, take, ap, sym, ◌∙◌, arith, get_or}
use Rattle.std.specs.List.{slice_get, slice_index}
use Rattle.std.proofs.Math.Seq.{take-length}
use Rattle.std.proofs.lemmas.Bool.{cases_order}
use Rattle.std.proofs.lemmas.List.{take_all}
use Rattle.std.proofs.lemmas.Option.{get_or_from_slice_get, none-some, slice_get_cases, slice_get_within}
use Rattle.szg_block.specs.Block.{start}
use Rattle.szg_block.proofs.Values.{start-step, start-more, start-monotone}

-- where no item is, the list has ended
pub none_past : {A : Type 0} (xs : List A) (k : ℕ) → slice_get xs k ≡ None → length xs ≤ k
none_past xs k none =
    elim (slice_get_cases xs k).1 [
      | inl there ↦ absurd (none-some there.0 (sym none ∙ there.2))
      | inr past ↦ past.0
    ]

-- no block is after the last one
pub start-past : (lengths : List ℕ) (block : ℕ) → slice_get lengths block ≡ None → start lengths (length lengths) ≤ start lengths block
unfolding start
start-past lengths block none =
    let all : take block lengths ≡ lengths = take_all block lengths (none_past lengths block none) in
    let whole : take (length lengths) lengths ≡ lengths = take-length lengths in
    rw (all, whole) (omega arith)

-- the start of the next block, by the length of this one
pub start-after : (lengths : List ℕ) (block item : ℕ) → slice_get lengths block ≡ Some item → start lengths (block + 1) ≡ start lengths block + (item + 1)
start-after lengths block item some =
    let there : block < length lengths = slice_get_within lengths block item some in
    let is : get_or lengths block 0 ≡ item = get_or_from_slice_get lengths block item 0 some in
    start-more lengths block there ∙ ap (λ n. start lengths block + (n + 1)) is

-- exactly one block contains a value
pub one_block : (lengths : List ℕ) (j k p q : ℕ) → j < length lengths → k < length lengths → start lengths j + p ≡ start lengths k + q → p < slice_index lengths j + 1 → q < slice_index lengths k + 1 → j ≡ k
one_block lengths j k p q a b e l m =
    let s : start lengths (suc j) ≡ start lengths j + (slice_index lengths j + 1) = start-step lengths j a in
    let t : start lengths (suc k) ≡ start lengths k + (slice_index lengths k + 1) = start-step lengths k b in
    elim (cases_order j k) [
      | inl same ↦ same
      | inr o ↦ elim o [
        | inl less ↦ let n : start lengths (suc j) ≤ start lengths k = start-monotone lengths (suc j) k (omega arith) (omega arith) in absurd (omega arith)
        | inr more ↦ let n : start lengths (suc k) ≤ start lengths j = start-monotone lengths (suc k) j (omega arith) (omega arith) in absurd (omega arith)
      ]
    ]
