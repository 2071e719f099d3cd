-- The public view of a reader over a source, and its invariant.
use Rattle.std.specs.Prelude.{ℕ, ◌≡◌, ◌+◌, ◌-◌, ◌<◌, ◌≤◌, List, length, take, drop}

-- the source's bytes, the number of them that were read, the source's counts, and the number of calls of the reader
pub record Forward : Type 0 where
  pub content : List ℕ
  pub place : ℕ
  pub failed : ℕ
  pub requested : ℕ
  pub calls : ℕ

-- the bytes from `place` on that were read ahead are the chunk's bytes from index `from` up to `to`
pub record IsForward (content : List ℕ) (place end : ℕ) (chunk : List ℕ) (from to : ℕ) : Type 0 where
  pub whole : end ≡ length content
  pub room : 0 < length chunk
  pub in_order : from ≤ to
  pub within : to ≤ length chunk
  pub inside : place + (to - from) ≤ end
  pub held : take (to - from) (drop from chunk) ≡ take (to - from) (drop place content)
