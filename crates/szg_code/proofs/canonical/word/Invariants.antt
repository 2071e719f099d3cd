use Rattle.std.proofs.Common.{ℕ, Bool, ◌≡◌, ◌+◌, ◌<◌, List, length}
use Rattle.szg_code.specs.Canonical.{IsWord}
use Rattle.szg_code.proofs.canonical.word.Given as goal

-- no length so far has a word of the symbol
abbrev pub invariant-loop-j : goal.invariant-loop-j
invariant-loop-j l = (k : ℕ) → k < l.j → (word : List Bool) → length word ≡ l.code.min_length + k → ¬ IsWord l.code word l.s
