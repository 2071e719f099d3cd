-- The shards of a check have each file once.
use Rattle.std.proofs.Common.{◌≡◌, ℕ, zero, suc, ◌+◌, ◌%◌, ◌<◌, ◌≤◌, ◌==◌, ◌&&◌, nat_lt, Bool, true, false, List, [], ◌∷◌, ◌++◌, flat_map, refl, sym, ap, subst, ◌∙◌, arith, inl, inr, Some, if◌then◌else◌}
use Rattle.std.specs.Prelude.{IsPermutation}
use Rattle.std.proofs.lemmas.Nat.{mod_below}
use Rattle.std.proofs.lemmas.Bool.{eq-eqb, cases_lt, lt-ltb, eqb-true}
use Rattle.std.proofs.lemmas.List.{append_assoc}
use Rattle.std.proofs.lemmas.List.Sorted.{IsPermutation-append_left, IsPermutation-append_right, IsPermutation-append_comm, IsPermutation-cons, IsPermutation-refl, IsPermutation-trans}
use Rattle.szg_commands.specs.Laws.{ShardsShareFiles, shards_from}
use Rattle.szg_archive.specs.Shards.{has, shard_after, shard_of, taken_of}
use Rattle.szg_archive.specs.Verdicts.{Listed}
use Rattle.szg_named.specs.declared.checks.FileShard.{FileShard}

abbrev shard : ℕ → ℕ → FileShard
shard count number = record { number = number; count = count }

not_true : (b : Bool) → (b ≡ true → ⊥) → b ≡ false
not_true true h = absurd (h refl)
not_true false h = refl

ends : {X : Type 0} (x : X) (here others : List X) → IsPermutation ((here ++ others) ++ x ∷ []) (here ++ (x ∷ others))
ends {X = X} x here others =
    subst (λ (z : List X). IsPermutation z (here ++ (x ∷ others))) (sym (append_assoc here others (x ∷ [])))
    (IsPermutation-append_right here (others ++ x ∷ []) (x ∷ others) (IsPermutation-append_comm others (x ∷ [])))

to_middle : {X : Type 0} (x : X) (here others : List X) → IsPermutation (x ∷ (here ++ others)) (here ++ (x ∷ others))
to_middle x here others =
    IsPermutation-trans (x ∷ (here ++ others)) ((here ++ others) ++ x ∷ []) (here ++ (x ∷ others)) (IsPermutation-append_comm (x ∷ []) (here ++ others)) (ends x here others)

-- one more file, after `before` others
module _ {X : Type 0} (count before : ℕ) (some : 0 < count) (x : X) (rest : FileShard → List X) where
  abbrev step : FileShard → List X
  step s = taken_of s before x ++ rest s

  has_it : (number : ℕ) → before % count + 1 ≡ number → has (shard count number) before ≡ true
  has_it number is = ap (λ (b : Bool). b && (before % count + 1 == number)) (lt-ltb 0 count some) ∙ eq-eqb (before % count + 1) number is

  has_not : (number : ℕ) → (before % count + 1 ≡ number → ⊥) → has (shard count number) before ≡ false
  has_not number other = ap (λ (b : Bool). b && (before % count + 1 == number)) (lt-ltb 0 count some) ∙ not_true (before % count + 1 == number) (λ e. other (eqb-true (before % count + 1) number e))

  step_takes : (number : ℕ) → before % count + 1 ≡ number → step (shard count number) ≡ x ∷ rest (shard count number)
  step_takes number is = ap (λ (b : Bool). (if b then x ∷ [] else []) ++ rest (shard count number)) (has_it number is)

  step_leaves : (number : ℕ) → (before % count + 1 ≡ number → ⊥) → step (shard count number) ≡ rest (shard count number)
  step_leaves number other = ap (λ (b : Bool). (if b then x ∷ [] else []) ++ rest (shard count number)) (has_not number other)

  -- none of the later shards has it
  left : (first many : ℕ) → before % count + 1 < first → flat_map step (shards_from count first many) ≡ flat_map rest (shards_from count first many)
  left first zero later = refl
  left first (suc many) later =
      ap (λ (z : List X). z ++ flat_map step (shards_from count (first + 1) many)) (step_leaves first (λ e. omega (arith, later, e)))
      ∙ ap (λ (z : List X). rest (shard count first) ++ z) (left (first + 1) many (omega (arith, later)))

  -- one of these shards has it
  taken : (first many : ℕ) → first ≤ before % count + 1 → before % count + 1 < first + many → IsPermutation (x ∷ flat_map rest (shards_from count first many)) (flat_map step (shards_from count first many))
  taken first zero lower upper = absurd (omega (arith, lower, upper))
  taken first (suc many) lower upper =
      let others : List X = flat_map rest (shards_from count (first + 1) many) in
      let here : List X = rest (shard count first) in
      elim (cases_lt first (before % count + 1)) [
        | inl later ↦
            let more : IsPermutation (x ∷ others) (flat_map step (shards_from count (first + 1) many)) = taken (first + 1) many (omega (arith, later)) (omega (arith, upper)) in
            let moved : IsPermutation (x ∷ (here ++ others)) (here ++ (x ∷ others)) = to_middle x here others in
            subst (λ (z : List X). IsPermutation (x ∷ (here ++ others)) (z ++ flat_map step (shards_from count (first + 1) many))) (sym (step_leaves first (λ e. omega (arith, later, e))))
            (IsPermutation-trans (x ∷ (here ++ others)) (here ++ (x ∷ others)) (here ++ flat_map step (shards_from count (first + 1) many)) moved
            (IsPermutation-append_right here (x ∷ others) (flat_map step (shards_from count (first + 1) many)) more))
        | inr not_later ↦
            let is : before % count + 1 ≡ first = omega (arith, lower, not_later) in
            subst (λ (z : List X). IsPermutation (x ∷ (here ++ others)) (z ++ flat_map step (shards_from count (first + 1) many))) (sym (step_takes first is))
            (subst (λ (z : List X). IsPermutation (x ∷ (here ++ others)) (x ∷ (here ++ z))) (sym (left (first + 1) many (omega (arith, is)))) (IsPermutation-refl (x ∷ (here ++ others))))
      ]

none_of : {X : Type 0} (shards : List FileShard) (before : ℕ) → flat_map (λ s. shard_after {X = X} s before []) shards ≡ []
none_of [] before = refl
none_of (s ∷ more) before = none_of more before

shared : {X : Type 0} (count before : ℕ) → 0 < count → (files : List X) → IsPermutation files (flat_map (λ s. shard_after s before files) (shards_from count 1 count))
shared {X = X} count before some [] = subst (λ (z : List X). IsPermutation [] z) (sym (none_of (shards_from count 1 count) before)) (IsPermutation-refl [])
shared {X = X} count before some (x ∷ files) =
    let rest : FileShard → List X = λ s. shard_after s (before + 1) files in
    let below : before % count < count = mod_below before count some in
    IsPermutation-trans (x ∷ files) (x ∷ flat_map rest (shards_from count 1 count)) (flat_map (λ s. taken_of s before x ++ rest s) (shards_from count 1 count))
    (IsPermutation-cons x files (flat_map rest (shards_from count 1 count)) (shared count (before + 1) some files))
    (taken count before some x rest 1 count (omega arith) (omega (arith, below)))

pub shards_share : ShardsShareFiles
shards_share = λ count some files. shared count 0 some files
