-- From the lengths of all symbols to the first fault, or to an accepted dictionary.
use Rattle.std.proofs.Common.{ℕ, ◌≡◌, ◌<◌, ◌≤◌, inl, inr, List, length, map, get_or, sym, ◌∙◌, ap, arith}
use Rattle.std.proofs.lemmas.Bool.{cases_lt}
use Rattle.szg_pairs.specs.Expansion.{Expands}
use Rattle.szg_pairs.specs.Dictionary.{FailsFirst, HasExpansion, HasShortExpansion}
use Rattle.szg_pairs.specs.Walk.{AreLengths}
use Rattle.szg_pairs.specs.State.{node_of, IsDictState}
use Rattle.szg_pairs.specs.declared.nodes.Node.{Node}
use Rattle.szg_pairs.proofs.Expanding.{Expands-unique, Expands-expansion_of}

-- s is the first index of the list whose number has the property P
pub record IsFirstIndex (P : ℕ → Type 0) (numbers : List ℕ) (s : ℕ) : Type 0 where
  pub there : s < length numbers
  pub before : (k : ℕ) → k < s → ¬ P (get_or numbers k 0)
  pub here : P (get_or numbers s 0)

module _ (entries : List (List ℕ)) (lengths : List ℕ) (found : AreLengths entries lengths) where
  expands_at : (s : ℕ) → s < length entries → 0 < get_or lengths s 0 → (values : List ℕ) × Expands entries s values
  expands_at s there some = let x = (found.each s there).known some in (x.0, x.1)

  pub first_endless : (s : ℕ) → IsFirstIndex (λ n. n ≡ 0) lengths s → FailsFirst (HasExpansion entries) s
  first_endless s first =
      let many : length lengths ≡ length entries = found.same_length in
      let there : s < length entries = omega (arith, first.there, many) in
      record {
        before = λ k lt k_there. elim (cases_lt 0 (get_or lengths k 0)) [
          | inl some ↦ expands_at k k_there some
          | inr none ↦ absurd (first.before k lt (omega (arith, none)))
        ];
        here = λ h. let x = h there in (found.each s there).unknown first.here x.0 x.1;
      }

  abbrev AllKnown : Type 0
  AllKnown = (s : ℕ) → s < length lengths → 0 < get_or lengths s 0

  pub all_expand : AllKnown → (s : ℕ) → HasExpansion entries s
  all_expand known s there = let many : length lengths ≡ length entries = found.same_length in expands_at s there (known s (omega (arith, there, many)))

  short_at : AllKnown → (s : ℕ) → s < length entries → get_or lengths s 0 ≤ 256 → (values : List ℕ) × Expands entries s values × (length values ≤ 256) × (get_or lengths s 0 ≡ length values)
  short_at known s there few =
      let many : length lengths ≡ length entries = found.same_length in
      let x = (found.each s there).known (known s (omega (arith, there, many))) in
      (x.0, x.1, omega (arith, x.2, few), omega (arith, x.2, few))

  pub first_too_long : AllKnown → (s : ℕ) → IsFirstIndex (λ n. 256 < n) lengths s → FailsFirst (HasShortExpansion entries) s
  first_too_long known s first =
      let many : length lengths ≡ length entries = found.same_length in
      let there : s < length entries = omega (arith, first.there, many) in
      record {
        before = λ k lt k_there. elim (cases_lt 256 (get_or lengths k 0)) [
          | inl more ↦ absurd (first.before k lt more)
          | inr few ↦ let x = short_at known k k_there few in (x.0, x.1, x.2)
        ];
        here = λ h.
            let x = h there in
            let y = (found.each s there).known (known s first.there) in
            let same = ap length (Expands-unique entries x.1 y.1) in
            absurd (omega (arith, first.here, x.2, y.2, same));
      }

  abbrev AllShort : Type 0
  AllShort = (s : ℕ) → s < length lengths → get_or lengths s 0 ≤ 256

  pub dict_state : AllKnown → AllShort → length entries ≤ 65535 → (nodes : List Node) → nodes ≡ map (node_of lengths) entries → IsDictState entries nodes lengths
  dict_state known short few nodes same_nodes =
      let many : length lengths ≡ length entries = found.same_length in
      record {
        dictionary = λ s there. let x = short_at known s there (short s (omega (arith, there, many))) in (x.0, x.1, x.2);
        few = few;
        same_length = many;
        each = λ s there.
            let x = short_at known s there (short s (omega (arith, there, many))) in
            x.3 ∙ ap length (sym (Expands-expansion_of entries s x.0 x.1 x.2));
        same_nodes = same_nodes;
      }
