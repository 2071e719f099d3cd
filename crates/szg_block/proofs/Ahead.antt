-- Where the value at an index is, after words are passed.
use Rattle.std.proofs.Common.{ℕ, ◌≡◌, ◌+◌, ◌-◌, ◌<◌, ◌≤◌, inl, inr, List, ◌++◌, length, ap, sym, ◌∙◌, arith, length-append}
use Rattle.std.specs.List.{slice_get}
use Rattle.std.proofs.lemmas.Bool.{cases_lt}
use Rattle.szg_code.specs.Canonical.{CanonicalCode}
use Rattle.szg_code.specs.Cursor.{EndlessCursor}
use Rattle.szg_code.specs.Spelling.{BeginsWithNoWord, BeginsWithOneAtMost}
use Rattle.szg_pairs.specs.Expansion.{expansion_of}
use Rattle.szg_block.specs.Reached.{IsAhead, IsReached}
use Rattle.szg_block.specs.declared.words.Reached.{Reached}
use Rattle.szg_block.specs.Spelled.{values_spelled}
use Rattle.szg_block.proofs.Spelling.{values_spelled-none, values_spelled-one_at_most}
use Rattle.szg_block.proofs.Joined.{slice_get-append_before, slice_get-append_after}

module _ (code : CanonicalCode) (entries : List (List ℕ)) (all : List ℕ) (index : ℕ) (old : EndlessCursor) (ahead : ℕ) (is : IsAhead code entries all index old ahead) where
  -- if no word begins the bits left, all are too few
  pub few_values : BeginsWithNoWord code old.cursor.left → length all ≤ index
  few_values none =
      elim (cases_lt 0 old.past) [
        | inl past ↦ is.few past
        | inr within ↦
            let e = values_spelled-none code entries old.cursor.left none in
            let n = is.spelled (omega (arith, within)) in
            omega (arith, is.at_most, ap (λ u. length u) e, n)
      ]

  -- if just a word before it begins the bits left, all are too few
  pub few_of_one : (symbol : ℕ) → BeginsWithOneAtMost code old.cursor.left symbol → length (expansion_of entries symbol) ≤ ahead → length all ≤ index
  few_of_one symbol one over =
      elim (cases_lt 0 old.past) [
        | inl past ↦ is.few past
        | inr within ↦
            let most = values_spelled-one_at_most code entries old.cursor.left symbol one in
            let n = is.spelled (omega (arith, within)) in
            omega (arith, is.at_most, most, over, n)
      ]

  -- words are passed whose values all come before it
  pub passed : (new : EndlessCursor) (xs : List ℕ) (count : ℕ) → count ≡ length xs → count ≤ ahead →
      (new.past ≡ 0 → (old.past ≡ 0) × (values_spelled code entries old.cursor.left ≡ xs ++ values_spelled code entries new.cursor.left)) →
      (0 < new.past → length all ≤ index) → IsAhead code entries all index new (ahead - count)
  passed new xs count l over taken few =
      let ys : List ℕ = values_spelled code entries new.cursor.left in
      let over' : length xs ≤ ahead = omega (arith, l, over) in
      record {
        at_most = omega (arith, is.at_most);
        few = few;
        same = λ inside.
            let t = taken inside in
            ap (λ k. slice_get ys (ahead - k)) l ∙ sym (slice_get-append_after xs ys ahead over') ∙ ap (λ u. slice_get u ahead) (sym t.1) ∙ is.same t.0;
        spelled = λ inside.
            let t = taken inside in
            let n = ap (λ u. length u) t.1 ∙ length-append xs ys in
            let before = is.spelled t.0 in
            omega (arith, n, l, over, is.at_most, before);
      }

  -- The next values are those of `before`, then those of a word that contains it. A reader has moved past as many as come before it and as
  -- `decoded` says.
  pub is_reached : (reached : Reached) (before rest : List ℕ) → old.past ≡ 0 → reached.symbol < length entries → length (expansion_of entries reached.symbol) ≤ 256 →
      values_spelled code entries old.cursor.left ≡ before ++ (expansion_of entries reached.symbol ++ rest) →
      length before ≤ ahead → reached.index ≡ ahead - length before → reached.index < length (expansion_of entries reached.symbol) →
      0 < reached.decoded → length (values_spelled code entries old.cursor.left) ≡ (ahead + reached.decoded) + length (values_spelled code entries reached.left.left) →
      IsReached code entries all index reached
  is_reached reached before rest inside there few e after is_index within some count =
      let xs : List ℕ = expansion_of entries reached.symbol in
      let n = is.spelled inside in
      record {
        there = there;
        within = within;
        few = omega (arith, within, few);
        value = sym (slice_get-append_before xs rest reached.index within) ∙ ap (λ k. slice_get (xs ++ rest) k) is_index
            ∙ sym (slice_get-append_after before (xs ++ rest) ahead after) ∙ ap (λ u. slice_get u ahead) (sym e) ∙ is.same inside;
        some = some;
        spelled = omega (arith, n, count, is.at_most);
      }
