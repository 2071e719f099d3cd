use Rattle.std.proofs.Common.{◌≡◌, ◌≤◌, ◌^◌, ℕ, List, false, refl, arith, ap, None, Some, map}
use Rattle.std.specs.Prelude.{IsTrue}
use Rattle.std.proofs.lemmas.Result.{err_from_is_err_and}
use Rattle.szg_file.specs.Contents.{Slot}
use Rattle.szg_file.specs.Held.{sparse_of}
use Rattle.szg_file.proofs.Readers.IndexChecks.{numbers_many}
use Rattle.szg_file.proofs.Readers.KeptIndexes.{kept_checked, kept_constant, kept_stopped, kept_up_to, is_kept_of}
use Rattle.szg_file.proofs.Readers.ReadingLaws.{reads_nothing}
use Rattle.szg_file.proofs.reading.index.read_measured.Goals.{in-Pairs+in_ok-kept, in_default, then-all, else-all}
use Rattle.szg_file.proofs.reading.index.read_measured.Goals as goal

pub returns-in_err-kept-clause-lengths : goal.returns-in_err-kept-clause-lengths
returns-in_err-kept-clause-lengths g c =
    let p = err_from_is_err_and c.from_residual.result c.from_residual.ensures.1 in
    rw (p.1, p.2, ← c.indexed.view_is, c.in-Pairs.is)
    (kept_stopped c.args.all c.indexed.inside.slot c.indexed.inside.index _ (map sparse_of c.in-Pairs.sparse.items) c.in-Pairs.lengths.items c.in-Pairs.packed.items (λ (l : List ℕ). l) c.in_err-kept.field-0.0 c.in_err-kept.ensures.lengths)

pub index_refusal-requires-clause-few : goal.index_refusal-requires-clause-few
index_refusal-requires-clause-few g c =
    elim c.match-sub.branch [
      | in-Pairs+in_ok-kept w ↦ rw w.sub-is (omega (arith, w.in_ok-kept.ensures.seen))
      | in_default w ↦ rw (w.sub-is, w.in_default.is) tt
    ]

pub returns-in-Some-clause-lengths : goal.returns-in-Some-clause-lengths
returns-in-Some-clause-lengths g c =
    let sized = ap (λ (s : Slot). s.size) c.slot.view_is in
    elim c.match-sub.branch [
      | in-Pairs+in_ok-kept w ↦
          let read = w.in_ok-kept.ensures.lengths in
          let many = numbers_many _ _ _ read.2 in
          let above : IsTrue c.args.all → 2 ^ 63 ≤ w.if-all.limit = λ on. elim w.if-all.branch [ then-all v ↦ omega (arith, v.limit-is) | else-all v ↦ absurd cc ] in
          let below : c.args.all ≡ false → w.if-all.limit ≡ c.slot.inside.size = λ off. elim w.if-all.branch [ then-all v ↦ absurd cc | else-all v ↦ v.limit-is ] in
          let kept = kept_up_to c.args.all c.slot.inside.size w.if-all.limit _ read.0 w.in_ok-kept.kept read.1 (λ all. omega (arith, w.in_ok-kept.kept.values_few, w.in_ok-kept.ensures.seen, above all)) below in
          let checks = (rw (w.sub-is, w.before_last-is) at c.in-Some.ensures.checks) c.args.all read.0 (is_kept_of c.args.all _ w.in-Pairs.sparse.items _ _ _ read.0 w.in_ok-kept.kept read.1 kept refl many (rw w.deref.ensures.value at w.last_block.ensures)) in
          rw (w.input-is, w.state-is, ← c.indexed.view_is, w.in-Pairs.is)
          (kept_checked c.args.all c.indexed.inside.slot c.indexed.inside.index c.slot.inside.size _ (map sparse_of w.in-Pairs.sparse.items) w.in-Pairs.lengths.items w.in-Pairs.packed.items read.0 w.in_ok-kept.kept.lengths.items w.in_ok-kept.kept
          (Some (c.in-Some.place, c.in-Some.reason)) sized kept read.2 checks)
      | in_default w ↦ let none = rw (w.sub-is, w.in_default.is) at c.in-Some.ensures.constant in absurd cc
    ]

pub returns-clause-lengths : goal.returns-clause-lengths
returns-clause-lengths g c =
    let sized = ap (λ (s : Slot). s.size) c.slot.view_is in
    elim c.match-sub.branch [
      | in-Pairs+in_ok-kept w ↦
          let read = w.in_ok-kept.ensures.lengths in
          let many = numbers_many _ _ _ read.2 in
          let above : IsTrue c.args.all → 2 ^ 63 ≤ w.if-all.limit = λ on. elim w.if-all.branch [ then-all v ↦ omega (arith, v.limit-is) | else-all v ↦ absurd cc ] in
          let below : c.args.all ≡ false → w.if-all.limit ≡ c.slot.inside.size = λ off. elim w.if-all.branch [ then-all v ↦ absurd cc | else-all v ↦ v.limit-is ] in
          let kept = kept_up_to c.args.all c.slot.inside.size w.if-all.limit _ read.0 w.in_ok-kept.kept read.1 (λ all. omega (arith, w.in_ok-kept.kept.values_few, w.in_ok-kept.ensures.seen, above all)) below in
          let checks = (rw (w.sub-is, w.before_last-is, c.in_default-index_refusal.is) at c.index_refusal.ensures.checks) c.args.all read.0 (is_kept_of c.args.all _ w.in-Pairs.sparse.items _ _ _ read.0 w.in_ok-kept.kept read.1 kept refl many (rw w.deref.ensures.value at w.last_block.ensures)) in
          rw (w.input-is, w.state-is, w.sub-is, ← c.indexed.view_is, w.in-Pairs.is)
          (kept_checked c.args.all c.indexed.inside.slot c.indexed.inside.index c.slot.inside.size _ (map sparse_of w.in-Pairs.sparse.items) w.in-Pairs.lengths.items w.in-Pairs.packed.items read.0 w.in_ok-kept.kept.lengths.items w.in_ok-kept.kept
          None sized kept read.2 checks)
      | in_default w ↦ rw (w.input-is, w.state-is, w.sub-is, ← c.indexed.view_is, w.in_default.is) (reads_nothing _ _ _ (kept_constant c.args.all c.indexed.inside.slot w.in_default.field-0 w.in_default.field-1 c.indexed.inside.index))
    ]
