use Rattle.std.proofs.Common.{◌≡◌, ◌-◌, ℕ, List, [], ◌++◌, drop, replicate, ap, sym, ◌∙◌, arith, inl, inr, refl}
use Rattle.std.specs.Prelude.{◌⊎◌}
use Rattle.szg_io.proofs.DeviceLaws.{Gives-none}
use Rattle.szg_build.specs.Dump.{subtable_ids_of}
use Rattle.szg_build.specs.Shown.{form_of}
use Rattle.szg_build.specs.Streaming.{heads_of, text_left}
use Rattle.szg_build.specs.Text.{lines_text, value_lines}
use Rattle.szg_build.proofs.Writers.StreamLaws.{run_grows, run_ends}
use Rattle.szg_build.proofs.Writers.StreamSteps.{goes_written}
use Rattle.szg_build.proofs.writing.streaming.add_run.Goals as goal
use Rattle.szg_build.proofs.writing.streaming.add_run.Goals.{else-sink-gt0-via-then-sink-gt0+else-sink-value, else-sink-gt0-via-else-sink-gt0}

pub returns-then-sink-value-clause-goes : goal.returns-then-sink-value-clause-goes
returns-then-sink-value-clause-goes g c =
    let s = c.args.sink.now in
    let x = s.index.now in
    record {
      bytes = [];
      given = Gives-none g.W.Output c.args.output.now 0;
      quiet = refl;
      whole = λ rest.
          ap (λ (z : List ℕ). s.text.held.items ++ z)
          (ap (λ (v : ℕ). text_left s (replicate c.args.count v ++ rest)) (sym c.if-sink-value.true)
          ∙ run_grows (form_of s.form) x.kind (drop s.next (subtable_ids_of x.material x.kind)) (drop s.next (heads_of x)) s.count s.value c.args.count s.left (s.left - c.args.count) rest (omega (arith, c.requires.within)));
    }

pub returns-clause-goes : goal.returns-clause-goes
returns-clause-goes g c =
    let s = c.args.sink.now in
    let x = s.index.now in
    let apart : (s.count ≡ 0) ⊎ (s.value ≡ c.args.value → ⊥) =
    elim c.else-sink-gt0.branch [
      | else-sink-gt0-via-then-sink-gt0+else-sink-value w ↦ inr w.if-sink-value.false
      | else-sink-gt0-via-else-sink-gt0 w ↦ inl (omega (arith, w.if-sink-gt0.false))
    ] in
    goes_written (replicate c.args.count c.args.value) (lines_text (value_lines (form_of s.form) (replicate s.count s.value))) c.in_ok-put_equal.ensures
    (λ rest. run_ends (form_of s.form) x.kind (drop s.next (subtable_ids_of x.material x.kind)) (drop s.next (heads_of x)) s.count s.value c.args.count c.args.value s.left (s.left - c.args.count) rest (omega (arith, c.requires.within)) apart c.requires.some)
