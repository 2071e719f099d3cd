use Rattle.std.proofs.Common.{List, ℕ, [], ◌++◌, drop, replicate, ap, sym, refl, ◌∙◌, append_assoc, append-nil, arith}
use Rattle.szg_io.proofs.DeviceLaws.{Gives-none, Gives-on}
use Rattle.szg_build.specs.Dump.{subtable_ids_of}
use Rattle.szg_build.specs.Shown.{form_of}
use Rattle.szg_build.specs.Streaming.{heads_of, rest_text, text_left}
use Rattle.szg_build.specs.Text.{lines_text, value_lines}
use Rattle.szg_build.proofs.Writers.StreamLaws.{none_left, run_done}
use Rattle.szg_build.proofs.Writers.StreamSteps.{end_given}
use Rattle.szg_build.proofs.Writers.WritingLaws.{writes_then}
use Rattle.szg_build.proofs.writing.streaming.end_dump.Goals as goal

pub begun-init : goal.begun-init
begun-init g c =
    let s = c.args.sink.now in
    let x = s.index.now in
    record {
      left = refl;
      bytes = [];
      given = Gives-none g.W.Output c.args.output.now 0;
      quiet = refl;
      whole = ap (λ (z : List ℕ). s.text.held.items ++ z) (none_left (form_of s.form) x.kind (drop s.next (subtable_ids_of x.material x.kind)) (drop s.next (heads_of x)) s.count s.value s.left);
    }

pub begun-preserved : goal.begun-preserved
begun-preserved g c =
    let s = c.begin_sub.new.sink in
    let x = s.index.now in
    let ids = drop s.next (subtable_ids_of x.material x.kind) in
    let heads = drop s.next (heads_of x) in
    let b = c.begun.invariant in
    let here = c.in_ok-begin_sub.ensures.goes in
    let rest : List ℕ = s.text.held.items ++ rest_text (form_of s.form) x.kind ids heads s.count s.value 0 [] in
    record {
      left = refl;
      bytes = b.bytes ++ here.bytes;
      given = Gives-on b.bytes here.bytes 0 b.given here.given;
      quiet = here.quiet ∙ b.quiet;
      whole = b.whole
          ∙ ap (λ (z : List ℕ). b.bytes ++ z)
          (here.whole [] ∙ ap (λ (z : List ℕ). here.bytes ++ (s.text.held.items ++ z)) (none_left (form_of s.form) x.kind ids heads s.count s.value s.left))
          ∙ sym (append_assoc b.bytes here.bytes rest);
    }

pub returns-clause-given : goal.returns-clause-given
returns-clause-given g c =
    let s = c.begun.sink in
    let x = s.index.now in
    let b = c.begun.invariant in
    let run = lines_text (value_lines (form_of s.form) (replicate s.count s.value)) in
    let left = run_done (form_of s.form) x.kind (subtable_ids_of x.material x.kind) (heads_of x) s.next s.count s.value s.left [] b.left (omega (arith, c.begun-test.false, c.count_subs.ensures)) in
    end_given b.bytes (c.args.sink.now.text.held.items ++ text_left c.args.sink.now []) (run ++ []) c.flush.result b.given
    (b.whole ∙ ap (λ (z : List ℕ). b.bytes ++ (s.text.held.items ++ z)) (left ∙ sym (append-nil run)))
    c.flush.ensures.held
    (writes_then run [] tt c.in_ok-put_equal.ensures c.flush.ensures.none)
