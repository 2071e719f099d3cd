-- The steps of a dump's sink: what it wrote, what is buffered, and what is left to write.
use Rattle.std.proofs.Common.{◌≡◌, ℕ, List, [], ◌∷◌, ◌++◌, replicate, flat_map, refl, sym, ap, subst, ◌∙◌, append_assoc, append-nil, Ok, Err}
use Rattle.std.specs.List.{FoldsTo}
use Rattle.std.specs.Prelude.{Result, OnOk}
use Rattle.szg_file.specs.declared.fault.WriteFault.{WriteFault}
use Rattle.szg_build.specs.declared.writing.dump_text.DumpText.{DumpText}
use Rattle.szg_io.specs.Moved.{Gives}
use Rattle.szg_io.specs.declared.device.Output as output
use Rattle.szg_io.proofs.DeviceLaws.{Gives-none, Gives-on}
use Rattle.szg_file.specs.Streaming.{Accepted}
use Rattle.szg_build.specs.Dump.{subtable_ids_of}
use Rattle.szg_build.specs.Shown.{form_of}
use Rattle.szg_build.specs.Streaming.{Goes, heads_of, IsDone, text_left}
use Rattle.szg_build.specs.Text.{lines_text, value_lines}
use Rattle.szg_build.specs.Writing.{Writing}
use Rattle.szg_build.specs.declared.writing.dump_sink.DumpSink.{DumpSink}
use Rattle.szg_build.proofs.Writers.StreamLaws.{run_done}

-- nothing was taken or written
pub goes_none : {W : Type 0} (writing : output.Ghosts W) (s : DumpSink) (out : W) → Goes writing [] s out s out
goes_none writing s out = record { bytes = []; given = Gives-none writing out 0; quiet = refl; whole = λ rest. refl }

-- one call after another
pub goes_then : {W : Type 0} {writing : output.Ghosts W} (xs ys : List ℕ) {s : DumpSink} {out : W} {s' : DumpSink} {out' : W} {s'' : DumpSink} {out'' : W} →
    Goes writing xs s out s' out' → Goes writing ys s' out' s'' out'' → Goes writing (xs ++ ys) s out s'' out''
goes_then xs ys {s = s} {s' = s'} {s'' = s''} first second = record {
  bytes = first.bytes ++ second.bytes;
  given = Gives-on first.bytes second.bytes 0 first.given second.given;
  quiet = second.quiet ∙ first.quiet;
  whole = λ rest.
      ap (λ (z : List ℕ). s.text.held.items ++ text_left s z) (append_assoc xs ys rest)
      ∙ first.whole (ys ++ rest)
      ∙ ap (λ (z : List ℕ). first.bytes ++ z) (second.whole rest)
      ∙ sym (append_assoc first.bytes second.bytes (s''.text.held.items ++ text_left s'' rest));
}

-- the same values
pub goes_as : {W : Type 0} {writing : output.Ghosts W} (xs ys : List ℕ) {s : DumpSink} {out : W} {s' : DumpSink} {out' : W} → xs ≡ ys → Goes writing xs s out s' out' → Goes writing ys s out s' out'
goes_as {writing = writing} xs ys {s = s} {out = out} {s' = s'} {out' = out'} e h = subst (λ (z : List ℕ). Goes writing z s out s' out') e h

-- a text was written that was left
pub goes_written : {W : Type 0} {writing : output.Ghosts W} (values text : List ℕ) {s : DumpSink} {out : W} {s' : DumpSink} {out' : W} →
    Writing {X = Unit {0}} text s.text s'.text writing out out' (Ok tt) → ((rest : List ℕ) → text_left s (values ++ rest) ≡ text ++ text_left s' rest) → Goes writing values s out s' out'
goes_written values text {s = s} {s' = s'} h left = record {
  bytes = h.bytes;
  given = h.given;
  quiet = h.answer.1;
  whole = λ rest.
      ap (λ (z : List ℕ). s.text.held.items ++ z) (left rest)
      ∙ sym (append_assoc s.text.held.items text (text_left s' rest))
      ∙ ap (λ (z : List ℕ). z ++ text_left s' rest) (sym h.answer.0.whole)
      ∙ append_assoc h.bytes s'.text.held.items (text_left s' rest);
}

-- where each subtable is whole, further values change nothing
pub goes_beyond : {W : Type 0} (writing : output.Ghosts W) (values : List ℕ) (s : DumpSink) (out : W) → IsDone s → Goes writing values s out s out
goes_beyond writing values s out done = record {
  bytes = [];
  given = Gives-none writing out 0;
  quiet = refl;
  whole = λ rest. ap (λ (z : List ℕ). s.text.held.items ++ z) (same (values ++ rest) ∙ sym (same rest));
} where
  same : (values : List ℕ) → text_left s values ≡ lines_text (value_lines (form_of s.form) (replicate s.count s.value))
  same values =
      let x = s.index.now in
      run_done (form_of s.form) x.kind (subtable_ids_of x.material x.kind) (heads_of x) s.next s.count s.value s.left values done.0 done.1

fold_goes : {W : Type 0} (writing : output.Ghosts W) (chunks : List (List ℕ)) (p q : DumpSink × W) → FoldsTo {P = DumpSink × W} (λ p chunk q. Goes writing chunk p.0 p.1 q.0 q.1) p chunks q →
    Goes writing (flat_map (λ chunk. chunk) chunks) p.0 p.1 q.0 q.1
fold_goes writing [] p q same = subst (λ (z : DumpSink × _). Goes writing [] p.0 p.1 z.0 z.1) same (goes_none writing p.0 p.1)
fold_goes writing (chunk ∷ chunks) p q steps = goes_then chunk (flat_map (λ chunk. chunk) chunks) steps.1 (fold_goes writing chunks steps.0 q steps.2)

-- all values that the sink accepted
pub accepted_goes : {W : Type 0} (writing : output.Ghosts W) (values : List ℕ) (s : DumpSink) (out : W) (s' : DumpSink) (out' : W) →
    Accepted (λ s out values s' out'. Goes writing values s out s' out') values s out s' out' → Goes writing values s out s' out'
accepted_goes writing values s out s' out' h = subst (λ (z : List ℕ). Goes writing z s out s' out') (sym h.joined) (fold_goes writing h.chunks (s, out) (s', out') h.steps)

-- what a call wrote that returned
pub ok_written : {W : Type 0} (text : List ℕ) {o n : DumpText} {dev : output.Ghosts W} {i k : W} (r : Result (Unit {0}) WriteFault) → Writing text o n dev i k r → OnOk r (Writing {X = Unit {0}} text o n dev i k (Ok tt))
ok_written text (Ok x) h = record { bytes = h.bytes; given = h.given; answer = h.answer }
ok_written text (Err fault) h = tt

pub ok_as : {W : Type 0} (s t : List ℕ) {o n : DumpText} {dev : output.Ghosts W} {i k : W} (r : Result (Unit {0}) WriteFault) → s ≡ t → Writing s o n dev i k r → OnOk r (Writing {X = Unit {0}} t o n dev i k (Ok tt))
ok_as s t {o} {n} {dev} {i} {k} r e h = ok_written t r (subst (λ (z : List ℕ). Writing z o n dev i k r) e h)

-- after these bytes, what was buffered and a text are written whole
pub end_given : {W : Type 0} (before whole text : List ℕ) {o n : DumpText} {dev : output.Ghosts W} {h i k : W} (r : Result (Unit {0}) WriteFault) →
    Gives dev h i before 0 → whole ≡ before ++ (o.held.items ++ text) → OnOk r (n.held.items ≡ []) → Writing text o n dev i k r → OnOk r (Gives dev h k whole 0)
end_given before whole text {o} {n} {dev} {h} {i} {k} (Ok x) first e held last =
    let all : before ++ last.bytes ≡ whole =
    ap (λ (z : List ℕ). before ++ z) (sym (append-nil last.bytes) ∙ ap (λ (z : List ℕ). last.bytes ++ z) (sym held) ∙ last.answer.0.whole) ∙ sym e in
    subst (λ (z : List ℕ). Gives dev h k z 0) all (Gives-on before last.bytes 0 first last.given)
end_given before whole text (Err fault) first e held last = tt
