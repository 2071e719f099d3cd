-- What writing all sections of a table implies for its file.
use Rattle.std.proofs.Common.{◌≡◌, ℕ, ◌+◌, ◌^◌, ◌<◌, List, [], ◌∷◌, ◌++◌, length, take, refl, sym, ap, subst, ◌∙◌, append-nil, arith}
use Rattle.std.specs.Prelude.{Result, Ok, Err, IfErr, OnOk, OnErr}
use Rattle.std.specs.List.{FoldsTo}
use Rattle.std.proofs.lemmas.List.{length-append}
use Rattle.szg_io.specs.Device.{HasFailed}
use Rattle.szg_io.specs.Moved.{Gives}
use Rattle.szg_file.specs.declared.writing.outgoing.Outgoing.{Outgoing}
use Rattle.szg_file.specs.declared.fault.WriteFault.{WriteFault}
use Rattle.szg_file.specs.FileOf.{Section, joined}
use Rattle.szg_file.specs.declared.writing.writer.Writer.{Writer}
use Rattle.szg_file.specs.Sections.{Took}
use Rattle.szg_file.specs.Writing.{Writing, WritesNext}
use Rattle.szg_file.proofs.Writers.WritingLaws.{writes_nothing, writes_then, writes_stopped}
use Rattle.szg_io.specs.declared.device.Output.{Ghosts}
use Rattle.szg_file.proofs.Grammar.FormatLaws.{take_front}

-- ---- sections one after another

writes_no_section : {W : Type 0} (dev : Ghosts W) (w : Writer) (o : W) (r : Result (Unit {0}) WriteFault) → w.result ≡ r → WritesNext dev r [] w o w o
writes_no_section dev w o (Ok done) e = subst (λ (z : Result (Unit {0}) WriteFault). Writing [] w.outgoing w.outgoing dev o o z) (sym e) (writes_nothing done)
writes_no_section dev w o (Err fault) e = (e, refl)

writes_more_sections : {W : Type 0} (dev : Ghosts W) (section : Section) (s : List Section) (a b c : Writer) (o p q : W) (r rm : Result (Unit {0}) WriteFault) → b.result ≡ rm →
    WritesNext dev r (section ∷ []) a o b p → WritesNext dev rm s b p c q → WritesNext dev r (section ∷ s) a o c q
writes_more_sections dev section s a b c o p q (Err fault) (Ok done) e first second = absurd (let never : Err fault ≡ Ok done = sym first.0 ∙ e in cc)
writes_more_sections dev section s a b c o p q (Err fault) (Err other) e first second = (second.0 ∙ sym e ∙ first.0, second.1 ∙ first.1)
writes_more_sections dev section s a b c o p q (Ok done) (Ok more) e first second =
    writes_then (section ∷ []) s more (subst (λ (z : Result (Unit {0}) WriteFault). Writing (section ∷ []) a.outgoing b.outgoing dev o p z) e first) second
writes_more_sections dev section s a b c o p q (Ok done) (Err fault) e first second =
    subst (λ (z : Result (Unit {0}) WriteFault). Writing (section ∷ s) a.outgoing c.outgoing dev o q z) (sym second.0)
    (subst (λ (z : _). Writing {X = Unit {0}} (section ∷ s) a.outgoing c.outgoing dev o z (Err fault)) (sym second.1)
    (writes_stopped {Y = Unit {0}} (section ∷ []) s {n' = c.outgoing} fault (subst (λ (z : Result (Unit {0}) WriteFault). Writing (section ∷ []) a.outgoing b.outgoing dev o p z) e first)))

writes_steps : {W : Type 0} (dev : Ghosts W) (s : List Section) (p q : Writer × W) →
    FoldsTo {P = Writer × W} (λ p section q. WritesNext dev p.0.result (section ∷ []) p.0 p.1 q.0 q.1) p s q → WritesNext dev p.0.result s p.0 p.1 q.0 q.1
writes_steps dev [] p q h = subst (λ (z : Writer × _). WritesNext dev p.0.result [] p.0 p.1 z.0 z.1) h (writes_no_section dev p.0 p.1 p.0.result refl)
writes_steps dev (section ∷ s) p q h =
    writes_more_sections dev section s p.0 h.0.0 q.0 p.1 h.0.1 q.1 p.0.result h.0.0.result refl h.1 (writes_steps dev s h.0 q h.2)

-- a writer without a failure wrote the sections that it took
pub writes_taken : {W : Type 0} (dev : Ghosts W) (s : List Section) (a b : Writer) (o p : W) → a.result ≡ Ok tt →
    Took (λ old output section new left. WritesNext dev old.result (section ∷ []) old output new left) s a o b p →
    Writing s a.outgoing b.outgoing dev o p b.result
writes_taken dev s a b o p well h =
    subst (λ (r : Result (Unit {0}) WriteFault). WritesNext dev r s a o b p) well (writes_steps dev s (a, o) (b, p) h.steps)

-- ---- the whole file

-- the clauses of `write`
pub record Clauses {W : Type 0} (file : List ℕ) (dev : Ghosts W) (i k : W) (r : Result (Unit {0}) WriteFault) : Type 0 where
  pub ok : OnOk r (Gives dev i k file 0)
  pub err : IfErr r (λ fault. Gives dev i k (take fault.out file) 1)
  pub short : IfErr r (λ fault. fault.out < length file)
  pub failed : OnErr r (HasFailed (dev.failures i) (dev.failures k) (dev.interrupted k))
  pub quiet : OnOk r (dev.failures k ≡ dev.failures i)

pub file_written : {W : Type 0} (s : List Section) (fill : List ℕ) (o n : Outgoing)
    {dev : Ghosts W} {i k : W} (r : Result (Unit {0}) WriteFault) →
    o.out ≡ 0 → o.held.items ≡ [] → o.fill.now ≡ fill → OnOk r (n.held.items ≡ []) → length (joined [] s fill) < 2 ^ 64 →
    Writing s o n dev i k r → Clauses (joined [] s fill) dev i k r
file_written s fill o n {dev = dev} {i = i} {k = k} (Ok x) out held filled empty below h =
    let from : joined (o.held.items) (s ++ []) o.fill.now ≡ joined [] s fill =
    ap (λ (z : List ℕ). joined z (s ++ []) o.fill.now) held ∙ ap (λ (z : List Section). joined [] z o.fill.now) (append-nil s) ∙ ap (λ (z : List ℕ). joined [] s z) filled in
    let same : joined [] s fill ≡ h.bytes =
    sym from ∙ h.answer.0.whole [] [] out ∙ ap (λ (z : List ℕ). h.bytes ++ z) empty ∙ append-nil h.bytes in
    record {
      ok = subst (λ (z : List ℕ). Gives dev i k z 0) (sym same) h.given;
      err = tt;
      short = tt;
      failed = tt;
      quiet = h.answer.1;
    }
file_written s fill o n {dev = dev} {i = i} {k = k} (Err fault) out held filled empty below h =
    let from : joined (o.held.items) (s ++ []) o.fill.now ≡ joined [] s fill =
    ap (λ (z : List ℕ). joined z (s ++ []) o.fill.now) held ∙ ap (λ (z : List Section). joined [] z o.fill.now) (append-nil s) ∙ ap (λ (z : List ℕ). joined [] s z) filled in
    let b = h.answer.0.begun [] [] out in
    let same : joined [] s fill ≡ h.bytes ++ b.0 = sym from ∙ b.2 in
    let long : length (joined [] s fill) ≡ length h.bytes + length b.0 = ap length same ∙ length-append h.bytes b.0 in
    let count : fault.out ≡ length h.bytes = omega (arith, h.answer.0.counts [] out, long, below) in
    let front : take fault.out (joined [] s fill) ≡ h.bytes =
    ap (λ (z : List ℕ). take fault.out z) same ∙ take_front fault.out h.bytes b.0 (sym count) in
    record {
      ok = tt;
      err = subst (λ (z : List ℕ). Gives dev i k z 1) (sym front) h.given;
      short = omega (arith, count, long, b.1);
      failed = h.answer.1;
      quiet = tt;
    }
