-- Readers of lines compose: what two calls read one after another is the first text and then the second.
use Rattle.std.proofs.Common.{◌≡◌, ℕ, List, [], ◌++◌, refl, sym, ap, subst, ◌∙◌, append_assoc, append-nil, Option, Some, None, Ok, Err, Bool}
use Rattle.std.specs.Prelude.{Result, IsOk, IsErrOf, IsErrAnd, IsTrue}
use Rattle.std.proofs.lemmas.Result.{err_from_is_err_and}
use Rattle.std.specs.Io.KnownBytes.{Consumes}
use Rattle.szg_io.specs.Device.{HasFailed}
use Rattle.szg_io.specs.Moved.{Takes}
use Rattle.szg_io.specs.declared.device.Input.{Ghosts}
use Rattle.szg_io.proofs.DeviceLaws.{Takes-on, Takes-none, Takes-more}
use Rattle.szg_build.specs.declared.reading.incoming.Incoming.{Incoming}
use Rattle.szg_build.specs.Held.{held_of}
use Rattle.szg_build.specs.declared.dump.DumpFault.{DumpFault}
use Rattle.szg_build.specs.declared.BuildFault.{BuildFault}
use Rattle.szg_build.specs.declared.dump.DumpReadFault.{DumpReadFault}
use Rattle.szg_build.specs.declared.dump.DumpReadFault.TheVariants.{Line, Build, Device, Memory}
use Rattle.szg_build.specs.Lines.{Lines, means, refuses, of_line, of_plan, Verdict, good, refused, ended, verdict, ◌>>=◌}
use Rattle.szg_build.specs.Dump.{Dump}
use Rattle.szg_build.specs.Shown.{FollowsLines, TookLines}
use Rattle.szg_build.specs.Reading.{IsLineFault, IsPlanFault, EndsWith, LinesAnswer, retry_rounds, ReadsLines}
use Rattle.szg_build.proofs.Texts.LinesLaws.{continued, verdict-then, good-more, refused-more}

-- bytes x begin with a text of f, followed by h: whatever follows x, the verdict of f is that of g on h and the
-- bytes that follow
pub following_text : {A B : Type 0} (f : Lines A) (g : A → Lines B) (count count' : ℕ) (x y h : List ℕ) (a : A) →
    verdict f count x ≡ good a count' h → verdict (f >>= g) count (x ++ y) ≡ verdict (g a) count' (h ++ y)
following_text f g count count' x y h a e = verdict-then f g count (x ++ y) ∙ ap (continued g) (good-more f count x y a count' h e)

IsLineFault-first : {A B : Type 0} (g : A → Lines B) (v : Verdict A) (number : ℕ) (fault : DumpFault) → IsLineFault v number fault → IsLineFault (continued g v) number fault
IsLineFault-first g (good a count rest) number fault h = absurd h
IsLineFault-first g (refused at why rest) number fault h = h
IsLineFault-first g (ended at) number fault h = h

IsPlanFault-first : {A B : Type 0} (g : A → Lines B) (v : Verdict A) (fault : BuildFault) → IsPlanFault v fault → IsPlanFault (continued g v) fault
IsPlanFault-first g (good a count rest) fault h = absurd h
IsPlanFault-first g (refused at why rest) fault h = h
IsPlanFault-first g (ended at) fault h = h

EndsWith-first : {A B : Type 0} (g : A → Lines B) (v : Verdict A) (number : ℕ) (fault : DumpFault) (coming : Option (List ℕ)) → IsLineFault v number fault → EndsWith v coming → EndsWith (continued g v) coming
EndsWith-first g (good a count rest) number fault coming h e = absurd h
EndsWith-first g (refused at why rest) number fault coming h e = e
EndsWith-first g (ended at) number fault coming h e = e

-- two texts with equal verdicts have equal results
pub answer_on : {B Y : Type 0} (f g : Lines B) (view : Y → B) (count count' : ℕ) (new : Incoming) (x y : List ℕ) (coming : Option (List ℕ)) (fs fs' row : ℕ) (may : Bool) (r : Result Y DumpReadFault) →
    verdict f count x ≡ verdict g count' y → LinesAnswer g view count' new y coming fs fs' row may r → LinesAnswer f view count new x coming fs fs' row may r
answer_on f g view count count' new x y coming fs fs' row may (Ok v) e p = (p.0, p.1, e ∙ p.2, p.3)
answer_on f g view count count' new x y coming fs fs' row may (Err (Line number fault)) e p =
    (subst (λ v. IsLineFault v number fault) (sym e) p.0, subst (λ v. EndsWith v coming) (sym e) p.1, p.2)
answer_on f g view count count' new x y coming fs fs' row may (Err (Build fault)) e p = (subst (λ v. IsPlanFault v fault) (sym e) p.0, p.1)
answer_on f g view count count' new x y coming fs fs' row may (Err Device) e p = p
answer_on f g view count count' new x y coming fs fs' row may (Err Memory) e p = p

-- the error in a result
abbrev error_in : {X E : Type 0} → E → Result X E → E
error_in other (Ok x) = other
error_in other (Err fault) = fault

pub same_error : {X Y E : Type 0} {x y : E} → let r : Result X E = Err x in let s : Result Y E = Err x in IsErrOf r y → IsErrOf s y
same_error {x = x} e = ap Err (ap (error_in x) e)

-- an error that is never returned is not passed on
pub passed_on : {X Y E P : Type 0} {x y : E} {s : Result Y E} → IsErrAnd s (λ z. z ≡ x) → (let r : Result X E = Err x in IsErrOf r y → ⊥) → IsErrOf s y → P
passed_on {x = x} {s = s} same never e = let p = err_from_is_err_and s same in absurd (never (ap Err (sym p.2 ∙ ap (error_in x) (sym p.1 ∙ e))))

-- ReadsLines for an equal text
pub reads_as : {A X R : Type 0} {f g : Lines A} {view : X → A} {o n : Incoming} {dev : Ghosts R} {i k : R} {r : Result X DumpReadFault} → f ≡ g → ReadsLines g view o n dev i k r → ReadsLines f view o n dev i k r
reads_as {view = view} {o = o} {n = n} {dev = dev} {i = i} {k = k} {r = r} e read = subst (λ z. ReadsLines z view o n dev i k r) (sym e) read

-- A reader after one that returned a value.
pub reads_then : {A B X Y R : Type 0} (f : Lines A) (g : A → Lines B) (view : X → A) (view' : Y → B) {o m n : Incoming}
    {dev : Ghosts R} {i j k : R} (v : X) {r : Result Y DumpReadFault} →
    ReadsLines f view o m dev i j (Ok v) →
    ReadsLines (g (view v)) view' m n dev j k r →
    ReadsLines (f >>= g) view' o n dev i k r
reads_then f g view view' {o = o} {m = m} {n = n} {dev = dev} {i = i} {j = j} {k = k} v {r = r} first second = record {
  bytes = first.bytes ++ second.bytes;
  taken = Takes-on first.bytes second.bytes (retry_rounds r) first.taken second.taken;
  answer = λ count stated.
      let a = first.answer count stated in
      let joint : verdict (f >>= g) count ((held_of o) ++ (first.bytes ++ second.bytes)) ≡ verdict (g (view v)) a.0 ((held_of m) ++ second.bytes) =
      ap (λ (z : List ℕ). verdict (f >>= g) count z) (sym (append_assoc (held_of o) first.bytes second.bytes))
      ∙ following_text f g count a.0 ((held_of o) ++ first.bytes) second.bytes (held_of m) (view v) a.2 in
      answer_on (f >>= g) (g (view v)) view' count a.0 n ((held_of o) ++ (first.bytes ++ second.bytes)) ((held_of m) ++ second.bytes) (dev.coming k) (dev.failures i) (dev.failures k) (dev.interrupted k) (dev.may_fail i) r joint
      (subst (λ (may : Bool). LinesAnswer (g (view v)) view' a.0 n ((held_of m) ++ second.bytes) (dev.coming k) (dev.failures i) (dev.failures k) (dev.interrupted k) may r) first.taken.stays
      (subst (λ (fs : ℕ). LinesAnswer (g (view v)) view' a.0 n ((held_of m) ++ second.bytes) (dev.coming k) fs (dev.failures k) (dev.interrupted k) (dev.may_fail j) r) a.3 (second.answer a.0 a.1)));
}

-- A reader's fault is the fault of the whole.
stopped : {A B X Y : Type 0} (f : Lines A) (g : A → Lines B) (view : X → A) (view' : Y → B) (count : ℕ) (new new' : Incoming) (x : List ℕ) (coming : Option (List ℕ)) (fs fs' row : ℕ) (may : Bool) (fault : DumpReadFault) →
    LinesAnswer f view count new x coming fs fs' row may (Err fault) → LinesAnswer (f >>= g) view' count new' x coming fs fs' row may (Err fault)
stopped f g view view' count new new' x coming fs fs' row may (Line number fault) p = (
  subst (λ v. IsLineFault v number fault) (sym (verdict-then f g count x)) (IsLineFault-first g (verdict f count x) number fault p.0),
  subst (λ v. EndsWith v coming) (sym (verdict-then f g count x)) (EndsWith-first g (verdict f count x) number fault coming p.0 p.1),
  p.2,
)
stopped f g view view' count new new' x coming fs fs' row may (Build fault) p =
    (subst (λ v. IsPlanFault v fault) (sym (verdict-then f g count x)) (IsPlanFault-first g (verdict f count x) fault p.0), p.1)
stopped f g view view' count new new' x coming fs fs' row may Device p = p
stopped f g view view' count new new' x coming fs fs' row may Memory p = p

pub reads_stopped : {A B X Y R : Type 0} (f : Lines A) (g : A → Lines B) (view : X → A) (view' : Y → B) {o n n' : Incoming}
    {dev : Ghosts R} {i k : R} (fault : DumpReadFault) →
    ReadsLines f view o n dev i k (Err fault) →
    ReadsLines (f >>= g) view' o n' dev i k (Err fault)
reads_stopped f g view view' {o = o} {n = n} {n' = n'} {dev = dev} {i = i} {k = k} fault first = record {
  bytes = first.bytes;
  taken = first.taken;
  answer = λ count stated. stopped f g view view' count n n' ((held_of o) ++ first.bytes) (dev.coming k) (dev.failures i) (dev.failures k) (dev.interrupted k) (dev.may_fail i) fault (first.answer count stated);
}

-- A value without any line is read without a call.
pub reads_nothing : {A X R : Type 0} (f : Lines A) (view : X → A) (x : X) {o : Incoming}
    {dev : Ghosts R} {i : R} → f ≡ means (view x) →
    ReadsLines f view o o dev i i (Ok x)
reads_nothing f view x {o = o} {dev = dev} {i = i} e = record {
  bytes = [];
  taken = Takes-none dev i 0;
  answer = λ count stated. (count, stated, ap (λ h. verdict h count ((held_of o) ++ [])) e ∙ ap (λ (z : List ℕ). good (view x) count z) (append-nil (held_of o)), refl);
}

-- A refusal is returned without a call.
pub reads_refused : {A X R : Type 0} (f : Lines A) (view : X → A) (fault : DumpFault) {o : Incoming}
    {dev : Ghosts R} {i : R} → f ≡ refuses (of_line fault) →
    ReadsLines f view o o dev i i (Err (Line o.line fault))
reads_refused f view fault {o = o} {dev = dev} {i = i} e = record {
  bytes = [];
  taken = Takes-none dev i 1;
  answer = λ count stated.
      let same : verdict f count ((held_of o) ++ []) ≡ refused count (of_line fault) ((held_of o) ++ []) = ap (λ h. verdict h count ((held_of o) ++ [])) e in
      (subst (λ v. IsLineFault v o.line fault) (sym same) (sym stated, refl), subst (λ v. EndsWith v (dev.coming i)) (sym same) tt, refl);
}

pub reads_unbuilt : {A X R : Type 0} (f : Lines A) (view : X → A) (fault : BuildFault) {o : Incoming}
    {dev : Ghosts R} {i : R} → f ≡ refuses (of_plan fault) →
    ReadsLines f view o o dev i i (Err (Build fault))
reads_unbuilt f view fault {o = o} {dev = dev} {i = i} e = record {
  bytes = [];
  taken = Takes-none dev i 1;
  answer = λ count stated.
      let same : verdict f count ((held_of o) ++ []) ≡ refused count (of_plan fault) ((held_of o) ++ []) = ap (λ h. verdict h count ((held_of o) ++ [])) e in
      (subst (λ v. IsPlanFault v fault) (sym same) refl, refl);
}

-- ---- a whole dump: the contract of the public call

taken_off : (all : List ℕ) (after : Option (List ℕ)) (bytes : List ℕ) → Consumes (Some all) after bytes → (rest : List ℕ) × (after ≡ Some rest) × (all ≡ bytes ++ rest)
taken_off all None bytes h = absurd h
taken_off all (Some rest) bytes h = (rest, refl, h)

line_fault_more : {A : Type 0} (f : Lines A) (count : ℕ) (bytes rest : List ℕ) (number : ℕ) (fault : DumpFault) (v : Verdict A) → verdict f count bytes ≡ v →
    IsLineFault v number fault → EndsWith v (Some rest) → IsLineFault (verdict f count (bytes ++ rest)) number fault
line_fault_more f count bytes rest number fault (good a n r) e h w = absurd h
line_fault_more f count bytes rest number fault (refused at why r) e h w = subst (λ v. IsLineFault v number fault) (sym (refused-more f count bytes rest at why r e)) h
line_fault_more f count bytes rest number fault (ended at) e h w =
    subst (λ v. IsLineFault v number fault) (sym e ∙ ap (λ (z : List ℕ). verdict f count z) (sym (append-nil bytes) ∙ ap (λ (z : List ℕ). bytes ++ z) (sym w))) h

plan_fault_more : {A : Type 0} (f : Lines A) (count : ℕ) (bytes rest : List ℕ) (fault : BuildFault) (v : Verdict A) → verdict f count bytes ≡ v →
    IsPlanFault v fault → IsPlanFault (verdict f count (bytes ++ rest)) fault
plan_fault_more f count bytes rest fault (good a n r) e h = absurd h
plan_fault_more f count bytes rest fault (refused at why r) e h = subst (λ v. IsPlanFault v fault) (sym (refused-more f count bytes rest at why r e)) h
plan_fault_more f count bytes rest fault (ended at) e h = absurd h

follows : {X : Type 0} (view : X → Dump) (f : Lines Dump) (new : Incoming) (bytes rest : List ℕ) (fs fs' row : ℕ) (may : Bool) (r : Result X DumpReadFault) → (IsOk r → (held_of new) ≡ []) →
    LinesAnswer f view 0 new bytes (Some rest) fs fs' row may r → FollowsLines view (verdict f 0 (bytes ++ rest)) r (Some rest)
follows view f new bytes rest fs fs' row may (Ok dump) none h =
    let e : verdict f 0 bytes ≡ good (view dump) h.0 [] = h.2 ∙ ap (λ (z : List ℕ). good (view dump) h.0 z) (none refl) in
    (h.0, rest, good-more f 0 bytes rest (view dump) h.0 [] e, refl)
follows view f new bytes rest fs fs' row may (Err (Line number fault)) none h = line_fault_more f 0 bytes rest number fault (verdict f 0 bytes) refl h.0 h.1
follows view f new bytes rest fs fs' row may (Err (Build fault)) none h = plan_fault_more f 0 bytes rest fault (verdict f 0 bytes) refl h.0
follows view f new bytes rest fs fs' row may (Err Device) none h = tt
follows view f new bytes rest fs fs' row may (Err Memory) none h = tt

-- If the bytes to come are known, the result is their verdict.
pub known_reads : {X R : Type 0} (view : X → Dump) (f : Lines Dump) {o n : Incoming} {dev : Ghosts R} {i k : R} {r : Result X DumpReadFault} →
    ReadsLines f view o n dev i k r → o.line ≡ 0 → (held_of o) ≡ [] → (IsOk r → (held_of n) ≡ []) →
    (all : List ℕ) → dev.coming i ≡ Some all → FollowsLines view (verdict f 0 all) r (dev.coming k)
known_reads view f {o = o} {n = n} {dev = dev} {i = i} {k = k} {r = r} read first none last all e =
    let off = taken_off all (dev.coming k) read.bytes (subst (λ c. Consumes c (dev.coming k) read.bytes) e read.taken.bytes_gone) in
    let h = read.answer 0 (sym first) in
    let h' : LinesAnswer f view 0 n read.bytes (Some off.0) (dev.failures i) (dev.failures k) (dev.interrupted k) (dev.may_fail i) r =
    subst (λ c. LinesAnswer f view 0 n read.bytes c (dev.failures i) (dev.failures k) (dev.interrupted k) (dev.may_fail i) r) off.1
    (subst (λ (z : List ℕ). LinesAnswer f view 0 n (z ++ read.bytes) (dev.coming k) (dev.failures i) (dev.failures k) (dev.interrupted k) (dev.may_fail i) r) none h) in
    let g : FollowsLines view (verdict f 0 (read.bytes ++ off.0)) r (Some off.0) = follows view f n read.bytes off.0 (dev.failures i) (dev.failures k) (dev.interrupted k) (dev.may_fail i) r last h' in
    let g' : FollowsLines view (verdict f 0 all) r (Some off.0) = subst (λ z. FollowsLines view (verdict f 0 z) r (Some off.0)) (sym off.2) g in
    subst (λ c. FollowsLines view (verdict f 0 all) r c) (sym off.1) g'

took : {X : Type 0} (view : X → Dump) (f : Lines Dump) (new : Incoming) (bytes : List ℕ) (coming : Option (List ℕ)) (fs fs' row : ℕ) (may : Bool) (r : Result X DumpReadFault) → (IsOk r → (held_of new) ≡ []) →
    LinesAnswer f view 0 new bytes coming fs fs' row may r → TookLines view (verdict f 0 bytes) r coming
took view f new bytes coming fs fs' row may (Ok dump) none h = (h.0, h.2 ∙ ap (λ (z : List ℕ). good (view dump) h.0 z) (none refl))
took view f new bytes coming fs fs' row may (Err (Line number fault)) none h = (h.0, h.1)
took view f new bytes coming fs fs' row may (Err (Build fault)) none h = h.0
took view f new bytes coming fs fs' row may (Err Device) none h = tt
took view f new bytes coming fs fs' row may (Err Memory) none h = tt

taken_more : {X R : Type 0} {dev : Ghosts R} {i k : R} (x : List ℕ) (r : Result X DumpReadFault) → Takes dev i k x (retry_rounds r) → Takes dev i k x 1
taken_more x (Ok v) t = Takes-more x 1 t
taken_more x (Err fault) t = t

-- The bytes that were read, for every reader.
pub reads_taken : {X R : Type 0} (view : X → Dump) (f : Lines Dump) {o n : Incoming} {dev : Ghosts R} {i k : R} {r : Result X DumpReadFault} →
    ReadsLines f view o n dev i k r → o.line ≡ 0 → (held_of o) ≡ [] → (IsOk r → (held_of n) ≡ []) →
    (bytes : List ℕ) × Takes dev i k bytes 1 × TookLines view (verdict f 0 bytes) r (dev.coming k)
reads_taken view f {o = o} {n = n} {dev = dev} {i = i} {k = k} {r = r} read first none last = (
  read.bytes,
  taken_more read.bytes r read.taken,
  took view f n read.bytes (dev.coming k) (dev.failures i) (dev.failures k) (dev.interrupted k) (dev.may_fail i) r last
      (subst (λ (z : List ℕ). LinesAnswer f view 0 n (z ++ read.bytes) (dev.coming k) (dev.failures i) (dev.failures k) (dev.interrupted k) (dev.may_fail i) r) none (read.answer 0 (sym first))),
)

device_of : {X : Type 0} (view : X → Dump) (f : Lines Dump) (new : Incoming) (bytes : List ℕ) (coming : Option (List ℕ)) (fs fs' row : ℕ) (may : Bool) (r : Result X DumpReadFault) →
    LinesAnswer f view 0 new bytes coming fs fs' row may r → (IsErrOf r Device → HasFailed fs fs' row × IsTrue may) × ((IsErrOf r Device → ⊥) → fs' ≡ fs)
device_of view f new bytes coming fs fs' row may (Ok dump) h = (λ e. absurd cc, λ e. h.3)
device_of view f new bytes coming fs fs' row may (Err (Line number fault)) h = (λ e. absurd cc, λ e. h.2)
device_of view f new bytes coming fs fs' row may (Err (Build fault)) h = (λ e. absurd cc, λ e. h.1)
device_of view f new bytes coming fs fs' row may (Err Device) h = (λ e. h, λ e. absurd (e refl))
device_of view f new bytes coming fs fs' row may (Err Memory) h = (λ e. absurd cc, λ e. h)

-- `Device` is returned only if the reader failed.
pub reads_device : {X R : Type 0} (view : X → Dump) (f : Lines Dump) {o n : Incoming} {dev : Ghosts R} {i k : R} {r : Result X DumpReadFault} →
    ReadsLines f view o n dev i k r → o.line ≡ 0 →
    (IsErrOf r Device → HasFailed (dev.failures i) (dev.failures k) (dev.interrupted k) × IsTrue (dev.may_fail i)) × ((IsErrOf r Device → ⊥) → dev.failures k ≡ dev.failures i)
reads_device view f {o = o} {n = n} {dev = dev} {i = i} {k = k} {r = r} read first =
    device_of view f n ((held_of o) ++ read.bytes) (dev.coming k) (dev.failures i) (dev.failures k) (dev.interrupted k) (dev.may_fail i) r (read.answer 0 (sym first))
