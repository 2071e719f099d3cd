-- Readers compose: two calls in sequence read the two formats in sequence.
use Rattle.std.proofs.Common.{◌≡◌, ℕ, ◌+◌, ◌-◌, List, [], ◌∷◌, ◌++◌, length, refl, sym, ap, subst, ◌∙◌, append_assoc, arith, append-nil, Option, Ok, Err}
use Rattle.std.specs.Prelude.{Result, Bool}
use Rattle.std.proofs.lemmas.List.{length-append}
use Rattle.szg_io.proofs.DeviceLaws.{Takes-on, Takes-none}
use Rattle.szg_file.specs.declared.reading.state.ReaderState.{ReaderState}
use Rattle.szg_file.specs.declared.fault.Reason.{Reason}
use Rattle.szg_file.specs.declared.fault.ReadFault.{ReadFault}
use Rattle.szg_file.specs.declared.fault.ReadFault.TheVariants.{Refused, Device, Memory}
use Rattle.szg_file.specs.Format.{Format, means, refuses, Verdict, good, refused, truncated, verdict, after_fill, ◌>>=◌}
use Rattle.szg_file.specs.Reading.{Reading, Answer, Advances, IsRefusal, StopsWithin, turns_of}
use Rattle.szg_file.specs.File.{each}
use Rattle.szg_file.proofs.Grammar.CutLaws.{stops-after_fill, stops-then}
use Rattle.szg_file.proofs.Grammar.EachLaws.{each-append, each-more}
use Rattle.szg_file.proofs.Grammar.FormatLaws.{verdict-then, good-more, continued}
use Rattle.szg_io.specs.declared.device.Input.{Ghosts}
use Rattle.szg_file.proofs.Grammar.FileLaws.{AreNumbers-join}

-- Bytes `x` are a whole text of `f`; what follows them has the verdict of `g`.
pub after_text : {A B : Type 0} (f : Format A) (g : A → Format B) (place : ℕ) (x y : List ℕ) (a : A) (filled : List ℕ) →
    verdict f place x ≡ good a filled [] → verdict (f >>= g) place (x ++ y) ≡ after_fill filled (verdict (g a) (place + length x) y)
after_text f g place x y a filled e =
    let e' : (place + length (x ++ y)) - length y ≡ place + length x = omega (arith, length-append x y) in
    verdict-then f g place (x ++ y)
    ∙ ap (continued g (place + length (x ++ y))) (good-more f place x y a filled [] e)
    ∙ ap (λ (n : ℕ). after_fill filled (verdict (g a) n y)) e'

-- a failing first format fails the whole
pub IsRefusal-first : {A B : Type 0} (g : A → Format B) (count : ℕ) (v : Verdict A) (place : ℕ) (reason : Reason) (coming : Option (List ℕ)) →
    IsRefusal v place reason coming → IsRefusal (continued g count v) place reason coming
IsRefusal-first g count (good a filled rest) place reason coming h = absurd h
IsRefusal-first g count (refused at why rest) place reason coming h = h
IsRefusal-first g count (truncated at) place reason coming h = h

IsRefusal-after_fill : {A : Type 0} (filled : List ℕ) (v : Verdict A) (place : ℕ) (reason : Reason) (coming : Option (List ℕ)) →
    IsRefusal v place reason coming → IsRefusal (after_fill filled v) place reason coming
IsRefusal-after_fill filled (good a more rest) place reason coming h = absurd h
IsRefusal-after_fill filled (refused at why rest) place reason coming h = h
IsRefusal-after_fill filled (truncated at) place reason coming h = h

-- the result of the second reader, stated from before the first
Answer-then : {A B Y : Type 0} (f : Format A) (g : A → Format B) (view' : Y → B) (o m n : ReaderState) (coming : Option (List ℕ)) (fs fs' row : ℕ) (may : Bool) (x y : List ℕ) (a : A) (r : Result Y ReadFault) →
    Advances f a o m x → Answer (g a) view' m n coming fs fs' row may y r → Answer (f >>= g) view' o n coming fs fs' row may (x ++ y) r
Answer-then f g view' o m n coming fs fs' row may x y a (Ok v) first h =
    let place : o.place + length x ≡ m.place = sym first.place in
    let joint : verdict (f >>= g) o.place (x ++ y) ≡ good (view' v) (first.filled ++ h.0.filled) [] =
    after_text f g o.place x y a first.filled first.whole
    ∙ ap (λ (p : ℕ). after_fill first.filled (verdict (g a) p y)) place
    ∙ ap (after_fill first.filled) h.0.whole in (
      record {
        fits = AreNumbers-join 1 x y first.fits h.0.fits;
        filled = first.filled ++ h.0.filled;
        whole = joint;
        place = omega (arith, length-append x y, first.place, h.0.place);
        fill = h.0.fill ∙ ap (λ (z : List ℕ). z ++ h.0.filled) first.fill ∙ append_assoc o.fill.items first.filled h.0.filled;
      },
      h.1,
    )
Answer-then f g view' o m n coming fs fs' row may x y a (Err (Refused place reason)) first h =
    let at : o.place + length x ≡ m.place = sym first.place in
    let joint : verdict (f >>= g) o.place (x ++ y) ≡ after_fill first.filled (verdict (g a) m.place y) =
    after_text f g o.place x y a first.filled first.whole
    ∙ ap (λ (p : ℕ). after_fill first.filled (verdict (g a) p y)) at in (
      subst (λ (v : Verdict _). IsRefusal v place reason coming) (sym joint)
          (IsRefusal-after_fill first.filled (verdict (g a) m.place y) place reason coming h.0),
      h.1,
    )
Answer-then f g view' o m n coming fs fs' row may x y a (Err Device) first h = h
Answer-then f g view' o m n coming fs fs' row may x y a (Err Memory) first h =
    let at : o.place + length x ≡ m.place = sym first.place in
    let joint : verdict (f >>= g) o.place (x ++ y) ≡ after_fill first.filled (verdict (g a) m.place y) =
    after_text f g o.place x y a first.filled first.whole
    ∙ ap (λ (p : ℕ). after_fill first.filled (verdict (g a) p y)) at in
    (subst (λ (v : Verdict _). StopsWithin v) (sym joint) (stops-after_fill first.filled (verdict (g a) m.place y) h.0), h.1)

-- A successful reader followed by another.
pub reads_then : {A B X Y R : Type 0} (f : Format A) (g : A → Format B) (view : X → A) (view' : Y → B) {o m n : ReaderState}
    {dev : Ghosts R} {i j k : R} (v : X) {r : Result Y ReadFault} →
    Reading f view o m dev i j (Ok v) →
    Reading (g (view v)) view' m n dev j k r →
    Reading (f >>= g) view' o n dev i k r
reads_then f g view view' {o = o} {m = m} {n = n} {dev = dev} {i = i} {j = j} {k = k} v {r = r} first second =
    let same : dev.failures j ≡ dev.failures i = first.answer.1 in
    record {
      bytes = first.bytes ++ second.bytes;
      taken = Takes-on first.bytes second.bytes (turns_of r) first.taken second.taken;
      answer = Answer-then f g view' o m n (dev.coming k) (dev.failures i) (dev.failures k) (dev.interrupted k) (dev.may_fail i) first.bytes second.bytes (view v) r first.answer.0
          (subst (λ (may : Bool). Answer (g (view v)) view' m n (dev.coming k) (dev.failures i) (dev.failures k) (dev.interrupted k) may second.bytes r) first.taken.stays
          (subst (λ (fs : ℕ). Answer (g (view v)) view' m n (dev.coming k) fs (dev.failures k) (dev.interrupted k) (dev.may_fail j) second.bytes r) same second.answer));
    }

-- A reader that returns a fault ends the sequence.
pub reads_stopped : {A B X Y R : Type 0} (f : Format A) (g : A → Format B) (view : X → A) (view' : Y → B) {o n : ReaderState}
    {dev : Ghosts R} {i k : R} (fault : ReadFault) →
    Reading f view o n dev i k (Err fault) →
    Reading (f >>= g) view' o n dev i k (Err fault)
reads_stopped f g view view' {o = o} {dev = dev} {k = k} (Refused place reason) h = record {
  bytes = h.bytes;
  taken = h.taken;
  answer = (
    subst (λ (v : Verdict _). IsRefusal v place reason (dev.coming k)) (sym (verdict-then f g o.place h.bytes))
        (IsRefusal-first g (o.place + length h.bytes) (verdict f o.place h.bytes) place reason (dev.coming k) h.answer.0),
    h.answer.1,
  );
}
reads_stopped f g view view' Device h = record { bytes = h.bytes; taken = h.taken; answer = h.answer }
reads_stopped f g view view' {o = o} Memory h = record { bytes = h.bytes; taken = h.taken; answer = (stops-then f g o.place h.bytes h.answer.0, h.answer.1) }

-- A value without bytes is read by no call.
pub reads_nothing : {A X R : Type 0} (f : Format A) (view : X → A) (x : X) {o : ReaderState}
    {dev : Ghosts R} {i : R} → f ≡ means (view x) →
    Reading f view o o dev i i (Ok x)
reads_nothing f view x {o = o} {dev = dev} {i = i} e = record {
  bytes = [];
  taken = Takes-none dev i 0;
  answer = (record { fits = tt; filled = []; whole = ap (λ (h : Format _). verdict h o.place []) e; place = omega arith; fill = sym (append-nil o.fill.items) }, refl);
}

-- A failing check is reported without a call.
pub reads_refused : {A X R : Type 0} (f : Format A) (view : X → A) (place : ℕ) (reason : Reason) {o : ReaderState}
    {dev : Ghosts R} {i : R} → f ≡ refuses place reason →
    Reading f view o o dev i i (Err (Refused place reason))
reads_refused f view place reason {o = o} {dev = dev} {i = i} e = record {
  bytes = [];
  taken = Takes-none dev i 1;
  answer = (subst (λ (h : Format _). IsRefusal (verdict h o.place []) place reason (dev.coming i)) (sym e) (refl, refl, refl), refl);
}

-- ---- loops over items

-- One more item: the items that a loop has read so far, and the next one.
pub reads_more : {A B X Y Z R : Type 0} (f : A → Format B) (xs : List A) (x : A) (view : X → List B) (view' : Y → B) (view'' : Z → List B) {o m n : ReaderState}
    {dev : Ghosts R} {i j k : R} (v : X) (y : Y) (z : Z) → view'' z ≡ view v ++ view' y ∷ [] →
    Reading (each f xs) view o m dev i j (Ok v) →
    Reading (f x) view' m n dev j k (Ok y) →
    Reading (each f (xs ++ x ∷ [])) view'' o n dev i k (Ok z)
reads_more f xs x view view' view'' {o = o} {n = n} {dev = dev} {i = i} {k = k} v y z e first second =
    subst (λ (h : Format (List _)). Reading h view'' o n dev i k (Ok z)) (sym (each-more f xs x))
    (reads_then (each f xs) (λ us. f x >>= λ b. means (us ++ b ∷ [])) view view'' v first
    (reads_then (f x) (λ b. means (view v ++ b ∷ [])) view' view'' y second
    (reads_nothing (means (view v ++ view' y ∷ [])) view'' z (ap means (sym e)))))

-- An item that returns a fault ends the loop, whatever items remain.
pub reads_more_stopped : {A B X Y Z R : Type 0} (f : A → Format B) (xs : List A) (x : A) (ys : List A) (view : X → List B) (view' : Y → B) (view'' : Z → List B) {o m n : ReaderState}
    {dev : Ghosts R} {i j k : R} (v : X) (fault : ReadFault) →
    Reading (each f xs) view o m dev i j (Ok v) →
    Reading (f x) view' m n dev j k (Err fault) →
    Reading (each f (xs ++ x ∷ ys)) view'' o n dev i k (Err fault)
reads_more_stopped f xs x ys view view' view'' {o = o} {n = n} {dev = dev} {i = i} {k = k} v fault first second =
    subst (λ (h : Format (List _)). Reading h view'' o n dev i k (Err fault)) (sym (each-append f xs (x ∷ ys)))
    (reads_then (each f xs) (λ us. each f (x ∷ ys) >>= λ bs. means (us ++ bs)) view view'' v first
    (reads_stopped (each f (x ∷ ys)) (λ bs. means (view v ++ bs)) view'' view'' fault
    (reads_stopped (f x) (λ b. each f ys >>= λ bs. means (b ∷ bs)) view' view'' fault second)))
