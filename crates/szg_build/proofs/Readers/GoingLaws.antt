-- Readers of many lines: how much of a text was read, and what is left of it.
use Rattle.std.proofs.Common.{◌≡◌, ℕ, zero, suc, ◌+◌, ◌-◌, ◌<◌, ◌≤◌, Bool, List, [], ◌∷◌, ◌++◌, refl, sym, ap, subst, ◌∙◌, append_assoc, append-nil, arith, inl, Ok, Err}
use Rattle.std.specs.Prelude.{Result, replicate}
use Rattle.std.specs.List.{range_with_len}
use Rattle.szg_file.specs.Contents.{Part}
use Rattle.szg_io.specs.Moved.{Takes}
use Rattle.szg_io.specs.declared.device.Input.{Ghosts}
use Rattle.szg_io.proofs.DeviceLaws.{Takes-on, Takes-none, Takes-more}
use Rattle.szg_build.specs.declared.reading.incoming.Incoming.{Incoming}
use Rattle.szg_build.specs.declared.dump.DumpReadFault.{DumpReadFault}
use Rattle.szg_build.specs.declared.dump.DumpReadFault.TheVariants.{Line, Build, Device, Memory}
use Rattle.szg_build.specs.Held.{held_of}
use Rattle.szg_build.specs.Lines.{Lines, means, Verdict, good, refused, ended, verdict, ◌>>=◌}
use Rattle.szg_build.specs.Grammar.{each, repeated, run_line, run_values}
use Rattle.szg_build.specs.Reading.{LinesAnswer, retry_rounds, ReadsLines, saturated_line}
use Rattle.szg_build.specs.Lacks.{AreWhole}
use Rattle.szg_build.proofs.Texts.CutLaws.{cut, whole_joined}
use Rattle.szg_build.proofs.Texts.LinesLaws.{continued, verdict-then, good-more}
use Rattle.szg_build.proofs.Readers.ReadingLaws.{answer_on, following_text, reads_stopped, reads_nothing}

-- The bytes read ahead come after whole lines, none of them refused. Whatever follows, the verdict of f on all is
-- that of g on the bytes read ahead and what follows.
pub record Went {A : Type 0} (f g : Lines A) (count count' : ℕ) (bytes held : List ℕ) : Type 0 where
  pub lines : List ℕ
  pub split : bytes ≡ lines ++ held
  pub whole : AreWhole lines
  pub on : (y : List ℕ) → verdict f count (lines ++ y) ≡ verdict g count' y

pub went_on : {A : Type 0} {f g : Lines A} {count count' : ℕ} {bytes held : List ℕ} → Went f g count count' bytes held → (y : List ℕ) → verdict f count (bytes ++ y) ≡ verdict g count' (held ++ y)
went_on {f = f} {count = count} {held = held} w y =
    ap (λ (z : List ℕ). verdict f count (z ++ y)) w.split ∙ ap (λ (z : List ℕ). verdict f count z) (append_assoc w.lines held y) ∙ w.on (held ++ y)

-- These bytes were read, and no line was refused; the text g is what is left of the text f.
pub record GoesOn {A R : Type 0} (f g : Lines A) (old new : Incoming) (dev : Ghosts R) (input input' : R) : Type 0 where
  pub bytes : List ℕ
  pub taken : Takes dev input input' bytes 0
  pub goes : (count : ℕ) → saturated_line count ≡ old.line → (count' : ℕ) × (saturated_line count' ≡ new.line) × (dev.failures input' ≡ dev.failures input)
      × Went f g count count' (held_of old ++ bytes) (held_of new)

-- a text with a function applied to its meaning
abbrev pub mapped : {A B : Type 0} → (A → B) → Lines A → Lines B
mapped F lines = lines >>= λ a. means (F a)

pub goes_here : {A R : Type 0} {f g : Lines A} {o : Incoming} {dev : Ghosts R} {i : R} → ((count : ℕ) (bytes : List ℕ) → verdict f count bytes ≡ verdict g count bytes) → GoesOn f g o o dev i i
goes_here {f = f} {g = g} {o = o} {dev = dev} {i = i} same = record {
  bytes = [];
  taken = Takes-none dev i 0;
  goes = λ count stated. (count, stated, refl, record { lines = []; split = append-nil (held_of o); whole = inl refl; on = λ y. same count y });
}

pub goes_then : {A R : Type 0} {f g h : Lines A} {o m n : Incoming} {dev : Ghosts R} {i j k : R} → GoesOn f g o m dev i j → GoesOn g h m n dev j k → GoesOn f h o n dev i k
goes_then {f = f} {g = g} {h = h} {o = o} {m = m} {n = n} {dev = dev} {i = i} {j = j} {k = k} a b = record {
  bytes = a.bytes ++ b.bytes;
  taken = Takes-on a.bytes b.bytes 0 a.taken b.taken;
  goes = λ count stated.
      let x = a.goes count stated in
      let z = b.goes x.0 x.1 in
      let v = x.3 in
      let w = z.3 in (
        z.0,
        z.1,
        z.2 ∙ x.2,
        record {
          lines = v.lines ++ w.lines;
          split = sym (append_assoc (held_of o) a.bytes b.bytes) ∙ ap (λ (l : List ℕ). l ++ b.bytes) v.split ∙ append_assoc v.lines (held_of m) b.bytes
              ∙ ap (λ (l : List ℕ). v.lines ++ l) w.split ∙ sym (append_assoc v.lines w.lines (held_of n));
          whole = whole_joined v.lines w.lines v.whole w.whole;
          on = λ y. ap (λ (l : List ℕ). verdict f count l) (append_assoc v.lines w.lines y) ∙ v.on (w.lines ++ y) ∙ w.on y;
        },
      );
}

-- after the first part of a text was read, the rest is left
pub goes_first : {A B X R : Type 0} (f : Lines A) (g : A → Lines B) (view : X → A) (v : X) {o n : Incoming} {dev : Ghosts R} {i k : R} → ReadsLines f view o n dev i k (Ok v) → GoesOn (f >>= g) (g (view v)) o n dev i k
goes_first f g view v {o = o} {n = n} {dev = dev} {i = i} {k = k} first = record {
  bytes = first.bytes;
  taken = first.taken;
  goes = λ count stated.
      let a = first.answer count stated in
      let c = cut f count (held_of o ++ first.bytes) (view v) a.0 (held_of n) a.2 in
      (a.0, a.1, a.3, record { lines = c.front; split = c.split; whole = c.whole; on = λ y. following_text f g count a.0 c.front y [] (view v) c.alone });
}

-- after a whole text was read, nothing is left
pub goes_whole : {A X R : Type 0} (f : Lines A) (view : X → A) (v : X) {o n : Incoming} {dev : Ghosts R} {i k : R} → ReadsLines f view o n dev i k (Ok v) → GoesOn f (means (view v)) o n dev i k
goes_whole f view v {o = o} {n = n} first = record {
  bytes = first.bytes;
  taken = first.taken;
  goes = λ count stated.
      let a = first.answer count stated in
      let c = cut f count (held_of o ++ first.bytes) (view v) a.0 (held_of n) a.2 in
      (a.0, a.1, a.3, record { lines = c.front; split = c.split; whole = c.whole; on = λ y. good-more f count c.front y (view v) a.0 [] c.alone });
}

-- the result of reading what is left is the result of reading all
pub goes_ends : {A Y R : Type 0} {f g : Lines A} (view : Y → A) {o m n : Incoming} {dev : Ghosts R} {i j k : R} {r : Result Y DumpReadFault} → GoesOn f g o m dev i j → ReadsLines g view m n dev j k r → ReadsLines f view o n dev i k r
goes_ends {f = f} {g = g} view {o = o} {m = m} {n = n} {dev = dev} {i = i} {j = j} {k = k} {r = r} a second = record {
  bytes = a.bytes ++ second.bytes;
  taken = Takes-on a.bytes second.bytes (retry_rounds r) a.taken second.taken;
  answer = λ count stated.
      let x = a.goes count stated in
      let joint : verdict f count (held_of o ++ (a.bytes ++ second.bytes)) ≡ verdict g x.0 (held_of m ++ second.bytes) =
      ap (λ (z : List ℕ). verdict f count z) (sym (append_assoc (held_of o) a.bytes second.bytes)) ∙ went_on x.3 second.bytes in
      answer_on f g view count x.0 n (held_of o ++ (a.bytes ++ second.bytes)) (held_of m ++ second.bytes) (dev.coming k) (dev.failures i) (dev.failures k) (dev.interrupted k) (dev.may_fail i) r joint
      (subst (λ (may : Bool). LinesAnswer g view x.0 n (held_of m ++ second.bytes) (dev.coming k) (dev.failures i) (dev.failures k) (dev.interrupted k) may r) a.taken.stays
      (subst (λ (fs : ℕ). LinesAnswer g view x.0 n (held_of m ++ second.bytes) (dev.coming k) fs (dev.failures k) (dev.interrupted k) (dev.may_fail j) r) x.2 (second.answer x.0 x.1)));
}

-- if memory is refused
pub goes_unheld : {A Y R : Type 0} {f g : Lines A} (view : Y → A) {o m n : Incoming} {dev : Ghosts R} {i k : R} → GoesOn f g o m dev i k → ReadsLines f view o n dev i k (Err Memory)
goes_unheld view a = record {
  bytes = a.bytes;
  taken = Takes-more a.bytes 1 a.taken;
  answer = λ count stated. (a.goes count stated).2;
}

-- ---- texts of many parts

twice : {P Q S : Type 0} (F : Q → S) (G : P → Q) (v : Verdict P) → continued (λ q. means (F q)) (continued (λ p. means (G p)) v) ≡ continued (λ p. means (F (G p))) v
twice F G (good a count rest) = refl
twice F G (refused at why rest) = refl
twice F G (ended at) = refl

once : {A : Type 0} (v : Verdict A) → v ≡ continued (λ a. means a) v
once (good a count rest) = refl
once (refused at why rest) = refl
once (ended at) = refl

alike : {A B : Type 0} (F G : A → B) (v : Verdict A) → ((a : A) → F a ≡ G a) → continued (λ a. means (F a)) v ≡ continued (λ a. means (G a)) v
alike F G (good a count rest) same = ap (λ z. good z count rest) (same a)
alike F G (refused at why rest) same = refl
alike F G (ended at) same = refl

pub goes_as : {A B R : Type 0} (f : Lines B) (F G : A → B) (lines : Lines A) {o n : Incoming} {dev : Ghosts R} {i k : R} → ((a : A) → F a ≡ G a) → GoesOn f (mapped F lines) o n dev i k → GoesOn f (mapped G lines) o n dev i k
goes_as f F G lines same a =
    goes_then a (goes_here (λ count bytes. verdict-then lines (λ z. means (F z)) count bytes ∙ alike F G (verdict lines count bytes) same ∙ sym (verdict-then lines (λ z. means (G z)) count bytes)))

-- after one more part was read, g joins it to the rest
pub goes_step : {P Q S A X R : Type 0} (lines : Lines P) (rest : P → Lines Q) (g : P → Q → S) (F : S → A) (view : X → P) (v : X) {o n : Incoming} {dev : Ghosts R} {i k : R} →
    ReadsLines lines view o n dev i k (Ok v) → GoesOn (mapped F (lines >>= λ x. rest x >>= λ xs. means (g x xs))) (mapped (λ xs. F (g (view v) xs)) (rest (view v))) o n dev i k
goes_step lines rest g F view v {o = o} {n = n} first = record {
  bytes = first.bytes;
  taken = first.taken;
  goes = λ count stated.
      let a = first.answer count stated in
      let c = cut lines count (held_of o ++ first.bytes) (view v) a.0 (held_of n) a.2 in (
        a.0,
        a.1,
        a.3,
        record {
          lines = c.front;
          split = c.split;
          whole = c.whole;
          on = λ y. verdict-then (lines >>= λ x. rest x >>= λ xs. means (g x xs)) (λ s. means (F s)) count (c.front ++ y)
              ∙ ap (continued (λ s. means (F s)))
              (following_text lines (λ x. rest x >>= λ xs. means (g x xs)) count a.0 c.front y [] (view v) c.alone ∙ verdict-then (rest (view v)) (λ xs. means (g (view v) xs)) a.0 y)
              ∙ twice F (g (view v)) (verdict (rest (view v)) a.0 y)
              ∙ sym (verdict-then (rest (view v)) (λ xs. means (F (g (view v) xs))) a.0 y);
        },
      );
}

-- the fault of one part is the fault of all
pub goes_stopped : {P S A X Y R : Type 0} {f : Lines A} (lines : Lines P) (k : P → Lines S) (F : S → A) (view : X → P) (view' : Y → A) (fault : DumpReadFault) {o m n n' : Incoming} {dev : Ghosts R} {i j l : R} →
    GoesOn f (mapped F (lines >>= k)) o m dev i j → ReadsLines lines view m n dev j l (Err fault) → ReadsLines f view' o n' dev i l (Err fault)
goes_stopped {S = S} lines k F view view' fault {n = n} a read =
    goes_ends view' a (reads_stopped (lines >>= k) (λ s. means (F s)) (λ (s : S). s) view' {n = n} fault (reads_stopped lines k view (λ (s : S). s) fault read))

-- ---- items one after another

pub items_begun : {P R : Type 0} (lines : Lines P) (items : List P) (count left : ℕ) {o : Incoming} {dev : Ghosts R} {i : R} → items ≡ [] → left ≡ count →
    GoesOn (repeated count lines) (mapped (λ xs. items ++ xs) (repeated left lines)) o o dev i i
items_begun {P = P} lines items count left none same =
    goes_here (λ c bytes. once (verdict (repeated count lines) c bytes) ∙ sym (verdict-then (repeated count lines) (λ a. means a) c bytes)
    ∙ ap (λ (z : List P). verdict (mapped (λ xs. z ++ xs) (repeated count lines)) c bytes) (sym none)
    ∙ ap (λ (n : ℕ). verdict (mapped (λ xs. items ++ xs) (repeated n lines)) c bytes) (sym same))

pub item_more : {P X R : Type 0} {f : Lines (List P)} (lines : Lines P) (items more : List P) (left less : ℕ) (view : X → P) (v : X) {o m n : Incoming} {dev : Ghosts R} {i j k : R} → left ≡ suc less → more ≡ items ++ view v ∷ [] →
    GoesOn f (mapped (λ xs. items ++ xs) (repeated left lines)) o m dev i j → ReadsLines lines view m n dev j k (Ok v) →
    GoesOn f (mapped (λ xs. more ++ xs) (repeated less lines)) o n dev i k
item_more {P = P} {f = f} lines items more left less view v {o = o} {m = m} {dev = dev} {i = i} {j = j} e same a read =
    goes_as f (λ xs. items ++ view v ∷ xs) (λ xs. more ++ xs) (repeated less lines) (λ (xs : List P). sym (ap (λ (z : List P). z ++ xs) same ∙ append_assoc items (view v ∷ []) xs))
    (goes_then (subst (λ (z : ℕ). GoesOn f (mapped (λ xs. items ++ xs) (repeated z lines)) o m dev i j) e a)
    (goes_step lines (λ x. repeated less lines) (λ x xs. x ∷ xs) (λ xs. items ++ xs) view v read))

pub item_stopped : {P X Y R : Type 0} {f : Lines (List P)} (lines : Lines P) (items : List P) (left less : ℕ) (view : X → P) (view' : Y → List P) (fault : DumpReadFault) {o m n n' : Incoming} {dev : Ghosts R} {i j k : R} → left ≡ suc less →
    GoesOn f (mapped (λ xs. items ++ xs) (repeated left lines)) o m dev i j → ReadsLines lines view m n dev j k (Err fault) → ReadsLines f view' o n' dev i k (Err fault)
item_stopped {P = P} {f = f} lines items left less view view' fault {o = o} {m = m} {dev = dev} {i = i} {j = j} e a read =
    goes_stopped lines (λ x. repeated less lines >>= λ xs. means (x ∷ xs)) (λ (xs : List P). items ++ xs) view view' fault
    (subst (λ (z : ℕ). GoesOn f (mapped (λ xs. items ++ xs) (repeated z lines)) o m dev i j) e a) read

pub items_ended : {P Y R : Type 0} {f : Lines (List P)} (lines : Lines P) (items : List P) (left : ℕ) (view : Y → List P) (v : Y) {o m : Incoming} {dev : Ghosts R} {i j : R} → left ≡ 0 → view v ≡ items →
    GoesOn f (mapped (λ xs. items ++ xs) (repeated left lines)) o m dev i j → ReadsLines f view o m dev i j (Ok v)
items_ended lines items left view v none same a =
    goes_ends view a (reads_nothing (mapped (λ xs. items ++ xs) (repeated left lines)) view v
    (ap (λ (z : ℕ). mapped (λ xs. items ++ xs) (repeated z lines)) none ∙ ap means (append-nil items ∙ sym same)))

-- ---- runs

-- the runs left to read after these values
abbrev pub runs_left : List ℕ → ℕ → ℕ → Lines (List ℕ)
runs_left items most left = mapped (λ xs. items ++ xs) (run_values most left)

pub runs_begun : {R : Type 0} (items : List ℕ) (count : ℕ) {o : Incoming} {dev : Ghosts R} {i : R} → items ≡ [] → GoesOn (run_values count count) (runs_left items count count) o o dev i i
runs_begun items count none =
    goes_here (λ c bytes. once (verdict (run_values count count) c bytes) ∙ sym (verdict-then (run_values count count) (λ a. means a) c bytes)
    ∙ ap (λ (z : List ℕ). verdict (runs_left z count count) c bytes) (sym none))

pub run_more : {R : Type 0} {f : Lines (List ℕ)} (items more : List ℕ) (most left : ℕ) (run : ℕ × ℕ) {o m n : Incoming} {dev : Ghosts R} {i j k : R} → 0 < left → left ≤ most → 0 < run.0 → more ≡ items ++ replicate run.0 run.1 →
    GoesOn f (runs_left items most left) o m dev i j → ReadsLines (run_line left) (λ r. r) m n dev j k (Ok run) →
    (most' : ℕ) × (left - run.0 ≤ most') × GoesOn f (runs_left more most' (left - run.0)) o n dev i k
run_more items more zero left run some few pos same a read = absurd (omega (arith, some, few))
run_more items more (suc most) zero run some few pos same a read = absurd (omega (arith, some))
run_more {f = f} items more (suc most) (suc left) run some few pos same a read = (
  most,
  omega (arith, few, pos),
  goes_as f (λ xs. items ++ (replicate run.0 run.1 ++ xs)) (λ xs. more ++ xs) (run_values most (suc left - run.0))
      (λ (xs : List ℕ). sym (ap (λ (z : List ℕ). z ++ xs) same ∙ append_assoc items (replicate run.0 run.1) xs))
      (goes_then a (goes_step (run_line (suc left)) (λ r. run_values most (suc left - r.0)) (λ r xs. replicate r.0 r.1 ++ xs) (λ xs. items ++ xs) (λ r. r) run read)),
)

pub run_stopped : {Y R : Type 0} {f : Lines (List ℕ)} (items : List ℕ) (most left : ℕ) (view : Y → List ℕ) (fault : DumpReadFault) {o m n n' : Incoming} {dev : Ghosts R} {i j k : R} → 0 < left → left ≤ most →
    GoesOn f (runs_left items most left) o m dev i j → ReadsLines (run_line left) (λ (r : ℕ × ℕ). r) m n dev j k (Err fault) → ReadsLines f view o n' dev i k (Err fault)
run_stopped items zero left view fault some few a read = absurd (omega (arith, some, few))
run_stopped items (suc most) zero view fault some few a read = absurd (omega (arith, some))
run_stopped items (suc most) (suc left) view fault some few a read =
    goes_stopped (run_line (suc left)) (λ r. run_values most (suc left - r.0) >>= λ xs. means (replicate r.0 r.1 ++ xs)) (λ (xs : List ℕ). items ++ xs) (λ r. r) view fault a read

no_runs : (most left : ℕ) → left ≡ 0 → run_values most left ≡ means []
no_runs zero left e = refl
no_runs (suc most) zero e = refl
no_runs (suc most) (suc left) e = absurd (omega (arith, e))

pub runs_ended : {Y R : Type 0} {f : Lines (List ℕ)} (items : List ℕ) (most left : ℕ) (view : Y → List ℕ) (v : Y) {o m : Incoming} {dev : Ghosts R} {i j : R} → left ≡ 0 → view v ≡ items →
    GoesOn f (runs_left items most left) o m dev i j → ReadsLines f view o m dev i j (Ok v)
runs_ended items most left view v none same a =
    goes_ends view a (reads_nothing (runs_left items most left) view v (ap (mapped (λ xs. items ++ xs)) (no_runs most left none) ∙ ap means (append-nil items ∙ sym same)))

-- ---- a text for each number

-- the texts left to read after these items
abbrev pub each_left : {P : Type 0} → (ℕ → Lines P) → List P → ℕ → ℕ → Lines (List P)
each_left lines items from count = mapped (λ ys. items ++ ys) (each lines (range_with_len from count))

pub each_begun : {P R : Type 0} (lines : ℕ → Lines P) (items : List P) (count left : ℕ) {o : Incoming} {dev : Ghosts R} {i : R} → items ≡ [] → left ≡ count →
    GoesOn (each lines (range_with_len 0 count)) (each_left lines items 0 left) o o dev i i
each_begun {P = P} lines items count left none same =
    goes_here (λ c bytes. once (verdict (each lines (range_with_len 0 count)) c bytes) ∙ sym (verdict-then (each lines (range_with_len 0 count)) (λ a. means a) c bytes)
    ∙ ap (λ (z : List P). verdict (each_left lines z 0 count) c bytes) (sym none)
    ∙ ap (λ (n : ℕ). verdict (each_left lines items 0 n) c bytes) (sym same))

pub each_more : {P X R : Type 0} {f : Lines (List P)} (lines : ℕ → Lines P) (items more : List P) (from next left less : ℕ) (view : X → P) (v : X) {o m n : Incoming} {dev : Ghosts R} {i j k : R} → next ≡ from + 1 → left ≡ suc less → more ≡ items ++ view v ∷ [] →
    GoesOn f (each_left lines items from left) o m dev i j → ReadsLines (lines from) view m n dev j k (Ok v) → GoesOn f (each_left lines more next less) o n dev i k
each_more {P = P} {f = f} lines items more from next left less view v {o = o} {m = m} {n = n} {dev = dev} {i = i} {j = j} {k = k} after e same a read =
    subst (λ (z : ℕ). GoesOn f (each_left lines more z less) o n dev i k) (sym after)
    (goes_as f (λ ys. items ++ view v ∷ ys) (λ ys. more ++ ys) (each lines (range_with_len (from + 1) less)) (λ (ys : List P). sym (ap (λ (z : List P). z ++ ys) same ∙ append_assoc items (view v ∷ []) ys))
    (goes_then (subst (λ (z : ℕ). GoesOn f (each_left lines items from z) o m dev i j) e a)
    (goes_step (lines from) (λ y. each lines (range_with_len (from + 1) less)) (λ y ys. y ∷ ys) (λ ys. items ++ ys) view v read)))

pub each_stopped : {P X Y R : Type 0} {f : Lines (List P)} (lines : ℕ → Lines P) (items : List P) (from left less : ℕ) (view : X → P) (view' : Y → List P) (fault : DumpReadFault) {o m n n' : Incoming} {dev : Ghosts R} {i j k : R} → left ≡ suc less →
    GoesOn f (each_left lines items from left) o m dev i j → ReadsLines (lines from) view m n dev j k (Err fault) → ReadsLines f view' o n' dev i k (Err fault)
each_stopped {P = P} {f = f} lines items from left less view view' fault {o = o} {m = m} {dev = dev} {i = i} {j = j} e a read =
    goes_stopped (lines from) (λ y. each lines (range_with_len (from + 1) less) >>= λ ys. means (y ∷ ys)) (λ (ys : List P). items ++ ys) view view' fault
    (subst (λ (z : ℕ). GoesOn f (each_left lines items from z) o m dev i j) e a) read

pub each_ended : {P Y R : Type 0} {f : Lines (List P)} (lines : ℕ → Lines P) (items : List P) (from left : ℕ) (view : Y → List P) (v : Y) {o m : Incoming} {dev : Ghosts R} {i j : R} → left ≡ 0 → view v ≡ items →
    GoesOn f (each_left lines items from left) o m dev i j → ReadsLines f view o m dev i j (Ok v)
each_ended lines items from left view v none same a =
    goes_ends view a (reads_nothing (each_left lines items from left) view v
    (ap (λ (z : ℕ). each_left lines items from z) none ∙ ap means (append-nil items ∙ sym same)))

-- ---- equal values under two views

pub reads_seen : {A X Y R : Type 0} {f : Lines A} {view : X → A} {view' : Y → A} {v : X} {w : Y} {o n : Incoming} {dev : Ghosts R} {i k : R} →
    ReadsLines f view o n dev i k (Ok v) → view v ≡ view' w → ReadsLines f view' o n dev i k (Ok w)
reads_seen {n = n} read same = record {
  bytes = read.bytes;
  taken = read.taken;
  answer = λ count stated. let a = read.answer count stated in (a.0, a.1, a.2 ∙ ap (λ z. good z a.0 (held_of n)) same, a.3);
}

pub reads_fault : {A X Y R : Type 0} {f : Lines A} {view : X → A} {view' : Y → A} {o n n' : Incoming} {dev : Ghosts R} {i k : R} (fault : DumpReadFault) →
    ReadsLines f view o n dev i k (Err fault) → ReadsLines f view' o n' dev i k (Err fault)
reads_fault (Line number fault) read = record { bytes = read.bytes; taken = read.taken; answer = read.answer }
reads_fault (Build fault) read = record { bytes = read.bytes; taken = read.taken; answer = read.answer }
reads_fault Device read = record { bytes = read.bytes; taken = read.taken; answer = read.answer }
reads_fault Memory read = record { bytes = read.bytes; taken = read.taken; answer = read.answer }

-- another result with the same meaning
pub reads_other : {A X Y R : Type 0} (f : Lines A) (view : X → A) (view' : Y → A) (x : X) (y : Y) {o n : Incoming} {dev : Ghosts R} {i k : R} → view' y ≡ view x →
    ReadsLines f view o n dev i k (Ok x) → ReadsLines f view' o n dev i k (Ok y)
reads_other f view view' x y same read = goes_ends view' (goes_whole f view x read) (reads_nothing (means (view x)) view' y (ap means (sym same)))

pub same_part : (a a' b b' : List ℕ) → a ≡ a' → b ≡ b' → let p : Part = record { order = a; men = b } in let q : Part = record { order = a'; men = b' } in p ≡ q
same_part a a' b b' e e' =
    ap (λ (z : List ℕ). let p : Part = record { order = z; men = b } in p) e ∙ ap (λ (z : List ℕ). let p : Part = record { order = a'; men = z } in p) e'
