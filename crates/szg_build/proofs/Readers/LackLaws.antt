-- If memory is refused: how much was read, and how many bytes may have been read ahead.
use Rattle.std.proofs.Common.{◌≡◌, ℕ, suc, ◌+◌, ◌≤◌, List, [], ◌∷◌, ◌++◌, length, refl, sym, ap, subst, ◌∙◌, append_assoc, append-nil, arith, length-append, Ok}
use Rattle.std.specs.List.{range_with_len}
use Rattle.std.proofs.lemmas.List.FromFn.{length-range_with_len}
use Rattle.szg_io.specs.declared.device.Input.{Ghosts}
use Rattle.szg_io.proofs.DeviceLaws.{Takes-on, Takes-more}
use Rattle.szg_build.specs.declared.reading.incoming.Incoming.{Incoming}
use Rattle.szg_build.specs.Held.{held_of}
use Rattle.szg_build.specs.Lines.{Lines, means, line, FirstLine, whole, long, unended, first_line, line_room, words_of, Verdict, good, refused, ended, verdict, ◌>>=◌}
use Rattle.szg_build.specs.Grammar.{each}
use Rattle.szg_build.specs.Reading.{ReadsLines}
use Rattle.szg_build.specs.Lacks.{IsUnrefused, LacksLines}
use Rattle.szg_build.proofs.Texts.CutLaws.{line_split, no_more, whole_joined}
use Rattle.szg_build.proofs.Texts.LinesLaws.{continued, verdict-then, line-whole, line-long, line-unended}
use Rattle.szg_build.proofs.Readers.GoingLaws.{GoesOn, mapped, each_left, goes_first, goes_whole}

-- ---- the least number of bytes of a text

-- each text of f has at least `least` bytes
abbrev pub Uses : {A : Type 0} → ℕ → Lines A → Type 0
Uses {A = A} least f = (count : ℕ) (bytes : List ℕ) (a : A) (n : ℕ) (rest : List ℕ) → verdict f count bytes ≡ good a n rest → least + length rest ≤ length bytes

-- f refuses nothing before a line, and each text of f has at least `least` bytes
pub record Asks {A : Type 0} (least : ℕ) (f : Lines A) : Type 0 where
  pub is_valid : (count : ℕ) → IsUnrefused (verdict f count [])
  pub uses : Uses least f

pub uses_none : {A : Type 0} (f : Lines A) → Uses 0 f
uses_none f = λ count bytes a n rest h. omega (arith, no_more f count bytes a n rest h)

uses_first : {A : Type 0} (next : List (List ℕ) → Lines A) (count : ℕ) (bytes : List ℕ) (a : A) (n : ℕ) (rest : List ℕ) → (v : FirstLine) → first_line line_room bytes ≡ v → verdict (line next) count bytes ≡ good a n rest → 1 + length rest ≤ length bytes
uses_first next count bytes a n rest (whole text r) e h =
    let s = line_split line_room bytes text r e in
    omega (arith, ap length s.0, length-append text (10 ∷ r), no_more (next (words_of text)) (suc count) r a n rest (sym (line-whole next count bytes text r e) ∙ h))
uses_first next count bytes a n rest (long r) e h = let no = sym (line-long next count bytes r e) ∙ h in absurd cc
uses_first next count bytes a n rest unended e h = let no = sym (line-unended next count bytes e) ∙ h in absurd cc

pub uses_line : {A : Type 0} (next : List (List ℕ) → Lines A) → Uses 1 (line next)
uses_line next = λ count bytes a n rest h. uses_first next count bytes a n rest (first_line line_room bytes) refl h

uses_joined : {A B : Type 0} (f : Lines A) (g : A → Lines B) (k m : ℕ) (count : ℕ) (bytes : List ℕ) (b : B) (n : ℕ) (rest : List ℕ) → Uses k f → ((a : A) → Uses m (g a)) →
    (v : Verdict A) → verdict f count bytes ≡ v → continued g v ≡ good b n rest → (k + m) + length rest ≤ length bytes
uses_joined f g k m count bytes b n rest first after (good a c r) e h = omega (arith, first count bytes a c r e, after a c r b n rest h)
uses_joined f g k m count bytes b n rest first after (refused at why r) e h = absurd cc
uses_joined f g k m count bytes b n rest first after (ended at) e h = absurd cc

pub uses_then : {A B : Type 0} (f : Lines A) (g : A → Lines B) (k m : ℕ) → Uses k f → ((a : A) → Uses m (g a)) → Uses (k + m) (f >>= g)
uses_then f g k m first after = λ count bytes b n rest h. uses_joined f g k m count bytes b n rest first after (verdict f count bytes) refl (sym (verdict-then f g count bytes) ∙ h)

unrefused_then : {A B : Type 0} (g : A → Lines B) (v : Verdict A) → IsUnrefused v → ((a : A) (count : ℕ) → IsUnrefused (verdict (g a) count [])) → IsUnrefused (continued g v)
unrefused_then g (good a n rest) h after = subst (λ (z : List ℕ). IsUnrefused (verdict (g a) n z)) (sym h) (after a n)
unrefused_then g (refused at why rest) h after = absurd h
unrefused_then g (ended at) h after = tt

pub asks_means : {A : Type 0} (a : A) → Asks 0 (means a)
asks_means a = record { is_valid = λ count. refl; uses = uses_none (means a) }

pub asks_line : {A : Type 0} (next : List (List ℕ) → Lines A) → Asks 1 (line next)
asks_line next = record { is_valid = λ count. subst IsUnrefused (sym (line-unended next count [] refl)) tt; uses = uses_line next }

pub asks_then : {A B : Type 0} (f : Lines A) (g : A → Lines B) (k m : ℕ) → Asks k f → ((a : A) → Asks m (g a)) → Asks (k + m) (f >>= g)
asks_then f g k m first after = record {
  is_valid = λ count. subst IsUnrefused (sym (verdict-then f g count [])) (unrefused_then g (verdict f count []) (first.is_valid count) (λ a c. (after a).is_valid c));
  uses = uses_then f g k m first.uses (λ a. (after a).uses);
}

pub asks_fewer : {A : Type 0} (f : Lines A) (k m : ℕ) → m ≤ k → Asks k f → Asks m f
asks_fewer f k m le h = record { is_valid = h.is_valid; uses = λ count bytes a n rest e. omega (arith, le, h.uses count bytes a n rest e) }

pub asks_mapped : {A B : Type 0} (F : A → B) (f : Lines A) (k : ℕ) → Asks k f → Asks k (mapped F f)
asks_mapped F f k h = asks_fewer (mapped F f) (k + 0) k (omega arith) (asks_then f (λ a. means (F a)) k 0 h (λ a. asks_means (F a)))

-- ---- memory is refused

-- after lines that were read, if g is left
pub lacks_here : {A R : Type 0} {f g : Lines A} (following least : ℕ) {o m : Incoming} {dev : Ghosts R} {i j : R} → GoesOn f g o m dev i j → Asks least g → length (held_of m) ≤ following + least → LacksLines f following o dev i j
lacks_here {f = f} {g = g} following least {m = m} a asks few = record {
  bytes = a.bytes;
  taken = Takes-more a.bytes 1 a.taken;
  short = λ count stated.
      let x = a.goes count stated in
      let w = x.3 in
      record {
        lines = w.lines;
        ahead = held_of m;
        split = w.split;
        whole = w.whole;
        unrefused = subst IsUnrefused (sym (ap (λ (z : List ℕ). verdict f count z) (sym (append-nil w.lines)) ∙ w.on [])) (asks.is_valid x.0);
        due = λ more a n rest h. omega (arith, few, asks.uses x.0 more a n rest (sym (w.on more) ∙ h));
      };
}

-- after a text that was read whole
pub lacks_whole : {A X R : Type 0} (f : Lines A) (following : ℕ) (view : X → A) (v : X) {o m : Incoming} {dev : Ghosts R} {i j : R} → ReadsLines f view o m dev i j (Ok v) → length (held_of m) ≤ following → LacksLines f following o dev i j
lacks_whole f following view v first few = lacks_here following 0 (goes_whole f view v first) (asks_means (view v)) (omega (arith, few))

-- after some items were read
pub lacks_left : {A B R : Type 0} {f : Lines B} (F : A → B) (lines : Lines A) (following least : ℕ) {o m : Incoming} {dev : Ghosts R} {i j : R} → GoesOn f (mapped F lines) o m dev i j → Asks least lines → length (held_of m) ≤ following + least → LacksLines f following o dev i j
lacks_left F lines following least a asks few = lacks_here following least a (asks_mapped F lines least asks) few

-- in what is left after lines that were read
pub lacks_after : {A R : Type 0} {f g : Lines A} (following : ℕ) {o m : Incoming} {dev : Ghosts R} {i j k : R} → GoesOn f g o m dev i j → LacksLines g following m dev j k → LacksLines f following o dev i k
lacks_after {f = f} {g = g} following {o = o} {m = m} a lacks = record {
  bytes = a.bytes ++ lacks.bytes;
  taken = Takes-on a.bytes lacks.bytes 1 a.taken lacks.taken;
  short = λ count stated.
      let x = a.goes count stated in
      let w = x.3 in
      let s = lacks.short x.0 x.1 in
      record {
        lines = w.lines ++ s.lines;
        ahead = s.ahead;
        split = sym (append_assoc (held_of o) a.bytes lacks.bytes) ∙ ap (λ (l : List ℕ). l ++ lacks.bytes) w.split ∙ append_assoc w.lines (held_of m) lacks.bytes
            ∙ ap (λ (l : List ℕ). w.lines ++ l) s.split ∙ sym (append_assoc w.lines s.lines s.ahead);
        whole = whole_joined w.lines s.lines w.whole s.whole;
        unrefused = subst IsUnrefused (sym (w.on s.lines)) s.unrefused;
        due = λ more a n rest h. s.due more a n rest (sym (w.on (s.lines ++ more)) ∙ ap (λ (l : List ℕ). verdict f count l) (sym (append_assoc w.lines s.lines more)) ∙ h);
      };
}

due_then : {A B : Type 0} (f : Lines A) (g : A → Lines B) (wide following least ahead count : ℕ) (bytes more : List ℕ) (b : B) (n : ℕ) (rest : List ℕ) → wide ≤ following + least → ((a : A) → Uses least (g a)) →
    ((a : A) (c : ℕ) (r : List ℕ) → verdict f count bytes ≡ good a c r → ahead + length r ≤ wide + length more) →
    (v : Verdict A) → verdict f count bytes ≡ v → continued g v ≡ good b n rest → ahead + length rest ≤ following + length more
due_then f g wide following least ahead count bytes more b n rest le uses due (good a c r) e h = omega (arith, le, due a c r e, uses a c r b n rest h)
due_then f g wide following least ahead count bytes more b n rest le uses due (refused at why r) e h = absurd cc
due_then f g wide following least ahead count bytes more b n rest le uses due (ended at) e h = absurd cc

-- in the first of two texts
pub lacks_first : {A B R : Type 0} (f : Lines A) (g : A → Lines B) (wide following least : ℕ) {o : Incoming} {dev : Ghosts R} {i k : R} → wide ≤ following + least → ((a : A) → Asks least (g a)) →
    LacksLines f wide o dev i k → LacksLines (f >>= g) following o dev i k
lacks_first f g wide following least le asks lacks = record {
  bytes = lacks.bytes;
  taken = lacks.taken;
  short = λ count stated.
      let s = lacks.short count stated in
      record {
        lines = s.lines;
        ahead = s.ahead;
        split = s.split;
        whole = s.whole;
        unrefused = subst IsUnrefused (sym (verdict-then f g count s.lines)) (unrefused_then g (verdict f count s.lines) s.unrefused (λ a c. (asks a).is_valid c));
        due = λ more b n rest h.
            due_then f g wide following least (length s.ahead) count (s.lines ++ more) more b n rest le (λ a. (asks a).uses) (λ a c r e. s.due more a c r e) (verdict f count (s.lines ++ more)) refl
            (sym (verdict-then f g count (s.lines ++ more)) ∙ h);
      };
}

-- in the second of two texts
pub lacks_then : {A B X R : Type 0} (f : Lines A) (g : A → Lines B) (following : ℕ) (view : X → A) (v : X) {o m : Incoming} {dev : Ghosts R} {i j k : R} →
    ReadsLines f view o m dev i j (Ok v) → LacksLines (g (view v)) following m dev j k → LacksLines (f >>= g) following o dev i k
lacks_then f g following view v first lacks = lacks_after following (goes_first f g view v first) lacks

-- in the first of the texts that are left
pub lacks_item : {P S A R : Type 0} {f : Lines A} (lines : Lines P) (k : P → Lines S) (F : S → A) (wide following least : ℕ) {o m : Incoming} {dev : Ghosts R} {i j l : R} → wide ≤ following + least → ((x : P) → Asks least (k x)) →
    GoesOn f (mapped F (lines >>= k)) o m dev i j → LacksLines lines wide m dev j l → LacksLines f following o dev i l
lacks_item lines k F wide following least le asks a lacks =
    lacks_after following a (lacks_first (lines >>= k) (λ s. means (F s)) following following 0 (omega arith) (λ s. asks_means (F s)) (lacks_first lines k wide following least le asks lacks))

-- LacksLines for an equal text
pub lacks_as : {A R : Type 0} {f g : Lines A} {following : ℕ} {o : Incoming} {dev : Ghosts R} {i k : R} → f ≡ g → LacksLines g following o dev i k → LacksLines f following o dev i k
lacks_as {following = following} {o = o} {dev = dev} {i = i} {k = k} e lacks = subst (λ z. LacksLines z following o dev i k) (sym e) lacks

-- ---- a text for each item

pub asks_each : {A B : Type 0} (lines : B → Lines A) (items : List B) → ((b : B) → Asks 1 (lines b)) → Asks (length items) (each lines items)
asks_each lines [] h = asks_means []
asks_each lines (x ∷ items) h =
    asks_fewer (each lines (x ∷ items)) (1 + length items) (length (x ∷ items)) (omega arith)
    (asks_then (lines x) (λ y. each lines items >>= λ ys. means (y ∷ ys)) 1 (length items) (h x) (λ y. asks_mapped (λ ys. y ∷ ys) (each lines items) (length items) (asks_each lines items h)))

pub asks_range : {A : Type 0} (lines : ℕ → Lines A) (from count : ℕ) → ((j : ℕ) → Asks 1 (lines j)) → Asks count (each lines (range_with_len from count))
asks_range lines from count h = asks_fewer (each lines (range_with_len from count)) (length (range_with_len from count)) count (omega (arith, length-range_with_len from count)) (asks_each lines (range_with_len from count) h)

pub lacks_each : {P R : Type 0} {f : Lines (List P)} (lines : ℕ → Lines P) (items : List P) (from left less wide following : ℕ) {o m : Incoming} {dev : Ghosts R} {i j k : R} → left ≡ suc less → wide ≤ following + less → ((b : ℕ) → Asks 1 (lines b)) →
    GoesOn f (each_left lines items from left) o m dev i j → LacksLines (lines from) wide m dev j k → LacksLines f following o dev i k
lacks_each {P = P} {f = f} lines items from left less wide following {o = o} {m = m} {dev = dev} {i = i} {j = j} e le asks a lacks =
    lacks_item (lines from) (λ y. each lines (range_with_len (from + 1) less) >>= λ ys. means (y ∷ ys)) (λ (ys : List P). items ++ ys) wide following less le
    (λ y. asks_mapped (λ ys. y ∷ ys) (each lines (range_with_len (from + 1) less)) less (asks_range lines (from + 1) less asks))
    (subst (λ (z : ℕ). GoesOn f (each_left lines items from z) o m dev i j) e a) lacks
