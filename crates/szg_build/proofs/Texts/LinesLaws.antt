-- Laws of texts of lines: each is a short induction that does not depend on the content of a dump.
use Rattle.std.proofs.Common.{◌≡◌, ℕ, zero, suc, ◌+◌, Bool, true, false, List, [], ◌∷◌, ◌++◌, length, refl, sym, ap, subst, ◌∙◌, arith, inl, inr, length-append}
use Rattle.std.specs.Prelude.{◌==◌, ◌⊎◌}
use Rattle.szg_build.specs.declared.dump.DumpFault.TheVariants.{Field}
use Rattle.szg_build.specs.Lines.{Refusal, of_line, Lines, means, refuses, line, FirstLine, whole, long, unended, following, first_line, line_room, words_of, line_ends, Verdict, good, refused, ended, verdict, ◌>>=◌}

pub bool_cases : (b : Bool) → (b ≡ true) ⊎ (b ≡ false)
bool_cases true = inl refl
bool_cases false = inr refl

-- ---- the first line

pub newline : (room byte : ℕ) (bytes : List ℕ) → (byte == 10) ≡ true → first_line room (byte ∷ bytes) ≡ whole [] bytes
newline zero byte bytes e = rw (e, first_line) refl
newline (suc room) byte bytes e = rw (e, first_line) refl

pub long_here : (byte : ℕ) (bytes : List ℕ) → (byte == 10) ≡ false → first_line zero (byte ∷ bytes) ≡ long bytes
long_here byte bytes e = rw (e, first_line) refl

pub within : (room byte : ℕ) (bytes : List ℕ) → (byte == 10) ≡ false → first_line (suc room) (byte ∷ bytes) ≡ following byte (first_line room bytes)
within room byte bytes e = rw (e, first_line) refl

-- the line ends, or is too long
abbrev pub is_stated : FirstLine → Bool
is_stated (whole text rest) = true
is_stated (long rest) = true
is_stated unended = false

-- a first line, with more bytes after it
abbrev pub with_more : List ℕ → FirstLine → FirstLine
with_more more (whole text rest) = whole text (rest ++ more)
with_more more (long rest) = long (rest ++ more)
with_more more unended = unended

is_stated-following : (byte : ℕ) (v : FirstLine) → is_stated (following byte v) ≡ is_stated v
is_stated-following byte (whole text rest) = refl
is_stated-following byte (long rest) = refl
is_stated-following byte unended = refl

following-with_more : (byte : ℕ) (more : List ℕ) (v : FirstLine) → following byte (with_more more v) ≡ with_more more (following byte v)
following-with_more byte more (whole text rest) = refl
following-with_more byte more (long rest) = refl
following-with_more byte more unended = refl

pub first_line-more : (room : ℕ) (bytes more : List ℕ) → is_stated (first_line room bytes) ≡ true → first_line room (bytes ++ more) ≡ with_more more (first_line room bytes)
first_line-more zero [] more e = absurd cc
first_line-more (suc room) [] more e = absurd cc
first_line-more zero (byte ∷ bytes) more e =
    elim (bool_cases (byte == 10)) [
      | inl t ↦ newline zero byte (bytes ++ more) t ∙ sym (ap (with_more more) (newline zero byte bytes t))
      | inr f ↦ long_here byte (bytes ++ more) f ∙ sym (ap (with_more more) (long_here byte bytes f))
    ]
first_line-more (suc room) (byte ∷ bytes) more e =
    elim (bool_cases (byte == 10)) [
      | inl t ↦ newline (suc room) byte (bytes ++ more) t ∙ sym (ap (with_more more) (newline (suc room) byte bytes t))
      | inr f ↦
          let stated : is_stated (first_line room bytes) ≡ true = sym (is_stated-following byte (first_line room bytes)) ∙ sym (ap is_stated (within room byte bytes f)) ∙ e in
          within room byte (bytes ++ more) f
          ∙ ap (following byte) (first_line-more room bytes more stated)
          ∙ following-with_more byte more (first_line room bytes)
          ∙ sym (ap (with_more more) (within room byte bytes f))
    ]

-- ---- the verdict on a line

pub line-whole : {A : Type 0} (next : List (List ℕ) → Lines A) (count : ℕ) (bytes text rest : List ℕ) → first_line line_room bytes ≡ whole text rest →
    verdict (line next) count bytes ≡ verdict (next (words_of text)) (suc count) rest
line-whole next count bytes text rest e = rw (e, verdict) refl

pub line-long : {A : Type 0} (next : List (List ℕ) → Lines A) (count : ℕ) (bytes rest : List ℕ) → first_line line_room bytes ≡ long rest →
    verdict (line next) count bytes ≡ refused (suc count) (of_line Field) rest
line-long next count bytes rest e = rw (e, verdict) refl

pub line-unended : {A : Type 0} (next : List (List ℕ) → Lines A) (count : ℕ) (bytes : List ℕ) → first_line line_room bytes ≡ unended →
    verdict (line next) count bytes ≡ ended (suc count)
line-unended next count bytes e = rw (e, verdict) refl

-- ---- one text after another

-- how the verdict continues after a whole first text
abbrev pub continued : {A B : Type 0} → (A → Lines B) → Verdict A → Verdict B
continued g (good a count rest) = verdict (g a) count rest
continued g (refused at why rest) = refused at why rest
continued g (ended at) = ended at

line-then : {A B : Type 0} (next : List (List ℕ) → Lines A) (g : A → Lines B) (count : ℕ) (bytes : List ℕ)
    (inner : (words : List (List ℕ)) (n : ℕ) (rest : List ℕ) → verdict (next words >>= g) n rest ≡ continued g (verdict (next words) n rest))
    (v : FirstLine) → first_line line_room bytes ≡ v → verdict (line next >>= g) count bytes ≡ continued g (verdict (line next) count bytes)
line-then next g count bytes inner (whole text rest) e =
    line-whole (λ words. next words >>= g) count bytes text rest e
    ∙ inner (words_of text) (suc count) rest
    ∙ sym (ap (continued g) (line-whole next count bytes text rest e))
line-then next g count bytes inner (long rest) e =
    line-long (λ words. next words >>= g) count bytes rest e ∙ sym (ap (continued g) (line-long next count bytes rest e))
line-then next g count bytes inner unended e =
    line-unended (λ words. next words >>= g) count bytes e ∙ sym (ap (continued g) (line-unended next count bytes e))

-- The verdict of two texts one after another: that of the first, and after its lines that of the second.
pub verdict-then : {A B : Type 0} (f : Lines A) (g : A → Lines B) (count : ℕ) (bytes : List ℕ) →
    verdict (f >>= g) count bytes ≡ continued g (verdict f count bytes)
verdict-then (means a) g count bytes = refl
verdict-then (refuses why) g count bytes = refl
verdict-then (line next) g count bytes = line-then next g count bytes (λ words n rest. verdict-then (next words) g n rest) (first_line line_room bytes) refl

-- ---- verdicts with more bytes

abbrev pub is_valid : {A : Type 0} → Verdict A → Bool
is_valid (good a count rest) = true
is_valid (refused at why rest) = true
is_valid (ended at) = false

-- a verdict, with more bytes after it
abbrev pub verdict_more : {A : Type 0} → List ℕ → Verdict A → Verdict A
verdict_more more (good a count rest) = good a count (rest ++ more)
verdict_more more (refused at why rest) = refused at why (rest ++ more)
verdict_more more (ended at) = ended at

line-more : {A : Type 0} (next : List (List ℕ) → Lines A) (count : ℕ) (bytes more : List ℕ)
    (inner : (words : List (List ℕ)) (n : ℕ) (rest : List ℕ) → is_valid (verdict (next words) n rest) ≡ true → verdict (next words) n (rest ++ more) ≡ verdict_more more (verdict (next words) n rest))
    (v : FirstLine) → first_line line_room bytes ≡ v → is_valid (verdict (line next) count bytes) ≡ true →
    verdict (line next) count (bytes ++ more) ≡ verdict_more more (verdict (line next) count bytes)
line-more next count bytes more inner (whole text rest) e h =
    let here : verdict (line next) count bytes ≡ verdict (next (words_of text)) (suc count) rest = line-whole next count bytes text rest e in
    let again : first_line line_room (bytes ++ more) ≡ whole text (rest ++ more) = first_line-more line_room bytes more (ap is_stated e) ∙ ap (with_more more) e in
    line-whole next count (bytes ++ more) text (rest ++ more) again
    ∙ inner (words_of text) (suc count) rest (sym (ap is_valid here) ∙ h)
    ∙ sym (ap (verdict_more more) here)
line-more next count bytes more inner (long rest) e h =
    let again : first_line line_room (bytes ++ more) ≡ long (rest ++ more) = first_line-more line_room bytes more (ap is_stated e) ∙ ap (with_more more) e in
    line-long next count (bytes ++ more) (rest ++ more) again ∙ sym (ap (verdict_more more) (line-long next count bytes rest e))
line-more next count bytes more inner unended e h =
    let no : is_valid (verdict (line next) count bytes) ≡ false = ap is_valid (line-unended next count bytes e) in
    absurd cc

-- The verdict on a whole text or on a refused line does not depend on what follows; only for a text that ends too
-- early it may change.
pub verdict-more : {A : Type 0} (f : Lines A) (count : ℕ) (bytes more : List ℕ) → is_valid (verdict f count bytes) ≡ true →
    verdict f count (bytes ++ more) ≡ verdict_more more (verdict f count bytes)
verdict-more (means a) count bytes more h = refl
verdict-more (refuses why) count bytes more h = refl
verdict-more (line next) count bytes more h = line-more next count bytes more (λ words n rest e. verdict-more (next words) n rest more e) (first_line line_room bytes) refl h

pub good-more : {A : Type 0} (f : Lines A) (count : ℕ) (bytes more : List ℕ) (a : A) (n : ℕ) (rest : List ℕ) → verdict f count bytes ≡ good a n rest →
    verdict f count (bytes ++ more) ≡ good a n (rest ++ more)
good-more f count bytes more a n rest e = verdict-more f count bytes more (ap is_valid e) ∙ ap (verdict_more more) e

pub refused-more : {A : Type 0} (f : Lines A) (count : ℕ) (bytes more : List ℕ) (at : ℕ) (why : Refusal) (rest : List ℕ) → verdict f count bytes ≡ refused at why rest →
    verdict f count (bytes ++ more) ≡ refused at why (rest ++ more)
refused-more f count bytes more at why rest e = verdict-more f count bytes more (ap is_valid e) ∙ ap (verdict_more more) e

-- ---- cut texts

cut_cases : {A : Type 0} (f : Lines A) (count : ℕ) (front : List ℕ) (byte : ℕ) (back : List ℕ) (a : A) (n : ℕ) (v : Verdict A) → verdict f count front ≡ v →
    verdict f count (front ++ (byte ∷ back)) ≡ good a n [] → (at : ℕ) × (v ≡ ended at)
cut_cases f count front byte back a n (good a' n' rest) e h =
    let both : good a' n' (rest ++ (byte ∷ back)) ≡ good a n [] = sym (good-more f count front (byte ∷ back) a' n' rest e) ∙ h in
    let none : rest ++ (byte ∷ back) ≡ [] = cc in
    let counted : length (rest ++ (byte ∷ back)) ≡ 0 = ap length none in
    absurd (omega (arith, counted, length-append rest (byte ∷ back)))
cut_cases f count front byte back a n (refused at why rest) e h =
    let both : refused at why (rest ++ (byte ∷ back)) ≡ good a n [] = sym (refused-more f count front (byte ∷ back) at why rest e) ∙ h in
    absurd cc
cut_cases f count front byte back a n (ended at) e h = (at, refl)

-- A whole text that is cut anywhere inside ends before the 0A of some line; none of its lines is too long.
pub cut_anywhere : {A : Type 0} (f : Lines A) (count : ℕ) (front : List ℕ) (byte : ℕ) (back : List ℕ) (a : A) (n : ℕ) →
    verdict f count (front ++ (byte ∷ back)) ≡ good a n [] → (at : ℕ) × (verdict f count front ≡ ended at)
cut_anywhere f count front byte back a n e = cut_cases f count front byte back a n (verdict f count front) refl e

-- ---- the line in which a text ends

line_ends-here : (byte : ℕ) (bytes : List ℕ) → (byte == 10) ≡ true → line_ends (byte ∷ bytes) ≡ suc (line_ends bytes)
line_ends-here byte bytes e = rw (e, line_ends) refl

line_ends-later : (byte : ℕ) (bytes : List ℕ) → (byte == 10) ≡ false → line_ends (byte ∷ bytes) ≡ line_ends bytes
line_ends-later byte bytes e = rw (e, line_ends) refl

-- after a whole first line there is one line end fewer; bytes that end within their first line have none
abbrev EndsOnce : List ℕ → FirstLine → Type 0
EndsOnce bytes (whole text rest) = line_ends bytes ≡ suc (line_ends rest)
EndsOnce bytes (long rest) = Unit {0}
EndsOnce bytes unended = line_ends bytes ≡ 0

ends_later : (byte : ℕ) (bytes : List ℕ) (v : FirstLine) → (byte == 10) ≡ false → EndsOnce bytes v → EndsOnce (byte ∷ bytes) (following byte v)
ends_later byte bytes (whole text rest) e h = line_ends-later byte bytes e ∙ h
ends_later byte bytes (long rest) e h = tt
ends_later byte bytes unended e h = line_ends-later byte bytes e ∙ h

ends_once : (room : ℕ) (bytes : List ℕ) → EndsOnce bytes (first_line room bytes)
ends_once zero [] = refl
ends_once (suc room) [] = refl
ends_once zero (byte ∷ bytes) =
    elim (bool_cases (byte == 10)) [
      | inl t ↦ subst (EndsOnce (byte ∷ bytes)) (sym (newline zero byte bytes t)) (line_ends-here byte bytes t)
      | inr f ↦ subst (EndsOnce (byte ∷ bytes)) (sym (long_here byte bytes f)) tt
    ]
ends_once (suc room) (byte ∷ bytes) =
    elim (bool_cases (byte == 10)) [
      | inl t ↦ subst (EndsOnce (byte ∷ bytes)) (sym (newline (suc room) byte bytes t)) (line_ends-here byte bytes t)
      | inr f ↦ subst (EndsOnce (byte ∷ bytes)) (sym (within room byte bytes f)) (ends_later byte bytes (first_line room bytes) f (ends_once room bytes))
    ]

abbrev line_of : {A : Type 0} → Verdict A → ℕ
line_of (good a count rest) = count
line_of (refused at why rest) = at
line_of (ended at) = at

ended_here : {A : Type 0} (next : List (List ℕ) → Lines A) (count : ℕ) (bytes : List ℕ) (at : ℕ)
    (inner : (words : List (List ℕ)) (n : ℕ) (rest : List ℕ) → verdict (next words) n rest ≡ ended at → at ≡ suc (n + line_ends rest))
    (v : FirstLine) → first_line line_room bytes ≡ v → EndsOnce bytes v → verdict (line next) count bytes ≡ ended at → at ≡ suc (count + line_ends bytes)
ended_here next count bytes at inner (whole text rest) e once h =
    let later : at ≡ suc (suc count + line_ends rest) = inner (words_of text) (suc count) rest (sym (line-whole next count bytes text rest e) ∙ h) in
    omega (arith, later, once)
ended_here next count bytes at inner (long rest) e once h =
    let yes : is_valid (verdict (line next) count bytes) ≡ true = ap is_valid (line-long next count bytes rest e) in
    let no : is_valid (verdict (line next) count bytes) ≡ false = ap is_valid h in
    absurd cc
ended_here next count bytes at inner unended e once h =
    let same : at ≡ suc count = sym (ap line_of h) ∙ ap line_of (line-unended next count bytes e) in
    omega (arith, same, once)

-- A text that ends too early ends in the line after the last whole line.
pub ended_line : {A : Type 0} (f : Lines A) (count : ℕ) (bytes : List ℕ) (at : ℕ) → verdict f count bytes ≡ ended at → at ≡ suc (count + line_ends bytes)
ended_line (means a) count bytes at h = absurd cc
ended_line (refuses why) count bytes at h = absurd cc
ended_line (line next) count bytes at h =
    ended_here next count bytes at (λ words n rest e. ended_line (next words) n rest at e) (first_line line_room bytes) refl (ends_once line_room bytes) h
