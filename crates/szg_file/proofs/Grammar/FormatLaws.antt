-- Laws of formats: short inductions, none of them specific to table files.
use Rattle.std.proofs.Common.{◌≡◌, ℕ, ◌+◌, ◌-◌, ◌<◌, ◌≤◌, List, [], ◌∷◌, ◌++◌, length, take, drop, refl, sym, ap, subst, ◌∙◌, append_assoc, arith, inl, inr}
use Rattle.std.proofs.lemmas.Bool.{cases_lt, le-ltb, lt-ltb}
use Rattle.std.proofs.Math.Seq.{take-append_seam, drop-append_seam}
use Rattle.std.proofs.lemmas.List.{take-append-le, take-append-drop, length-append, length-drop, length-take}
use Rattle.szg_file.specs.declared.fault.Reason.{Reason}
use Rattle.szg_file.specs.Format.{Format, means, refuses, field, fill, placed, Verdict, good, refused, truncated, after_fill, verdict, ◌>>=◌}

-- ---- lists

pub take_front : (size : ℕ) (xs ys : List ℕ) → length xs ≡ size → take size (xs ++ ys) ≡ xs
take_front size xs ys e = subst (λ (n : ℕ). take n (xs ++ ys) ≡ xs) e (take-append_seam xs ys)

pub drop_front : (size : ℕ) (xs ys : List ℕ) → length xs ≡ size → drop size (xs ++ ys) ≡ ys
drop_front size xs ys e = subst (λ (n : ℕ). drop n (xs ++ ys) ≡ ys) e (drop-append_seam xs ys)

drop-append-le : (size : ℕ) (xs ys : List ℕ) → size ≤ length xs → drop size (xs ++ ys) ≡ drop size xs ++ ys
drop-append-le size xs ys le =
    ap (λ (z : List ℕ). drop size (z ++ ys)) (sym (take-append-drop size xs))
    ∙ ap (λ (z : List ℕ). drop size z) (append_assoc (take size xs) (drop size xs) ys)
    ∙ drop_front size (take size xs) (drop size xs ++ ys) (omega (arith, length-take size xs))

-- ---- one field

pub field-short : {A : Type 0} (size : ℕ) (next : List ℕ → Format A) (place : ℕ) (bytes : List ℕ) → length bytes < size →
    verdict (field size next) place bytes ≡ truncated (place + length bytes)
field-short size next place bytes short = rw (lt-ltb (length bytes) size short, verdict) refl

pub field-whole : {A : Type 0} (size : ℕ) (next : List ℕ → Format A) (place : ℕ) (bytes : List ℕ) → size ≤ length bytes →
    verdict (field size next) place bytes ≡ verdict (next (take size bytes)) (place + size) (drop size bytes)
field-whole size next place bytes whole = rw (le-ltb (length bytes) size whole, verdict) refl

pub fill-short : {A : Type 0} (size : ℕ) (next : Format A) (place : ℕ) (bytes : List ℕ) → length bytes < size →
    verdict (fill size next) place bytes ≡ truncated (place + length bytes)
fill-short size next place bytes short = rw (lt-ltb (length bytes) size short, verdict) refl

pub fill-whole : {A : Type 0} (size : ℕ) (next : Format A) (place : ℕ) (bytes : List ℕ) → size ≤ length bytes →
    verdict (fill size next) place bytes ≡ after_fill (take size bytes) (verdict next (place + size) (drop size bytes))
fill-whole size next place bytes whole = rw (le-ltb (length bytes) size whole, verdict) refl

-- ---- two formats in sequence

-- the verdict that continues after a whole first text, in a file of `count` bytes
abbrev pub continued : {A B : Type 0} → (A → Format B) → ℕ → Verdict A → Verdict B
continued g count (good a filled rest) = after_fill filled (verdict (g a) (count - length rest) rest)
continued g count (refused at reason rest) = refused at reason rest
continued g count (truncated at) = truncated at

after_fill-none : {A : Type 0} (v : Verdict A) → after_fill [] v ≡ v
after_fill-none (good a filled rest) = refl
after_fill-none (refused at reason rest) = refl
after_fill-none (truncated at) = refl

after_fill-twice : {A : Type 0} (x y : List ℕ) (v : Verdict A) → after_fill x (after_fill y v) ≡ after_fill (x ++ y) v
after_fill-twice x y (good a filled rest) = ap (λ (z : List ℕ). good a z rest) (sym (append_assoc x y filled))
after_fill-twice x y (refused at reason rest) = refl
after_fill-twice x y (truncated at) = refl

continued-after_fill : {A B : Type 0} (g : A → Format B) (count : ℕ) (x : List ℕ) (v : Verdict A) →
    after_fill x (continued g count v) ≡ continued g count (after_fill x v)
continued-after_fill g count x (good a filled rest) = after_fill-twice x filled (verdict (g a) (count - length rest) rest)
continued-after_fill g count x (refused at reason rest) = refl
continued-after_fill g count x (truncated at) = refl

-- The verdict of two formats in sequence: that of the first, and after its text that of the second.
pub verdict-then : {A B : Type 0} (f : Format A) (g : A → Format B) (place : ℕ) (bytes : List ℕ) →
    verdict (f >>= g) place bytes ≡ continued g (place + length bytes) (verdict f place bytes)
verdict-then (means a) g place bytes =
    let e : place ≡ (place + length bytes) - length bytes = omega arith in
    ap (λ (p : ℕ). verdict (g a) p bytes) e ∙ sym (after_fill-none (verdict (g a) ((place + length bytes) - length bytes) bytes))
verdict-then (refuses at reason) g place bytes = refl
verdict-then (field size next) g place bytes =
    elim (cases_lt (length bytes) size) [
      | inl short ↦ field-short size (λ b. next b >>= g) place bytes short
          ∙ sym (ap (continued g (place + length bytes)) (field-short size next place bytes short))
      | inr whole ↦
          let e : (place + size) + length (drop size bytes) ≡ place + length bytes = omega (arith, length-drop size bytes) in
          field-whole size (λ b. next b >>= g) place bytes whole
          ∙ verdict-then (next (take size bytes)) g (place + size) (drop size bytes)
          ∙ ap (λ (n : ℕ). continued g n (verdict (next (take size bytes)) (place + size) (drop size bytes))) e
          ∙ sym (ap (continued g (place + length bytes)) (field-whole size next place bytes whole))
    ]
verdict-then (fill size next) g place bytes =
    elim (cases_lt (length bytes) size) [
      | inl short ↦ fill-short size (next >>= g) place bytes short
          ∙ sym (ap (continued g (place + length bytes)) (fill-short size next place bytes short))
      | inr whole ↦
          let e : (place + size) + length (drop size bytes) ≡ place + length bytes = omega (arith, length-drop size bytes) in
          fill-whole size (next >>= g) place bytes whole
          ∙ ap (after_fill (take size bytes)) (verdict-then next g (place + size) (drop size bytes))
          ∙ ap (λ (n : ℕ). after_fill (take size bytes) (continued g n (verdict next (place + size) (drop size bytes)))) e
          ∙ continued-after_fill g (place + length bytes) (take size bytes) (verdict next (place + size) (drop size bytes))
          ∙ sym (ap (continued g (place + length bytes)) (fill-whole size next place bytes whole))
    ]
verdict-then (placed next) g place bytes = verdict-then (next place) g place bytes

-- ---- what a verdict implies for the bytes

-- accepted fields and the field that fails, with nothing after it
pub record Fails {A : Type 0} (f : Format A) (place : ℕ) (bytes : List ℕ) (at : ℕ) (reason : Reason) : Type 0 where
  pub refusal : verdict f place bytes ≡ refused at reason []

-- an accepting verdict without its first padding bytes
pub after_fill-good : {A : Type 0} (skipped : List ℕ) (v : Verdict A) (a : A) (filled rest : List ℕ) → after_fill skipped v ≡ good a filled rest →
    (more : List ℕ) × (v ≡ good a more rest) × (filled ≡ skipped ++ more)
after_fill-good skipped (good a' more rest') a filled rest e =
    let same : a' ≡ a = cc in
    let ends : rest' ≡ rest = cc in
    let fills : skipped ++ more ≡ filled = cc in
    (more, cc, sym fills)
after_fill-good skipped (refused at reason rest') a filled rest e = absurd cc
after_fill-good skipped (truncated at) a filled rest e = absurd cc

pub after_fill-refused : {A : Type 0} (skipped : List ℕ) (v : Verdict A) (at : ℕ) (reason : Reason) (rest : List ℕ) → after_fill skipped v ≡ refused at reason rest → v ≡ refused at reason rest
after_fill-refused skipped (good a' more rest') at reason rest e = absurd cc
after_fill-refused skipped (refused at' reason' rest') at reason rest e = e
after_fill-refused skipped (truncated at') at reason rest e = absurd cc

pub after_fill-truncated : {A : Type 0} (skipped : List ℕ) (v : Verdict A) (count : ℕ) → after_fill skipped v ≡ truncated count → v ≡ truncated count
after_fill-truncated skipped (good a' more rest') count e = absurd cc
after_fill-truncated skipped (refused at' reason' rest') count e = absurd cc
after_fill-truncated skipped (truncated at') count e = e

-- ---- a whole field followed by a text, or by a part of one

field-text : {A : Type 0} (size : ℕ) (next : List ℕ → Format A) (place : ℕ) (field_bytes text : List ℕ) → length field_bytes ≡ size →
    verdict (field size next) place (field_bytes ++ text) ≡ verdict (next field_bytes) (place + size) text
field-text size next place field_bytes text long =
    field-whole size next place (field_bytes ++ text) (omega (arith, length-append field_bytes text, long))
    ∙ ap (λ (z : List ℕ). verdict (next z) (place + size) (drop size (field_bytes ++ text))) (take_front size field_bytes text long)
    ∙ ap (λ (z : List ℕ). verdict (next field_bytes) (place + size) z) (drop_front size field_bytes text long)

fill-text : {A : Type 0} (size : ℕ) (next : Format A) (place : ℕ) (fill_bytes text : List ℕ) → length fill_bytes ≡ size →
    verdict (fill size next) place (fill_bytes ++ text) ≡ after_fill fill_bytes (verdict next (place + size) text)
fill-text size next place fill_bytes text long =
    fill-whole size next place (fill_bytes ++ text) (omega (arith, length-append fill_bytes text, long))
    ∙ ap (λ (z : List ℕ). after_fill z (verdict next (place + size) (drop size (fill_bytes ++ text)))) (take_front size fill_bytes text long)
    ∙ ap (λ (z : List ℕ). after_fill fill_bytes (verdict next (place + size) z)) (drop_front size fill_bytes text long)

taken_long : (size : ℕ) (bytes : List ℕ) → size ≤ length bytes → length (take size bytes) ≡ size
taken_long size bytes whole = omega (arith, length-take size bytes)

-- the first bytes, a text, and the bytes after it
taken_first : (size : ℕ) (bytes text rest : List ℕ) → drop size bytes ≡ text ++ rest → bytes ≡ (take size bytes ++ text) ++ rest
taken_first size bytes text rest e =
    sym (take-append-drop size bytes) ∙ ap (λ (z : List ℕ). take size bytes ++ z) e ∙ sym (append_assoc (take size bytes) text rest)

field-more : {A : Type 0} (size : ℕ) (next : List ℕ → Format A) (place : ℕ) (bytes more : List ℕ) → size ≤ length bytes →
    verdict (field size next) place (bytes ++ more) ≡ verdict (next (take size bytes)) (place + size) (drop size bytes ++ more)
field-more size next place bytes more whole =
    field-whole size next place (bytes ++ more) (omega (arith, length-append bytes more))
    ∙ ap (λ (z : List ℕ). verdict (next z) (place + size) (drop size (bytes ++ more))) (take-append-le size bytes more whole)
    ∙ ap (λ (z : List ℕ). verdict (next (take size bytes)) (place + size) z) (drop-append-le size bytes more whole)

fill-more : {A : Type 0} (size : ℕ) (next : Format A) (place : ℕ) (bytes more : List ℕ) → size ≤ length bytes →
    verdict (fill size next) place (bytes ++ more) ≡ after_fill (take size bytes) (verdict next (place + size) (drop size bytes ++ more))
fill-more size next place bytes more whole =
    fill-whole size next place (bytes ++ more) (omega (arith, length-append bytes more))
    ∙ ap (λ (z : List ℕ). after_fill z (verdict next (place + size) (drop size (bytes ++ more)))) (take-append-le size bytes more whole)
    ∙ ap (λ (z : List ℕ). after_fill (take size bytes) (verdict next (place + size) z)) (drop-append-le size bytes more whole)

-- the bytes begin with a whole text
pub good-split : {A : Type 0} (f : Format A) (place : ℕ) (bytes : List ℕ) (a : A) (filled rest : List ℕ) → verdict f place bytes ≡ good a filled rest →
    (text : List ℕ) × (bytes ≡ text ++ rest) × (verdict f place text ≡ good a filled [])
good-split (means a') place bytes a filled rest e =
    let same : bytes ≡ rest = cc in
    let fills : [] ≡ filled = cc in
    let values : a' ≡ a = cc in
    ([], same, cc)
good-split (refuses at reason) place bytes a filled rest e = absurd cc
good-split (field size next) place bytes a filled rest e =
    elim (cases_lt (length bytes) size) [
      | inl short ↦ let no : truncated (place + length bytes) ≡ good a filled rest = sym (field-short size next place bytes short) ∙ e in absurd cc
      | inr whole ↦
          let h = good-split (next (take size bytes)) (place + size) (drop size bytes) a filled rest (sym (field-whole size next place bytes whole) ∙ e) in
          (take size bytes ++ h.0, taken_first size bytes h.0 rest h.1, field-text size next place (take size bytes) h.0 (taken_long size bytes whole) ∙ h.2)
    ]
good-split (fill size next) place bytes a filled rest e =
    elim (cases_lt (length bytes) size) [
      | inl short ↦ let no : truncated (place + length bytes) ≡ good a filled rest = sym (fill-short size next place bytes short) ∙ e in absurd cc
      | inr whole ↦
          let g = after_fill-good (take size bytes) (verdict next (place + size) (drop size bytes)) a filled rest (sym (fill-whole size next place bytes whole) ∙ e) in
          let h = good-split next (place + size) (drop size bytes) a g.0 rest g.1 in (
            take size bytes ++ h.0,
            taken_first size bytes h.0 rest h.1,
            fill-text size next place (take size bytes) h.0 (taken_long size bytes whole) ∙ ap (after_fill (take size bytes)) h.2 ∙ ap (λ (z : List ℕ). good a z []) (sym g.2),
          )
    ]
good-split (placed next) place bytes a filled rest e = good-split (next place) place bytes a filled rest e

-- a whole text remains one, whatever follows it
pub good-more : {A : Type 0} (f : Format A) (place : ℕ) (bytes more : List ℕ) (a : A) (filled rest : List ℕ) → verdict f place bytes ≡ good a filled rest →
    verdict f place (bytes ++ more) ≡ good a filled (rest ++ more)
good-more (means a') place bytes more a filled rest e =
    let same : bytes ≡ rest = cc in
    let fills : [] ≡ filled = cc in
    let values : a' ≡ a = cc in
    cc
good-more (refuses at reason) place bytes more a filled rest e = absurd cc
good-more (field size next) place bytes more a filled rest e =
    elim (cases_lt (length bytes) size) [
      | inl short ↦ let no : truncated (place + length bytes) ≡ good a filled rest = sym (field-short size next place bytes short) ∙ e in absurd cc
      | inr whole ↦
          field-more size next place bytes more whole
          ∙ good-more (next (take size bytes)) (place + size) (drop size bytes) more a filled rest (sym (field-whole size next place bytes whole) ∙ e)
    ]
good-more (fill size next) place bytes more a filled rest e =
    elim (cases_lt (length bytes) size) [
      | inl short ↦ let no : truncated (place + length bytes) ≡ good a filled rest = sym (fill-short size next place bytes short) ∙ e in absurd cc
      | inr whole ↦
          let g = after_fill-good (take size bytes) (verdict next (place + size) (drop size bytes)) a filled rest (sym (fill-whole size next place bytes whole) ∙ e) in
          fill-more size next place bytes more whole
          ∙ ap (after_fill (take size bytes)) (good-more next (place + size) (drop size bytes) more a g.0 rest g.1)
          ∙ ap (λ (z : List ℕ). good a z (rest ++ more)) (sym g.2)
    ]
good-more (placed next) place bytes more a filled rest e = good-more (next place) place bytes more a filled rest e

-- a refusal remains the same, whatever follows the field that fails
pub refused-more : {A : Type 0} (f : Format A) (place : ℕ) (bytes more : List ℕ) (at : ℕ) (reason : Reason) (rest : List ℕ) → verdict f place bytes ≡ refused at reason rest →
    verdict f place (bytes ++ more) ≡ refused at reason (rest ++ more)
refused-more (means a') place bytes more at reason rest e = absurd cc
refused-more (refuses at' reason') place bytes more at reason rest e =
    let same : bytes ≡ rest = cc in
    let places : at' ≡ at = cc in
    let reasons : reason' ≡ reason = cc in
    cc
refused-more (field size next) place bytes more at reason rest e =
    elim (cases_lt (length bytes) size) [
      | inl short ↦ let no : truncated (place + length bytes) ≡ refused at reason rest = sym (field-short size next place bytes short) ∙ e in absurd cc
      | inr whole ↦
          field-more size next place bytes more whole
          ∙ refused-more (next (take size bytes)) (place + size) (drop size bytes) more at reason rest (sym (field-whole size next place bytes whole) ∙ e)
    ]
refused-more (fill size next) place bytes more at reason rest e =
    elim (cases_lt (length bytes) size) [
      | inl short ↦ let no : truncated (place + length bytes) ≡ refused at reason rest = sym (fill-short size next place bytes short) ∙ e in absurd cc
      | inr whole ↦
          let g = after_fill-refused (take size bytes) (verdict next (place + size) (drop size bytes)) at reason rest (sym (fill-whole size next place bytes whole) ∙ e) in
          fill-more size next place bytes more whole
          ∙ ap (after_fill (take size bytes)) (refused-more next (place + size) (drop size bytes) more at reason rest g)
    ]
refused-more (placed next) place bytes more at reason rest e = refused-more (next place) place bytes more at reason rest e

-- the bytes begin with accepted fields and the field that fails
pub refused-split : {A : Type 0} (f : Format A) (place : ℕ) (bytes : List ℕ) (at : ℕ) (reason : Reason) (rest : List ℕ) → verdict f place bytes ≡ refused at reason rest →
    (text : List ℕ) × (bytes ≡ text ++ rest) × (verdict f place text ≡ refused at reason [])
refused-split (means a') place bytes at reason rest e = absurd cc
refused-split (refuses at' reason') place bytes at reason rest e =
    let same : bytes ≡ rest = cc in
    let places : at' ≡ at = cc in
    let reasons : reason' ≡ reason = cc in
    ([], same, cc)
refused-split (field size next) place bytes at reason rest e =
    elim (cases_lt (length bytes) size) [
      | inl short ↦ let no : truncated (place + length bytes) ≡ refused at reason rest = sym (field-short size next place bytes short) ∙ e in absurd cc
      | inr whole ↦
          let h = refused-split (next (take size bytes)) (place + size) (drop size bytes) at reason rest (sym (field-whole size next place bytes whole) ∙ e) in
          (take size bytes ++ h.0, taken_first size bytes h.0 rest h.1, field-text size next place (take size bytes) h.0 (taken_long size bytes whole) ∙ h.2)
    ]
refused-split (fill size next) place bytes at reason rest e =
    elim (cases_lt (length bytes) size) [
      | inl short ↦ let no : truncated (place + length bytes) ≡ refused at reason rest = sym (fill-short size next place bytes short) ∙ e in absurd cc
      | inr whole ↦
          let g = after_fill-refused (take size bytes) (verdict next (place + size) (drop size bytes)) at reason rest (sym (fill-whole size next place bytes whole) ∙ e) in
          let h = refused-split next (place + size) (drop size bytes) at reason rest g in
          (take size bytes ++ h.0, taken_first size bytes h.0 rest h.1, fill-text size next place (take size bytes) h.0 (taken_long size bytes whole) ∙ ap (after_fill (take size bytes)) h.2)
    ]
refused-split (placed next) place bytes at reason rest e = refused-split (next place) place bytes at reason rest e

-- No whole text is a proper prefix of another.
pub no_prefix : {A : Type 0} (f : Format A) (place : ℕ) (text more : List ℕ) (a a' : A) (filled filled' : List ℕ) →
    verdict f place text ≡ good a filled [] → verdict f place (text ++ more) ≡ good a' filled' [] → more ≡ []
no_prefix f place text more a a' filled filled' e e' =
    let both : good a filled more ≡ good a' filled' [] = sym (good-more f place text more a filled [] e) ∙ e' in
    cc

-- a truncated verdict has the number of all bytes
pub truncated-at : {A : Type 0} (f : Format A) (place : ℕ) (bytes : List ℕ) (count : ℕ) → verdict f place bytes ≡ truncated count → count ≡ place + length bytes
truncated-at (means a) place bytes count e = absurd cc
truncated-at (refuses at reason) place bytes count e = absurd cc
truncated-at (field size next) place bytes count e =
    elim (cases_lt (length bytes) size) [
      | inl short ↦ let same : truncated (place + length bytes) ≡ truncated count = sym (field-short size next place bytes short) ∙ e in cc
      | inr whole ↦
          let h = truncated-at (next (take size bytes)) (place + size) (drop size bytes) count (sym (field-whole size next place bytes whole) ∙ e) in
          omega (arith, h, length-drop size bytes)
    ]
truncated-at (fill size next) place bytes count e =
    elim (cases_lt (length bytes) size) [
      | inl short ↦ let same : truncated (place + length bytes) ≡ truncated count = sym (fill-short size next place bytes short) ∙ e in cc
      | inr whole ↦
          let h = truncated-at next (place + size) (drop size bytes) count (after_fill-truncated (take size bytes) (verdict next (place + size) (drop size bytes)) count (sym (fill-whole size next place bytes whole) ∙ e)) in
          omega (arith, h, length-drop size bytes)
    ]
truncated-at (placed next) place bytes count e = truncated-at (next place) place bytes count e

cut_cases : {A : Type 0} (f : Format A) (place : ℕ) (front : List ℕ) (byte : ℕ) (back : List ℕ) (a : A) (filled : List ℕ) (v : Verdict A) → verdict f place front ≡ v →
    verdict f place (front ++ (byte ∷ back)) ≡ good a filled [] → v ≡ truncated (place + length front)
cut_cases f place front byte back a filled (good a' filled' rest) e h =
    let both : good a' filled' (rest ++ (byte ∷ back)) ≡ good a filled [] = sym (good-more f place front (byte ∷ back) a' filled' rest e) ∙ h in
    let none : rest ++ (byte ∷ back) ≡ [] = cc in
    let counted : length (rest ++ (byte ∷ back)) ≡ 0 = ap length none in
    absurd (omega (arith, counted, length-append rest (byte ∷ back)))
cut_cases f place front byte back a filled (refused at reason rest) e h =
    let both : refused at reason (rest ++ (byte ∷ back)) ≡ good a filled [] = sym (refused-more f place front (byte ∷ back) at reason rest e) ∙ h in
    absurd cc
cut_cases f place front byte back a filled (truncated count) e h = ap (λ (n : ℕ). truncated n) (truncated-at f place front count e)

-- A proper prefix of a whole text ends within a field: its verdict is `truncated`, at its length.
pub cut_anywhere : {A : Type 0} (f : Format A) (place : ℕ) (front : List ℕ) (byte : ℕ) (back : List ℕ) (a : A) (filled : List ℕ) →
    verdict f place (front ++ (byte ∷ back)) ≡ good a filled [] → verdict f place front ≡ truncated (place + length front)
cut_anywhere f place front byte back a filled e = cut_cases f place front byte back a filled (verdict f place front) refl e
