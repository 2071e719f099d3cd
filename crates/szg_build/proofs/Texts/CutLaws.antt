-- The line ends of a text within some bytes.
use Rattle.std.proofs.Common.{◌≡◌, ℕ, zero, suc, ◌≤◌, false, List, [], ◌∷◌, ◌++◌, length, refl, sym, ap, subst, ◌∙◌, append_assoc, append-nil, arith, inl, inr, length-append}
use Rattle.std.specs.Prelude.{◌==◌}
use Rattle.std.proofs.lemmas.Bool.{eqb-true}
use Rattle.szg_build.specs.Lines.{Lines, means, refuses, line, FirstLine, whole, long, unended, following, first_line, line_room, words_of, Verdict, good, refused, ended, verdict}
use Rattle.szg_build.specs.Lacks.{AreWhole}
use Rattle.szg_build.proofs.Texts.LinesLaws.{bool_cases, newline, long_here, within, line-whole, line-long, line-unended}

-- ---- the first line

abbrev text_in : FirstLine → List ℕ
text_in (whole text rest) = text
text_in (long rest) = []
text_in unended = []

abbrev rest_in : FirstLine → List ℕ
rest_in (whole text rest) = rest
rest_in (long rest) = []
rest_in unended = []

-- the first line ends at its 0A, and is the same whatever follows
abbrev pub IsSplit : ℕ → List ℕ → List ℕ → List ℕ → Type 0
IsSplit room bytes text rest = (bytes ≡ text ++ 10 ∷ rest) × ((y : List ℕ) → first_line room (text ++ 10 ∷ y) ≡ whole text y)

split_here : (room byte : ℕ) (bytes text rest : List ℕ) → byte ≡ 10 → whole [] bytes ≡ whole text rest → IsSplit room (byte ∷ bytes) text rest
split_here room byte bytes text rest ten same =
    let none : text ≡ [] = sym (ap text_in same) in
    let all : rest ≡ bytes = sym (ap rest_in same) in (
      sym (ap (λ (z : List ℕ). z ++ 10 ∷ rest) none ∙ ap (λ (z : List ℕ). 10 ∷ z) all ∙ ap (λ (b : ℕ). b ∷ bytes) (sym ten)),
      λ y. ap (λ (z : List ℕ). first_line room (z ++ 10 ∷ y)) none ∙ newline room 10 y refl ∙ ap (λ (z : List ℕ). whole z y) (sym none),
    )

split_later : (room byte : ℕ) (bytes text rest : List ℕ) → (byte == 10) ≡ false → ((t r : List ℕ) → first_line room bytes ≡ whole t r → IsSplit room bytes t r) →
    (v : FirstLine) → first_line room bytes ≡ v → following byte v ≡ whole text rest → IsSplit (suc room) (byte ∷ bytes) text rest
split_later room byte bytes text rest f inner (whole t r) e same =
    let i = inner t r e in
    let front : text ≡ byte ∷ t = sym (ap text_in same) in
    let back : rest ≡ r = sym (ap rest_in same) in (
      sym (ap (λ (z : List ℕ). z ++ 10 ∷ rest) front ∙ ap (λ (z : List ℕ). byte ∷ (t ++ 10 ∷ z)) back ∙ ap (λ (z : List ℕ). byte ∷ z) (sym i.0)),
      λ y. ap (λ (z : List ℕ). first_line (suc room) (z ++ 10 ∷ y)) front ∙ within room byte (t ++ 10 ∷ y) f ∙ ap (following byte) (i.1 y) ∙ ap (λ (z : List ℕ). whole z y) (sym front),
    )
split_later room byte bytes text rest f inner (long r) e same = absurd cc
split_later room byte bytes text rest f inner unended e same = absurd cc

pub line_split : (room : ℕ) (bytes text rest : List ℕ) → first_line room bytes ≡ whole text rest → IsSplit room bytes text rest
line_split zero [] text rest e = absurd cc
line_split (suc room) [] text rest e = absurd cc
line_split zero (byte ∷ bytes) text rest e =
    elim (bool_cases (byte == 10)) [
      | inl t ↦ split_here zero byte bytes text rest (eqb-true byte 10 t) (sym (newline zero byte bytes t) ∙ e)
      | inr f ↦ let no : long bytes ≡ whole text rest = sym (long_here byte bytes f) ∙ e in absurd cc
    ]
line_split (suc room) (byte ∷ bytes) text rest e =
    elim (bool_cases (byte == 10)) [
      | inl t ↦ split_here (suc room) byte bytes text rest (eqb-true byte 10 t) (sym (newline (suc room) byte bytes t) ∙ e)
      | inr f ↦ split_later room byte bytes text rest f (λ t r h. line_split room bytes t r h) (first_line room bytes) refl (sym (within room byte bytes f) ∙ e)
    ]

-- ---- whole lines

whole_after : (text front : List ℕ) → AreWhole front → AreWhole (text ++ 10 ∷ front)
whole_after text front (inl e) = inr (text, ap (λ (z : List ℕ). text ++ 10 ∷ z) e)
whole_after text front (inr p) = inr (text ++ 10 ∷ p.0, ap (λ (z : List ℕ). text ++ 10 ∷ z) p.1 ∙ sym (append_assoc text (10 ∷ p.0) (10 ∷ [])))

pub whole_joined : (x y : List ℕ) → AreWhole x → AreWhole y → AreWhole (x ++ y)
whole_joined x y h (inl e) = subst AreWhole (sym (ap (λ (z : List ℕ). x ++ z) e ∙ append-nil x)) h
whole_joined x y h (inr p) = inr (x ++ p.0, ap (λ (z : List ℕ). x ++ z) p.1 ∙ sym (append_assoc x p.0 (10 ∷ [])))

-- ---- a whole text

abbrev left_in : {A : Type 0} → Verdict A → List ℕ
left_in (good a count rest) = rest
left_in (refused at why rest) = rest
left_in (ended at) = []

abbrev bare : {A : Type 0} → Verdict A → Verdict A
bare (good a count rest) = good a count []
bare (refused at why rest) = refused at why rest
bare (ended at) = ended at

-- bytes begin with a text: whole lines, which mean the same alone
pub record Cut {A : Type 0} (f : Lines A) (count : ℕ) (bytes : List ℕ) (a : A) (n : ℕ) (rest : List ℕ) : Type 0 where
  pub front : List ℕ
  pub split : bytes ≡ front ++ rest
  pub whole : AreWhole front
  pub alone : verdict f count front ≡ good a n []

cut_line : {A : Type 0} (next : List (List ℕ) → Lines A) (count : ℕ) (bytes : List ℕ) (a : A) (n : ℕ) (rest : List ℕ) →
    ((words : List (List ℕ)) (c : ℕ) (r : List ℕ) → verdict (next words) c r ≡ good a n rest → Cut (next words) c r a n rest) →
    (v : FirstLine) → first_line line_room bytes ≡ v → verdict (line next) count bytes ≡ good a n rest → Cut (line next) count bytes a n rest
cut_line next count bytes a n rest inner (whole text r) e h =
    let i = inner (words_of text) (suc count) r (sym (line-whole next count bytes text r e) ∙ h) in
    let s = line_split line_room bytes text r e in
    record {
      front = text ++ 10 ∷ i.front;
      split = s.0 ∙ ap (λ (z : List ℕ). text ++ 10 ∷ z) i.split ∙ sym (append_assoc text (10 ∷ i.front) rest);
      whole = whole_after text i.front i.whole;
      alone = line-whole next count (text ++ 10 ∷ i.front) text i.front (s.1 i.front) ∙ i.alone;
    }
cut_line next count bytes a n rest inner (long r) e h = let no = sym (line-long next count bytes r e) ∙ h in absurd cc
cut_line next count bytes a n rest inner unended e h = let no = sym (line-unended next count bytes e) ∙ h in absurd cc

pub cut : {A : Type 0} (f : Lines A) (count : ℕ) (bytes : List ℕ) (a : A) (n : ℕ) (rest : List ℕ) → verdict f count bytes ≡ good a n rest → Cut f count bytes a n rest
cut (means b) count bytes a n rest h = record { front = []; split = ap left_in h; whole = inl refl; alone = ap bare h }
cut (refuses why) count bytes a n rest h = absurd cc
cut (line next) count bytes a n rest h = cut_line next count bytes a n rest (λ words c r e. cut (next words) c r a n rest e) (first_line line_room bytes) refl h

-- the bytes after a text are no more than all bytes
pub no_more : {A : Type 0} (f : Lines A) (count : ℕ) (bytes : List ℕ) (a : A) (n : ℕ) (rest : List ℕ) → verdict f count bytes ≡ good a n rest → length rest ≤ length bytes
no_more f count bytes a n rest h =
    let c = cut f count bytes a n rest h in
    omega (arith, ap length c.split, length-append c.front rest)
