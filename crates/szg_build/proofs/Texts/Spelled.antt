-- What it means that lines are read as a value, and how such lines are joined.
use Rattle.std.proofs.Common.{◌≡◌, ℕ, zero, suc, ◌≤◌, false, List, [], ◌∷◌, ◌++◌, length, refl, sym, ap, subst, ◌∙◌, append_assoc, arith, Option, Some}
use Rattle.std.specs.Prelude.{◌==◌}
use Rattle.std.specs.List.{AllByRecursion}
use Rattle.szg_build.specs.declared.dump.DumpFault.{DumpFault}
use Rattle.szg_build.specs.Text.{spaced, line_text, lines_text}
use Rattle.szg_build.specs.Lines.{Lines, means, line, whole, following, first_line, with_byte, words_of, good, verdict, ◌>>=◌}
use Rattle.szg_build.specs.Grammar.{or_fault}
use Rattle.szg_build.proofs.Texts.LinesLaws.{within, line-whole, continued, verdict-then}

-- neither 0A nor a space
abbrev pub IsClean : ℕ → Type 0
IsClean byte = ((byte == 10) ≡ false) × ((byte == 32) ≡ false)

abbrev pub AreClean : List ℕ → Type 0
AreClean bytes = AllByRecursion IsClean bytes

-- ---- words

words_of-other : (byte : ℕ) (bytes : List ℕ) → (byte == 32) ≡ false → words_of (byte ∷ bytes) ≡ with_byte byte (words_of bytes)
words_of-other byte bytes e = rw (e, words_of) refl

words_of-word : (word : List ℕ) → AreClean word → words_of word ≡ word ∷ []
words_of-word [] h = refl
words_of-word (byte ∷ word) h = words_of-other byte word h.0.1 ∙ ap (with_byte byte) (words_of-word word h.1)

words_of-following : (word bytes : List ℕ) → AreClean word → words_of (word ++ 32 ∷ bytes) ≡ word ∷ words_of bytes
words_of-following [] bytes h = refl
words_of-following (byte ∷ word) bytes h = words_of-other byte (word ++ 32 ∷ bytes) h.0.1 ∙ ap (with_byte byte) (words_of-following word bytes h.1)

-- Clean words with single spaces between them are cut into themselves.
pub words_of-spaced : (word : List ℕ) (words : List (List ℕ)) → AreClean word → AllByRecursion AreClean words → words_of (spaced (word ∷ words)) ≡ word ∷ words
words_of-spaced word [] h hs = words_of-word word h
words_of-spaced word (next ∷ words) h hs =
    words_of-following word (spaced (next ∷ words)) h ∙ ap (λ (z : List (List ℕ)). word ∷ z) (words_of-spaced next words hs.0 hs.1)

-- ---- lines

abbrev pub HasNoNewline : List ℕ → Type 0
HasNoNewline bytes = AllByRecursion (λ byte. (byte == 10) ≡ false) bytes

no_newline-append : (xs ys : List ℕ) → HasNoNewline xs → HasNoNewline ys → HasNoNewline (xs ++ ys)
no_newline-append [] ys h h' = h'
no_newline-append (x ∷ xs) ys h h' = (h.0, no_newline-append xs ys h.1 h')

no_newline-clean : (word : List ℕ) → AreClean word → HasNoNewline word
no_newline-clean [] h = tt
no_newline-clean (byte ∷ word) h = (h.0.0, no_newline-clean word h.1)

no_newline-spaced : (words : List (List ℕ)) → AllByRecursion AreClean words → HasNoNewline (spaced words)
no_newline-spaced [] h = tt
no_newline-spaced (word ∷ []) h = no_newline-clean word h.0
no_newline-spaced (word ∷ next ∷ words) h = no_newline-append word (32 ∷ spaced (next ∷ words)) (no_newline-clean word h.0) (refl, no_newline-spaced (next ∷ words) h.1)

first_line-here : (room : ℕ) (text rest : List ℕ) → length text ≤ room → HasNoNewline text → first_line room (text ++ 10 ∷ rest) ≡ whole text rest
first_line-here zero [] rest short h = refl
first_line-here (suc room) [] rest short h = refl
first_line-here zero (byte ∷ text) rest short h = absurd (omega (arith, short))
first_line-here (suc room) (byte ∷ text) rest short h =
    within room byte (text ++ 10 ∷ rest) h.0 ∙ ap (following byte) (first_line-here room text rest (omega (arith, short)) h.1)

-- words that make a line: they have no space and no 0A
pub record IsLine (word : List ℕ) (words : List (List ℕ)) : Type 0 where
  pub first : AreClean word
  pub others : AllByRecursion AreClean words
  pub short : length (spaced (word ∷ words)) ≤ 80

-- ---- texts

-- the number of lines up to the end of these, if `count` lines come before them
abbrev pub lines_following : List (List (List ℕ)) → ℕ → ℕ
lines_following [] count = count
lines_following (words ∷ lines) count = lines_following lines (suc count)

-- the text of these lines is read as a, whatever lines come before it and whatever bytes follow
pub record IsReadAs {A : Type 0} (f : Lines A) (lines : List (List (List ℕ))) (a : A) : Type 0 where
  pub stated : (count : ℕ) (rest : List ℕ) → verdict f count (lines_text lines ++ rest) ≡ good a (lines_following lines count) rest

lines_text-append : (lines lines' : List (List (List ℕ))) (rest : List ℕ) → lines_text (lines ++ lines') ++ rest ≡ lines_text lines ++ (lines_text lines' ++ rest)
lines_text-append [] lines' rest = refl
lines_text-append (words ∷ lines) lines' rest =
    append_assoc (line_text words) (lines_text (lines ++ lines')) rest
    ∙ ap (λ (z : List ℕ). line_text words ++ z) (lines_text-append lines lines' rest)
    ∙ sym (append_assoc (line_text words) (lines_text lines) (lines_text lines' ++ rest))

lines_following-append : (lines lines' : List (List (List ℕ))) (count : ℕ) → lines_following (lines ++ lines') count ≡ lines_following lines' (lines_following lines count)
lines_following-append [] lines' count = refl
lines_following-append (words ∷ lines) lines' count = lines_following-append lines lines' (suc count)

pub read_nothing : {A : Type 0} (a : A) → IsReadAs (means a) [] a
read_nothing a = record { stated = λ count rest. refl }

-- a line, and then the lines that its words require
pub read_line : {A : Type 0} (next : List (List ℕ) → Lines A) (word : List ℕ) (words : List (List ℕ)) (lines : List (List (List ℕ))) (a : A) →
    IsLine word words → IsReadAs (next (word ∷ words)) lines a → IsReadAs (line next) ((word ∷ words) ∷ lines) a
read_line next word words lines a fits inner = record {
  stated = λ count rest.
      let text : List ℕ = spaced (word ∷ words) in
      let regrouped : lines_text ((word ∷ words) ∷ lines) ++ rest ≡ spaced (word ∷ words) ++ 10 ∷ (lines_text lines ++ rest) =
      append_assoc (line_text (word ∷ words)) (lines_text lines) rest ∙ append_assoc (spaced (word ∷ words)) (10 ∷ []) (lines_text lines ++ rest) in
      ap (λ (z : List ℕ). verdict (line next) count z) regrouped
      ∙ line-whole next count (spaced (word ∷ words) ++ 10 ∷ (lines_text lines ++ rest)) (spaced (word ∷ words)) (lines_text lines ++ rest)
      (first_line-here 80 (spaced (word ∷ words)) (lines_text lines ++ rest) fits.short (no_newline-spaced (word ∷ words) (fits.first, fits.others)))
      ∙ ap (λ (z : List (List ℕ)). verdict (next z) (suc count) (lines_text lines ++ rest)) (words_of-spaced word words fits.first fits.others)
      ∙ inner.stated (suc count) rest;
}

-- one text after another
pub read_then : {A B : Type 0} (f : Lines A) (g : A → Lines B) (lines lines' : List (List (List ℕ))) (a : A) (b : B) →
    IsReadAs f lines a → IsReadAs (g a) lines' b → IsReadAs (f >>= g) (lines ++ lines') b
read_then f g lines lines' a b first second = record {
  stated = λ count rest.
      ap (λ (z : List ℕ). verdict (f >>= g) count z) (lines_text-append lines lines' rest)
      ∙ verdict-then f g count (lines_text lines ++ (lines_text lines' ++ rest))
      ∙ ap (continued g) (first.stated count (lines_text lines' ++ rest))
      ∙ second.stated (lines_following lines count) rest
      ∙ ap (λ (z : ℕ). good b z rest) (sym (lines_following-append lines lines' count));
}

-- a value that exists is read without a line
pub read_some : {A : Type 0} (fault : DumpFault) (found : Option A) (a : A) → found ≡ Some a → IsReadAs (or_fault fault found) [] a
read_some fault found a e = subst (λ o. IsReadAs (or_fault fault o) [] a) (sym e) (read_nothing a)
