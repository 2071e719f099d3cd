-- Cutting a line of fixed words and values returns these words, whatever the values are, and no other line is cut into
-- them.
use Rattle.std.proofs.Common.{◌≡◌, ℕ, Bool, true, false, List, [], ◌∷◌, ◌++◌, length, take, drop, Bor, refl, sym, ap, subst, ◌∙◌, arith, inl, inr, Option, Some, None}
use Rattle.std.specs.Prelude.{◌==◌, ◌<◌, ◌+◌, MatchOption, bytes_eq, option_map, if◌then◌else◌}
use Rattle.std.specs.List.{AllByRecursion, list_any}
use Rattle.std.proofs.lemmas.Bool.{eqb-true, or_parts, or_from}
use Rattle.std.proofs.lemmas.List.{take-append-le, take-append-drop, take_all}
use Rattle.std.proofs.lemmas.Slice.Eq.{bytes_eq-Decides}
use Rattle.szg_build.specs.Text.{spaced}
use Rattle.szg_build.specs.Lines.{with_byte, words_of}
use Rattle.szg_build.specs.Grammar.{Word, fixed, value, values_in}
use Rattle.szg_build.specs.Fronts.{IsWord, HasFixedWords, value_count, filled, IsFront, IsPair}
use Rattle.szg_build.proofs.Texts.LinesLaws.{bool_cases}
use Rattle.szg_build.proofs.Texts.Words.{bytes_eq-same}

-- ---- words and spaces

abbrev AreWords : List (List ℕ) → Type 0
AreWords words = AllByRecursion IsWord words

of_other : (byte : ℕ) (bytes : List ℕ) → (byte == 32) ≡ false → words_of (byte ∷ bytes) ≡ with_byte byte (words_of bytes)
of_other byte bytes e = rw (e, words_of) refl

of_space : (byte : ℕ) (bytes : List ℕ) → (byte == 32) ≡ true → words_of (byte ∷ bytes) ≡ [] ∷ words_of bytes
of_space byte bytes e = rw (e, words_of) refl

of_word : (word : List ℕ) → IsWord word → words_of word ≡ word ∷ []
of_word [] h = refl
of_word (byte ∷ word) h = of_other byte word (or_parts (byte == 32) (list_any (λ b. b == 32) word) h).0 ∙ ap (with_byte byte) (of_word word (or_parts (byte == 32) (list_any (λ b. b == 32) word) h).1)

of_front : (word rest : List ℕ) → IsWord word → words_of (word ++ 32 ∷ rest) ≡ word ∷ words_of rest
of_front [] rest h = refl
of_front (byte ∷ word) rest h = of_other byte (word ++ 32 ∷ rest) (or_parts (byte == 32) (list_any (λ b. b == 32) word) h).0 ∙ ap (with_byte byte) (of_front word rest (or_parts (byte == 32) (list_any (λ b. b == 32) word) h).1)

of_spaced : (word : List ℕ) (words : List (List ℕ)) → IsWord word → AreWords words → words_of (spaced (word ∷ words)) ≡ word ∷ words
of_spaced word [] h hs = of_word word h
of_spaced word (next ∷ words) h hs = of_front word (spaced (next ∷ words)) h ∙ ap (λ (z : List (List ℕ)). word ∷ z) (of_spaced next words hs.0 hs.1)

abbrev IsFirst : List ℕ → List (List ℕ) → Type 0
IsFirst text words = (spaced words ≡ text) × AreWords words × ((words ≡ []) → ⊥)

with_first : (byte : ℕ) (text : List ℕ) (words : List (List ℕ)) → (byte == 32) ≡ false → IsFirst text words → IsFirst (byte ∷ text) (with_byte byte words)
with_first byte text [] e h = absurd (h.2 refl)
with_first byte text (word ∷ []) e h = (ap (λ (z : List ℕ). byte ∷ z) h.0, (or_from (byte == 32) (list_any (λ b. b == 32) word) e h.1.0, tt), λ never. cc never)
with_first byte text (word ∷ next ∷ words) e h = (ap (λ (z : List ℕ). byte ∷ z) h.0, (or_from (byte == 32) (list_any (λ b. b == 32) word) e h.1.0, h.1.1), λ never. cc never)

after_space : (byte : ℕ) (text : List ℕ) (words : List (List ℕ)) → (byte == 32) ≡ true → IsFirst text words → IsFirst (byte ∷ text) ([] ∷ words)
after_space byte text [] e h = absurd (h.2 refl)
after_space byte text (word ∷ words) e h =
    let byte_is : byte ≡ 32 = eqb-true byte 32 e in
    (ap (λ (z : List ℕ). 32 ∷ z) h.0 ∙ ap (λ (b : ℕ). b ∷ text) (sym byte_is), (refl, h.1), λ never. cc never)

-- the words of a text, with spaces between them, are the text
cut_words : (text : List ℕ) → IsFirst text (words_of text)
cut_words [] = (refl, (refl, tt), λ never. cc never)
cut_words (byte ∷ bytes) = elim (bool_cases (byte == 32)) [
  | inl e ↦ subst (λ (z : List (List ℕ)). IsFirst (byte ∷ bytes) z) (sym (of_space byte bytes e)) (after_space byte bytes (words_of bytes) e (cut_words bytes))
  | inr e ↦ subst (λ (z : List (List ℕ)). IsFirst (byte ∷ bytes) z) (sym (of_other byte bytes e)) (with_first byte bytes (words_of bytes) e (cut_words bytes))
]

-- ---- patterns

eq_words : (xs ys : List ℕ) → bytes_eq xs ys ≡ true → xs ≡ ys
eq_words xs ys e = (bytes_eq-Decides xs ys).0 e

in_filled : (pattern : List Word) (values : List (List ℕ)) → length values ≡ value_count pattern → values_in pattern (filled pattern values) ≡ Some values
in_filled [] [] e = refl
in_filled [] (v ∷ values) e = absurd (omega (arith, e))
in_filled (fixed text ∷ pattern) values e = rw (bytes_eq-same text) (in_filled pattern values e)
in_filled (value ∷ pattern) [] e = absurd (omega (arith, e))
in_filled (value ∷ pattern) (v ∷ values) e = ap (option_map (λ (z : List (List ℕ)). v ∷ z)) (in_filled pattern values (omega (arith, e)))

abbrev AreValues : List Word → List (List ℕ) → Option (List (List ℕ)) → Type 0
AreValues pattern words None = Unit {0}
AreValues pattern words (Some values) = (words ≡ filled pattern values) × (length values ≡ value_count pattern)

fixed_part : (text word : List ℕ) (pattern : List Word) (words : List (List ℕ)) (b : Bool) → bytes_eq word text ≡ b → (o : Option (List (List ℕ))) → AreValues pattern words o →
    AreValues (fixed text ∷ pattern) (word ∷ words) (if b then o else None)
fixed_part text word pattern words false e o h = tt
fixed_part text word pattern words true e None h = tt
fixed_part text word pattern words true e (Some values) h =
    (ap (λ (z : List ℕ). z ∷ words) (eq_words word text e) ∙ ap (λ (z : List (List ℕ)). text ∷ z) h.0, h.1)

value_part : (word : List ℕ) (pattern : List Word) (words : List (List ℕ)) (o : Option (List (List ℕ))) → AreValues pattern words o →
    AreValues (value ∷ pattern) (word ∷ words) (option_map (λ (z : List (List ℕ)). word ∷ z) o)
value_part word pattern words None h = tt
value_part word pattern words (Some values) h = (ap (λ (z : List (List ℕ)). word ∷ z) h.0, omega (arith, h.1))

-- the words of a line that follows a pattern are those of the pattern with the line's values
found_filled : (pattern : List Word) (words : List (List ℕ)) → AreValues pattern words (values_in pattern words)
found_filled [] [] = (refl, refl)
found_filled [] (word ∷ words) = tt
found_filled (fixed text ∷ pattern) [] = tt
found_filled (value ∷ pattern) [] = tt
found_filled (fixed text ∷ pattern) (word ∷ words) = fixed_part text word pattern words (bytes_eq word text) refl (values_in pattern words) (found_filled pattern words)
found_filled (value ∷ pattern) (word ∷ words) = value_part word pattern words (values_in pattern words) (found_filled pattern words)

filled_words : (pattern : List Word) (values : List (List ℕ)) → HasFixedWords pattern → AreWords values → length values ≡ value_count pattern → AreWords (filled pattern values)
filled_words [] values h hs e = tt
filled_words (fixed text ∷ pattern) values h hs e = (h.0, filled_words pattern values h.1 hs e)
filled_words (value ∷ pattern) [] h hs e = absurd (omega (arith, e))
filled_words (value ∷ pattern) (word ∷ values) h hs e = (hs.0, filled_words pattern values h hs.1 (omega (arith, e)))

values_words : (pattern : List Word) (values : List (List ℕ)) → AreWords (filled pattern values) → length values ≡ value_count pattern → AreWords values
values_words [] [] hs e = tt
values_words [] (word ∷ values) hs e = absurd (omega (arith, e))
values_words (fixed text ∷ pattern) values hs e = values_words pattern values hs.1 e
values_words (value ∷ pattern) [] hs e = tt
values_words (value ∷ pattern) (word ∷ values) hs e = (hs.0, values_words pattern values hs.1 (omega (arith, e)))

of_words : (words : List (List ℕ)) → AreWords words → ((words ≡ []) → ⊥) → words_of (spaced words) ≡ words
of_words [] hs some = absurd (some refl)
of_words (word ∷ words) hs some = of_spaced word words hs.0 hs.1

some_filled : (pattern : List Word) (values : List (List ℕ)) → 0 < value_count pattern → (filled pattern values ≡ []) → ⊥
some_filled [] values some e = omega (arith, some)
some_filled (fixed text ∷ pattern) values some e = cc e
some_filled (value ∷ pattern) [] some e = cc e
some_filled (value ∷ pattern) (v ∷ values) some e = cc e

-- The text of a line with these values has these values.
pub has_values : (pattern : List Word) (values : List (List ℕ)) (text : List ℕ) → HasFixedWords pattern → AreWords values → length values ≡ value_count pattern → 0 < value_count pattern →
    text ≡ spaced (filled pattern values) → values_in pattern (words_of text) ≡ Some values
has_values pattern values text h hs e some same =
    ap (λ (z : List ℕ). values_in pattern (words_of z)) same
    ∙ ap (values_in pattern) (of_words (filled pattern values) (filled_words pattern values h hs e) (some_filled pattern values some))
    ∙ in_filled pattern values e

none_found : (pattern : List Word) (text : List ℕ) (o : Option (List (List ℕ))) →
    AreValues pattern (words_of text) o → ((values : List (List ℕ)) → AreWords values → length values ≡ value_count pattern → text ≡ spaced (filled pattern values) → ⊥) → o ≡ None
none_found pattern text None h never = refl
none_found pattern text (Some values) h never =
    let cut = cut_words text in
    absurd (never values (values_words pattern values (subst (λ (z : List (List ℕ)). AreWords z) h.0 cut.1) h.1) h.1 (sym cut.0 ∙ ap spaced h.0))

-- A text that is no line of a pattern has no values.
pub has_none : (pattern : List Word) (text : List ℕ) → ((values : List (List ℕ)) → AreWords values → length values ≡ value_count pattern → text ≡ spaced (filled pattern values) → ⊥) →
    values_in pattern (words_of text) ≡ None
has_none pattern text never = none_found pattern text (values_in pattern (words_of text)) (found_filled pattern (words_of text)) never

-- ---- lines with one value

pub one_there : (pattern : List Word) (front word text : List ℕ) → IsFront pattern front → IsWord word → text ≡ front ++ word → values_in pattern (words_of text) ≡ Some (word ∷ [])
one_there pattern front word text is h e =
    let one = is.one in
    has_values pattern (word ∷ []) text is.words (h, tt) (sym one) (omega (arith, one)) (e ∙ sym (is.text word))

single_no : (pattern : List Word) (front text : List ℕ) (values : List (List ℕ)) → IsFront pattern front → ((word : List ℕ) → IsWord word → text ≡ front ++ word → ⊥) →
    AreWords values → length values ≡ 1 → text ≡ spaced (filled pattern values) → ⊥
single_no pattern front text [] is never hs e same = omega (arith, e)
single_no pattern front text (word ∷ []) is never hs e same = never word hs.0 (same ∙ is.text word)
single_no pattern front text (word ∷ next ∷ values) is never hs e same = omega (arith, e)

pub one_none : (pattern : List Word) (front text : List ℕ) → IsFront pattern front → ((word : List ℕ) → IsWord word → text ≡ front ++ word → ⊥) → values_in pattern (words_of text) ≡ None
one_none pattern front text is never = has_none pattern text (λ values hs e same. single_no pattern front text values is never hs (e ∙ is.one) same)

-- ---- cutting words off

pub stripped : (front text : List ℕ) (r : Option (Bor (List ℕ))) →
    MatchOption r (bytes_eq (take (length front) text) front ≡ false)
    (λ x. (bytes_eq (take (length front) text) front ≡ true) × (x.now ≡ drop (length front) text) × (length x.now + length front ≡ length text)) →
    MatchOption r ((rest : List ℕ) → text ≡ front ++ rest → ⊥) (λ x. text ≡ front ++ x.now)
stripped front text None h = λ rest e.
    let same : take (length front) text ≡ front = ap (λ (z : List ℕ). take (length front) z) e ∙ take-append-le (length front) front rest (omega arith) ∙ take_all (length front) front (omega arith) in
    let yes : bytes_eq (take (length front) text) front ≡ true = (bytes_eq-Decides (take (length front) text) front).1 same in
    cc
stripped front text (Some x) h =
    let same : take (length front) text ≡ front = eq_words (take (length front) text) front h.0 in
    sym (take-append-drop (length front) text) ∙ ap (λ (z : List ℕ). z ++ drop (length front) text) same ∙ ap (λ (z : List ℕ). front ++ z) (sym h.1)

same_after : (front xs ys : List ℕ) → front ++ xs ≡ front ++ ys → xs ≡ ys
same_after [] xs ys e = e
same_after (x ∷ front) xs ys e = let inner : front ++ xs ≡ front ++ ys = cc e in same_after front xs ys inner

-- there is not just one word after `front`
pub no_word : (front text rest : List ℕ) → text ≡ front ++ rest → list_any (λ byte. byte == 32) rest ≡ true → (word : List ℕ) → IsWord word → text ≡ front ++ word → ⊥
no_word front text rest e space word h e' =
    let same : rest ≡ word = same_after front rest word (sym e ∙ e') in
    let never : list_any (λ byte. byte == 32) rest ≡ false = ap (λ (z : List ℕ). list_any (λ byte. byte == 32) z) same ∙ h in
    cc

-- ---- two words

same_split : (a b x y : List ℕ) → IsWord a → IsWord b → a ++ 32 ∷ x ≡ b ++ 32 ∷ y → x ≡ y
same_split [] [] x y h h' e = cc e
same_split [] (c ∷ b) x y h h' e =
    let first : 32 ≡ c = cc e in
    let other : (c == 32) ≡ false = (or_parts (c == 32) (list_any (λ k. k == 32) b) h').0 in
    let same : (c == 32) ≡ true = ap (λ (z : ℕ). z == 32) (sym first) in
    cc
same_split (c ∷ a) [] x y h h' e =
    let first : c ≡ 32 = cc e in
    let other : (c == 32) ≡ false = (or_parts (c == 32) (list_any (λ k. k == 32) a) h).0 in
    let same : (c == 32) ≡ true = ap (λ (z : ℕ). z == 32) first in
    cc
same_split (c ∷ a) (d ∷ b) x y h h' e =
    let inner : a ++ 32 ∷ x ≡ b ++ 32 ∷ y = cc e in
    same_split a b x y (or_parts (c == 32) (list_any (λ k. k == 32) a) h).1 (or_parts (d == 32) (list_any (λ k. k == 32) b) h').1 inner

-- there is no second word after the first
pub no_second_word : (front middle text following first last : List ℕ) → text ≡ front ++ following → IsWord first → following ≡ first ++ 32 ∷ last →
    ((word : List ℕ) → IsWord word → last ≡ middle ++ word → ⊥) → (a b : List ℕ) → IsWord a → IsWord b → text ≡ front ++ (a ++ 32 ∷ (middle ++ b)) → ⊥
no_second_word front middle text following first last e h e' never a b ha hb same =
    let rest : following ≡ a ++ 32 ∷ (middle ++ b) = same_after front following (a ++ 32 ∷ (middle ++ b)) (sym e ∙ same) in
    never b hb (same_split first a last (middle ++ b) h ha (sym e' ∙ rest))

-- there is no space after `front`
pub no_first_word : (front middle text following : List ℕ) → text ≡ front ++ following → ((word : List ℕ) → (rest : List ℕ) → following ≡ word ++ 32 ∷ rest → ⊥) →
    (a b : List ℕ) → IsWord a → IsWord b → text ≡ front ++ (a ++ 32 ∷ (middle ++ b)) → ⊥
no_first_word front middle text following e never a b ha hb same = never a (middle ++ b) (same_after front following (a ++ 32 ∷ (middle ++ b)) (sym e ∙ same))

pub two_there : (pattern : List Word) (front middle first second text : List ℕ) → IsPair pattern front middle → IsWord first → IsWord second →
    text ≡ front ++ (first ++ 32 ∷ (middle ++ second)) → values_in pattern (words_of text) ≡ Some (first ∷ second ∷ [])
two_there pattern front middle first second text is h h' e =
    let two = is.two in
    has_values pattern (first ∷ second ∷ []) text is.words (h, (h', tt)) (sym two) (omega (arith, two)) (e ∙ sym (is.text first second))

pair_never : (pattern : List Word) (front middle text : List ℕ) (values : List (List ℕ)) → IsPair pattern front middle →
    ((first : List ℕ) → (second : List ℕ) → IsWord first → IsWord second → text ≡ front ++ (first ++ 32 ∷ (middle ++ second)) → ⊥) →
    AreWords values → length values ≡ 2 → text ≡ spaced (filled pattern values) → ⊥
pair_never pattern front middle text [] is never hs e same = omega (arith, e)
pair_never pattern front middle text (first ∷ []) is never hs e same = omega (arith, e)
pair_never pattern front middle text (first ∷ second ∷ []) is never hs e same = never first second hs.0 hs.1.0 (same ∙ is.text first second)
pair_never pattern front middle text (first ∷ second ∷ third ∷ values) is never hs e same = omega (arith, e)

pub two_none : (pattern : List Word) (front middle text : List ℕ) → IsPair pattern front middle →
    ((first : List ℕ) → (second : List ℕ) → IsWord first → IsWord second → text ≡ front ++ (first ++ 32 ∷ (middle ++ second)) → ⊥) → values_in pattern (words_of text) ≡ None
two_none pattern front middle text is never = has_none pattern text (λ values hs e same. pair_never pattern front middle text values is never hs (e ∙ is.two) same)

-- ---- lines without values

no_values : (text : List ℕ) (pattern : List Word) (values : List (List ℕ)) → (text ≡ spaced (filled pattern []) → ⊥) → length values ≡ 0 → text ≡ spaced (filled pattern values) → ⊥
no_values text pattern [] never e same = never same
no_values text pattern (word ∷ values) never e same = omega (arith, e)

pub none_other : (pattern : List Word) (text : List ℕ) → value_count pattern ≡ 0 → (text ≡ spaced (filled pattern []) → ⊥) → values_in pattern (words_of text) ≡ None
none_other pattern text none never = has_none pattern text (λ values hs e same. no_values text pattern values never (e ∙ none) same)

pub fixed_there : (word : List ℕ) (pattern : List Word) (text : List ℕ) → HasFixedWords (fixed word ∷ pattern) → value_count pattern ≡ 0 → text ≡ spaced (filled (fixed word ∷ pattern) []) →
    values_in (fixed word ∷ pattern) (words_of text) ≡ Some []
fixed_there word pattern text h none same =
    ap (λ (z : List ℕ). values_in (fixed word ∷ pattern) (words_of z)) same
    ∙ ap (values_in (fixed word ∷ pattern)) (of_words (filled (fixed word ∷ pattern) []) (filled_words (fixed word ∷ pattern) [] h tt (sym none)) (λ e. cc e))
    ∙ in_filled (fixed word ∷ pattern) [] (sym none)
