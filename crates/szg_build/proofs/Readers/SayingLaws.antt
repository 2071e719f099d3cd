-- The meaning of a line, by whether its words follow the pattern and its values can be parsed.
use Rattle.std.proofs.Common.{◌≡◌, ℕ, zero, suc, map, ◌+◌, ◌<◌, ◌≤◌, Bool, true, false, List, [], ◌∷◌, ◌++◌, length, get_or, refl, sym, ap, subst, ◌∙◌, arith, Option, Some, None, Ok, Err}
use Rattle.std.specs.Prelude.{codes, bytes_eq, nat_le, ◌==◌, ◌||◌, Result}
use Rattle.std.specs.Fmt.{decimal}
use Rattle.std.proofs.lemmas.Slice.Eq.{bytes_eq-Decides}
use Rattle.std.proofs.lemmas.Bool.{eqb-true, eq-eqb, le-leb, leb-true}
use Rattle.std.proofs.lemmas.Fmt.{decimal_digit}
use Rattle.szg_values.specs.declared.Kind.{Kind}
use Rattle.std.specs.Str.{IsUtf8, IsAscii}
use Rattle.std.proofs.lemmas.Str.{IsUtf8-from_ascii, IsAscii-append}
use Rattle.szg_values.specs.Material.{Sides, parsed, name_of}
use Rattle.szg_values.specs.Men.{letter_of}
use Rattle.szg_values.specs.declared.Man.{Man}
use Rattle.szg_values.specs.declared.Man.TheVariants.{Pawn, Knight, Bishop, Rook, Queen, King}
use Rattle.szg_values.specs.declared.NameFault.{NameFault}
use Rattle.szg_values.proofs.Names.{named}
use Rattle.szg_file.specs.Contents.{Part}
use Rattle.szg_build.specs.declared.dump.DumpFault.TheVariants.{Version, Field, Number, Hex, Name, Run}
use Rattle.szg_build.specs.Text.{Form, part_word, spaced}
use Rattle.szg_build.specs.Lines.{Lines, means, refuses, of_line, words_of, ◌>>=◌}
use Rattle.szg_build.specs.Grammar.{Word, fixed, value, values_in, or_fault, number_at, bytes_at, form_in, kind_in, material_in, bytes_in, bytes_of_length, number_in, number_line, positive, fitting_run, greatest_count, greatest_item, version_line, name_line, kind_line, end_line, part_line, run_line}
use Rattle.szg_build.specs.Fronts.{IsWord, IsFront, IsPair, lines_after, sub_line}
use Rattle.szg_build.proofs.Readers.WordLaws.{one_there, one_none, two_there, two_none, none_other, fixed_there}

-- a line that does not follow the pattern is refused
pub unsaid : {A : Type 0} (pattern : List Word) (front text : List ℕ) (k : List (List ℕ) → Lines A) → IsFront pattern front → ((word : List ℕ) → IsWord word → text ≡ front ++ word → ⊥) →
    (or_fault Field (values_in pattern (words_of text)) >>= k) ≡ refuses (of_line Field)
unsaid pattern front text k is never = ap (λ (o : Option (List (List ℕ))). or_fault Field o >>= k) (one_none pattern front text is never)

-- the meaning of a line with one value is that of the value
pub parsed_by : {A : Type 0} (pattern : List Word) (front text word : List ℕ) (k : List (List ℕ) → Lines A) → IsFront pattern front → IsWord word → text ≡ front ++ word →
    (or_fault Field (values_in pattern (words_of text)) >>= k) ≡ k (word ∷ [])
parsed_by pattern front text word k is h e = ap (λ (o : Option (List (List ℕ))). or_fault Field o >>= k) (one_there pattern front word text is h e)

-- ---- the fronts

pub version_front : IsFront (fixed (codes "szg-dump") ∷ value ∷ []) (codes "szg-dump ")
version_front = record { words = (refl, tt); one = refl; text = λ word. refl }

pub name_front : IsFront (fixed (codes "name") ∷ value ∷ []) (codes "name ")
name_front = record { words = (refl, tt); one = refl; text = λ word. refl }

pub kind_front : IsFront (fixed (codes "kind") ∷ value ∷ []) (codes "kind ")
kind_front = record { words = (refl, tt); one = refl; text = λ word. refl }

pub end_front : IsFront (fixed (codes "end") ∷ value ∷ []) (codes "end ")
end_front = record { words = (refl, tt); one = refl; text = λ word. refl }

pub flags_front : IsFront (fixed (codes "flags") ∷ value ∷ []) (codes "flags ")
flags_front = record { words = (refl, tt); one = refl; text = λ word. refl }

pub values_front : IsFront (fixed (codes "values") ∷ value ∷ []) (codes "values ")
values_front = record { words = (refl, tt); one = refl; text = λ word. refl }

pub item_front : IsFront (value ∷ []) []
item_front = record { words = tt; one = refl; text = λ word. refl }

-- ---- values

pub same_word : (word text : List ℕ) → bytes_eq word text ≡ true → word ≡ text
same_word word text e = (bytes_eq-Decides word text).0 e

pub form_none : (word : List ℕ) → bytes_eq word (codes "1") ≡ false → bytes_eq word (codes "2") ≡ false → form_in word ≡ None
form_none word e e' = rw (e, e') refl

pub kind_none : (word : List ℕ) → bytes_eq word (codes "wdl") ≡ false → bytes_eq word (codes "dtz") ≡ false → kind_in word ≡ None
kind_none word e e' = rw (e, e') refl

-- ---- the meanings of lines

abbrev single_values : List ℕ → List Word
single_values name = fixed name ∷ value ∷ []

pub version_unparsed : (text : List ℕ) → ((word : List ℕ) → IsWord word → text ≡ codes "szg-dump " ++ word → ⊥) → lines_after version_line (words_of text) ≡ refuses (of_line Field)
version_unparsed text never = unsaid (single_values (codes "szg-dump")) (codes "szg-dump ") text (λ values. or_fault Version (form_in (get_or values 0 []))) version_front never

pub version_parsed : (text word : List ℕ) (o : Option Form) → IsWord word → text ≡ codes "szg-dump " ++ word → form_in word ≡ o → lines_after version_line (words_of text) ≡ or_fault Version o
version_parsed text word o h e is = parsed_by (single_values (codes "szg-dump")) (codes "szg-dump ") text word (λ values. or_fault Version (form_in (get_or values 0 []))) version_front h e ∙ ap (or_fault Version) is

pub name_unparsed : (text : List ℕ) → ((word : List ℕ) → IsWord word → text ≡ codes "name " ++ word → ⊥) → lines_after name_line (words_of text) ≡ refuses (of_line Field)
name_unparsed text never = unsaid (single_values (codes "name")) (codes "name ") text (λ values. or_fault Name (material_in (parsed (get_or values 0 [])))) name_front never

pub name_parsed : (text word : List ℕ) (o : Option Sides) → IsWord word → text ≡ codes "name " ++ word → material_in (parsed word) ≡ o → lines_after name_line (words_of text) ≡ or_fault Name o
name_parsed text word o h e is = parsed_by (single_values (codes "name")) (codes "name ") text word (λ values. or_fault Name (material_in (parsed (get_or values 0 [])))) name_front h e ∙ ap (or_fault Name) is

pub kind_unparsed : (text : List ℕ) → ((word : List ℕ) → IsWord word → text ≡ codes "kind " ++ word → ⊥) → lines_after kind_line (words_of text) ≡ refuses (of_line Field)
kind_unparsed text never = unsaid (single_values (codes "kind")) (codes "kind ") text (λ values. or_fault Field (kind_in (get_or values 0 []))) kind_front never

pub kind_parsed : (text word : List ℕ) (o : Option Kind) → IsWord word → text ≡ codes "kind " ++ word → kind_in word ≡ o → lines_after kind_line (words_of text) ≡ or_fault Field o
kind_parsed text word o h e is = parsed_by (single_values (codes "kind")) (codes "kind ") text word (λ values. or_fault Field (kind_in (get_or values 0 []))) kind_front h e ∙ ap (or_fault Field) is

abbrev sixteen : Lines (List ℕ) → Lines (List ℕ)
sixteen lines = lines >>= λ bytes. or_fault Hex (bytes_of_length 16 bytes)

pub last_bytes_unparsed : (text : List ℕ) → ((word : List ℕ) → IsWord word → text ≡ codes "end " ++ word → ⊥) → lines_after end_line (words_of text) ≡ refuses (of_line Field)
last_bytes_unparsed text never = unsaid (single_values (codes "end")) (codes "end ") text (λ values. sixteen (bytes_at values 0)) end_front never

pub last_bytes_parsed : (text word : List ℕ) (o : Option (List ℕ)) → IsWord word → text ≡ codes "end " ++ word → bytes_in word ≡ o →
    lines_after end_line (words_of text) ≡ (or_fault Hex o >>= λ bytes. or_fault Hex (bytes_of_length 16 bytes))
last_bytes_parsed text word o h e is =
    parsed_by (single_values (codes "end")) (codes "end ") text word (λ values. sixteen (bytes_at values 0)) end_front h e
    ∙ ap (λ (z : Option (List ℕ)). sixteen (or_fault Hex z)) is

pub number_unparsed : (pattern : List Word) (front : List ℕ) (limit : ℕ) (text : List ℕ) → IsFront pattern front → ((word : List ℕ) → IsWord word → text ≡ front ++ word → ⊥) →
    lines_after (number_line pattern limit) (words_of text) ≡ refuses (of_line Field)
number_unparsed pattern front limit text is never = unsaid pattern front text (λ values. number_at values 0 limit) is never

pub number_parsed : (pattern : List Word) (front : List ℕ) (limit : ℕ) (text word : List ℕ) (o : Option ℕ) → IsFront pattern front → IsWord word → text ≡ front ++ word → number_in limit word ≡ o →
    lines_after (number_line pattern limit) (words_of text) ≡ or_fault Number o
number_parsed pattern front limit text word o is h e same = parsed_by pattern front text word (λ values. number_at values 0 limit) is h e ∙ ap (or_fault Number) same

-- ---- lines with two values

pair_unparsed : {A : Type 0} (pattern : List Word) (front middle text : List ℕ) (k : List (List ℕ) → Lines A) → IsPair pattern front middle →
    ((first : List ℕ) → (second : List ℕ) → IsWord first → IsWord second → text ≡ front ++ (first ++ 32 ∷ (middle ++ second)) → ⊥) →
    (or_fault Field (values_in pattern (words_of text)) >>= k) ≡ refuses (of_line Field)
pair_unparsed pattern front middle text k is never = ap (λ (o : Option (List (List ℕ))). or_fault Field o >>= k) (two_none pattern front middle text is never)

pair_parsed : {A : Type 0} (pattern : List Word) (front middle first second text : List ℕ) (k : List (List ℕ) → Lines A) → IsPair pattern front middle → IsWord first → IsWord second →
    text ≡ front ++ (first ++ 32 ∷ (middle ++ second)) → (or_fault Field (values_in pattern (words_of text)) >>= k) ≡ k (first ∷ second ∷ [])
pair_parsed pattern front middle first second text k is h h' e = ap (λ (o : Option (List (List ℕ))). or_fault Field o >>= k) (two_there pattern front middle first second text is h h' e)

abbrev pub part_pattern : ℕ → List Word
part_pattern number = fixed (codes "part") ∷ fixed (part_word number) ∷ fixed (codes "order") ∷ value ∷ fixed (codes "men") ∷ value ∷ []

abbrev pub part_front : ℕ → List ℕ
part_front number = 112 ∷ 97 ∷ 114 ∷ 116 ∷ 32 ∷ (97 + number) ∷ 32 ∷ 111 ∷ 114 ∷ 100 ∷ 101 ∷ 114 ∷ 32 ∷ []

no_space_letter : (number : ℕ) → IsWord (part_word number)
no_space_letter number = other_than (97 + number) (λ e. omega (arith, e))
  where
    other_than : (c : ℕ) → (c ≡ 32 → ⊥) → IsWord (c ∷ [])
    other_than c never = one (c == 32) refl
      where
        one : (b : Bool) → (c == 32) ≡ b → IsWord (c ∷ [])
        one true e = absurd (never (eqb-true c 32 e))
        one false e = ap (λ (z : Bool). z || false) e

part_pair : (number : ℕ) → IsPair (part_pattern number) (part_front number) (codes "men ")
part_pair number = record { words = (refl, (no_space_letter number, (refl, (refl, tt)))); two = refl; text = λ first second. refl }

abbrev part_of_bytes : Option (List ℕ) → Option (List ℕ) → Lines Part
part_of_bytes o o' = or_fault Hex o >>= λ order. or_fault Hex o' >>= λ men. means (record { order = order; men = men })

pub part_unparsed : (number : ℕ) (text : List ℕ) →
    ((first : List ℕ) → (second : List ℕ) → IsWord first → IsWord second → text ≡ part_front number ++ (first ++ 32 ∷ (codes "men " ++ second)) → ⊥) →
    lines_after (part_line number) (words_of text) ≡ refuses (of_line Field)
part_unparsed number text never =
    pair_unparsed (part_pattern number) (part_front number) (codes "men ") text (λ values. part_of_bytes (bytes_in (get_or values 0 [])) (bytes_in (get_or values 1 []))) (part_pair number) never

pub part_parsed : (number : ℕ) (text first second : List ℕ) (o o' : Option (List ℕ)) → IsWord first → IsWord second → text ≡ part_front number ++ (first ++ 32 ∷ (codes "men " ++ second)) →
    bytes_in first ≡ o → bytes_in second ≡ o' →
    lines_after (part_line number) (words_of text) ≡ (or_fault Hex o >>= λ order. or_fault Hex o' >>= λ men. means (record { order = order; men = men }))
part_parsed number text first second o o' h h' e is is' =
    pair_parsed (part_pattern number) (part_front number) (codes "men ") first second text (λ values. part_of_bytes (bytes_in (get_or values 0 [])) (bytes_in (get_or values 1 []))) (part_pair number) h h' e
    ∙ ap (λ (z : Option (List ℕ)). part_of_bytes z (bytes_in second)) is
    ∙ ap (λ (z : Option (List ℕ)). part_of_bytes o z) is'

run_pair : IsPair (value ∷ value ∷ []) [] []
run_pair = record { words = tt; two = refl; text = λ first second. refl }

abbrev run_of_numbers : ℕ → Option ℕ → Option ℕ → Lines (ℕ × ℕ)
run_of_numbers left o o' = or_fault Number (positive o) >>= λ count. or_fault Number o' >>= λ v. or_fault Run (fitting_run left (count, v))

pub run_unparsed : (left : ℕ) (text : List ℕ) → ((first : List ℕ) → (second : List ℕ) → IsWord first → IsWord second → text ≡ [] ++ (first ++ 32 ∷ ([] ++ second)) → ⊥) →
    lines_after (run_line left) (words_of text) ≡ refuses (of_line Field)
run_unparsed left text never =
    pair_unparsed (value ∷ value ∷ []) [] [] text (λ values. run_of_numbers left (number_in greatest_count (get_or values 0 [])) (number_in greatest_item (get_or values 1 []))) run_pair never

pub run_parsed : (left : ℕ) (text first second : List ℕ) (o o' : Option ℕ) → IsWord first → IsWord second → text ≡ [] ++ (first ++ 32 ∷ ([] ++ second)) →
    positive (number_in greatest_count first) ≡ o → number_in greatest_item second ≡ o' →
    lines_after (run_line left) (words_of text) ≡ (or_fault Number o >>= λ count. or_fault Number o' >>= λ v. or_fault Run (fitting_run left (count, v)))
run_parsed left text first second o o' h h' e is is' =
    pair_parsed (value ∷ value ∷ []) [] [] first second text (λ values. run_of_numbers left (number_in greatest_count (get_or values 0 [])) (number_in greatest_item (get_or values 1 []))) run_pair h h' e
    ∙ ap (λ (z : Option ℕ). or_fault Number z >>= λ count. or_fault Number (number_in greatest_item second) >>= λ v. or_fault Run (fitting_run left (count, v))) is
    ∙ ap (λ (z : Option ℕ). or_fault Number o >>= λ count. or_fault Number z >>= λ v. or_fault Run (fitting_run left (count, v))) is'

pub fits : (left : ℕ) (run : ℕ × ℕ) → run.0 ≤ left → fitting_run left run ≡ Some run
fits left run le = rw (le-leb run.0 left le) refl

pub too_long : (left : ℕ) (run : ℕ × ℕ) → left < run.0 → fitting_run left run ≡ None
too_long left run lt = other (nat_le run.0 left) refl
  where
    other : (b : Bool) → nat_le run.0 left ≡ b → fitting_run left run ≡ None
    other true e = absurd (omega (arith, lt, leb-true run.0 left e))
    other false e = rw e refl

-- ---- the line of a part and side

abbrev pub place_text : ℕ × ℕ → List ℕ
place_text place = 115 ∷ 117 ∷ 98 ∷ 32 ∷ (97 + place.0) ∷ 32 ∷ (48 + place.1) ∷ []

digit_text : (place : ℕ × ℕ) → place.1 < 10 → spaced (codes "sub" ∷ part_word place.0 ∷ decimal place.1 ∷ []) ≡ place_text place
digit_text place small = ap (λ (z : List ℕ). spaced (codes "sub" ∷ part_word place.0 ∷ z ∷ [])) (decimal_digit place.1 small)

digit_word : (n : ℕ) → n < 10 → IsWord (decimal n)
digit_word n small = subst IsWord (sym (decimal_digit n small)) (no_space (48 + n) (λ e. omega (arith, e, small)))
  where
    no_space : (c : ℕ) → (c ≡ 32 → ⊥) → IsWord (c ∷ [])
    no_space c never = one (c == 32) refl
      where
        one : (b : Bool) → (c == 32) ≡ b → IsWord (c ∷ [])
        one true e = absurd (never (eqb-true c 32 e))
        one false e = ap (λ (z : Bool). z || false) e

pub place_unparsed : (place : ℕ × ℕ) (text : List ℕ) → place.1 < 10 → (text ≡ place_text place → ⊥) → lines_after (sub_line place) (words_of text) ≡ refuses (of_line Field)
place_unparsed place text small never =
    ap (or_fault Field) (none_other (fixed (codes "sub") ∷ fixed (part_word place.0) ∷ fixed (decimal place.1) ∷ []) text refl (λ e. never (e ∙ digit_text place small)))

pub place_parsed : (place : ℕ × ℕ) (text : List ℕ) → place.1 < 10 → text ≡ place_text place → lines_after (sub_line place) (words_of text) ≡ means []
place_parsed place text small e =
    ap (or_fault Field) (fixed_there (codes "sub") (fixed (part_word place.0) ∷ fixed (decimal place.1) ∷ []) text (refl, (no_space_letter place.0, (digit_word place.1 small, tt))) refl (e ∙ sym (digit_text place small)))

pub sixteen_there : (bytes : List ℕ) → length bytes ≡ 16 → or_fault Hex (bytes_of_length 16 bytes) ≡ means bytes
sixteen_there bytes e = rw (eq-eqb (length bytes) 16 e) refl

pub sixteen_none : (bytes : List ℕ) → (length bytes ≡ 16 → ⊥) → or_fault Hex (bytes_of_length 16 bytes) ≡ refuses (of_line Hex)
sixteen_none bytes never = other (length bytes == 16) refl
  where
    other : (b : Bool) → (length bytes == 16) ≡ b → or_fault Hex (bytes_of_length 16 bytes) ≡ refuses (of_line Hex)
    other true e = absurd (never (eqb-true (length bytes) 16 e))
    other false e = rw e refl

-- ---- names

letter_small : (man : Man) → letter_of man < 128
letter_small Pawn = omega arith
letter_small Knight = omega arith
letter_small Bishop = omega arith
letter_small Rook = omega arith
letter_small Queen = omega arith
letter_small King = omega arith

letters_ascii : (men : List Man) → IsAscii (map letter_of men)
letters_ascii [] = λ i. omega arith
letters_ascii (man ∷ men) = ascii_more (letter_of man) (map letter_of men) (letter_small man) (letters_ascii men)
  where
    ascii_more : (c : ℕ) (cs : List ℕ) → c < 128 → IsAscii cs → IsAscii (c ∷ cs)
    ascii_more c cs l h zero = l
    ascii_more c cs l h (suc i) = h i

name_ascii : (material : Sides) → IsAscii (name_of material)
name_ascii material = IsAscii-append (map letter_of material.first) (118 ∷ map letter_of material.second) (letters_ascii material.first) (after_v (letters_ascii material.second))
  where
    after_v : IsAscii (map letter_of material.second) → IsAscii (118 ∷ map letter_of material.second)
    after_v h zero = omega arith
    after_v h (suc i) = h i

pub name_no_text : (word : List ℕ) → (IsUtf8 word → ⊥) → material_in (parsed word) ≡ None
name_no_text word never = by_answer (parsed word) refl
  where
    by_answer : (r : Result Sides NameFault) → parsed word ≡ r → material_in r ≡ None
    by_answer (Ok material) e = absurd (never (subst IsUtf8 (named word material e).0 (IsUtf8-from_ascii (name_of material) (name_ascii material))))
    by_answer (Err fault) e = refl

-- ---- lists of maps

abbrev pub map_pattern : ℕ → List Word
map_pattern j = fixed (codes "map") ∷ fixed (decimal j) ∷ value ∷ []

pub map_front : (j : ℕ) → j < 10 → IsFront (map_pattern j) (109 ∷ 97 ∷ 112 ∷ 32 ∷ (48 + j) ∷ 32 ∷ [])
map_front j small = record {
  words = (refl, (digit_word j small, tt));
  one = refl;
  text = λ word. ap (λ (z : List ℕ). spaced (codes "map" ∷ z ∷ word ∷ [])) (decimal_digit j small);
}
