-- What the words of a command line mean.
use Rattle.std.specs.Prelude.{ℕ, ℤ, pos, neg_ℤ, Bool, false, ◌&&◌, ◌||◌, ◌==◌, ◌^◌, nat_le, nat_lt, List, [], length, codes, Option, Some, None, option_and_then, unwrap_or, if◌then◌else◌}
use Rattle.std.specs.Char.{is_ascii_digit}
use Rattle.std.specs.List.{list_all}
use Rattle.std.specs.Option.{option_map_or}
use Rattle.std.specs.Str.{bytes_eq}
use Rattle.std.specs.Str.Parse.{digits_value}
use Rattle.clap.specs.Matches.{first_value}
use Rattle.clap.specs.declared.parser.matches.Found.{Found}
use Rattle.szg_values.specs.declared.Color.{Color}
use Rattle.szg_values.specs.declared.Color.TheVariants.{White, Black}
use Rattle.szg_values.specs.declared.Kind.{Kind}
use Rattle.szg_values.specs.declared.Kind.TheVariants.{Wdl, Dtz}
use Rattle.szg_words.specs.declared.request.AskedClass.{AskedClass}
use Rattle.szg_words.specs.declared.request.AskedClass.TheVariants.{Win, Cursed, Draw, Blessed, Loss}
use Rattle.szg_words.specs.declared.request.DumpForm.{DumpForm}
use Rattle.szg_words.specs.declared.request.DumpForm.TheVariants.{Values, Runs}

-- the word that was given for an argument
abbrev pub word_of : Found → List ℕ → List ℕ
word_of found argument = unwrap_or (first_value found argument) []

-- ---- numbers

-- the number below 2^64 of decimal digits, leading zeros allowed
unfoldable pub parsed_number : List ℕ → Option ℕ
parsed_number text =
    if nat_lt 0 (length text) && (list_all is_ascii_digit text && nat_lt (digits_value 10 text) (2 ^ 64)) then Some (digits_value 10 text) else None

-- the same from a least to a greatest
abbrev pub number_from : ℕ → ℕ → List ℕ → Option ℕ
number_from least greatest word = option_and_then (λ n. if nat_le least n && nat_le n greatest then Some n else None) (parsed_number word)

-- the side that is asked, 0 for a command that asks for none
abbrev pub parsed_side : List ℕ → Found → Option ℕ
parsed_side command found =
    if bytes_eq command (codes "get") || bytes_eq command (codes "values") || bytes_eq command (codes "placement")
    then number_from 0 1 (word_of found (codes "side")) else Some 0

-- ---- choices

-- whether there is this word
abbrev pub is_word : Option (List ℕ) → List ℕ → Bool
is_word given word = option_map_or (λ text. bytes_eq text word) given false

abbrev pub parsed_kind : Option (List ℕ) → Kind
parsed_kind word = if is_word word (codes "wdl") then Wdl else Dtz

abbrev pub parsed_mover : Option (List ℕ) → Color
parsed_mover word = if is_word word (codes "w") then White else Black

-- the class of a word, a win where there is none
abbrev pub parsed_class : Option (List ℕ) → AskedClass
parsed_class word =
    if is_word word (codes "cursed") then Cursed else
    if is_word word (codes "draw") then Draw else
    if is_word word (codes "blessed") then Blessed else
    if is_word word (codes "loss") then Loss else Win

-- the class's number
abbrev pub number_of_class : AskedClass → ℤ
number_of_class Win = pos 2
number_of_class Cursed = pos 1
number_of_class Draw = pos 0
number_of_class Blessed = neg_ℤ (pos 1)
number_of_class Loss = neg_ℤ (pos 2)

-- the form's number in a dump's first line
abbrev pub number_of_form : DumpForm → ℕ
number_of_form Values = 1
number_of_form Runs = 2

abbrev pub parsed_form : ℕ → DumpForm
parsed_form number = if number == 1 then Values else Runs

-- the part of a letter, part 0 where there is none
abbrev pub parsed_part : Option (List ℕ) → ℕ
parsed_part letter = if is_word letter (codes "b") then 1 else if is_word letter (codes "c") then 2 else if is_word letter (codes "d") then 3 else 0
