use Rattle.std.proofs.Common.{sym, ap, ◌∙◌}
use Rattle.std.specs.Char.{is_ascii_digit}
use Rattle.std.specs.List.{list_all}
use Rattle.szg_words.proofs.Digits.{number_of_digits, number_of_other}
use Rattle.szg_words.proofs.numbers.number.Goals as goal

pub returns-then-are_digits : goal.returns-then-are_digits
returns-then-are_digits c =
    c.ok.ensures.value ∙ number_of_digits c.args.text.now c.parse.result (ap (list_all is_ascii_digit) (sym c.as_bytes.ensures.value) ∙ sym c.are_digits.ensures ∙ c.if-are_digits.true) c.parse.ensures.value.0

pub returns-else-are_digits : goal.returns-else-are_digits
returns-else-are_digits c = sym (number_of_other c.args.text.now (ap (list_all is_ascii_digit) (sym c.as_bytes.ensures.value) ∙ sym c.are_digits.ensures ∙ c.if-are_digits.false))
