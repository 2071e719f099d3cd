use Rattle.std.proofs.Common.{◌∙◌, ℕ, List, Some, ◌++◌, refl, sym, ap, rules}
use Rattle.szg_build.proofs.Readers.HexWords.{none_refused, none_otherwise, some_parsed}
use Rattle.szg_build.proofs.reading.word.hex_bytes.Goals as goal

pub returns-in_default : goal.returns-in_default
returns-in_default c =
    (refl, none_refused c.args.word.now c.decode_to_slice.new.out _ c.decode_to_slice.result c.in_default.field-0 (search rules) c.decode_to_slice.ensures.value c.in_default.is)

pub returns-then-not-is_spelled : goal.returns-then-not-is_spelled
returns-then-not-is_spelled c =
    (refl, none_otherwise c.args.word.now c.decode_to_slice.new.out _ c.decode_to_slice.result (search rules) c.decode_to_slice.ensures.value c.in-Ok.is (sym c.is_spelled.ensures ∙ search rules))

pub returns : goal.returns
returns c = some_parsed c.args.word.now c.decode_to_slice.new.out c.bytes_fit.ensures (sym c.is_spelled.ensures ∙ search rules) ∙ ap (λ (z : List ℕ). Some z) (sym (c.in-Ok-try_extend_from_slice.ensures.ok ∙ ap (λ (z : List ℕ). z ++ c.decode_to_slice.new.out) c.new-list.ensures))
