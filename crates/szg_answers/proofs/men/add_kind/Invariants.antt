use Rattle.std.proofs.Common.{◌≡◌, ◌++◌, flat_map, string_bytes}
use Rattle.std.specs.List.{range_with_len}
use Rattle.szg_answers.specs.Men.{square_word}
use Rattle.szg_answers.proofs.men.add_kind.Given as goal

-- the words of the squares so far
abbrev pub invariant-squares : goal.invariant-squares
invariant-squares l = string_bytes l.text ≡ string_bytes l.initial.text ++ flat_map (square_word l.men l.kind l.color) (range_with_len 0 l.number)
