use Rattle.std.proofs.Common.{◌≡◌, ◌++◌, flat_map, string_bytes, take}
use Rattle.szg_answers.specs.Men.{side_words}
use Rattle.szg_answers.proofs.men.add_men.Given as goal

-- the words of the colours so far
abbrev pub invariant-colors : goal.invariant-colors
invariant-colors l = string_bytes l.text ≡ string_bytes l.initial.text ++ flat_map (side_words l.placement.placed_men) (take l.color-index l.color-items)
