use Rattle.std.proofs.Common.{◌≡◌, ◌++◌, flat_map, string_bytes, take}
use Rattle.szg_answers.specs.Men.{kind_words}
use Rattle.szg_answers.proofs.men.add_side.Given as goal

-- the words of the kinds so far
abbrev pub invariant-kinds : goal.invariant-kinds
invariant-kinds l = string_bytes l.text ≡ string_bytes l.initial.text ++ flat_map (kind_words l.men l.color) (take l.kind-index l.kind-items)
