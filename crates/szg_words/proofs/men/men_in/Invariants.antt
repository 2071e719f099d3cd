use Rattle.std.proofs.Common.{◌≡◌, take}
use Rattle.szg_words.specs.Men.{placed_men_in}
use Rattle.szg_words.proofs.men.men_in.Given as goal

abbrev pub invariant-words : goal.invariant-words
invariant-words l = l.men.items ≡ placed_men_in (take l.word-index l.words)
