use Rattle.std.proofs.Common.{take}
use Rattle.szg_build.specs.Fronts.{IsWord}
use Rattle.szg_build.proofs.reading.word.split_word.Given as goal

-- none of the bytes so far is a space
abbrev pub invariant-bytes : goal.invariant-bytes
invariant-bytes l = IsWord (take l.i l.text)
