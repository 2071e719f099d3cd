use Rattle.std.proofs.Common.{◌≡◌, map, take, string_bytes}
use Rattle.szg_commands.proofs.running.texts_of.Given as goal

-- the texts so far
abbrev pub invariant-words : goal.invariant-words
invariant-words l = map (λ text. text.now) l.texts.items ≡ map (λ word. string_bytes word) (take l.word-index l.words)
