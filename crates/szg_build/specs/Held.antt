-- The bytes that a reader of lines has read ahead.
use Rattle.std.specs.Prelude.{ℕ, ◌-◌, List, take, drop}
use Rattle.szg_build.specs.declared.reading.incoming.Incoming.{Incoming}

-- the bytes that were read and belong to no line that was taken
abbrev pub held_of : Incoming → List ℕ
held_of incoming = take (incoming.to - incoming.from) (drop incoming.from incoming.bytes)
