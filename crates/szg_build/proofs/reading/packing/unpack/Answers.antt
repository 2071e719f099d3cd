use Rattle.szg_build.proofs.Builders.PackedLaws.{packed_sound}
use Rattle.szg_build.proofs.reading.packing.unpack.Goals as goal

pub of-sound-requires-clause-shaped : goal.of-sound-requires-clause-shaped
of-sound-requires-clause-shaped c = (packed_sound c.args.kind c.requires.0 c.args.packed.now c.requires.1).0

pub of-sound-requires-clause-sound : goal.of-sound-requires-clause-sound
of-sound-requires-clause-sound c = (packed_sound c.args.kind c.requires.0 c.args.packed.now c.requires.1).1
