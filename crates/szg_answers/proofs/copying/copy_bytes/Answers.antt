use Rattle.std.proofs.Common.{[], rules}
use Rattle.szg_io.proofs.DeviceLaws.{Gives-none}
use Rattle.szg_answers.proofs.copying.copy_bytes.Goals as goal

pub chunks-init : goal.chunks-init
chunks-init g c = record { size = search rules; text = []; given = Gives-none _ _ 0; taken = c.new-hasher.ensures }
