-- The bytes of a file that is being written.
use Rattle.std.specs.Prelude.{ℕ, List, ◌++◌}
use Rattle.std.specs.Io.Buffered.{writer_buffer, writer_inner}
use Rattle.szg_io.specs.Counts.{device_of}
use Rattle.szg_io.specs.declared.over_std.Std.{Std}
use Rattle.std.specs.declared.io.buffered.BufWriter.{BufWriter}
use Rattle.szg_files.specs.Monitored.{written_of}
use Rattle.szg_files.specs.declared.monitored.Monitored.{Monitored}
use Rattle.szg_files.specs.declared.draft.Draft.{Draft}
use Rattle.szg_files.specs.declared.draft.Sealed.{Sealed}
use Rattle.szg_files.specs.declared.draft.Published.{Published}

-- the bytes written and the buffered ones
abbrev pub text_of : {F A : Type 0} → Std (BufWriter (Monitored F) A) → List ℕ
text_of file = written_of (writer_inner (device_of file)) ++ writer_buffer (device_of file)

abbrev pub sealed_text : {R F D : Type 0} → Sealed R F D → List ℕ
sealed_text sealed = written_of sealed.file

abbrev pub draft_target : {R F D : Type 0} → Draft R F D → List ℕ
draft_target draft = draft.renaming.target.now

abbrev pub sealed_target : {R F D : Type 0} → Sealed R F D → List ℕ
sealed_target sealed = sealed.renaming.target.now

abbrev pub published_target : Published → List ℕ
published_target published = published.target.now

abbrev pub published_text : Published → List ℕ
published_text published = published.written.bytes
