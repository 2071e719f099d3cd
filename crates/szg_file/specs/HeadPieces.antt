-- The sizes of a header that are read at once, and the refusals by the checks of a list.
use Rattle.std.specs.Prelude.{◌≡◌, ℕ, ◌+◌, ◌*◌, List}
use Rattle.szg_code.specs.declared.CodeFault.{CodeFault}
use Rattle.szg_code.specs.declared.CodeFault.TheVariants.{Lengths, LowestOrder, TooFull}
use Rattle.szg_pairs.specs.declared.DictFault.{DictFault}
use Rattle.szg_pairs.specs.declared.DictFault.TheVariants as dict
use Rattle.szg_file.specs.declared.fault.Reason.TheVariants as reason
use Rattle.szg_file.specs.declared.fault.ReadFault.{ReadFault}
use Rattle.szg_file.specs.declared.fault.ReadFault.TheVariants.{Refused, Device, Memory}
use Rattle.szg_file.specs.declared.reading.heads.HeadSizes.{HeadSizes}
use Rattle.szg_file.specs.Format.{Format, means, refuses, placed, ◌>>=◌, ◌>>◌}
use Rattle.szg_file.specs.File.{number_field, rows_field, lengths_of_words, entries_check}

-- the number of extra lengths, the number of blocks, and the code lengths: the bytes after the span bits
abbrev pub sizes_field : Format HeadSizes
sizes_field = do
  extra ← number_field 1
  blocks ← number_field 4
  words ← lengths_of_words
  means (record { extra = extra; blocks = blocks; min = words.0; max = words.1 })

-- `count` entries of a dictionary, with their checks
abbrev pub entries_field : ℕ → Format (List (List ℕ))
entries_field count = placed (λ place. do
  entries ← rows_field 3 count
  entries_check place entries
  means entries)

-- the fault is the refusal by a failing check
abbrev pub Refuses : Format (Unit {0}) → ReadFault → Type 0
Refuses check (Refused place reason) = check ≡ refuses place reason
Refuses check Device = ⊥
Refuses check Memory = ⊥

-- the check of a list of lowest symbols whose code has this fault
abbrev pub lowest_refusal : ℕ → CodeFault → Format (Unit {0})
lowest_refusal place Lengths = means tt
lowest_refusal place (LowestOrder item) = refuses (place + 2 * item) reason.LowestOrder
lowest_refusal place (TooFull item) = refuses (place + 2 * item) reason.TooFull

-- the check of a list of entries whose dictionary has this fault
abbrev pub entries_refusal : ℕ → DictFault → Format (Unit {0})
entries_refusal place (dict.Child symbol) = refuses (place + 3 * symbol) reason.Child
entries_refusal place (dict.Cycle symbol) = refuses (place + 3 * symbol) reason.Cycle
entries_refusal place (dict.LongSymbol symbol) = refuses (place + 3 * symbol) reason.LongSymbol
entries_refusal place dict.Memory = means tt
