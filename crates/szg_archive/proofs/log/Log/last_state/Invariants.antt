use Rattle.std.proofs.Common.{◌≡◌, None, map, take}
use Rattle.szg_archive.specs.Logs.{entry_of, last}
use Rattle.szg_archive.proofs.log.Log.last_state.Given as goal

abbrev pub invariant-entries : goal.invariant-entries
invariant-entries l = l.known ≡ last l.normal.items None (map entry_of (take l.entry-index l.entry-items))
