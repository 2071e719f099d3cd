-- What is known by the first records, and the next.
use Rattle.std.proofs.Common.{◌≡◌, ℕ, ◌+◌, ◌<◌, List, [], ◌∷◌, ◌++◌, length, get_or, take, map, Bor, false, Option, None, Some, refl, sym, ap, ◌∙◌}
use Rattle.std.proofs.lemmas.List.{map-append, take_more}
use Rattle.szg_archive.specs.Logs.{Entry, entries_of, entry_of, last, last_state, past_of}
use Rattle.szg_archive.specs.Verdicts.{IsLeftOut, reads_all}
use Rattle.szg_archive.specs.declared.log.FileState.{FileState}
use Rattle.szg_archive.specs.declared.log.Log.{Log}
use Rattle.szg_archive.specs.declared.options.CheckOptions.{CheckOptions}
use Rattle.szg_archive.specs.declared.log.LogEntry.{LogEntry}

last_more : (path : List ℕ) (known : Option FileState) (entries : List Entry) (entry : Entry) → last path known (entries ++ entry ∷ []) ≡ past_of path (last path known entries) entry
last_more path known [] entry = refl
last_more path known (one ∷ entries) entry = last_more path (past_of path known one) entries entry

pub last_next : (path : List ℕ) (all : List LogEntry) (i : ℕ) (item : LogEntry) (old new : Option FileState) → i < length all → item ≡ get_or all i item → old ≡ last path None (map entry_of (take i all)) →
    new ≡ past_of path old (entry_of item) → new ≡ last path None (map entry_of (take (i + 1) all))
last_next path all i item old new below is so_far next =
    next ∙ ap (λ (z : Option FileState). past_of path z (entry_of item)) so_far ∙ ap (λ (one : LogEntry). past_of path (last path None (map entry_of (take i all))) (entry_of one)) is
    ∙ sym (ap (λ (z : List LogEntry). last path None (map entry_of z)) (take_more all i item below) ∙ ap (last path None) (map-append entry_of (take i all) (get_or all i item ∷ []))
    ∙ last_more path None (map entry_of (take i all)) (entry_of (get_or all i item)))

-- the last record says that the file was good, and no digest is asked for
pub left_out : (options : CheckOptions) (log : Bor Log) (path : List ℕ) (state : Option FileState) (good : FileState) → reads_all options ≡ false → options.log ≡ Some log → state ≡ last_state (entries_of log.now) path → state ≡ Some good → IsLeftOut options path good.length
left_out options log path state good none is last found = (none, rw is (good.modified, sym last ∙ found))
