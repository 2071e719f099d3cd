use Rattle.std.proofs.Common.{◌≡◌, ℕ, ℤ, List, Option, Some, None, get_or}
use Rattle.std.specs.Prelude.{IfSome}
use Rattle.szg_chess.specs.Position.{Position}
use Rattle.szg_chess.specs.Moves.{after}
use Rattle.szg_tables.specs.Fetched.{AreAmong, AreNumbersAmong, fetched_classes, fetched_numbers}
use Rattle.szg_tables.specs.Stored.{stored_classes, stored_numbers}
use Rattle.szg_tables.specs.declared.fetched.FetchedTable.{FetchedTable}
use Rattle.szg_probe.specs.Probing.{StoredClasses}
use Rattle.szg_probe.specs.Distances.{StoredNumbers}
use Rattle.szg_results.specs.Objects.{IsDtz, dtz_over}
use Rattle.szg_results.specs.declared.objects.MoveAfter.{MoveAfter}
use Rattle.szg_results.proofs.Among.{dtz_among}
use Rattle.szg_results.proofs.laws.dtzs_of_tables.Goals as goal

known_dtz : (files : List ℕ → Option (List ℕ)) (words : List (List ℕ)) (parts : List FetchedTable) (many : StoredClasses) (others : StoredNumbers) → AreAmong (fetched_classes parts) many →
    AreNumbersAmong (fetched_numbers parts) others → (p : Position) (dtz : Option ℤ) → IsDtz files words parts p dtz → IfSome dtz (λ n. dtz_over many others p ≡ Some n)
known_dtz files words parts many others among also p None is = tt
known_dtz files words parts many others among also p (Some n) is = dtz_among (fetched_classes parts) many among (fetched_numbers parts) others also p n is

pub returns : goal.returns
returns c = λ parts tables files words p rs ss all moves i d below.
    let known = c.fetched_is_stored.ensures parts tables all in
    let s : MoveAfter = get_or ss i d in
    known_dtz files words parts (stored_classes tables) (stored_numbers tables) known.0 known.1 (after p s.ranked.m) s.dtz (moves.1 i d below)
