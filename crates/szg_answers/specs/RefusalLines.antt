-- The line of a refusal.
use Rattle.std.specs.Prelude.{ℕ, List, [], ◌∷◌, ◌++◌, Some, None, codes, decimal}
use Rattle.szg_values.specs.declared.PlacementFault.{PlacementFault}
use Rattle.szg_values.specs.declared.PlacementFault.TheVariants as placements
use Rattle.szg_file.specs.declared.fault.MapFault.{MapFault}
use Rattle.szg_file.specs.declared.fault.MapFault.TheVariants as maps
use Rattle.szg_named.specs.Texts.{name_word}
use Rattle.szg_archive.specs.ReasonWords.{reason_word}
use Rattle.szg_place.specs.declared.PlaceFault.{PlaceFault}
use Rattle.szg_place.specs.declared.PlaceFault.TheVariants as places
use Rattle.szg_build.specs.declared.BuildFault.{BuildFault}
use Rattle.szg_build.specs.declared.BuildFault.TheVariants as builds
use Rattle.szg_build.specs.declared.dump.DumpFault.{DumpFault}
use Rattle.szg_build.specs.declared.dump.DumpFault.TheVariants as dumps
use Rattle.szg_answers.specs.declared.refusal.Refusal.{Refusal}
use Rattle.szg_answers.specs.declared.refusal.Refusal.TheVariants as why

abbrev pub placement_word : PlacementFault → List ℕ
placement_word placements.Men = codes "Men"
placement_word placements.SameSquare = codes "SameSquare"
placement_word placements.PawnRank = codes "PawnRank"

abbrev pub dump_word : DumpFault → List ℕ
dump_word dumps.Version = codes "Version"
dump_word dumps.Field = codes "Field"
dump_word dumps.Number = codes "Number"
dump_word dumps.Hex = codes "Hex"
dump_word dumps.Name = codes "Name"
dump_word dumps.Ended = codes "Ended"
dump_word dumps.Run = codes "Run"

abbrev pub build_word : BuildFault → List ℕ
build_word builds.Order = codes "Order"
build_word builds.Bits = codes "Bits"
build_word builds.Rounds = codes "Rounds"
build_word builds.Count = codes "Count"
build_word (builds.Length list) = codes "Length"
build_word (builds.Value list) = codes "Value"
build_word (builds.TooManyValues list) = codes "TooManyValues"
build_word builds.Map = codes "Map"
build_word builds.Memory = codes "Memory"

abbrev pub place_word : PlaceFault → List ℕ
place_word places.OtherMaterial = codes "OtherMaterial"
place_word places.Irregular = codes "Irregular"
place_word places.KingsTouch = codes "KingsTouch"
place_word places.WrongSide = codes "WrongSide"

abbrev pub map_word : MapFault → List ℕ
map_word maps.Draw = codes "Draw"
map_word maps.OutsideMap = codes "OutsideMap"

-- why something is refused, in a word
abbrev pub refusal_word : Refusal → List ℕ
refusal_word (why.Name fault) = name_word fault
refusal_word (why.Men (Some fault)) = placement_word fault
refusal_word (why.At place reason) = reason_word reason
refusal_word (why.Line line fault) = dump_word fault
refusal_word (why.Build fault) = build_word fault
refusal_word (why.Place fault) = place_word fault
refusal_word (why.Map fault) = map_word fault
refusal_word refusal = []

-- a line of what is refused and of the word that says why
abbrev pub worded_line : List ℕ → List ℕ → List ℕ
worded_line what word = codes "refused " ++ (what ++ (codes ": " ++ (word ++ 10 ∷ [])))

-- the same with a number: of a byte or of a line
abbrev pub numbered_line : List ℕ → ℕ → List ℕ → List ℕ
numbered_line what number word = codes "refused " ++ (what ++ (32 ∷ [] ++ (decimal number ++ (codes ": " ++ (word ++ 10 ∷ [])))))

abbrev pub refusal_line : Refusal → List ℕ
refusal_line (why.Name fault) = worded_line (codes "name") (name_word fault)
refusal_line (why.Men None) = codes "refused man\n"
refusal_line (why.Men (Some fault)) = worded_line (codes "placement") (placement_word fault)
refusal_line (why.At place reason) = numbered_line (codes "at") place (reason_word reason)
refusal_line (why.Line line fault) = numbered_line (codes "line") line (dump_word fault)
refusal_line (why.Build fault) = worded_line (codes "build") (build_word fault)
refusal_line why.Part = codes "refused part\n"
refusal_line why.Index = codes "refused index\n"
refusal_line (why.Block number offset) = codes "refused block " ++ (decimal number ++ (codes " at " ++ (decimal offset ++ 10 ∷ [])))
refusal_line (why.Place fault) = worded_line (codes "place") (place_word fault)
refusal_line (why.Map fault) = worded_line (codes "map") (map_word fault)
