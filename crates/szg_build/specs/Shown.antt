-- Public views of plans and dumps, and the results of reading a dump.
use Rattle.std.specs.Prelude.{◌≡◌, ℕ, ◌==◌, List, [], map, min, length, get_or, option_map, Option, Some, None, Result, Ok, Err, if◌then◌else◌}
use Rattle.szg_values.specs.declared.Kind.{Kind}
use Rattle.szg_values.specs.declared.Kind.TheVariants.{Wdl, Dtz}
use Rattle.szg_file.specs.Contents as held
use Rattle.szg_file.specs.Held.{part_of, map_of}
use Rattle.szg_build.specs.declared.Plan.{Plan}
use Rattle.szg_build.specs.declared.dump.Dump.{Dump}
use Rattle.szg_build.specs.declared.dump.DumpReadFault.{DumpReadFault}
use Rattle.szg_build.specs.declared.dump.DumpReadFault.TheVariants.{Line, Build, Device, Memory}
use Rattle.szg_build.specs.Plan as seen
use Rattle.szg_build.specs.Dump as stated
use Rattle.szg_build.specs.Text.{Form, single, runs}
use Rattle.szg_build.specs.Reading.{IsLineFault, IsPlanFault, EndsWith}
use Rattle.szg_build.specs.Lines.{Verdict, good}

abbrev pub plan_seen : Plan → seen.Plan
plan_seen plan = record {
  material = plan.material;
  kind = plan.kind;
  parts = map part_of plan.parts.items;
  block_bits = plan.block_bits;
  span_bits = plan.span_bits;
  rounds = plan.rounds;
  flags = plan.flags.items;
  maps = map (option_map map_of) plan.maps.items;
  last = plan.last;
}

abbrev pub dump_seen : Dump → stated.Dump
dump_seen dump = record {
  material = dump.material;
  kind = dump.kind;
  parts = map part_of dump.parts.items;
  flags = dump.flags.items;
  maps = map (option_map map_of) dump.maps.items;
  last = dump.last;
  lists = map (λ list. list.items) dump.lists.items;
}

-- the form of a dump by its number, 1 or 2
abbrev pub form_of : ℕ → Form
form_of number = if number == 2 then runs else single

-- The result agrees with `v`, the verdict on the bytes to come. If a dump was read, the bytes after it are still to
-- come.
abbrev pub FollowsLines : {X : Type 0} → (X → stated.Dump) → Verdict stated.Dump → Result X DumpReadFault → Option (List ℕ) → Type 0
FollowsLines view v (Ok dump) coming = (lines : ℕ) × (rest : List ℕ) × (v ≡ good (view dump) lines rest) × (coming ≡ Some rest)
FollowsLines view v (Err (Line number fault)) coming = IsLineFault v number fault
FollowsLines view v (Err (Build fault)) coming = IsPlanFault v fault
FollowsLines view v (Err Device) coming = Unit {0}
FollowsLines view v (Err Memory) coming = Unit {0}

-- The result is the verdict on the bytes that were read. If a dump was read, they are its text and nothing more.
abbrev pub TookLines : {X : Type 0} → (X → stated.Dump) → Verdict stated.Dump → Result X DumpReadFault → Option (List ℕ) → Type 0
TookLines view v (Ok dump) coming = (lines : ℕ) × (v ≡ good (view dump) lines [])
TookLines view v (Err (Line number fault)) coming = IsLineFault v number fault × EndsWith v coming
TookLines view v (Err (Build fault)) coming = IsPlanFault v fault
TookLines view v (Err Device) coming = Unit {0}
TookLines view v (Err Memory) coming = Unit {0}

-- ---- the subtables of a dump, by their numbers

-- the content of a dump, subtable by subtable
abbrev pub subs_seen : Dump → List stated.SubDump
subs_seen dump = stated.subs_of dump.kind dump.flags.items (map (option_map map_of) dump.maps.items) (map (λ list. list.items) dump.lists.items)

abbrev pub count_at : Kind → ℕ → ℕ → ℕ → ℕ
count_at Wdl flags maps lists = lists
count_at Dtz flags maps lists = min (min flags maps) lists

-- the number of subtables of a dump
abbrev pub sub_count : Dump → ℕ
sub_count dump = count_at dump.kind (length dump.flags.items) (length dump.maps.items) (length dump.lists.items)

abbrev pub sub_at : Kind → List ℕ → List (Option held.Map) → List (List ℕ) → ℕ → stated.SubDump
sub_at Wdl flags maps lists s = record { flags = 0; lists = None; values = get_or lists s [] }
sub_at Dtz flags maps lists s = record { flags = get_or flags s 0; lists = get_or maps s None; values = get_or lists s [] }

-- subtable s, if it exists
abbrev pub sub_in : Dump → ℕ → stated.SubDump
sub_in dump s = sub_at dump.kind dump.flags.items (map (option_map map_of) dump.maps.items) (map (λ list. list.items) dump.lists.items) s
