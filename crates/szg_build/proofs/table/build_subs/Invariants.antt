use Rattle.std.proofs.Common.{map, take}
use Rattle.szg_file.specs.Held.{subtable_of}
use Rattle.szg_build.specs.Shown.{plan_seen}
use Rattle.szg_build.specs.Tabling.{AreBuilt}
use Rattle.szg_build.proofs.table.build_subs.Given as goal

-- the subtables of the lists so far
abbrev pub invariant-lists : goal.invariant-lists
invariant-lists g l = AreBuilt l.choice (plan_seen l.plan) l.plan.flags.items (map (λ list. list.now) (take l.n l.lists)) (map subtable_of l.subs.items)
