use Rattle.std.proofs.Common.{◌≡◌, ◌≢◌, ◌∙◌, ap, sym, subst, IsSome, w8}
use Rattle.std.specs.Prelude.{ℤ, pos, MatchOption, Ok, Err}
use Rattle.std.proofs.lemmas.Int.{to_z-of_z}
use Rattle.szg_file.specs.Held.{Shown}
use Rattle.szg_file.specs.Index.{Index, slot_in, number_in}
use Rattle.szg_file.specs.Values.{subtable_at, number_of_value}
use Rattle.szg_file.specs.declared.fault.MapFault.TheVariants.{OutsideMap}
use Rattle.szg_file.specs.contracts.table.Table.{the_view}
use Rattle.szg_file.proofs.Tables.IndexLaws.{slot_there, number_of_table}
use Rattle.szg_file.proofs.table.Table.map_value.Goals as goal

pub map_value-requires-clause-part : goal.map_value-requires-clause-part
map_value-requires-clause-part c =
    let there = subst (λ (t : Shown). IsSome (subtable_at t.contents c.args.part 0)) (sym c.self.view_is) c.requires.part in
    subst (λ (x : Index). IsSome (slot_in x c.args.part 0)) (sym c.self.invariant.1)
    (slot_there (the_view c.self.inside).contents c.self.inside.filled.items c.args.part 0 c.self.invariant.0 there)

pub returns-clause-number : goal.returns-clause-number
returns-clause-number c =
    let same = sym (ap (λ (x : Index). number_in x c.args.part c.args.class c.args.v) c.self.invariant.1
    ∙ sym (number_of_table (the_view c.self.inside).contents c.self.inside.filled.items c.args.part c.args.class c.args.v c.self.invariant.0)
    ∙ ap (λ (t : Shown). number_of_value t.contents c.args.part c.args.class c.args.v) c.self.view_is) in
    let result = c.map_value.result in
    rw same
    (subst (λ (z : ℤ). MatchOption (number_in c.self.inside.index c.args.part z c.args.v) (z ≢ pos 0 → result ≡ Err OutsideMap) (λ n. result ≡ Ok n)) (to_z-of_z w8 c.args.class c.ranges.class) c.map_value.ensures.number)
