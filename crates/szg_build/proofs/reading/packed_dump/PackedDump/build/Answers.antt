use Rattle.std.proofs.Common.{◌≡◌, ◌⊎◌, None, Some, map, refl, subst}
use Rattle.std.specs.Prelude.{IfOk}
use Rattle.szg_build.specs.Chosen.{plan_by, IsBuiltAs, IsCodedTable, ToBuild}
use Rattle.szg_build.specs.Packed.{gathered_dump}
use Rattle.szg_build.specs.Plan.{build_fault}
use Rattle.szg_build.specs.Rule.{byte4_for, constant_for, constant_in}
use Rattle.szg_build.specs.declared.BuildFault.TheVariants as fault
use Rattle.szg_build.proofs.Builders.PackedLaws.{built_as_chosen, coded_as_chosen, plan_choice}
use Rattle.szg_build.proofs.Builders.SubLaws.{if_ok}
use Rattle.szg_build.proofs.Builders.TableLaws.{constants_are}
use Rattle.szg_build.proofs.reading.packed_dump.PackedDump.build.Goals as goal

pub returns-clause-refused : goal.returns-clause-refused
returns-clause-refused g c = λ why e.
    subst (λ (z : ToBuild). (why ≡ fault.Memory) ⊎ (build_fault (plan_by z.choice z.dump) z.dump.lists ≡ Some why)) c.self.view_is (c.build_gathered-built.ensures.refused why e)

pub returns-clause-no_fault : goal.returns-clause-no_fault
returns-clause-no_fault g c =
    subst (λ (z : ToBuild). IfOk c.build_gathered-built.result (λ _. build_fault (plan_by z.choice z.dump) z.dump.lists ≡ None)) c.self.view_is c.build_gathered-built.ensures.no_fault

pub returns-clause-built : goal.returns-clause-built
returns-clause-built g c =
    let dump = gathered_dump c.self.inside.gathered in
    let choice = c.self.inside.choice in
    subst (λ (z : ToBuild). IfOk c.build_gathered-built.result (λ t. IsBuiltAs z.choice (plan_by z.choice z.dump) z.dump.lists t.contents)) c.self.view_is
    (if_ok c.build_gathered-built.result (λ t h. built_as_chosen choice (plan_by choice dump) dump.lists t.contents (plan_choice choice (plan_by choice dump) refl refl refl) h) c.build_gathered-built.ensures.built)

pub returns-clause-byte4 : goal.returns-clause-byte4
returns-clause-byte4 g c =
    subst (λ (z : ToBuild). IfOk c.build_gathered-built.result (λ t. t.contents.byte4 ≡ byte4_for z.dump.material)) c.self.view_is
    (if_ok c.build_gathered-built.result (λ t h. h.byte4) c.build_gathered-built.ensures.built)

pub returns-clause-constants : goal.returns-clause-constants
returns-clause-constants g c =
    let dump = gathered_dump c.self.inside.gathered in
    subst (λ (z : ToBuild). IfOk c.build_gathered-built.result (λ t. map constant_in t.contents.subtables ≡ map (constant_for z.dump.kind) z.dump.lists)) c.self.view_is
    (if_ok c.build_gathered-built.result (λ t h. constants_are dump.kind c.self.inside.choice dump.lists t.contents.subtables h.rule) c.build_gathered-built.ensures.built)

pub returns-clause-codes : goal.returns-clause-codes
returns-clause-codes g c =
    let dump = gathered_dump c.self.inside.gathered in
    let choice = c.self.inside.choice in
    subst (λ (z : ToBuild). IfOk c.build_gathered-built.result (λ t. IsCodedTable z.choice t.contents)) c.self.view_is
    (if_ok c.build_gathered-built.result (λ t h. coded_as_chosen choice (plan_by choice dump) dump.lists t.contents h) c.build_gathered-built.ensures.built)

pub returns-clause-index : goal.returns-clause-index
returns-clause-index g c = if_ok c.build_gathered-built.result (λ t h. h.index) c.build_gathered-built.ensures.built
