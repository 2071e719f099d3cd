use Rattle.std.proofs.Common.{◌≡◌, subst}
use Rattle.std.specs.Prelude.{IsSomeAnd}
use Rattle.szg_file.specs.Index.{index_of}
use Rattle.szg_file.specs.Opened.{Opened, opened_table, IsTableOf}
use Rattle.szg_file.proofs.Openings.OutlinedLaws.{stated_in}
use Rattle.szg_file.proofs.opened.Opened.index.Goals as goal

pub returns-clause-index : goal.returns-clause-index
returns-clause-index g c =
    let h = c.self.invariant.1 in
    subst (λ (o : Opened). IsSomeAnd (opened_table o) (λ t. c.self.inside.index ≡ index_of t)) c.self.view_is
    (stated_in (λ t. c.self.inside.index ≡ index_of t) _ h.table h.there h.index_is)

pub returns-clause-table : goal.returns-clause-table
returns-clause-table g c =
    let h = c.self.invariant.1 in
    subst (λ (o : Opened). IsSomeAnd (opened_table o) (IsTableOf o.material o.kind)) c.self.view_is
    (stated_in (IsTableOf c.self.inside.index.material c.self.inside.index.kind) _ h.table h.there h.is_valid)
