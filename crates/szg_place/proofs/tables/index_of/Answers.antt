use Rattle.std.proofs.Common.{◌≡◌, subst}
use Rattle.std.specs.Prelude.{IfSome, IsNone, Ok, Err}
use Rattle.szg_values.specs.Placement.{Board}
use Rattle.szg_file.specs.Index.{Index}
use Rattle.szg_place.specs.Spots.{place_fault, spot_of}
use Rattle.szg_place.specs.Tables.{numbering_in, numbering_of}
use Rattle.szg_place.proofs.Indexes.Indexed.{below_table}
use Rattle.szg_place.proofs.tables.index_of.Goals as goal

pub returns-clause-refused : goal.returns-clause-refused
returns-clause-refused c =
    subst (λ (b : Board). IfSome (place_fault (numbering_of c.args.table.now.contents) b) (λ fault. c.locate.result ≡ Err fault)) c.of.ensures
    (subst (λ (x : Index). IfSome (place_fault (numbering_in x) c.of.result) (λ fault. c.locate.result ≡ Err fault)) c.index.ensures.index c.locate.ensures.refused)

pub returns-clause-spot : goal.returns-clause-spot
returns-clause-spot c =
    subst (λ (b : Board). IsNone (place_fault (numbering_of c.args.table.now.contents) b) → c.locate.result ≡ Ok (spot_of (numbering_of c.args.table.now.contents) b)) c.of.ensures
    (subst (λ (x : Index). IsNone (place_fault (numbering_in x) c.of.result) → c.locate.result ≡ Ok (spot_of (numbering_in x) c.of.result)) c.index.ensures.index c.locate.ensures.spot)

pub returns-clause-below : goal.returns-clause-below
returns-clause-below c =
    below_table c.args.table.now.contents c.args.table.now.filled c.index.result.now c.locate.result c.index.ensures.accepted c.index.ensures.index c.locate.ensures.below
