use Rattle.std.proofs.Common.{refl, subst}
use Rattle.std.specs.Prelude.{IfSome}
use Rattle.szg_file.specs.Fetching.{NamesBadBlock}
use Rattle.szg_mapped.specs.InPlace.{InPlace}
use Rattle.szg_file.specs.declared.opened.fetching.FetchFault.{FetchFault}
use Rattle.szg_tables.specs.Mapped.{found_at}
use Rattle.szg_tables.proofs.MappedFiles.{never_short, subtable_there, value_bad, value_is}
use Rattle.szg_tables.proofs.mapped.value_at.Goals as goal

pub returns-in-Ok-clause-value : goal.returns-in-Ok-clause-value
returns-in-Ok-clause-value c =
    let f : InPlace = c.args.table.now in let h = c.requires.table in let spot = c.args.spot in
    value_is f h spot c.in-Ok.value (subtable_there f h spot c.requires.below) c.in-Ok.ensures.value

pub returns-in-Err-Block-clause-none : goal.returns-in-Err-Block-clause-none
returns-in-Err-Block-clause-none c =
    let f : InPlace = c.args.table.now in let h = c.requires.table in let spot = c.args.spot in
    value_bad f h spot c.in-Err-Block.number c.in-Err-Block.offset
    (subst (λ (fault : FetchFault). IfSome (found_at f spot) (λ found. NamesBadBlock f.content found spot.index fault)) c.in-Err-Block.field-0-is c.in-Err-Block.ensures.fault)

pub returns-in-Err-Block-clause-reason : goal.returns-in-Err-Block-clause-reason
returns-in-Err-Block-clause-reason c =
    let f : InPlace = c.args.table.now in let spot = c.args.spot in
    (c.in-Err-Block.number, c.in-Err-Block.offset, refl, subst (λ (fault : FetchFault). IfSome (found_at f spot) (λ found. NamesBadBlock f.content found spot.index fault)) c.in-Err-Block.field-0-is c.in-Err-Block.ensures.fault)

-- the bytes that were checked lead to a block
pub returns-in-Err-Source-clause-none : goal.returns-in-Err-Source-clause-none
returns-in-Err-Source-clause-none c =
    let f : InPlace = c.args.table.now in let h = c.requires.table in let spot = c.args.spot in
    absurd (never_short f h spot (subtable_there f h spot c.requires.below)
    (subst (λ (fault : FetchFault). IfSome (found_at f spot) (λ found. NamesBadBlock f.content found spot.index fault)) c.in-Err-Source.field-0-is c.in-Err-Source.ensures.fault))

pub returns-in-Err-Source-clause-reason : goal.returns-in-Err-Source-clause-reason
returns-in-Err-Source-clause-reason c =
    let f : InPlace = c.args.table.now in let h = c.requires.table in let spot = c.args.spot in
    absurd (never_short f h spot (subtable_there f h spot c.requires.below)
    (subst (λ (fault : FetchFault). IfSome (found_at f spot) (λ found. NamesBadBlock f.content found spot.index fault)) c.in-Err-Source.field-0-is c.in-Err-Source.ensures.fault))
