use Rattle.std.proofs.Common.{◌≡◌, ◌<◌, ap, inl, inr, refl, subst}
use Rattle.std.specs.Prelude.{IsSomeAnd}
use Rattle.szg_values.specs.declared.Kind.{Kind}
use Rattle.szg_file.specs.Fetching.{NamesBadBlock}
use Rattle.szg_file.specs.Index.{Index}
use Rattle.szg_file.specs.Unread.{IsDecoded}
use Rattle.szg_file.specs.Values.{subtable_at}
use Rattle.szg_file.specs.declared.opened.fetching.FetchFault.TheVariants as fetch
use Rattle.szg_file.specs.declared.opened.fetching.ByteRange.{ByteRange}
use Rattle.szg_file.proofs.Openings.LocatedLaws.{fault_of, inside_of, value_of, wanted_of}
use Rattle.szg_files.specs.declared.file_system.FileFault.{FileFault}
use Rattle.szg_answers.specs.Fronts.{IsBadBlockAt, IsDecodedAt, IsFetchedIn, IsUnhad, IsWantedBy}
use Rattle.szg_answers.specs.declared.refusal.Refusal.{Refusal}
use Rattle.szg_answers.specs.declared.refusal.Refusal.TheVariants as why
use Rattle.szg_answers.proofs.FrontFacts.{fetched_by, fetched_then, none_there, unhad_then}
use Rattle.szg_answers.proofs.fronts.value_by.Goals as goal

pub returns-in-Ok-decode-clause-value : goal.returns-in-Ok-decode-clause-value
returns-in-Ok-decode-clause-value g c =
    let kept = c.args.opened.now.front in let part = c.args.spot.part in let side = c.args.spot.side in let i = c.args.spot.index in let v = c.in-Ok-decode.value in
    fetched_then g.S.File.Input c.args.file kept c.args.opened.now.read c.args.opened.now.front.length
    (λ content t. IsSomeAnd (subtable_at t part side) (λ found. (i < found.0.size) × IsDecoded kept.index.kind found i v))
    (λ content t. IsDecodedAt t part side i v)
    (λ content h p. subst (λ (k : Kind). IsSomeAnd (subtable_at h.table part side) (λ found. (i < found.0.size) × IsDecoded k found i v)) (ap (λ (x : Index). x.kind) h.index_is) p)
    (
    fetched_by g.S.File.Input c.args.file kept c.args.opened.now.read c.args.opened.now.front.length part side i c.deref.result.now (λ slot. i < slot.size) (λ content found. IsDecoded kept.index.kind found i v)
    c.requires.room refl c.requires.below c.range.result (inside_of c.locate-located.result _ c.locate-located.ensures c.range.result c.range.ensures.inside) (wanted_of c.locate-located.result _ c.locate-located.ensures c.range.result c.range.ensures.wanted)
    (rw (c.deref.ensures.value) (c.in-Ok.ensures.block)) (value_of c.locate-located.result _ c.locate-located.ensures c.deref.result.now c.in-Ok-decode.value c.in-Ok-decode.ensures.value)
    )

pub returns-in-Err-Block-clause-refused : goal.returns-in-Err-Block-clause-refused
returns-in-Err-Block-clause-refused g c = λ refusal is.
    let kept = c.args.opened.now.front in let part = c.args.spot.part in let side = c.args.spot.side in let i = c.args.spot.index in
    let bad = fetch.Block c.in-Err-Block.number c.in-Err-Block.offset in
    let same : why.Block c.in-Err-Block.number c.in-Err-Block.offset ≡ refusal = cc in
    subst (λ (r : Refusal). IsFetchedIn g.S.File.Input c.args.file kept c.args.opened.now.read c.args.opened.now.front.length (λ content t. IsBadBlockAt content t part side i r)) same
    (
    fetched_by g.S.File.Input c.args.file kept c.args.opened.now.read c.args.opened.now.front.length part side i c.deref.result.now (λ slot. i < slot.size) (λ content found. NamesBadBlock content found i bad)
    c.requires.room refl c.requires.below c.range.result (inside_of c.locate-located.result _ c.locate-located.ensures c.range.result c.range.ensures.inside) (wanted_of c.locate-located.result _ c.locate-located.ensures c.range.result c.range.ensures.wanted)
    (rw (c.deref.ensures.value) (c.in-Ok.ensures.block)) (fault_of c.locate-located.result _ c.locate-located.ensures c.deref.result.now bad (rw (c.in-Err-Block.field-0-is) at c.in-Err-Block.ensures.fault))
    )

pub returns-in-Err-clause-failed : goal.returns-in-Err-clause-failed
returns-in-Err-clause-failed g c = λ fault is.
    let kept = c.args.opened.now.front in let part = c.args.spot.part in let side = c.args.spot.side in let i = c.args.spot.index in
    let same : c.in-Err.fault ≡ fault = cc in
    inl (subst (λ (f : FileFault). (wanted : ByteRange) × IsWantedBy kept part side i wanted × IsUnhad g.S.File.Input c.args.file c.args.opened.now.read f wanted) same
    (unhad_then g.S.File.Input c.args.file kept c.args.opened.now.read part side i c.in-Err.fault c.range.result c.in-Err.ensures.failed (wanted_of c.locate-located.result _ c.locate-located.ensures c.range.result c.range.ensures.wanted)))

pub returns-clause-failed : goal.returns-clause-failed
returns-clause-failed g c = λ fault is.
    let kept = c.args.opened.now.front in let part = c.args.spot.part in let side = c.args.spot.side in let i = c.args.spot.index in
    inr
    (
    fetched_then g.S.File.Input c.args.file kept c.args.opened.now.read c.args.opened.now.front.length
    (λ content t. IsSomeAnd (subtable_at t part side) (λ found. (i < found.0.size) × ⊥)) (λ content t. ⊥)
    (λ content h p. none_there (subtable_at h.table part side) (λ found. i < found.0.size) p)
    (
    fetched_by g.S.File.Input c.args.file kept c.args.opened.now.read c.args.opened.now.front.length part side i c.deref.result.now (λ slot. i < slot.size) (λ content found. ⊥)
    c.requires.room refl c.requires.below c.range.result (inside_of c.locate-located.result _ c.locate-located.ensures c.range.result c.range.ensures.inside) (wanted_of c.locate-located.result _ c.locate-located.ensures c.range.result c.range.ensures.wanted)
    (rw (c.deref.ensures.value) (c.in-Ok.ensures.block)) (fault_of c.locate-located.result _ c.locate-located.ensures c.deref.result.now fetch.Source (rw (c.in-Err-Source.field-0-is) at c.in-Err-Source.ensures.fault))
    )
    )
