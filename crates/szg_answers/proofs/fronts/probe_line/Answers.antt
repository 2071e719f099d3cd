use Rattle.std.proofs.Common.{◌≡◌, ◌∙◌, ap, inl, subst, sym}
use Rattle.std.specs.Prelude.{Ok, string_bytes}
use Rattle.szg_file.specs.Index.{Index}
use Rattle.szg_place.specs.Spots.{place_fault, spot_of}
use Rattle.szg_place.specs.Tables.{numbering_in}
use Rattle.szg_place.proofs.Indexes.Probed.{ok_spot, one_side}
use Rattle.szg_answers.specs.Fronts.{IsBadBlockAt, IsDecodedAt, IsFetchedIn, IsLookUpAnswer, IsLookUpRefused, IsMapRefusal, IsMeaningLine}
use Rattle.szg_answers.specs.declared.refusal.Refusal.{Refusal}
use Rattle.szg_answers.specs.declared.refusal.Refusal.TheVariants as why
use Rattle.szg_words.specs.declared.request.Action.TheVariants.{Probe}
use Rattle.szg_answers.proofs.FrontFacts.{fetched_then, no_fault, ok_then, place_refused, probe_bad, probe_parsed, probe_unmapped, spot_refused, unfetched}
use Rattle.szg_answers.proofs.fronts.probe_line.Goals as goal

pub returns-in-Err-clause-refused : goal.returns-in-Err-clause-refused
returns-in-Err-clause-refused g c = λ refusal is part side.
    let x = c.index.result.now in let board = c.args.placement.now in let class = c.args.class in let opened = c.args.opened.now in
    let same : why.Place c.in-Err.fault ≡ refusal = cc in
    let refused = place_refused (place_fault (numbering_in x) board) c.in-Err.fault (spot_of (numbering_in x) board) (rw (c.of.ensures) at c.in-Err.ensures.refused) (rw (c.of.ensures) at c.in-Err.ensures.spot) in
    subst (λ (r : Refusal). IsFetchedIn g.S.File.Input c.args.file opened.front opened.read opened.front.length (λ content t. IsLookUpRefused (Probe board class) part side content t r)) same
    (
    unfetched g.S.File.Input c.args.file opened.front opened.read opened.front.length (λ content t. IsLookUpRefused (Probe board class) part side content t (why.Place c.in-Err.fault)) c.requires.room
    (λ content h. inl (spot_refused x board class h.table (c.index.ensures ∙ h.index_is) (why.Place c.in-Err.fault) refused))
    )

pub returns-in-Err-value_by-clause-refused : goal.returns-in-Err-value_by-clause-refused
returns-in-Err-value_by-clause-refused g c = λ refusal is part side.
    let x = c.index.result.now in let board = c.args.placement.now in let class = c.args.class in let spot = c.in-Ok.spot in let opened = c.args.opened.now in
    let none = no_fault (place_fault (numbering_in x) board) spot (rw (c.of.ensures) at c.in-Ok.ensures.refused) in
    let is_spot = ok_spot (place_fault (numbering_in x) board) (spot_of (numbering_in x) board) spot (rw (c.of.ensures) at c.in-Ok.ensures.refused) (rw (c.of.ensures) at c.in-Ok.ensures.spot) in
    fetched_then g.S.File.Input c.args.file opened.front opened.read opened.front.length
    (λ content t. IsBadBlockAt content t spot.part spot.side spot.index refusal) (λ content t. IsLookUpRefused (Probe board class) part side content t refusal)
    (λ content h bad. probe_bad x board class h.table (c.index.ensures ∙ h.index_is) spot none is_spot part side content refusal bad)
    (c.in-Err-value_by.ensures.refused refusal (cc))

pub meaning_line-requires : goal.meaning_line-requires
meaning_line-requires g c = λ dtz.
    let x = c.index.result.now in let board = c.args.placement.now in let class = c.args.class in let spot = c.in-Ok.spot in let opened = c.args.opened.now in
    let none = no_fault (place_fault (numbering_in x) board) spot (rw (c.of.ensures) at c.in-Ok.ensures.refused) in
    let is_spot = ok_spot (place_fault (numbering_in x) board) (spot_of (numbering_in x) board) spot (rw (c.of.ensures) at c.in-Ok.ensures.refused) (rw (c.of.ensures) at c.in-Ok.ensures.spot) in
    let back = c.index-2.ensures ∙ sym c.index.ensures in
    one_side x c.index-2.result.now board spot back (ap (λ (y : Index). y.kind) (sym back) ∙ dtz) is_spot c.in-Ok.ensures.below

pub returns-clause-stated : goal.returns-clause-stated
returns-clause-stated g c =
    let x = c.index.result.now in let board = c.args.placement.now in let class = c.args.class in let spot = c.in-Ok.spot in let opened = c.args.opened.now in
    let none = no_fault (place_fault (numbering_in x) board) spot (rw (c.of.ensures) at c.in-Ok.ensures.refused) in
    let is_spot = ok_spot (place_fault (numbering_in x) board) (spot_of (numbering_in x) board) spot (rw (c.of.ensures) at c.in-Ok.ensures.refused) (rw (c.of.ensures) at c.in-Ok.ensures.spot) in
    let value = c.in-Ok-value_by.value in
    ok_then c.meaning_line.result _ _
    (λ line meaning part side.
    fetched_then g.S.File.Input c.args.file opened.front opened.read opened.front.length
    (λ content t. IsDecodedAt t spot.part spot.side spot.index value) (λ content t. IsLookUpAnswer (Probe board class) part side content t (string_bytes line))
    (λ content h decoded. probe_parsed x board class h.table (c.index.ensures ∙ h.index_is) spot none is_spot part side value content (string_bytes line)
    (subst (λ (y : Index). IsMeaningLine y.kind y spot.part class value (string_bytes line)) (c.index-2.ensures ∙ sym c.index.ensures) meaning) decoded)
    c.in-Ok-value_by.ensures.value)
    c.meaning_line.ensures.stated

pub returns-clause-refused : goal.returns-clause-refused
returns-clause-refused g c = λ refusal is part side.
    let x = c.index.result.now in let board = c.args.placement.now in let class = c.args.class in let spot = c.in-Ok.spot in let opened = c.args.opened.now in
    let none = no_fault (place_fault (numbering_in x) board) spot (rw (c.of.ensures) at c.in-Ok.ensures.refused) in
    let is_spot = ok_spot (place_fault (numbering_in x) board) (spot_of (numbering_in x) board) spot (rw (c.of.ensures) at c.in-Ok.ensures.refused) (rw (c.of.ensures) at c.in-Ok.ensures.spot) in
    let value = c.in-Ok-value_by.value in
    let unmapped = c.meaning_line.ensures.refused refusal is in
    fetched_then g.S.File.Input c.args.file opened.front opened.read opened.front.length
    (λ content t. IsDecodedAt t spot.part spot.side spot.index value) (λ content t. IsLookUpRefused (Probe board class) part side content t refusal)
    (λ content h decoded. probe_unmapped x board class h.table (c.index.ensures ∙ h.index_is) spot none is_spot part side value content refusal
    (subst (λ (y : Index). IsMapRefusal y.kind y spot.part class value refusal) (c.index-2.ensures ∙ sym c.index.ensures) unmapped) decoded)
    c.in-Ok-value_by.ensures.value
