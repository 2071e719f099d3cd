use Rattle.std.proofs.Common.{◌≡◌, inl, inr, subst}
use Rattle.szg_place.specs.declared.Spot.{Spot}
use Rattle.szg_answers.specs.Fronts.{IsBadBlockAt, IsFetchedIn, IsLookUpRefused}
use Rattle.szg_answers.specs.declared.refusal.Refusal.{Refusal}
use Rattle.szg_words.specs.declared.request.Action.TheVariants.{Get}
use Rattle.szg_answers.proofs.FrontFacts.{fetched_then, index_refused, unfetched}
use Rattle.szg_answers.proofs.fronts.get_line.Goals as goal

pub returns-in-Err-clause-refused : goal.returns-in-Err-clause-refused
returns-in-Err-clause-refused g c = λ refusal is.
    let kept = c.args.opened.now.front in let part = c.args.request.now.part in let side = c.args.request.now.side in
    let same : c.in-Err.refusal ≡ refusal = cc in
    subst (λ (r : Refusal). IsFetchedIn g.S.File.Input c.args.file kept c.args.opened.now.read c.args.opened.now.front.length (λ content t. IsLookUpRefused (Get c.args.index) part side content t r)) same
    (
    unfetched g.S.File.Input c.args.file kept c.args.opened.now.read c.args.opened.now.front.length (λ content t. IsLookUpRefused (Get c.args.index) part side content t c.in-Err.refusal) c.requires.room
    (λ content h. inl (index_refused kept content h part side c.args.index c.in-Err.refusal c.in-Err.ensures.refused))
    )

pub returns-in-Err-value_by-clause-refused : goal.returns-in-Err-value_by-clause-refused
returns-in-Err-value_by-clause-refused g c = λ refusal is.
    let spot = c.in-Ok.spot in
    fetched_then g.S.File.Input c.args.file c.args.opened.now.front c.args.opened.now.read c.args.opened.now.front.length
    (λ content t. IsBadBlockAt content t spot.part spot.side spot.index refusal) (λ content t. IsLookUpRefused (Get c.args.index) c.args.request.now.part c.args.request.now.side content t refusal)
    (λ content h bad. inr (subst (λ (s : Spot). IsBadBlockAt content h.table s.part s.side s.index refusal) c.in-Ok.ensures.spot bad))
    (c.in-Err-value_by.ensures.refused refusal (cc))
