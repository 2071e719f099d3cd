use Rattle.std.proofs.Common.{◌≡◌, List, ℕ, Err, true, false, length, refl, ap, sym, subst}
use Rattle.std.specs.Prelude.{Result}
use Rattle.std.proofs.lemmas.Result.{err_from_is_err_and}
use Rattle.szg_file.specs.Accepted.{SideBySide}
use Rattle.szg_file.specs.FrontInput.{IsFrontVerdict}
use Rattle.szg_file.specs.FrontTable.{FrontKept, IsFrontOf, IsWholeFront}
use Rattle.szg_mapped.specs.InPlace.{EndAt, Stands}
use Rattle.szg_file.specs.declared.fault.ReadFault.{ReadFault}
use Rattle.szg_file.specs.declared.reading.dropping.PlacedSub.{PlacedSub}
use Rattle.szg_file.proofs.Openings.FrontInputs.{front_fault}
use Rattle.szg_mapped.proofs.EndLaws.{end_at}
use Rattle.szg_mapped.proofs.in_place.open_in_place.Goals as goal

pub returns-in_err-front-clause-refused : goal.returns-in_err-front-clause-refused
returns-in_err-front-clause-refused c =
    let long : length c.new.result.left.now ≡ length c.args.bytes.now = ap (λ (z : List ℕ). length z) c.new.ensures.left in
    let p = err_from_is_err_and c.from_residual.result c.from_residual.ensures.1 in
    rw (p.1, p.2) (front_fault c.args.material c.args.kind c.args.bytes.now c.in_err-front.field-0.0
    (subst (λ (bs : List ℕ). IsFrontVerdict c.args.material c.args.kind bs (Err c.in_err-front.field-0.0)) c.new.ensures.left (c.in_err-front.ensures.verdict long))
    (λ e. let never : false ≡ true = c.in_err-front.ensures.may_fail (ap (λ (f : ReadFault). let r : Result (FrontKept × ℕ) ReadFault = Err f in r) e) in absurd (cc never)))

pub put_in_place-requires : goal.put_in_place-requires
put_in_place-requires c =
    let long : length c.new.result.left.now ≡ length c.args.bytes.now = ap (λ (z : List ℕ). length z) c.new.ensures.left in
    let seen : IsWholeFront c.in_ok-front.front c.in_ok-front.place c.args.bytes.now = subst (λ (bs : List ℕ). IsWholeFront c.in_ok-front.front c.in_ok-front.place bs) c.new.ensures.left (c.in_ok-front.ensures.whole refl long) in
    subst (λ (l : List PlacedSub). EndAt c.args.bytes.now l c.in_ok-front.place) (sym c.into_parts-index.ensures.subs)
    (end_at c.in_ok-front.front.index.material c.in_ok-front.front.index.kind seen.read c.in_ok-front.place c.args.bytes.now seen.begins c.in_ok-front.front.subs seen.subs_are)

pub invariant_of-result : goal.invariant_of-result
invariant_of-result c =
    let long : length c.new.result.left.now ≡ length c.args.bytes.now = ap (λ (z : List ℕ). length z) c.new.ensures.left in
    let seen : IsWholeFront c.in_ok-front.front c.in_ok-front.place c.args.bytes.now = subst (λ (bs : List ℕ). IsWholeFront c.in_ok-front.front c.in_ok-front.place bs) c.new.ensures.left (c.in_ok-front.ensures.whole refl long) in
    record {
      kept = c.in_ok-front.front;
      front = seen.front;
      whole = seen.whole;
      index_is = sym c.into_parts-index.ensures.index;
      subs_are = subst (λ (l : List PlacedSub). SideBySide Stands l c.in_ok-subs.subs.items) c.into_parts-index.ensures.subs c.in_ok-subs.ensures;
    }

pub returns-clause-table : goal.returns-clause-table
returns-clause-table c =
    let long : length c.new.result.left.now ≡ length c.args.bytes.now = ap (λ (z : List ℕ). length z) c.new.ensures.left in
    let front : IsFrontOf c.in_ok-front.front c.args.bytes.now = subst (λ (bs : List ℕ). IsFrontOf c.in_ok-front.front bs) c.new.ensures.left (c.in_ok-front.ensures.verdict long) in
    (c.in_ok-front.front, front, sym c.into_parts-index.ensures.index)
