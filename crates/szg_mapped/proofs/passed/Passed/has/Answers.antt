use Rattle.std.proofs.Common.{ℕ, arith, sym, subst, Vec, Global}
use Rattle.szg_mapped.specs.Passed.{IsSet}
use Rattle.szg_mapped.proofs.PassedLaws.{noted_by}
use Rattle.szg_mapped.proofs.passed.Passed.has.Goals as goal

pub returns : goal.returns
returns c = λ is_set.
    let at = c.index-self-place.is in
    let read = rw c.deref.ensures.value at (c.is_set.ensures is_set) in
    noted_by c.args.self.now c.args.part c.args.side c.args.block c.in-Some.place c.index-self-place.result c.in-Some.ensures.place c.in-Some.ensures.side (omega (arith, c.in-Some.ensures.there)) at
    (subst (λ (set : Vec ℕ Global). IsSet set.items c.args.block) (sym at) read)
