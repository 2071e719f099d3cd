use Rattle.std.proofs.Common.{ℕ, ◌+◌, ◌*◌, List, [], ◌∷◌, Vec, Global}
use Rattle.szg_mapped.proofs.PassedLaws.{AreEmpty, none_noted}
use Rattle.szg_mapped.proofs.passed.Passed.new.Goals as goal

pub returns : goal.returns
returns c =
    let sets : List (Vec ℕ Global) = c.new.result ∷ c.new-2.result ∷ c.new-3.result ∷ c.new-4.result ∷ c.new-5.result ∷ c.new-6.result ∷ c.new-7.result ∷ c.new-8.result ∷ [] in
    let empty : AreEmpty sets = (
      c.new.ensures.items,
      (c.new-2.ensures.items, (c.new-3.ensures.items, (c.new-4.ensures.items, (c.new-5.ensures.items, (c.new-6.ensures.items, (c.new-7.ensures.items, (c.new-8.ensures.items, tt))))))),
    ) in
    λ index content part side n noted. absurd (none_noted sets empty (2 * part + side) n noted.1)
