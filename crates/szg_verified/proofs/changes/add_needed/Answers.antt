use Rattle.std.proofs.lemmas.List.Sorted.{Contains-permutation}
use Rattle.szg_verified.proofs.Materials.{on_ok}
use Rattle.szg_verified.proofs.changes.add_needed.Goals as goal

pub returns : goal.returns
returns c = on_ok c.sort_by.result _ (λ m held.
    Contains-permutation c.numbers.materials.items c.sort_by.new.self.items m c.sort_by.ensures.permutation (c.numbers.invariant m held))
