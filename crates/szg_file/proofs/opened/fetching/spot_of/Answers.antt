use Rattle.std.proofs.Common.{ℕ, ap, subst, sym}
use Rattle.szg_block.specs.Kept.{IsLocatable}
use Rattle.szg_file.specs.Contents.{Slot}
use Rattle.szg_file.proofs.opened.fetching.spot_of.Goals as goal

pub locate_value-requires-clause-index : goal.locate_value-requires-clause-index
locate_value-requires-clause-index c =
    let sized = ap (λ (s : Slot). s.size) c.slot.view_is in
    subst (λ (n : ℕ). IsLocatable c.args.placed.now.sub n) (sym sized) c.requires.index
