use Rattle.std.proofs.Common.{ℕ, List, ap}
use Rattle.szg_block.specs.Paging.{size_of}
use Rattle.szg_block.specs.Views.{Shown}
use Rattle.szg_block.proofs.Chunks.{packed_blocks-chunks}
use Rattle.szg_block.proofs.SoundSources.{ready_paged}
use Rattle.szg_block.proofs.expanding.Sound+Paged+S.paged.Goals as goal

pub invariant_of-result : goal.invariant_of-result
invariant_of-result g c =
    ready_paged (g.S.Source.content c.args.blocks.source) c.args.blocks.at c.args.size c.args.blocks.blocks (size_of c.args.blocks) c.args.sub.now
    c.requires.head c.blocks_in-accepted.ensures.accepted c.requires.count c.requires.bytes c.requires.there c.requires.sound

pub returns : goal.returns
returns g c =
    let shown : List ℕ → Shown = λ packed. record { sub = c.args.sub.now; size = c.args.size; constant = c.args.constant; packed = packed; failures = g.S.Source.failed c.args.blocks.source; requested = g.S.Source.requested c.args.blocks.source; cost = size_of c.args.blocks } in
    ap shown (packed_blocks-chunks (g.S.Source.content c.args.blocks.source) (size_of c.args.blocks) c.args.blocks.at c.args.blocks.blocks)
