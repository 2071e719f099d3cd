use Rattle.std.proofs.Common.{◌≡◌, ℕ, ◌≤◌, List, [], Option, Some, None, refl, subst, arith}
use Rattle.std.specs.Prelude.{IfSome}
use Rattle.szg_block.specs.Layout.{Layout}
use Rattle.szg_block.specs.Subtable.{layout_of, packed_of}
use Rattle.szg_build.specs.BlockValues.{Left, left_with}
use Rattle.szg_build.proofs.Writers.StoredLaws.{values_done}
use Rattle.szg_build.proofs.writing.block_values.BlockValues.decode_next.Goals as goal

no_more : (o : Option Layout) (packed : List ℕ) (size next count : ℕ) → IfSome o (λ layout. count ≡ layout.blocks) → count ≤ next → (left_with o packed size next).values ≡ []
no_more None packed size next count blocks h = refl
no_more (Some layout) packed size next count blocks h = values_done layout packed size next (omega (arith, blocks, h))

pub returns-then-self-block_count-clause-none : goal.returns-then-self-block_count-clause-none
returns-then-self-block_count-clause-none c = λ _.
    let sub = c.self.inside.sub.now in
    subst (λ (left : Left). left.values ≡ []) c.self.view_is (no_more (layout_of sub) (packed_of sub) c.self.inside.size c.self.inside.next c.block_count.result c.block_count.ensures.blocks (omega (arith, c.if-self-block_count.true)))
