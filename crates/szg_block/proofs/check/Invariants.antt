use Rattle.std.proofs.Common.{ℕ, ◌≡◌, ◌*◌, ◌<◌, ◌≤◌}
use Rattle.std.specs.Prelude.{IfSome}
use Rattle.szg_block.specs.Block.{start}
use Rattle.szg_block.specs.Sound.{HasWords}
use Rattle.szg_block.specs.Subtable.{layout_of, packed_of}
use Rattle.szg_block.proofs.check.Given as goal

abbrev pub invariant-loop-n : goal.invariant-loop-n
invariant-loop-n l = record {
  known : l.before ≡ start l.lengths.items l.n;
  small : l.before ≤ 65536 * l.n;
  good : (k : ℕ) → k < l.n → IfSome (layout_of l.sub) (λ layout. HasWords layout (packed_of l.sub) l.size k);
}
