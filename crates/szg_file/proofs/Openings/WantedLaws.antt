-- Constant subtables need no block.
use Rattle.std.proofs.Common.{◌≡◌, ℕ, List, None}
use Rattle.std.specs.Prelude.{IfNone}
use Rattle.szg_block.specs.Subtable.{layout_of}
use Rattle.szg_block.specs.declared.Sub.{Sub}
use Rattle.szg_block.specs.declared.Sub.TheVariants.{Constant, Pairs}
use Rattle.szg_file.specs.Placed.{whole_sub}
use Rattle.szg_file.specs.Wanted.{wanted_block}
use Rattle.szg_file.proofs.Readers.PlacedSubs.{placed_at}

-- what holds of a constant subtable holds if no block is needed
pub constant_holds : (P : Type 0) (content : List ℕ) (sub : Sub) (first i : ℕ) → IfNone (layout_of sub) P → wanted_block (whole_sub content (placed_at sub first)) i ≡ None → P
constant_holds P content (Constant flags byte) first i holds none = holds
constant_holds P content (Pairs flags block_bits span_bits extra blocks code dict sparse lengths packed) first i holds none = absurd (cc none)
