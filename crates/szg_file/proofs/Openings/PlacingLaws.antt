-- The offsets of blocks, for one more subtable.
use Rattle.std.proofs.Common.{◌≡◌, ℕ, ◌^◌, ◌≤◌, List, [], ◌∷◌, ◌++◌, map, refl, sym, ap, ◌∙◌, arith}
use Rattle.std.specs.Prelude.{IfSome}
use Rattle.std.specs.List.{AllByRecursion}
use Rattle.std.proofs.lemmas.List.{map-append}
use Rattle.szg_block.specs.BlocksTrait.{bytes_at}
use Rattle.szg_block.specs.Subtable.{layout_of}
use Rattle.szg_block.specs.declared.Sub.{Sub}
use Rattle.szg_block.specs.declared.Sub.TheVariants.{Constant, Pairs}
use Rattle.szg_file.specs.Blocks.{with_blocks}
use Rattle.szg_file.specs.Contents.{Subtable}
use Rattle.szg_file.specs.File.{Begun}
use Rattle.szg_file.specs.Held.{subtable_of}
use Rattle.szg_file.specs.Placed.{whole_sub, Fits}
use Rattle.szg_file.specs.Unread.{blocks_first, blocks_count, blocks_end, unread_subs, unread_end}
use Rattle.szg_file.specs.declared.reading.dropping.PlacedSub.{PlacedSub}
use Rattle.szg_file.proofs.Readers.PlacedSubs.{placed_at, still_fit, all_fit}

pub end_more : (place : ℕ) (list : List Begun) (b : Begun) → unread_end place (list ++ b ∷ []) ≡ blocks_end (unread_end place list) b.subtable
end_more place [] b = refl
end_more place (x ∷ list) b = end_more (blocks_end place x.subtable) list b

-- a subtable with the bytes at the offset of its blocks
abbrev pub placed_of : List ℕ → ℕ → Subtable → Subtable
placed_of content place s = with_blocks s (bytes_at content (blocks_first place s) (blocks_count s))

pub subs_more : (content : List ℕ) (place : ℕ) (list : List Begun) (b : Begun) → unread_subs content place (list ++ b ∷ []) ≡ unread_subs content place list ++ placed_of content (unread_end place list) b.subtable ∷ []
subs_more content place [] b = refl
subs_more content place (x ∷ list) b = ap (λ (l : List Subtable). placed_of content place x.subtable ∷ l) (subs_more content (blocks_end place x.subtable) list b)

-- the subtable with the offset of its first block
whole_placed : (content : List ℕ) (place : ℕ) (sub : Sub) (first : ℕ) → first ≡ blocks_first place (subtable_of sub) → whole_sub content (placed_at sub first) ≡ placed_of content place (subtable_of sub)
whole_placed content place (Constant flags byte) first e = refl
whole_placed content place (Pairs flags block_bits span_bits extra blocks code dict sparse lengths packed) first e =
    let sub : Sub = Pairs flags block_bits span_bits extra blocks code dict sparse lengths packed in
    ap (λ (n : ℕ). whole_sub content (placed_at sub n)) e

pub placed_more : (content : List ℕ) (place : ℕ) (list : List Begun) (b : Begun) (subs : List PlacedSub) (sub : Sub) (first end : ℕ) → map (whole_sub content) subs ≡ unread_subs content place list →
    end ≡ unread_end place list → subtable_of sub ≡ b.subtable → first ≡ blocks_first end (subtable_of sub) →
    map (whole_sub content) (subs ++ placed_at sub first ∷ []) ≡ unread_subs content place (list ++ b ∷ [])
placed_more content place list b subs sub first end before at is begins =
    map-append (whole_sub content) subs (placed_at sub first ∷ [])
    ∙ ap (λ (l : List Subtable). l ++ whole_sub content (placed_at sub first) ∷ []) before
    ∙ ap (λ (s : Subtable). unread_subs content place list ++ s ∷ []) (whole_placed content end sub first begins ∙ ap (λ (n : ℕ). placed_of content n (subtable_of sub)) at ∙ ap (placed_of content (unread_end place list)) is)
    ∙ sym (subs_more content place list b)

-- its blocks end where the next ones begin, and the buffer holds each of them
pub fits_here : (count room : ℕ) (place : ℕ) (sub : Sub) (first bytes : ℕ) → first ≡ blocks_first place (subtable_of sub) → blocks_end place (subtable_of sub) ≤ count →
    IfSome (layout_of sub) (λ layout. bytes ≡ 2 ^ layout.block_bits) → bytes ≤ room → Fits count room (placed_at sub first)
fits_here count room place (Constant flags byte) first bytes at ends long roomy = record { inside = omega (arith, at); roomy = tt }
fits_here count room place (Pairs flags block_bits span_bits extra blocks code dict sparse lengths packed) first bytes at ends long roomy =
    record { inside = omega (arith, at, ends); roomy = omega (arith, long, roomy) }

pub fits_more : (count room room' : ℕ) (place : ℕ) (subs : List PlacedSub) (sub : Sub) (first bytes : ℕ) → AllByRecursion (Fits count room) subs → room ≤ room' → first ≡ blocks_first place (subtable_of sub) →
    blocks_end place (subtable_of sub) ≤ count → IfSome (layout_of sub) (λ layout. bytes ≡ 2 ^ layout.block_bits) → bytes ≤ room' → AllByRecursion (Fits count room') (subs ++ placed_at sub first ∷ [])
fits_more count room room' place subs sub first bytes before larger at ends long roomy =
    all_fit (Fits count room') subs (placed_at sub first) (still_fit count count room room' subs (omega arith) larger before) (fits_here count room' place sub first bytes at ends long roomy)
