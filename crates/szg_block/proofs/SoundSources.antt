-- Sound subtables over the blocks of a source, and over blocks that do not change.
use Rattle.std.proofs.Common.{ℕ, ◌≡◌, ◌+◌, ◌*◌, ◌^◌, ◌<◌, ◌≤◌, List, length, ap, sym, ◌∙◌, subst, arith, length-take, length-drop}
use Rattle.std.specs.Prelude.{IfSome}
use Rattle.std.specs.List.{range_with_len}
use Rattle.std.proofs.Math.Nat.{mul-le-mul_right}
use Rattle.szg_code.specs.Acceptance.{IsCode}
use Rattle.szg_block.specs.BlocksTrait.{packed_blocks, bytes_at}
use Rattle.szg_block.specs.Views.{IsReady}
use Rattle.szg_block.specs.Subtable.{layout_of, IsShapedHead, IsSoundOver}
use Rattle.szg_block.specs.declared.Sub.{Sub}
use Rattle.szg_block.specs.declared.Sub.TheVariants.{Constant, Pairs}
use Rattle.szg_block.proofs.Chunks.{packed_blocks-chunks}
use Rattle.szg_block.proofs.Reading.{flat_map-same}

-- equal blocks, joined, are equal
pub packed_recent : (bytes bytes' : ℕ → List ℕ) (count count' : ℕ) → count' ≡ count → ((k : ℕ) → bytes' k ≡ bytes k) → packed_blocks bytes' count' ≡ packed_blocks bytes count
packed_recent bytes bytes' count count' e h = ap (λ n. packed_blocks bytes' n) e ∙ flat_map-same bytes' bytes h (range_with_len 0 count)

module _ (size count count' : ℕ) (bytes bytes' : ℕ → List ℕ) (e : count' ≡ count) (h : (k : ℕ) → bytes' k ≡ bytes k) where
  pub ready_recent : (sub : Sub) → IsReady sub size count bytes → IsReady sub size count' bytes'
  ready_recent (Constant flags byte) r = record { head = r.head; code = tt; all = tt; whole = tt; sound = tt }
  ready_recent (Pairs flags block_bits span_bits extra blocks code dict sparse lengths held) r = record {
    head = r.head;
    code = r.code;
    all = e ∙ r.all;
    whole = λ k l. ap (λ u. length u) (h k) ∙ r.whole k l;
    sound = subst (λ u. IsSoundOver (Pairs flags block_bits span_bits extra blocks code dict sparse lengths held) u size) (sym (packed_recent bytes bytes' count count' e h)) r.sound;
  }

-- a chunk inside the list has its full length
chunk_whole : (content : List ℕ) (at w k n : ℕ) → k < n → at + n * w ≤ length content → length (bytes_at content (at + k * w) w) ≡ w
chunk_whole content at w k n h l =
    let m : (k + 1) * w ≤ n * w = mul-le-mul_right w (omega arith) in
    let e : (k + 1) * w ≡ k * w + w = omega arith in
    simp (length-take, length-drop) (omega arith)

module _ (content : List ℕ) (at size count w : ℕ) where
  pub ready_paged : (sub : Sub) → IsShapedHead sub size → IfSome (layout_of sub) (λ layout. IsCode layout.code) → IfSome (layout_of sub) (λ layout. count ≡ layout.blocks)
      → IfSome (layout_of sub) (λ layout. w ≡ 2 ^ layout.block_bits) → IfSome (layout_of sub) (λ layout. at + layout.blocks * 2 ^ layout.block_bits ≤ length content)
      → IsSoundOver sub (bytes_at content at (count * w)) size → IsReady sub size count (λ n. bytes_at content (at + n * w) w)
  ready_paged (Constant flags byte) head accepted all bytes there sound = record { head = head; code = tt; all = tt; whole = tt; sound = tt }
  ready_paged (Pairs flags block_bits span_bits extra blocks code dict sparse lengths held) head accepted all bytes there sound =
      let l : at + count * w ≤ length content = subst (λ n. at + n * w ≤ length content) (sym all) (subst (λ k. at + blocks * k ≤ length content) (sym bytes) there) in
      record {
        head = head;
        code = accepted;
        all = all;
        whole = λ k h. chunk_whole content at w k count (subst (λ n. k < n) (sym all) h) l ∙ bytes;
        sound = subst (λ u. IsSoundOver (Pairs flags block_bits span_bits extra blocks code dict sparse lengths held) u size) (sym (packed_blocks-chunks content w at count)) sound;
      }
