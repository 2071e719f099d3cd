-- A front and what follows it: arithmetic alone decides whether the file is accepted or truncated.
use Rattle.std.proofs.Common.{◌≡◌, ℕ, ◌+◌, ◌-◌, ◌*◌, ◌^◌, ◌<◌, ◌≤◌, List, [], ◌∷◌, ◌++◌, length, take, drop, refl, sym, ap, ◌∙◌, arith, inl, inr, drop-drop}
use Rattle.std.proofs.lemmas.Bool.{cases_lt}
use Rattle.std.proofs.lemmas.List.{length-drop}
use Rattle.szg_values.specs.declared.Kind.{Kind}
use Rattle.szg_values.specs.Material.{Sides}
use Rattle.szg_block.specs.BlocksTrait.{bytes_at}
use Rattle.szg_file.specs.Blocks.{with_blocks}
use Rattle.szg_file.specs.Contents.{Contents, Subtable, constant, pairs, gap, slots}
use Rattle.szg_file.specs.File.{Begun, begun, each, filled_to, sparse_field, lengths_field}
use Rattle.szg_file.specs.FilePieces.{Opened, opening_field, ending_field}
use Rattle.szg_file.specs.Format.{Format, means, field, ◌>>=◌, good, truncated, after_fill, verdict}
use Rattle.szg_file.specs.Unread.{FrontRead, file_by, front_field, after_front, unread_table, unread_of, unread_field, unread_file, unread_subs, unread_end, blocks_first, blocks_count, blocks_end}
use Rattle.szg_file.proofs.Grammar.EachLaws.{then-then}
use Rattle.szg_file.proofs.Grammar.FormatLaws.{verdict-then, continued, field-whole, field-short, fill-whole, fill-short}
use Rattle.szg_file.proofs.Readers.WholeReads.{after_packed, after_opening_by, pieces_are_file_by}

-- ---- the front followed by the rest is the file

front_made : Opened → List Begun → FrontRead
front_made o measured = record { byte4 = o.byte4; parts = o.parts; maps = o.maps; measured = measured }

abbrev pub after_opening : Sides → Kind → Opened → Format FrontRead
after_opening material kind o =
    each sparse_field (begun (slots material kind o.parts) o.heads) >>= λ indexed.
    each lengths_field indexed >>= λ measured.
    means (record { byte4 = o.byte4; parts = o.parts; maps = o.maps; measured = measured })

joined_after : (blocks : Begun → Format Subtable) (material : Sides) (kind : Kind) (o : Opened) → after_opening material kind o >>= after_front blocks material kind ≡ after_opening_by blocks material kind o
joined_after blocks material kind o =
    let sparse : Format (List Begun) = each sparse_field (begun (slots material kind o.parts) o.heads) in
    let made : List Begun → Format FrontRead = λ measured. means (record { byte4 = o.byte4; parts = o.parts; maps = o.maps; measured = measured }) in
    then-then sparse (λ indexed. each lengths_field indexed >>= made) (after_front blocks material kind)
    ∙ ap (λ (k : List Begun → Format Contents). sparse >>= k)
    (λ i indexed. (then-then (each lengths_field indexed) made (after_front blocks material kind)
    ∙ sym (then-then (each lengths_field indexed) (each blocks) (after_packed material kind o))) i)
    ∙ sym (then-then sparse (λ indexed. each lengths_field indexed >>= each blocks) (after_packed material kind o))

pub front_then : (blocks : Begun → Format Subtable) (material : Sides) (kind : Kind) → front_field material kind >>= after_front blocks material kind ≡ file_by blocks material kind
front_then blocks material kind =
    then-then (opening_field material kind) (after_opening material kind) (after_front blocks material kind)
    ∙ ap (λ (k : Opened → Format Contents). opening_field material kind >>= k) (λ i o. joined_after blocks material kind o i)
    ∙ pieces_are_file_by blocks material kind

-- ---- one subtable

-- a whole text that begins at offset `place` and ends at offset `end`
pub record Text {A : Type 0} (f : Format A) (a : A) (content : List ℕ) (place end : ℕ) : Type 0 where
  pub filled : List ℕ
  pub is : verdict f place (drop place content) ≡ good a filled (drop end content)
  pub inside : end ≤ length content

text_then : {A B : Type 0} (f : Format A) (g : A → Format B) (a : A) (b : B) (content : List ℕ) (place middle end : ℕ) → place ≤ middle → Text f a content place middle → Text (g a) b content middle end →
    Text (f >>= g) b content place end
text_then f g a b content place middle end order first second =
    let whole : length (drop place content) ≡ length content - place = length-drop place content in
    let left : length (drop middle content) ≡ length content - middle = length-drop middle content in
    let inside = first.inside in
    let at : (place + length (drop place content)) - length (drop middle content) ≡ middle = omega (arith, whole, left, inside, order) in
    record {
      filled = first.filled ++ second.filled;
      is = verdict-then f g place (drop place content) ∙ ap (continued g (place + length (drop place content))) first.is
          ∙ ap (λ (n : ℕ). after_fill first.filled (verdict (g a) n (drop middle content))) at
          ∙ ap (after_fill first.filled) second.is;
      inside = second.inside;
    }

cut_then : {A B : Type 0} (f : Format A) (g : A → Format B) (place count : ℕ) (bytes : List ℕ) → verdict f place bytes ≡ truncated count → verdict (f >>= g) place bytes ≡ truncated count
cut_then f g place count bytes e = verdict-then f g place bytes ∙ ap (continued g (place + length bytes)) e

text_cut : {A B : Type 0} (f : Format A) (g : A → Format B) (a : A) (content : List ℕ) (place middle : ℕ) → place ≤ middle → Text f a content place middle →
    verdict (g a) middle (drop middle content) ≡ truncated (length content) → verdict (f >>= g) place (drop place content) ≡ truncated (length content)
text_cut f g a content place middle order first second =
    let whole : length (drop place content) ≡ length content - place = length-drop place content in
    let left : length (drop middle content) ≡ length content - middle = length-drop middle content in
    let inside = first.inside in
    let at : (place + length (drop place content)) - length (drop middle content) ≡ middle = omega (arith, whole, left, inside, order) in
    verdict-then f g place (drop place content) ∙ ap (continued g (place + length (drop place content))) first.is
    ∙ ap (λ (n : ℕ). after_fill first.filled (verdict (g a) n (drop middle content))) at
    ∙ ap (after_fill first.filled) second

text_means : {A : Type 0} (a : A) (content : List ℕ) (place : ℕ) → place ≤ length content → Text (means a) a content place place
text_means a content place inside = record { filled = []; is = refl; inside = inside }

-- padding followed by `size` bytes
text_padded : (unit size : ℕ) (content : List ℕ) (place : ℕ) → place + gap unit place + size ≤ length content →
    Text (filled_to unit >>= λ _. field size means) (bytes_at content (place + gap unit place) size) content place (place + gap unit place + size)
text_padded unit size content place inside =
    let g : ℕ = gap unit place in
    let whole : length (drop place content) ≡ length content - place = length-drop place content in
    let left : length (drop g (drop place content)) ≡ length (drop place content) - g = length-drop g (drop place content) in
    record {
      filled = take g (drop place content) ++ [];
      is = fill-whole g (field size means) place (drop place content) (omega (arith, whole, inside))
          ∙ ap (after_fill (take g (drop place content))) (field-whole size means (place + g) (drop g (drop place content)) (omega (arith, whole, left, inside))
          ∙ ap (λ (z : List ℕ). good (take size z) [] (drop size z)) (drop-drop g place content)
          ∙ ap (λ (z : List ℕ). good (bytes_at content (place + g) size) [] z) (drop-drop size (place + g) content));
      inside = inside;
    }

cut_padded : (unit size : ℕ) (content : List ℕ) (place : ℕ) → place ≤ length content → length content < place + gap unit place + size →
    verdict (filled_to unit >>= λ _. field size means) place (drop place content) ≡ truncated (length content)
cut_padded unit size content place inside short =
    let g : ℕ = gap unit place in
    let whole : length (drop place content) ≡ length content - place = length-drop place content in
    let left : length (drop g (drop place content)) ≡ length (drop place content) - g = length-drop g (drop place content) in
    elim (cases_lt (length (drop place content)) g) [
      | inl few ↦ fill-short g (field size means) place (drop place content) few ∙ ap (λ (n : ℕ). truncated n) (omega (arith, whole, inside))
      | inr enough ↦
          fill-whole g (field size means) place (drop place content) enough
          ∙ ap (after_fill (take g (drop place content))) (field-short size means (place + g) (drop g (drop place content)) (omega (arith, whole, left, short, enough)))
          ∙ ap (λ (n : ℕ). truncated n) (omega (arith, whole, left, inside, enough))
    ]

sub_text : (s : Subtable) (content : List ℕ) (place : ℕ) → blocks_end place s ≤ length content →
    Text (unread_of s) (with_blocks s (bytes_at content (blocks_first place s) (blocks_count s))) content place (blocks_end place s)
sub_text (constant flags byte) content place inside = text_means (constant flags byte) content place inside
sub_text (pairs head sparse lengths packed) content place inside =
    let size : ℕ = head.blocks * 2 ^ head.block_bits in
    let whole : Subtable = pairs head sparse lengths (bytes_at content (place + gap 64 place) size) in
    text_then (filled_to 64 >>= λ _. field size means) (λ packed. means (pairs head sparse lengths packed)) (bytes_at content (place + gap 64 place) size) whole content place (place + gap 64 place + size) (place + gap 64 place + size)
    (omega arith) (text_padded 64 size content place inside) (text_means whole content (place + gap 64 place + size) inside)

sub_cut : (s : Subtable) (content : List ℕ) (place : ℕ) → place ≤ length content → length content < blocks_end place s → verdict (unread_of s) place (drop place content) ≡ truncated (length content)
sub_cut (constant flags byte) content place inside short = absurd (omega (arith, inside, short))
sub_cut (pairs head sparse lengths packed) content place inside short =
    let size : ℕ = head.blocks * 2 ^ head.block_bits in
    cut_then (filled_to 64 >>= λ _. field size means) (λ packed. means (pairs head sparse lengths packed)) place (length content) (drop place content) (cut_padded 64 size content place inside short)

-- blocks do not end before they begin
pub ends_after : (place : ℕ) (s : Subtable) → place ≤ blocks_end place s
ends_after place (constant flags byte) = omega arith
ends_after place (pairs head sparse lengths packed) = omega arith

pub end_after : (place : ℕ) (list : List Begun) → place ≤ unread_end place list
end_after place [] = omega arith
end_after place (b ∷ list) = let here = ends_after place b.subtable in let rest = end_after (blocks_end place b.subtable) list in omega (arith, here, rest)

-- ---- all subtables

subs_text : (list : List Begun) (content : List ℕ) (place : ℕ) → unread_end place list ≤ length content → Text (each unread_field list) (unread_subs content place list) content place (unread_end place list)
subs_text [] content place inside = text_means [] content place inside
subs_text (b ∷ list) content place inside =
    let s : Subtable = with_blocks b.subtable (bytes_at content (blocks_first place b.subtable) (blocks_count b.subtable)) in
    let next : ℕ = blocks_end place b.subtable in
    let end : ℕ = unread_end next list in
    let later = end_after next list in
    text_then (unread_field b) (λ x. each unread_field list >>= λ xs. means (x ∷ xs)) s (s ∷ unread_subs content next list) content place next end (ends_after place b.subtable)
    (sub_text b.subtable content place (omega (arith, later, inside)))
    (text_then (each unread_field list) (λ xs. means (s ∷ xs)) (unread_subs content next list) (s ∷ unread_subs content next list) content next end end later
    (subs_text list content next inside) (text_means (s ∷ unread_subs content next list) content end inside))

subs_cut : (list : List Begun) (content : List ℕ) (place : ℕ) → place ≤ length content → length content < unread_end place list → verdict (each unread_field list) place (drop place content) ≡ truncated (length content)
subs_cut [] content place inside short = absurd (omega (arith, inside, short))
subs_cut (b ∷ list) content place inside short =
    let s : Subtable = with_blocks b.subtable (bytes_at content (blocks_first place b.subtable) (blocks_count b.subtable)) in
    let next : ℕ = blocks_end place b.subtable in
    elim (cases_lt (length content) next) [
      | inl here ↦ cut_then (unread_field b) (λ x. each unread_field list >>= λ xs. means (x ∷ xs)) place (length content) (drop place content) (sub_cut b.subtable content place inside here)
      | inr there ↦
          text_cut (unread_field b) (λ x. each unread_field list >>= λ xs. means (x ∷ xs)) s content place next (ends_after place b.subtable) (sub_text b.subtable content place there)
          (cut_then (each unread_field list) (λ xs. means (s ∷ xs)) next (length content) (drop next content) (subs_cut list content next there short))
    ]

-- ---- what follows a front

-- the offset of the last sixteen bytes
abbrev pub last_at : ℕ → List Begun → ℕ
last_at place list = unread_end place list + gap 64 (unread_end place list)

-- the offset after them
abbrev pub file_end : ℕ → List Begun → ℕ
file_end place list = last_at place list + 16

abbrev pub last_bytes : List ℕ → ℕ → List Begun → List ℕ
last_bytes content place list = bytes_at content (last_at place list) 16

module _ (material : Sides) (kind : Kind) (f : FrontRead) (content : List ℕ) (place : ℕ) where
  pub following_text : file_end place f.measured ≤ length content →
      Text (after_front unread_field material kind f) (unread_table material kind f (unread_subs content place f.measured) (last_bytes content place f.measured)) content place (file_end place f.measured)
  following_text inside =
      let end : ℕ = unread_end place f.measured in
      let subs : List Subtable = unread_subs content place f.measured in
      let last : List ℕ = last_bytes content place f.measured in
      let table : Contents = unread_table material kind f subs last in
      text_then (each unread_field f.measured) (λ subtables. ending_field >>= λ last. means (unread_table material kind f subtables last)) subs table content place end (file_end place f.measured)
      (end_after place f.measured) (subs_text f.measured content place (omega (arith, inside)))
      (text_then ending_field (λ last. means (unread_table material kind f subs last)) last table content end (file_end place f.measured) (file_end place f.measured)
      (omega arith) (text_padded 64 16 content end inside) (text_means table content (file_end place f.measured) inside))

  after_cut : place ≤ length content → length content < file_end place f.measured → verdict (after_front unread_field material kind f) place (drop place content) ≡ truncated (length content)
  after_cut inside short =
      let end : ℕ = unread_end place f.measured in
      let subs : List Subtable = unread_subs content place f.measured in
      elim (cases_lt (length content) end) [
        | inl here ↦ cut_then (each unread_field f.measured) (λ subtables. ending_field >>= λ last. means (unread_table material kind f subtables last)) place (length content) (drop place content)
            (subs_cut f.measured content place inside here)
        | inr there ↦
            text_cut (each unread_field f.measured) (λ subtables. ending_field >>= λ last. means (unread_table material kind f subtables last)) subs content place end (end_after place f.measured) (subs_text f.measured content place there)
            (cut_then ending_field (λ last. means (unread_table material kind f subs last)) end (length content) (drop end content) (cut_padded 64 16 content end there short))
      ]

  -- the front is a whole text: the verdict on all bytes
  module _ (filled : List ℕ) (rest : List ℕ) (front : verdict (front_field material kind) 0 content ≡ good f filled rest) (at : rest ≡ drop place content) (inside : place ≤ length content) where
    joined : verdict (unread_file material kind) 0 content ≡ after_fill filled (verdict (after_front unread_field material kind f) place (drop place content))
    joined =
        let left : length rest ≡ length content - place = ap (λ (z : List ℕ). length z) at ∙ length-drop place content in
        let here : (0 + length content) - length rest ≡ place = omega (arith, left, inside) in
        ap (λ (g : Format Contents). verdict g 0 content) (sym (front_then unread_field material kind))
        ∙ verdict-then (front_field material kind) (after_front unread_field material kind) 0 content
        ∙ ap (continued (after_front unread_field material kind) (0 + length content)) front
        ∙ ap (λ (n : ℕ). after_fill filled (verdict (after_front unread_field material kind f) n rest)) here
        ∙ ap (λ (z : List ℕ). after_fill filled (verdict (after_front unread_field material kind f) place z)) at

    pub front_good : (whole : file_end place f.measured ≤ length content) → verdict (unread_file material kind) 0 content
        ≡ good (unread_table material kind f (unread_subs content place f.measured) (last_bytes content place f.measured)) (filled ++ (following_text whole).filled) (drop (file_end place f.measured) content)
    front_good whole = joined ∙ ap (after_fill filled) (following_text whole).is

    pub front_cut : length content < file_end place f.measured → verdict (unread_file material kind) 0 content ≡ truncated (length content)
    front_cut short = joined ∙ ap (after_fill filled) (after_cut inside short)
