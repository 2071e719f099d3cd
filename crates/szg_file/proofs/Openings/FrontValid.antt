-- What the checks of a front accept.
use Rattle.std.proofs.Common.{◌≡◌, ℕ, ◌+◌, List, [], ◌∷◌, length, map, refl, sym, ap, subst, ◌∙◌, Option}
use Rattle.szg_values.specs.declared.Kind.{Kind}
use Rattle.szg_values.specs.declared.Kind.TheVariants.{Wdl, Dtz}
use Rattle.szg_values.specs.Material.{Sides}
use Rattle.szg_block.specs.BlocksTrait.{bytes_at}
use Rattle.szg_block.specs.Layout.{SparseEntry}
use Rattle.szg_file.specs.Accepted.{IsPart, AreNumbers, IsMapOf, AreMaps, SideBySide}
use Rattle.szg_file.specs.Blocks.{with_blocks}
use Rattle.szg_file.specs.Contents.{Subtable, constant, pairs, Map, Slot, slots, part_numbers}
use Rattle.szg_file.specs.File.{Begun, begun, each, magic_field, byte4_field, part_field, filled_to, head_field, maps_field, sparse_field, lengths_field, flags_of}
use Rattle.szg_file.specs.FileOf.{Section}
use Rattle.szg_file.specs.FilePieces.{Opened, opening_field}
use Rattle.szg_file.specs.Format.{Format, means, ◌>>=◌, good, verdict}
use Rattle.szg_file.specs.Reading.{start_field}
use Rattle.szg_file.specs.Unread.{FrontRead, front_field, IsUnread, unread_subs, blocks_first, blocks_count, blocks_end}
use Rattle.szg_file.proofs.Grammar.FileLaws.{Sound, Any, AreNumbers-split, parts, sound_magic, sound_byte4, IsByte4, sound_parts, sound_filled_to, sound_each}
use Rattle.szg_file.proofs.Openings.FrontLaws.{after_opening}
use Rattle.szg_file.proofs.Grammar.HeadLaws.{IsBegun, sound_head}
use Rattle.szg_file.proofs.Openings.OutlinedLaws.{flags_with}
use Rattle.szg_file.proofs.Grammar.WholeLaws.{sound_maps, sound_sparse, sound_lengths, IsIndexed, IsMeasured, measured_slot, map_moves}

-- ---- consequences of acceptance

pub record Gives {A : Type 0} (f : Format A) (P : A → Type 0) : Type 0 where
  pub gives : (place : ℕ) (bytes : List ℕ) (a : A) (filled : List ℕ) → AreNumbers 1 bytes → verdict f place bytes ≡ good a filled [] → P a

pub gives_of : {A : Type 0} (f : Format A) (s : A → List Section) (P : A → Type 0) → Sound f s P → Gives f P
gives_of f s P h = record { gives = λ place bytes a filled small e. (h.sound place bytes a filled small e).2 }

pub gives_then : {A B : Type 0} (f : Format A) (g : A → Format B) (P : A → Type 0) (Q : B → Type 0) → Gives f P → ((a : A) → P a → Gives (g a) Q) → Gives (f >>= g) Q
gives_then f g P Q first second = record {
  gives = λ place bytes b filled small e.
      let p = parts f g place bytes b filled [] e in
      let halves = AreNumbers-split 1 p.first p.others (subst (λ (z : List ℕ). AreNumbers 1 z) p.bytes_are small) in
      let x = first.gives place p.first p.value p.first_fill halves.0 p.is_first in
      (second p.value x).gives (place + length p.first) p.others b p.other_fill halves.1 p.is_other;
}

pub gives_means : {A : Type 0} (a : A) (P : A → Type 0) → P a → Gives (means a) P
gives_means a P h = record { gives = λ place bytes b filled small e. let same : a ≡ b = cc in subst P same h }

-- ---- an opening

pub record OpeningValid (material : Sides) (kind : Kind) (o : Opened) : Type 0 where
  pub byte4 : IsByte4 material kind o.byte4
  pub parts : SideBySide (λ (_ : ℕ). IsPart material kind) (part_numbers material) o.parts
  pub heads : SideBySide (λ (_ : Slot). IsBegun) (slots material kind o.parts) o.heads
  pub maps : AreMaps kind o.heads o.maps

gives_opening : (material : Sides) (kind : Kind) → Gives (opening_field material kind) (OpeningValid material kind)
gives_opening material kind =
    gives_then (start_field material kind) _ (IsByte4 material kind) _
    (gives_then (magic_field kind) (λ _. byte4_field material kind) Any (IsByte4 material kind) (gives_of (magic_field kind) _ Any (sound_magic kind)) (λ _ _. gives_of (byte4_field material kind) _ _ (sound_byte4 material kind)))
    (λ byte b. gives_then (each (λ _. part_field material kind) (part_numbers material)) _ (SideBySide (λ (_ : ℕ). IsPart material kind) (part_numbers material)) _
    (gives_of (each (λ _. part_field material kind) (part_numbers material)) _ _ (sound_parts material kind (part_numbers material)))
    (λ ps p. gives_then (filled_to 2) _ Any _ (gives_of (filled_to 2) _ Any (sound_filled_to 2))
    (λ _ _. gives_then (each head_field (slots material kind ps)) _ (SideBySide (λ (_ : Slot). IsBegun) (slots material kind ps)) _
    (gives_of (each head_field (slots material kind ps)) _ _ (sound_each head_field _ (λ slot h. IsBegun h) sound_head (slots material kind ps)))
    (λ heads h. gives_then (maps_field kind heads) _ (AreMaps kind heads) _ (gives_of (maps_field kind heads) _ _ (sound_maps kind heads))
    (λ found m. gives_means (record { byte4 = byte; parts = ps; heads = heads; maps = found }) (OpeningValid material kind) (record { byte4 = b; parts = p; heads = h; maps = m }))))))

-- ---- a subtable up to its block lengths

pub record UnreadAt (slot : Slot) (m : Begun) : Type 0 where
  pub slot_is : m.slot ≡ slot
  pub is_valid : IsUnread slot m.subtable

one_unread : (slot : Slot) (h : Subtable) (i m : Begun) → IsBegun h → IsIndexed slot h i → IsMeasured i.slot i.subtable m → UnreadAt slot m × (flags_of h ≡ flags_of m.subtable)
one_unread slot (constant flags byte) i m p q r =
    let r' = measured_slot slot i.slot i.subtable (constant flags byte) m q.0 q.1 r in
    (record { slot_is = r'.0; is_valid = subst (IsUnread slot) (sym r'.1) p }, ap flags_of (sym r'.1))
one_unread slot (pairs head sparse lengths packed) i m p q r =
    let entries : List SparseEntry = q.1 in
    let r' = measured_slot slot i.slot i.subtable (pairs head entries lengths packed) m q.0 q.2 r in
    (record { slot_is = r'.0; is_valid = subst (IsUnread slot) (sym r'.2) (p.0, q.3, r'.3, r'.5) }, ap flags_of (sym r'.2))

pub slots_unread : (slots : List Slot) (measured : List Begun) → SideBySide UnreadAt slots measured → map (λ b. b.slot) measured ≡ slots
slots_unread [] [] h = refl
slots_unread [] (m ∷ ms) h = absurd h
slots_unread (x ∷ xs) [] h = absurd h
slots_unread (x ∷ xs) (m ∷ ms) h = ap (λ (s : Slot). s ∷ map (λ b. b.slot) ms) h.0.slot_is ∙ ap (λ (l : List Slot). x ∷ l) (slots_unread xs ms h.1)

-- ---- all subtables

pub record AllUnread (slots : List Slot) (heads : List Subtable) (measured : List Begun) : Type 0 where
  pub stand : SideBySide UnreadAt slots measured
  pub maps_same : (found : List (Option Map)) → SideBySide IsMapOf heads found → SideBySide IsMapOf (map (λ (b : Begun). b.subtable) measured) found

maps_with : (h s : Subtable) (hs ss : List Subtable) → flags_of h ≡ flags_of s → ((found : List (Option Map)) → SideBySide IsMapOf hs found → SideBySide IsMapOf ss found) →
    (found : List (Option Map)) → SideBySide IsMapOf (h ∷ hs) found → SideBySide IsMapOf (s ∷ ss) found
maps_with h s hs ss e rest [] p = absurd p
maps_with h s hs ss e rest (o ∷ os) p = (map_moves h s o e p.0, rest os p.1)

all_unread : (slots : List Slot) (heads : List Subtable) (indexed measured : List Begun) → SideBySide (λ (_ : Slot). IsBegun) slots heads → SideBySide (λ b c. IsIndexed b.slot b.subtable c) (begun slots heads) indexed →
    SideBySide (λ b c. IsMeasured b.slot b.subtable c) indexed measured → AllUnread slots heads measured
all_unread [] [] [] [] p q r = record { stand = tt; maps_same = λ found x. x }
all_unread [] [] [] (m ∷ ms) p q r = absurd r
all_unread [] [] (i ∷ is) ms p q r = absurd q
all_unread [] (h ∷ hs) is ms p q r = absurd p
all_unread (x ∷ xs) [] is ms p q r = absurd p
all_unread (x ∷ xs) (h ∷ hs) [] ms p q r = absurd q
all_unread (x ∷ xs) (h ∷ hs) (i ∷ is) [] p q r = absurd r
all_unread (x ∷ xs) (h ∷ hs) (i ∷ is) (m ∷ ms) p q r =
    let one = one_unread x h i m p.0 q.0 r.0 in
    let rest = all_unread xs hs is ms p.1 q.1 r.1 in
    record { stand = (one.0, rest.stand); maps_same = maps_with h m.subtable hs (map (λ (b : Begun). b.subtable) ms) one.1 rest.maps_same }

-- ---- a front

pub record FrontValid (material : Sides) (kind : Kind) (f : FrontRead) : Type 0 where
  pub byte4 : IsByte4 material kind f.byte4
  pub parts : SideBySide (λ (_ : ℕ). IsPart material kind) (part_numbers material) f.parts
  pub measured : SideBySide UnreadAt (slots material kind f.parts) f.measured
  pub maps : AreMaps kind (map (λ (b : Begun). b.subtable) f.measured) f.maps

maps_moved : (kind : Kind) (slots : List Slot) (heads : List Subtable) (measured : List Begun) (found : List (Option Map)) → AllUnread slots heads measured → AreMaps kind heads found →
    AreMaps kind (map (λ (b : Begun). b.subtable) measured) found
maps_moved Wdl slots heads measured found all p = p
maps_moved Dtz slots heads measured found all p = all.maps_same found p

pub gives_front : (material : Sides) (kind : Kind) → Gives (front_field material kind) (FrontValid material kind)
gives_front material kind =
    gives_then (opening_field material kind) (after_opening material kind) (OpeningValid material kind) (FrontValid material kind) (gives_opening material kind)
    (λ o h. gives_then (each sparse_field (begun (slots material kind o.parts) o.heads)) _ (SideBySide (λ b c. IsIndexed b.slot b.subtable c) (begun (slots material kind o.parts) o.heads)) _
    (gives_of (each sparse_field (begun (slots material kind o.parts) o.heads)) _ _ (sound_each sparse_field _ (λ b c. IsIndexed b.slot b.subtable c) (λ b. sound_sparse b.slot b.subtable) (begun (slots material kind o.parts) o.heads)))
    (λ indexed q. gives_then (each lengths_field indexed) _ (SideBySide (λ b c. IsMeasured b.slot b.subtable c) indexed) _
    (gives_of (each lengths_field indexed) _ _ (sound_each lengths_field _ (λ b c. IsMeasured b.slot b.subtable c) (λ b. sound_lengths b.slot b.index b.subtable) indexed))
    (λ measured r.
    let all = all_unread (slots material kind o.parts) o.heads indexed measured h.heads q r in
    gives_means (record { byte4 = o.byte4; parts = o.parts; maps = o.maps; measured = measured }) (FrontValid material kind)
    (record { byte4 = h.byte4; parts = h.parts; measured = all.stand; maps = maps_moved kind (slots material kind o.parts) o.heads measured o.maps all h.maps }))))

-- ---- with the bytes at the offsets of the blocks

unread_with : (slot : Slot) (s : Subtable) (bytes : List ℕ) → IsUnread slot s → IsUnread slot (with_blocks s bytes)
unread_with slot (constant flags byte) bytes h = h
unread_with slot (pairs head sparse lengths packed) bytes h = h

pub unread_are_valid : (slots : List Slot) (measured : List Begun) (content : List ℕ) (place : ℕ) → SideBySide UnreadAt slots measured → SideBySide IsUnread slots (unread_subs content place measured)
unread_are_valid [] [] content place h = tt
unread_are_valid [] (m ∷ ms) content place h = absurd h
unread_are_valid (x ∷ xs) [] content place h = absurd h
unread_are_valid (x ∷ xs) (m ∷ ms) content place h =
    (unread_with x m.subtable (bytes_at content (blocks_first place m.subtable) (blocks_count m.subtable)) h.0.is_valid, unread_are_valid xs ms content (blocks_end place m.subtable) h.1)

mapped_with : (measured : List Begun) (content : List ℕ) (place : ℕ) (found : List (Option Map)) → SideBySide IsMapOf (map (λ (b : Begun). b.subtable) measured) found → SideBySide IsMapOf (unread_subs content place measured) found
mapped_with [] content place [] h = tt
mapped_with [] content place (o ∷ os) h = absurd h
mapped_with (m ∷ ms) content place [] h = absurd h
mapped_with (m ∷ ms) content place (o ∷ os) h =
    let bytes : List ℕ = bytes_at content (blocks_first place m.subtable) (blocks_count m.subtable) in
    (map_moves m.subtable (with_blocks m.subtable bytes) o (sym (flags_with m.subtable bytes)) h.0, mapped_with ms content (blocks_end place m.subtable) os h.1)

pub are_maps_valid : (kind : Kind) (measured : List Begun) (content : List ℕ) (place : ℕ) (found : List (Option Map)) → AreMaps kind (map (λ (b : Begun). b.subtable) measured) found → AreMaps kind (unread_subs content place measured) found
are_maps_valid Wdl measured content place found h = h
are_maps_valid Dtz measured content place found h = mapped_with measured content place found h
