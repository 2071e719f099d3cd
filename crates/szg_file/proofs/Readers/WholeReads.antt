-- A whole file is read in three stages, and the result of `read` follows from one reading of it.
use Rattle.std.proofs.Common.{◌≡◌, ℕ, List, refl, sym, ap, subst, ◌∙◌, Option, Ok, Err}
use Rattle.szg_values.specs.declared.Kind.{Kind}
use Rattle.szg_values.specs.Material.{Sides}
use Rattle.szg_file.specs.declared.reading.state.ReaderState.{ReaderState}
use Rattle.szg_file.specs.declared.fault.ReadFault.{ReadFault}
use Rattle.szg_file.specs.Format.{Format, means, field, ◌>>=◌}
use Rattle.szg_file.specs.Contents.{Part, Subtable, Map, Contents, slots, part_numbers}
use Rattle.szg_file.specs.File.{Begun, begun, each, magic_field, byte4_field, part_field, filled_to, head_field, maps_field, sparse_field, lengths_field}
use Rattle.szg_file.specs.Reading.{Reading, start_field}
use Rattle.szg_file.specs.FilePieces.{Opened, opening_field, ending_field}
use Rattle.szg_file.specs.Unread.{file_by}
use Rattle.szg_file.proofs.Grammar.EachLaws.{then-then, then-means}
use Rattle.szg_io.specs.declared.device.Input.{Ghosts}
use Rattle.szg_file.proofs.Readers.ReadingLaws.{reads_then, reads_stopped, reads_nothing}

-- A fault is independent of the value that was being read, and the same for equal formats.
pub reads_stopped_as : {A X Y R : Type 0} (f : Format A) (g : Format A) (view : X → A) (view' : Y → A) {o n : ReaderState}
    {dev : Ghosts R} {i k : R} (fault : ReadFault) → f ≡ g →
    Reading f view o n dev i k (Err fault) →
    Reading g view' o n dev i k (Err fault)
reads_stopped_as f g view view' {o = o} {n = n} {dev = dev} {i = i} {k = k} fault e h =
    subst (λ (t : Format _). Reading t view' o n dev i k (Err fault)) (then-means f ∙ e)
    (reads_stopped f means view view' fault h)

-- The last of several readings, whose value determines the value of all.
pub reads_made : {A B X Y R : Type 0} (f : Format A) (made : A → B) (view : X → A) (view' : Y → B) {o n : ReaderState}
    {dev : Ghosts R} {i k : R} (v : X) (w : Y) → view' w ≡ made (view v) →
    Reading f view o n dev i k (Ok v) →
    Reading (f >>= λ a. means (made a)) view' o n dev i k (Ok w)
reads_made f made view view' v w e h =
    reads_then f (λ a. means (made a)) view view' v h (reads_nothing (means (made (view v))) view' w (ap means (sym e)))

-- ---- what follows each part of an opening

abbrev pub after_heads : Sides → Kind → ℕ → List Part → List Subtable → Format Opened
after_heads material kind byte parts heads = maps_field kind heads >>= λ found. means (record { byte4 = byte; parts = parts; heads = heads; maps = found })

abbrev pub after_gap : Sides → Kind → ℕ → List Part → Unit {0} → Format Opened
after_gap material kind byte parts _ = each head_field (slots material kind parts) >>= after_heads material kind byte parts

abbrev pub after_parts : Sides → Kind → ℕ → List Part → Format Opened
after_parts material kind byte parts = filled_to 2 >>= after_gap material kind byte parts

abbrev pub after_start : Sides → Kind → ℕ → Format Opened
after_start material kind byte = each (λ _. part_field material kind) (part_numbers material) >>= after_parts material kind byte

-- an opening whose parts were read
pub opening_read : {P H F R : Type 0} (material : Sides) (kind : Kind) (seen : P → List Part) (headed : H → List Subtable) (mapped : F → List (Option Map))
    {a b c d e z : ReaderState} {dev : Ghosts R} {i j k l m n : R} (byte : ℕ) (parts : P) (done : Unit {0}) (heads : H) (maps : F) →
    Reading (start_field material kind) (λ (s : ℕ). s) a b dev i j (Ok byte) →
    Reading (each (λ _. part_field material kind) (part_numbers material)) seen b c dev j k (Ok parts) →
    Reading (filled_to 2) (λ (_ : Unit {0}). tt) c d dev k l (Ok done) →
    Reading (each head_field (slots material kind (seen parts))) headed d e dev l m (Ok heads) →
    Reading (maps_field kind (headed heads)) mapped e z dev m n (Ok maps) →
    Reading (opening_field material kind) (λ (o : Opened). o) a z dev i n (Ok (record { byte4 = byte; parts = seen parts; heads = headed heads; maps = mapped maps }))
opening_read material kind seen headed mapped byte parts done heads maps start parted gap heading mapping =
    reads_then (start_field material kind) (after_start material kind) (λ s. s) (λ (o : Opened). o) byte start
    (reads_then (each (λ _. part_field material kind) (part_numbers material)) (after_parts material kind byte) seen (λ (o : Opened). o) parts parted
    (reads_then (filled_to 2) (after_gap material kind byte (seen parts)) (λ _. tt) (λ (o : Opened). o) done gap
    (reads_then (each head_field (slots material kind (seen parts))) (after_heads material kind byte (seen parts)) headed (λ (o : Opened). o) heads heading
    (reads_made (maps_field kind (headed heads)) (λ found. record { byte4 = byte; parts = seen parts; heads = headed heads; maps = found }) mapped (λ (o : Opened). o) maps _ refl mapping))))

-- ---- the three stages are the file

-- the contents of an opening, subtables and last bytes
abbrev pub with_last : Sides → Kind → Opened → List Subtable → List ℕ → Contents
with_last material kind o subtables last =
    record { material = material; kind = kind; byte4 = o.byte4; parts = o.parts; subtables = subtables; maps = o.maps; last = last }

-- what follows the blocks
abbrev pub after_packed : Sides → Kind → Opened → List Subtable → Format Contents
after_packed material kind o subtables = ending_field >>= λ last. means (with_last material kind o subtables last)

-- everything up to the maps, as one format
module _ {M B P H F C D : Type 0} (magic : Format M) (byte4 : Format B) (parts : Format P) (gap : Format (Unit {0})) (heads : P → Format H) (maps : H → Format F)
    (whole : B → P → H → F → D) (next : D → Format C) (rest : B → P → H → F → Format C) (same : (b : B) (p : P) (h : H) (f : F) → next (whole b p h f) ≡ rest b p h f) where
  from_maps : (b : B) (p : P) (h : H) → (maps h >>= λ f. means (whole b p h f)) >>= next ≡ maps h >>= λ f. rest b p h f
  from_maps b p h =
      then-then (maps h) (λ f. means (whole b p h f)) next
      ∙ ap (λ (k : F → Format C). maps h >>= k) (λ i f. same b p h f i)

  from_heads : (b : B) (p : P) → (heads p >>= λ h. maps h >>= λ f. means (whole b p h f)) >>= next ≡ heads p >>= λ h. maps h >>= λ f. rest b p h f
  from_heads b p =
      then-then (heads p) (λ h. maps h >>= λ f. means (whole b p h f)) next
      ∙ ap (λ (k : H → Format C). heads p >>= k) (λ i h. from_maps b p h i)

  from_gap : (b : B) (p : P) → (gap >>= λ _. heads p >>= λ h. maps h >>= λ f. means (whole b p h f)) >>= next ≡ gap >>= λ _. heads p >>= λ h. maps h >>= λ f. rest b p h f
  from_gap b p =
      then-then gap (λ _. heads p >>= λ h. maps h >>= λ f. means (whole b p h f)) next
      ∙ ap (λ (k : Unit {0} → Format C). gap >>= k) (λ i _. from_heads b p i)

  from_parts : (b : B) → (parts >>= λ p. gap >>= λ _. heads p >>= λ h. maps h >>= λ f. means (whole b p h f)) >>= next
      ≡ parts >>= λ p. gap >>= λ _. heads p >>= λ h. maps h >>= λ f. rest b p h f
  from_parts b =
      then-then parts (λ p. gap >>= λ _. heads p >>= λ h. maps h >>= λ f. means (whole b p h f)) next
      ∙ ap (λ (k : P → Format C). parts >>= k) (λ i p. from_gap b p i)

  front_joined : ((magic >>= λ _. byte4) >>= λ b. parts >>= λ p. gap >>= λ _. heads p >>= λ h. maps h >>= λ f. means (whole b p h f)) >>= next
      ≡ magic >>= λ _. byte4 >>= λ b. parts >>= λ p. gap >>= λ _. heads p >>= λ h. maps h >>= λ f. rest b p h f
  front_joined =
      then-then (magic >>= λ _. byte4) (λ b. parts >>= λ p. gap >>= λ _. heads p >>= λ h. maps h >>= λ f. means (whole b p h f)) next
      ∙ ap (λ (k : B → Format C). (magic >>= λ _. byte4) >>= k) (λ i b. from_parts b i)
      ∙ then-then magic (λ _. byte4) (λ b. parts >>= λ p. gap >>= λ _. heads p >>= λ h. maps h >>= λ f. rest b p h f)

-- sparse indexes, block lengths, blocks and the end
module _ {I L S E C : Type 0} (indexes : Format I) (lengths : I → Format L) (blocks : L → Format S) (gap : Format (Unit {0})) (ending : Format E) (whole : S → E → C) where
  from_gap_to_end : (s : S) → (gap >>= λ _. ending) >>= (λ last. means (whole s last)) ≡ gap >>= λ _. ending >>= λ last. means (whole s last)
  from_gap_to_end s = then-then gap (λ _. ending) (λ last. means (whole s last))

  from_blocks : (l : L) → (blocks l >>= λ s. (gap >>= λ _. ending) >>= λ last. means (whole s last)) ≡ blocks l >>= λ s. gap >>= λ _. ending >>= λ last. means (whole s last)
  from_blocks l = ap (λ (k : S → Format C). blocks l >>= k) (λ i s. from_gap_to_end s i)

  from_lengths : (x : I) → (lengths x >>= blocks) >>= (λ s. (gap >>= λ _. ending) >>= λ last. means (whole s last))
      ≡ lengths x >>= λ l. blocks l >>= λ s. gap >>= λ _. ending >>= λ last. means (whole s last)
  from_lengths x =
      then-then (lengths x) blocks (λ s. (gap >>= λ _. ending) >>= λ last. means (whole s last))
      ∙ ap (λ (k : L → Format C). lengths x >>= k) (λ i l. from_blocks l i)

  back_joined : (indexes >>= λ x. lengths x >>= blocks) >>= (λ s. (gap >>= λ _. ending) >>= λ last. means (whole s last))
      ≡ indexes >>= λ x. lengths x >>= λ l. blocks l >>= λ s. gap >>= λ _. ending >>= λ last. means (whole s last)
  back_joined =
      then-then indexes (λ x. lengths x >>= blocks) (λ s. (gap >>= λ _. ending) >>= λ last. means (whole s last))
      ∙ ap (λ (k : I → Format C). indexes >>= k) (λ i x. from_lengths x i)

abbrev table_of : Sides → Kind → ℕ → List Part → List (Option Map) → List Subtable → List ℕ → Contents
table_of material kind byte parts found subtables last = record { material = material; kind = kind; byte4 = byte; parts = parts; subtables = subtables; maps = found; last = last }

abbrev following_maps : (Begun → Format Subtable) → Sides → Kind → ℕ → List Part → List Subtable → List (Option Map) → Format Contents
following_maps blocks material kind byte parts heads found =
    each sparse_field (begun (slots material kind parts) heads) >>= λ indexed.
    each lengths_field indexed >>= λ measured.
    each blocks measured >>= λ subtables.
    filled_to 64 >>= λ _.
    field 16 means >>= λ last.
    means (table_of material kind byte parts found subtables last)

-- the sparse indexes, the block lengths, and the blocks by any format of a subtable's blocks
abbrev pub packed_by : (Begun → Format Subtable) → List Begun → Format (List Subtable)
packed_by blocks list = each sparse_field list >>= λ indexed. each lengths_field indexed >>= each blocks

abbrev pub after_opening_by : (Begun → Format Subtable) → Sides → Kind → Opened → Format Contents
after_opening_by blocks material kind o = packed_by blocks (begun (slots material kind o.parts) o.heads) >>= after_packed material kind o

pub pieces_are_file_by : (blocks : Begun → Format Subtable) (material : Sides) (kind : Kind) → opening_field material kind >>= after_opening_by blocks material kind ≡ file_by blocks material kind
pieces_are_file_by blocks material kind =
    front_joined (magic_field kind) (byte4_field material kind) (each (λ _. part_field material kind) (part_numbers material)) (filled_to 2)
    (λ parts. each head_field (slots material kind parts)) (maps_field kind)
    (λ byte parts heads found. record { byte4 = byte; parts = parts; heads = heads; maps = found })
    (after_opening_by blocks material kind) (following_maps blocks material kind)
    (λ byte parts heads found. back_joined (each sparse_field (begun (slots material kind parts) heads)) (each lengths_field) (each blocks) (filled_to 64) (field 16 means)
    (table_of material kind byte parts found))
