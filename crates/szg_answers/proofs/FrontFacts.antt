-- What is known of a front, as facts of the table of a file.
use Rattle.std.proofs.Common.{◌≡◌, ℕ, ◌+◌, ◌-◌, ◌≤◌, List, [], ◌++◌, length, drop, refl, sym, ap, subst, ◌∙◌, arith, inl, inr}
use Rattle.std.specs.Prelude.{IfOk, IsNone, Result, Ok, Err, Option, Some, None, IsSome, IfSome, IsSomeAnd, MatchOption, replicate, option_map, option_and_then}
use Rattle.std.proofs.Math.Seq.{take-append_seam}
use Rattle.std.proofs.lemmas.List.{length-replicate, length-append, length-drop}
use Rattle.szg_io.specs.declared.device.Input as input
use Rattle.szg_block.specs.BlocksTrait.{bytes_at}
use Rattle.szg_file.specs.Contents.{Contents, Slot, slots, Subtable}
use Rattle.szg_file.specs.FrontInput.{BeginsWith}
use Rattle.szg_file.specs.FrontTable.{FrontKept, IsFrontOf}
use Rattle.szg_file.specs.Index.{Index, index_of, slot_in}
use Rattle.szg_file.specs.Format.{good, verdict}
use Rattle.szg_file.specs.Unread.{IsUnread, front_at, front_in, unread_file}
use Rattle.szg_file.specs.Values.{subtable_at}
use Rattle.szg_file.specs.Wanted.{wanted_block}
use Rattle.szg_file.specs.declared.opened.fetching.ByteRange.{ByteRange}
use Rattle.szg_file.proofs.Tables.IndexLaws.{slot_stated}
use Rattle.szg_file.proofs.Tables.TableFinds.{side_lengths}
use Rattle.szg_files.specs.declared.file_system.FileFault.{FileFault}
use Rattle.szg_place.specs.Spots.{place_fault, spot_of}
use Rattle.szg_place.specs.Tables.{numbering_in, numbering_of}
use Rattle.szg_place.specs.declared.PlaceFault.{PlaceFault}
use Rattle.szg_place.specs.declared.Spot.{Spot}
use Rattle.szg_values.specs.Material.{Sides}
use Rattle.szg_values.specs.Placement.{Board}
use Rattle.szg_values.specs.declared.Kind.{Kind}
use Rattle.szg_answers.specs.Answers.{IsSpotLine, front_lines, spot_line}
use Rattle.szg_answers.specs.Fronts.{IsBadBlockAt, IsBlockRead, IsDecodedAt, IsFetchedIn, IsFrontTaken, IsLookUpAnswer, IsLookUpRefused, IsLookedUp, IsMapRefusal, IsMeaningLine, IsUnhad, IsWantedBy}
use Rattle.szg_answers.specs.Refusals.{index_refusal, place_refusal, size_at, spot_refusal}
use Rattle.szg_answers.specs.declared.fronts.OpenedFront.{OpenedFront}
use Rattle.szg_answers.specs.declared.refusal.Refusal.{Refusal}
use Rattle.szg_answers.specs.declared.refusal.Refusal.TheVariants as why
use Rattle.szg_words.specs.declared.request.Action.TheVariants.{Probe, Show}
use Rattle.szg_words.specs.declared.request.AskedClass.{AskedClass}
use Rattle.szg_words.specs.declared.request.Request.{Request}

-- ---- the table of a file

in_table : (o : Option Contents) (t : Contents) (P : Contents → Type 0) → o ≡ Some t → P t → IsSomeAnd o P
in_table o t P e h = subst (λ (z : Option Contents). IsSomeAnd z P) (sym e) h

of_table : (o : Option Contents) (t : Contents) (P : Contents → Type 0) → o ≡ Some t → IsSomeAnd o P → P t
of_table o t P e h = subst (λ (z : Option Contents). IsSomeAnd z P) e h

-- what is fetched says what follows from it
pub fetched_then : {F : Type 0} (device : input.Ghosts F) (file : F) (kept : FrontKept) (read size : ℕ) (P Q : List ℕ → Contents → Type 0) →
    ((content : List ℕ) (h : IsFrontOf kept content) → P content h.table → Q content h.table) → IsFetchedIn device file kept read size P → IsFetchedIn device file kept read size Q
fetched_then device file kept read size P Q follows f = record {
  skipped = f.skipped;
  block = f.block;
  taken = f.taken;
  room = f.room;
  stated = λ content h holds. in_table (front_in kept.index.material kept.index.kind content) h.table (Q content) h.there
      (follows content h (of_table (front_in kept.index.material kept.index.kind content) h.table (P content) h.there (f.stated content h holds)));
}

-- what the front alone says, with no block
pub unfetched : {F : Type 0} (device : input.Ghosts F) (file : F) (kept : FrontKept) (read size : ℕ) (Q : List ℕ → Contents → Type 0) →
    read ≤ size → ((content : List ℕ) (h : IsFrontOf kept content) → Q content h.table) → IsFetchedIn device file kept read size Q
unfetched device file kept read size Q room follows = record {
  skipped = 0;
  block = [];
  taken = inl refl;
  room = omega (arith, room);
  stated = λ content h holds. in_table (front_in kept.index.material kept.index.kind content) h.table (Q content) h.there (follows content h);
}

-- the first lines of a description, once the last bytes are read
pub described : {F : Type 0} (device : input.Ghosts F) (file : F) (kept : FrontKept) (read size part side : ℕ) (wanted : ByteRange) (block text rest : List ℕ) → kept.length ≡ size → wanted.offset ≡ kept.ending → wanted.count ≡ 16 → wanted.offset + 16 ≤ kept.length →
    IsBlockRead device file read (Some wanted) block → text ≡ front_lines kept.index.material kept.index.kind (kept.ending + 16) ++ rest →
    IsFetchedIn device file kept read size (λ content t. IsLookUpAnswer Show part side content t text)
described device file kept read size part side wanted block text rest long offset count inside (skipped, place, many, range) is = record {
  skipped = skipped;
  block = block;
  taken = inr range;
  room = omega (arith, inside, offset, count, place, many, long);
  stated = λ content h holds.
      let after : List ℕ = drop (kept.ending + 16) content in
      let left : length after ≡ length content - (kept.ending + 16) = length-drop (kept.ending + 16) content in
      let whole = h.long in
      in_table (front_in kept.index.material kept.index.kind content) h.table (λ t. IsLookUpAnswer Show part side content t text) h.there (
        kept.ending + 16,
        record {
          filled = h.filled;
          rest = after;
          begins = subst (λ (x : Index). verdict (unread_file x.material x.kind) 0 content ≡ good h.table h.filled after) h.index_is h.ends;
          long = omega (arith, left, whole, inside, offset);
        },
        rest,
        subst (λ (x : Index). text ≡ front_lines x.material x.kind (kept.ending + 16) ++ rest) h.index_is is,
      );
}

-- ---- subtables

slot_of_front : (kept : FrontKept) (content : List ℕ) (h : IsFrontOf kept content) (part side : ℕ) → option_map (λ found. found.0) (subtable_at h.table part side) ≡ slot_in kept.index part side
slot_of_front kept content h part side =
    let t : Contents = h.table in
    slot_stated part side (slots t.material t.kind t.parts) t.subtables (side_lengths IsUnread (slots t.material t.kind t.parts) t.subtables h.unread)
    ∙ sym (ap (λ (x : Index). slot_in x part side) h.index_is)

sized : (o : Option (Slot × Subtable)) → option_map (λ (slot : Slot). slot.size) (option_map (λ found. found.0) o) ≡ option_map (λ found. found.0.size) o
sized None = refl
sized (Some pair) = refl

-- the size of a part and side
pub size_of_front : (kept : FrontKept) (content : List ℕ) (h : IsFrontOf kept content) (part side : ℕ) → size_at h.table part side ≡ option_map (λ slot. slot.size) (slot_in kept.index part side)
size_of_front kept content h part side = sym (sized (subtable_at h.table part side)) ∙ ap (option_map (λ (slot : Slot). slot.size)) (slot_of_front kept content h part side)

-- a subtable that is there, with the fact of its slot and two others
found_by : (o : Option (Slot × Subtable)) (S : Slot → Type 0) (A B C : Slot × Subtable → Type 0) → IsSomeAnd (option_map (λ found. found.0) o) S → IfSome o A → IfSome o B →
    ((found : Slot × Subtable) → S found.0 → A found → B found → C found) → IsSomeAnd o C
found_by None S A B C there a b c = absurd there
found_by (Some found) S A B C there a b c = c found there a b

brought : (o : Option (List ℕ)) (block bytes : List ℕ) → o ≡ Some bytes → bytes ≡ block → IfSome o (λ wanted. wanted ≡ block)
brought o block bytes e is = subst (λ (z : Option (List ℕ)). IfSome z (λ wanted. wanted ≡ block)) (sym e) is

unbrought : (o : Option (List ℕ)) (block : List ℕ) → o ≡ None → IfSome o (λ wanted. wanted ≡ block)
unbrought o block e = subst (λ (z : Option (List ℕ)). IfSome z (λ wanted. wanted ≡ block)) (sym e) tt

-- the bytes of a file that a value needs
abbrev wants : ℕ → Option ByteRange → List ℕ → Slot × Subtable → Type 0
wants i wanted content found = MatchOption wanted (wanted_block found.1 i ≡ None) (λ w. wanted_block found.1 i ≡ Some (bytes_at content w.offset w.count))

-- what is told of the bytes that a value needs, once they are read
module _ {F : Type 0} (device : input.Ghosts F) (file : F) (kept : FrontKept) (read size part side i : ℕ) (block : List ℕ) (S : Slot → Type 0) (Stated : List ℕ → Slot × Subtable → Type 0)
    (room : read ≤ size) (long : kept.length ≡ size) (there : IsSomeAnd (slot_in kept.index part side) S) where
  stated_in : (wanted : Option ByteRange) (content : List ℕ) (h : IsFrontOf kept content) → IfSome (front_at kept.index.material kept.index.kind content part side) (wants i wanted content) →
      IfSome (front_at kept.index.material kept.index.kind content part side) (λ found. IfSome (wanted_block found.1 i) (λ wanted. wanted ≡ block) → Stated content found) →
      ((found : Slot × Subtable) → wants i wanted content found → IfSome (wanted_block found.1 i) (λ wanted. wanted ≡ block)) →
      IsSomeAnd (front_in kept.index.material kept.index.kind content) (λ t. IsSomeAnd (subtable_at t part side) (λ found. S found.0 × Stated content found))
  stated_in wanted content h wanted_is value_is brings =
      let e = ap (option_and_then (λ (t : Contents). subtable_at t part side)) h.there in
      in_table (front_in kept.index.material kept.index.kind content) h.table (λ t. IsSomeAnd (subtable_at t part side) (λ found. S found.0 × Stated content found)) h.there
      (
      found_by (subtable_at h.table part side) S (wants i wanted content) (λ found. IfSome (wanted_block found.1 i) (λ wanted. wanted ≡ block) → Stated content found) (λ found. S found.0 × Stated content found)
      (subst (λ (o : Option Slot). IsSomeAnd o S) (sym (slot_of_front kept content h part side)) there)
      (subst (λ (o : Option (Slot × Subtable)). IfSome o (wants i wanted content)) e wanted_is)
      (subst (λ (o : Option (Slot × Subtable)). IfSome o (λ found. IfSome (wanted_block found.1 i) (λ wanted. wanted ≡ block) → Stated content found)) e value_is)
      (λ found s w value. (s, value (brings found w)))
      )

  pub fetched_by : (wanted : Option ByteRange) → IfSome wanted (λ w. w.offset + w.count ≤ kept.length) →
      ((content : List ℕ) → IsFrontOf kept content → IfSome (front_at kept.index.material kept.index.kind content part side)
      (λ found. MatchOption wanted (wanted_block found.1 i ≡ None) (λ w. wanted_block found.1 i ≡ Some (bytes_at content w.offset w.count)))) →
      IsBlockRead device file read wanted block →
      ((content : List ℕ) → IsFrontOf kept content → IfSome (front_at kept.index.material kept.index.kind content part side) (λ found. IfSome (wanted_block found.1 i) (λ wanted. wanted ≡ block) → Stated content found)) →
      IsFetchedIn device file kept read size (λ content t. IsSomeAnd (subtable_at t part side) (λ found. S found.0 × Stated content found))
  fetched_by None inside finds is values = record {
    skipped = 0;
    block = [];
    taken = inl refl;
    room = omega (arith, room);
    stated = λ content h holds. stated_in None content h (finds content h) (values content h) (λ found e. unbrought (wanted_block found.1 i) block e);
  }
  fetched_by (Some w) inside finds (skipped, place, count, range) values = record {
    skipped = skipped;
    block = block;
    taken = inr range;
    room = omega (arith, inside, place, count, long);
    stated = λ content h holds.
        let at : bytes_at content w.offset w.count ≡ block = ap (λ (k : ℕ). bytes_at content k w.count) place ∙ ap (λ (k : ℕ). bytes_at content (read + skipped) k) (sym count) ∙ holds in
        stated_in (Some w) content h (finds content h) (values content h) (λ found e. brought (wanted_block found.1 i) block (bytes_at content w.offset w.count) e at);
  }

-- ---- failures

pub none_there : (o : Option (Slot × Subtable)) (S : Slot × Subtable → Type 0) → IsSomeAnd o (λ found. S found × ⊥) → ⊥
none_there None S h = absurd h
none_there (Some found) S h = h.1

-- the bytes of a block that can't be had are those that the value needs
pub unhad_then : {F : Type 0} (device : input.Ghosts F) (file : F) (kept : FrontKept) (read part side i : ℕ) (fault : FileFault) (wanted : Option ByteRange) → IsSomeAnd wanted (IsUnhad device file read fault) →
    ((content : List ℕ) → IsFrontOf kept content → IfSome (front_at kept.index.material kept.index.kind content part side)
    (λ found. MatchOption wanted (wanted_block found.1 i ≡ None) (λ w. wanted_block found.1 i ≡ Some (bytes_at content w.offset w.count)))) →
    (wanted : ByteRange) × IsWantedBy kept part side i wanted × IsUnhad device file read fault wanted
unhad_then device file kept read part side i fault None unhad finds = absurd unhad
unhad_then device file kept read part side i fault (Some wanted) unhad finds = (wanted, finds, unhad)

-- ---- the length of the file

-- a front's table has the file's length, as there is such a file
pub front_long : (kept : FrontKept) (bytes : List ℕ) (size : ℕ) → length bytes ≤ size → ((content : List ℕ) → BeginsWith bytes size content → IsFrontOf kept content) → kept.length ≡ size
front_long kept bytes size room front =
    let rest : List ℕ = replicate (size - length bytes) 0 in
    let long : length (bytes ++ rest) ≡ size = length-append bytes rest ∙ ap (λ (n : ℕ). length bytes + n) (length-replicate (size - length bytes) 0) ∙ omega (arith, room) in
    let h = front (bytes ++ rest) (record { long = long; begins = take-append_seam bytes rest }) in
    sym h.long ∙ long

-- ---- placements

pub ok_then : {X E : Type 0} (r : Result X E) (P Q : X → Type 0) → ((x : X) → P x → Q x) → IfOk r P → IfOk r Q
ok_then (Ok x) P Q follows h = follows x h
ok_then (Err e) P Q follows h = h

-- a placement that has a spot has no fault
pub no_fault : (o : Option PlaceFault) (spot : Spot) → IfSome o (λ fault. ◌≡◌ {A = Result Spot PlaceFault} (Ok spot) (Err fault)) → IsNone o
no_fault None spot h = refl
no_fault (Some fault) spot h = absurd (cc h)

-- a placement that has none is refused for its fault
pub place_refused : (o : Option PlaceFault) (fault : PlaceFault) (s : Spot) → IfSome o (λ f. ◌≡◌ {A = Result Spot PlaceFault} (Err fault) (Err f)) → (IsNone o → ◌≡◌ {A = Result Spot PlaceFault} (Err fault) (Ok s)) →
    place_refusal o ≡ Some (why.Place fault)
place_refused None fault s h none = absurd (cc (none refl))
place_refused (Some f) fault s h none = let same : fault ≡ f = cc in ap (λ (z : PlaceFault). Some (why.Place z)) (sym same)

module _ (x : Index) (board : Board) (class : AskedClass) (t : Contents) (same : x ≡ index_of t) where
  pub spot_of_fetched : (text : List ℕ) → IsNone (place_fault (numbering_in x) board) × (text ≡ spot_line (spot_of (numbering_in x) board)) → IsSpotLine t board text
  spot_of_fetched text h = subst (λ (y : Index). IsNone (place_fault (numbering_in y) board) × (text ≡ spot_line (spot_of (numbering_in y) board))) same h

  pub spot_refused : (refusal : Refusal) → place_refusal (place_fault (numbering_in x) board) ≡ Some refusal → spot_refusal t board ≡ Some refusal
  spot_refused refusal h = subst (λ (y : Index). place_refusal (place_fault (numbering_in y) board) ≡ Some refusal) same h

  module _ (spot : Spot) (none : IsNone (place_fault (numbering_in x) board)) (is : spot ≡ spot_of (numbering_in x) board) where
    none_here : IsNone (place_fault (numbering_of t) board)
    none_here = subst (λ (y : Index). IsNone (place_fault (numbering_in y) board)) same none

    spot_here : spot ≡ spot_of (numbering_of t) board
    spot_here = is ∙ ap (λ (y : Index). spot_of (numbering_in y) board) same

    pub probe_parsed : (part side value : ℕ) (content text : List ℕ) → IsMeaningLine x.kind x spot.part class value text → IsDecodedAt t spot.part spot.side spot.index value → IsLookUpAnswer (Probe board class) part side content t text
    probe_parsed part side value content text meaning decoded = (
      none_here,
      value,
      subst (λ (s : Spot). IsDecodedAt t s.part s.side s.index value) spot_here decoded,
      subst (λ (s : Spot). IsMeaningLine t.kind (index_of t) s.part class value text) spot_here (subst (λ (y : Index). IsMeaningLine y.kind y spot.part class value text) same meaning),
    )

    pub probe_bad : (part side : ℕ) (content : List ℕ) (refusal : Refusal) → IsBadBlockAt content t spot.part spot.side spot.index refusal → IsLookUpRefused (Probe board class) part side content t refusal
    probe_bad part side content refusal bad = inr (none_here, inl (subst (λ (s : Spot). IsBadBlockAt content t s.part s.side s.index refusal) spot_here bad))

    pub probe_unmapped : (part side value : ℕ) (content : List ℕ) (refusal : Refusal) → IsMapRefusal x.kind x spot.part class value refusal → IsDecodedAt t spot.part spot.side spot.index value → IsLookUpRefused (Probe board class) part side content t refusal
    probe_unmapped part side value content refusal unmapped decoded = inr (
      none_here,
      inr (
        value,
        subst (λ (s : Spot). IsDecodedAt t s.part s.side s.index value) spot_here decoded,
        subst (λ (s : Spot). IsMapRefusal t.kind (index_of t) s.part class value refusal) spot_here (subst (λ (y : Index). IsMapRefusal y.kind y spot.part class value refusal) same unmapped),
      ),
    )

-- an index that a front's table does not have
pub index_refused : (kept : FrontKept) (content : List ℕ) (h : IsFrontOf kept content) (part side index : ℕ) (refusal : Refusal) →
    index_refusal (option_map (λ slot. slot.size) (slot_in kept.index part side)) index ≡ Some refusal → index_refusal (size_at h.table part side) index ≡ Some refusal
index_refused kept content h part side index refusal is = subst (λ (o : Option ℕ). index_refusal o index ≡ Some refusal) (sym (size_of_front kept content h part side)) is

-- ---- the file

-- what is told of the front and the block is told of the file that was opened
pub looked_up : {F : Type 0} (device : input.Ghosts F) (request : Request) (file file' : F) (size : ℕ) (opened : OpenedFront) (Stated : List ℕ → Contents → Type 0) →
    IfSome (device.coming file) (λ bytes. size ≡ length bytes) → IsFrontTaken device request size file file' opened → IsFetchedIn device file' opened.front opened.read opened.front.length Stated →
    IsLookedUp device request file Stated
looked_up device request file file' size opened Stated long o f = record {
  material = o.material;
  named = o.named;
  pieces = record { size = size; front = o.bytes; skipped = f.skipped; block = f.block };
  read = record {
    size_is = long;
    following = file';
    front_taken = o.taken;
    block_taken = f.taken;
    room = omega (arith, f.room, o.read_is, o.length_is);
  };
  stated = λ content p.
      let holds : bytes_at content (opened.read + f.skipped) (length f.block) ≡ f.block = ap (λ (n : ℕ). bytes_at content (n + f.skipped) (length f.block)) o.read_is ∙ p.holds in
      subst (λ (m : Sides). IsSomeAnd (front_in m request.kind content) (λ t. Stated content t)) o.material_is
      (subst (λ (k : Kind). IsSomeAnd (front_in opened.front.index.material k content) (λ t. Stated content t)) o.kind_is (f.stated content (o.front content p.begins) holds));
}
