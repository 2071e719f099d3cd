-- A front that was read from a device: it begins each file that begins with the bytes that were read.
use Rattle.std.proofs.Common.{◌≡◌, ℕ, ◌+◌, ◌-◌, ◌<◌, ◌≤◌, List, [], ◌++◌, length, take, replicate, refl, ap, ◌∙◌, subst, arith, inl, inr, Option, Some, None, Bool, Result, Ok, Err}
use Rattle.std.specs.Prelude.{IfSome}
use Rattle.std.specs.Io.KnownBytes.{Consumes}
use Rattle.std.proofs.lemmas.List.{length-append, length-replicate}
use Rattle.szg_io.specs.declared.device.Input.{Ghosts}
use Rattle.szg_io.proofs.DeviceLaws.{Takes-more}
use Rattle.szg_values.specs.Material.{Sides}
use Rattle.szg_values.specs.declared.Kind.{Kind}
use Rattle.szg_file.specs.Contents.{Contents}
use Rattle.szg_file.specs.Format.{verdict, ◌>>=◌}
use Rattle.szg_file.specs.FrontInput.{BeginsWith, FrontOutcome, IsFrontFault, IsFrontRead, IsFrontRefusal, IsFrontVerdict}
use Rattle.szg_file.specs.FrontRead.{front_read}
use Rattle.szg_file.specs.FrontTable.{FrontKept, IsFrontOf}
use Rattle.szg_file.specs.Kept.{kept_front, BeginsWithKept, ReadingOf}
use Rattle.szg_file.specs.Reading.{Advances, Answer, IsRefusal, Reading}
use Rattle.szg_file.specs.Unread.{FrontRead, BeginsWithFront, front_field, after_front, unread_field, unread_file, unread_table}
use Rattle.szg_file.specs.WholeRead.{Refuses}
use Rattle.szg_file.specs.declared.fault.Reason.{Reason}
use Rattle.szg_file.specs.declared.fault.Reason.TheVariants.{Truncated}
use Rattle.szg_file.specs.declared.fault.ReadFault.{ReadFault}
use Rattle.szg_file.specs.declared.fault.ReadFault.TheVariants.{Refused, Device, Memory}
use Rattle.szg_file.specs.declared.reading.state.ReaderState.{ReaderState}
use Rattle.szg_file.specs.declared.reading.FrontRead as read
use Rattle.szg_file.proofs.Grammar.FormatLaws.{take_front}
use Rattle.szg_file.proofs.Openings.FrontLaws.{front_then}
use Rattle.szg_file.proofs.Openings.FrontTables.{begins_by}
use Rattle.szg_file.proofs.Openings.OpenedLaws.{refused_follows}
use Rattle.szg_file.proofs.Readers.ReadAnswers.{follows_refusal}
use Rattle.szg_file.proofs.Readers.ReadingLaws.{reads_stopped}
use Rattle.szg_file.proofs.Readers.Taken.{reads_equal}

module _ (material : Sides) (kind : Kind) where
  -- a whole front was read
  pub front_begins : (f : FrontRead) (begun ended : ReaderState) (bytes content : List ℕ) → begun.place ≡ 0 → Advances (front_field material kind) f begun ended bytes → take (length bytes) content ≡ bytes →
      BeginsWithFront material kind f ended.place content
  front_begins f begun ended bytes content start h begins = begins_by material kind f begun ended 0 (length bytes) ended.place [] content bytes content start refl begins h refl refl

  pub front_place : (f : FrontRead) (begun ended : ReaderState) (bytes : List ℕ) → begun.place ≡ 0 → Advances (front_field material kind) f begun ended bytes → ended.place ≡ length bytes
  front_place f begun ended bytes start h = omega (arith, h.place, start)

  -- it isn't read to its end
  stopped_stated : {X : Type 0} (view : X → Contents) (fault : ReadFault) (size : ℕ) (begun ended : ReaderState) (coming : Option (List ℕ)) (failures failures' row : ℕ) (may_fail : Bool) (bytes : List ℕ) → begun.place ≡ 0 →
      Answer (unread_file material kind) view begun ended coming failures failures' row may_fail bytes (Err fault) → FrontOutcome material kind bytes size coming (Err fault)
  stopped_stated view (Refused place reason) size begun ended coming failures failures' row may_fail bytes start h =
      inl (subst (λ (n : ℕ). IsRefusal (verdict (unread_file material kind) n bytes) place reason coming) start h.0)
  stopped_stated view Device size begun ended coming failures failures' row may_fail bytes start h = tt
  stopped_stated view Memory size begun ended coming failures failures' row may_fail bytes start h = tt

  pub front_stopped : {R : Type 0} (device : Ghosts R) (fault : ReadFault) (size : ℕ) (begun ended : ReaderState) (old new : R) → begun.place ≡ 0 →
      Reading (front_field material kind) front_read begun ended device old new (Err fault) → IsFrontRead device material kind size old new (Err fault)
  front_stopped device fault size begun ended old new start h =
      let view : read.FrontRead → Contents = λ r. unread_table material kind (front_read r) [] [] in
      let stopped = reads_equal (front_field material kind >>= after_front unread_field material kind) (unread_file material kind) view (Err fault) (front_then unread_field material kind)
      (reads_stopped (front_field material kind) (after_front unread_field material kind) front_read view fault h) in
      record { bytes = stopped.bytes; taken = stopped.taken; stated = stopped_stated view fault size begun ended _ _ _ _ _ stopped.bytes start stopped.answer }

  -- ---- a whole front was read

  module _ {R : Type 0} (device : Ghosts R) (all : Bool) (r : read.FrontRead) (size : ℕ) (begun ended : ReaderState) (old new : R) (start : begun.place ≡ 0)
      (seen : ReadingOf (front_field material kind) (λ whole kept. front_read kept ≡ kept_front all whole) begun ended device old new (Ok r)) where
    h : Reading (front_field material kind) (λ (_ : read.FrontRead). seen.0) begun ended device old new (Ok r)
    h = seen.2

    at_end : ended.place ≡ length h.bytes
    at_end = front_place seen.0 begun ended h.bytes start h.answer.0

    begins_file : (content : List ℕ) → BeginsWith h.bytes size content → BeginsWithKept all material kind (front_read r) ended.place content
    begins_file content begins = record { whole = seen.0; kept = seen.1; begins = front_begins seen.0 begun ended h.bytes content start h.answer.0 begins.begins }

    -- a file of this size that begins with it
    pub front_content : ended.place ≤ size → (content : List ℕ) × (length content ≡ size) × BeginsWithKept all material kind (front_read r) ended.place content
    front_content enough =
        let bytes : List ℕ = h.bytes in
        let rest : List ℕ = replicate (size - length bytes) 0 in
        let long : length (bytes ++ rest) ≡ length bytes + length rest = length-append bytes rest in
        let more : length rest ≡ size - length bytes = length-replicate (size - length bytes) 0 in
        let whole : length (bytes ++ rest) ≡ size = omega (arith, at_end, long, more, enough) in
        (bytes ++ rest, whole, begins_file (bytes ++ rest) (record { long = whole; begins = take_front (length bytes) bytes rest refl }))

    -- a table was made of it
    pub front_opened : (t : FrontKept) → ended.place ≤ size → t.index.material ≡ material → t.index.kind ≡ kind →
        ((all : Bool) (content : List ℕ) → length content ≡ size → BeginsWithKept all material kind (front_read r) ended.place content → IsFrontOf t content) → IsFrontRead device material kind size old new (Ok (t, ended.place))
    front_opened t enough m k table = record {
      bytes = h.bytes;
      taken = Takes-more h.bytes 1 h.taken;
      stated = (m, k, at_end, omega (arith, at_end, enough), λ content begins. table all content begins.long (begins_file content begins));
    }

    late_stated : (fault : ReadFault) → length h.bytes ≤ size → ((content : List ℕ) → BeginsWith h.bytes size content → IsFrontFault (verdict (unread_file material kind) 0 content) fault) →
        FrontOutcome material kind h.bytes size (device.coming new) (Err fault)
    late_stated (Refused place reason) enough late = inr (inl (enough, late))
    late_stated Device enough late = tt
    late_stated Memory enough late = tt

    -- there is no room for what follows it
    pub front_late : (fault : ReadFault) → ended.place ≤ size → ((all : Bool) (content : List ℕ) → length content ≡ size → BeginsWithKept all material kind (front_read r) ended.place content → IsFrontFault (verdict (unread_file material kind) 0 content) fault) →
        IsFrontRead device material kind size old new (Err fault)
    front_late fault enough late = record {
      bytes = h.bytes;
      taken = Takes-more h.bytes 1 h.taken;
      stated = late_stated fault (omega (arith, at_end, enough)) (λ content begins. late all content begins.long (begins_file content begins));
    }

    -- it is longer than the file
    pub front_longer : size < ended.place → IsFrontRead device material kind size old new (Err (Refused size Truncated))
    front_longer less = record {
      bytes = h.bytes;
      taken = Takes-more h.bytes 1 h.taken;
      stated = inr (inr (omega (arith, at_end, less), refl, refl));
    }

  -- ---- a device that specifies the file's bytes

  module _ (bytes rest all : List ℕ) (size : ℕ) (gone : all ≡ bytes ++ rest) (long : length all ≡ size) where
    all_begins : BeginsWith bytes size all
    all_begins = record { long = long; begins = ap (λ (z : List ℕ). take (length bytes) z) gone ∙ take_front (length bytes) bytes rest refl }

    refused_on : (place : ℕ) (reason : Reason) → IsFrontRefusal material kind bytes size (Some rest) place reason → Refuses (verdict (unread_file material kind) 0 all) place reason
    refused_on place reason (inl refusal) = refused_follows (verdict (unread_file material kind) 0 all) place reason (Some rest) (follows_refusal (unread_file material kind) place reason (Some all) (Some rest) bytes gone refusal)
    refused_on place reason (inr (inl late)) = late.1 all all_begins
    refused_on place reason (inr (inr short)) =
        let more : length all ≡ length bytes + length rest = ap (λ (z : List ℕ). length z) gone ∙ length-append bytes rest in
        absurd (omega (arith, long, more, short.0))

    outcome_on : (r : Result (FrontKept × ℕ) ReadFault) → FrontOutcome material kind bytes size (Some rest) r → IsFrontVerdict material kind all r
    outcome_on (Ok found) h = h.4 all all_begins
    outcome_on (Err (Refused place reason)) h = refused_on place reason h
    outcome_on (Err Device) h = tt
    outcome_on (Err Memory) h = tt

  verdict_on : (bytes : List ℕ) (size : ℕ) (coming coming' : Option (List ℕ)) (r : Result (FrontKept × ℕ) ReadFault) → Consumes coming coming' bytes → FrontOutcome material kind bytes size coming' r →
      IfSome coming (λ all. length all ≡ size → IsFrontVerdict material kind all r)
  verdict_on bytes size None coming' r gone h = tt
  verdict_on bytes size (Some all) None r gone h = absurd gone
  verdict_on bytes size (Some all) (Some rest) r gone h = λ long. outcome_on bytes rest all size gone long r h

  pub front_verdict : {R : Type 0} (device : Ghosts R) (size : ℕ) (old new : R) (r : Result (FrontKept × ℕ) ReadFault) → IsFrontRead device material kind size old new r →
      IfSome (device.coming old) (λ all. length all ≡ size → IsFrontVerdict material kind all r)
  front_verdict device size old new r h = verdict_on h.bytes size (device.coming old) (device.coming new) r h.taken.bytes_gone h.stated

-- ---- a front that was read from a device

-- what each file of this size that begins with these bytes satisfies, the bytes that were coming do
coming_begins : (P : List ℕ → Type 0) (size : ℕ) (bytes : List ℕ) (coming coming' : Option (List ℕ)) → Consumes coming coming' bytes →
    ((content : List ℕ) → length content ≡ size → take (length bytes) content ≡ bytes → P content) → IfSome coming (λ content. length content ≡ size → P content)
coming_begins P size bytes None coming' gone h = tt
coming_begins P size bytes (Some all) None gone h = absurd gone
coming_begins P size bytes (Some all) (Some rest) gone h = λ long. h all long (ap (λ (z : List ℕ). take (length bytes) z) gone ∙ take_front (length bytes) bytes rest refl)

pub coming_front : {R : Type 0} (P : List ℕ → Type 0) (material : Sides) (kind : Kind) (device : Ghosts R) (r : read.FrontRead) (size : ℕ) (begun ended : ReaderState) (old new : R) → begun.place ≡ 0 →
    Reading (front_field material kind) front_read begun ended device old new (Ok r) →
    ((content : List ℕ) → length content ≡ size → BeginsWithFront material kind (front_read r) ended.place content → P content) → IfSome (device.coming old) (λ content. length content ≡ size → P content)
coming_front P material kind device r size begun ended old new start h one =
    coming_begins P size h.bytes (device.coming old) (device.coming new) h.taken.bytes_gone
    (λ content long begins. one content long (front_begins material kind (front_read r) begun ended h.bytes content start h.answer.0 begins))

-- ---- of bytes in memory

pub front_fault : (material : Sides) (kind : Kind) (content : List ℕ) (fault : ReadFault) → IsFrontVerdict material kind content (Err fault) → (fault ≡ Device → ⊥) → IsFrontFault (verdict (unread_file material kind) 0 content) fault
front_fault material kind content (Refused place reason) h quiet = h
front_fault material kind content Device h quiet = absurd (quiet refl)
front_fault material kind content Memory h quiet = tt
