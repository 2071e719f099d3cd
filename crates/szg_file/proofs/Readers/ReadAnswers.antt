-- The result of `read` follows from a reading of the whole file from its first byte on.
use Rattle.std.proofs.Common.{◌≡◌, ℕ, List, [], ◌++◌, refl, sym, ap, subst, ◌∙◌, append-nil, Option, Some, None, Ok, Err}
use Rattle.std.specs.Prelude.{IfSome, IsTrue, Result, IsErrOf}
use Rattle.std.specs.Io.KnownBytes.{Consumes}
use Rattle.szg_io.specs.Device.{HasFailed}
use Rattle.szg_io.specs.Moved.{Takes}
use Rattle.szg_values.specs.declared.Kind.{Kind}
use Rattle.szg_values.specs.Material.{Sides}
use Rattle.szg_file.specs.declared.reading.state.ReaderState.{ReaderState}
use Rattle.szg_file.specs.declared.fault.Reason.{Reason}
use Rattle.szg_file.specs.declared.fault.ReadFault.{ReadFault}
use Rattle.szg_file.specs.declared.fault.ReadFault.TheVariants.{Refused, Device, Memory}
use Rattle.szg_file.specs.Format.{Format, Verdict, good, refused, truncated, verdict}
use Rattle.szg_file.specs.Contents.{Contents}
use Rattle.szg_file.specs.File.{file}
use Rattle.szg_file.specs.FileOf.{file_of}
use Rattle.szg_file.specs.Accepted.{IsAccepted}
use Rattle.szg_file.specs.Held.{Shown}
use Rattle.szg_file.specs.Reading.{Reading, Advances, IsRefusal, IsCut, Lacking}
use Rattle.szg_file.specs.WholeRead.{FollowsVerdict, IsVerdict, TookBytes, LeavesMore}
use Rattle.szg_file.proofs.Grammar.CutLaws.{leaves_more}
use Rattle.szg_file.proofs.Grammar.FormatLaws.{good-more, refused-more}
use Rattle.szg_io.specs.declared.device.Input.{Ghosts}
use Rattle.szg_file.proofs.Grammar.WholeLaws.{good_is_file}
use Rattle.szg_file.proofs.Readers.LackingReads.{Stops}

-- ---- specified bytes

pub follows_good : (f : Format Contents) (t : Shown) (old new : Option (List ℕ)) (bytes : List ℕ) → Consumes old new bytes →
    verdict f 0 bytes ≡ good t.contents t.filled [] → IfSome old (λ all. FollowsVerdict (verdict f 0 all) (Ok t) new)
follows_good f t None new bytes c e = tt
follows_good f t (Some all) None bytes c e = absurd c
follows_good f t (Some all) (Some rest) bytes c e =
    (rest, ap (λ (z : List ℕ). verdict f 0 z) c ∙ good-more f 0 bytes rest t.contents t.filled [] e, refl)

refusal_cases : (f : Format Contents) (place : ℕ) (reason : Reason) (bytes rest : List ℕ) (v : Verdict Contents) → verdict f 0 bytes ≡ v →
    IsRefusal v place reason (Some rest) → FollowsVerdict (verdict f 0 (bytes ++ rest)) (Err (Refused place reason)) (Some rest)
refusal_cases f place reason bytes rest (good a filled left) e h = absurd h
refusal_cases f place reason bytes rest (refused at why left) e h =
    let all : verdict f 0 (bytes ++ rest) ≡ refused at why rest =
    refused-more f 0 bytes rest at why left e ∙ ap (λ (z : List ℕ). refused at why (z ++ rest)) h.2 in
    subst (λ (v : Verdict Contents). FollowsVerdict v (Err (Refused place reason)) (Some rest)) (sym all) (h.0, h.1, refl)
refusal_cases f place reason bytes rest (truncated count) e h =
    let all : verdict f 0 (bytes ++ rest) ≡ truncated count =
    ap (λ (z : List ℕ). verdict f 0 (bytes ++ z)) h.2 ∙ ap (λ (z : List ℕ). verdict f 0 z) (append-nil bytes) ∙ e in
    subst (λ (v : Verdict Contents). FollowsVerdict v (Err (Refused place reason)) (Some rest)) (sym all) (h.0, h.1, ap (λ (z : List ℕ). Some z) h.2)

pub follows_refusal : (f : Format Contents) (place : ℕ) (reason : Reason) (old new : Option (List ℕ)) (bytes : List ℕ) → Consumes old new bytes →
    IsRefusal (verdict f 0 bytes) place reason new → IfSome old (λ all. FollowsVerdict (verdict f 0 all) (Err (Refused place reason)) new)
follows_refusal f place reason None new bytes c h = tt
follows_refusal f place reason (Some all) None bytes c h = absurd c
follows_refusal f place reason (Some all) (Some rest) bytes c h =
    subst (λ (z : List ℕ). FollowsVerdict (verdict f 0 z) (Err (Refused place reason)) (Some rest)) (sym c)
    (refusal_cases f place reason bytes rest (verdict f 0 bytes) refl h)

follows_device : (f : Format Contents) (old new : Option (List ℕ)) → IfSome old (λ all. FollowsVerdict (verdict f 0 all) (Err Device) new)
follows_device f None new = tt
follows_device f (Some all) new = tt

follows_memory : (f : Format Contents) (old new : Option (List ℕ)) (bytes : List ℕ) → Consumes old new bytes → IsCut (verdict f 0 bytes) →
    IfSome old (λ all. FollowsVerdict (verdict f 0 all) (Err Memory) new)
follows_memory f None new bytes c h = tt
follows_memory f (Some all) None bytes c h = absurd c
follows_memory f (Some all) (Some rest) bytes c h =
    subst (λ (z : List ℕ). LeavesMore (verdict f 0 z) (Some rest)) (sym c) (leaves_more f 0 bytes rest h)

-- ---- a table

-- the bytes are the file of an accepted table
pub record IsWhole (material : Sides) (kind : Kind) (bytes : List ℕ) (t : Contents) (fill : List ℕ) : Type 0 where
  pub whole : verdict (file material kind) 0 bytes ≡ good t fill []
  pub accepted : IsAccepted t fill
  pub file_is : bytes ≡ file_of t fill

pub whole_file : (material : Sides) (kind : Kind) (t : Contents) (o n : ReaderState) (bytes : List ℕ) → o.place ≡ 0 → o.fill.items ≡ [] →
    Advances (file material kind) t o n bytes → IsWhole material kind bytes t n.fill.items
whole_file material kind t o n bytes place fill h =
    let filled : n.fill.items ≡ h.filled = h.fill ∙ ap (λ (z : List ℕ). z ++ h.filled) fill in
    let from : verdict (file material kind) 0 bytes ≡ good t h.filled [] =
    ap (λ (p : ℕ). verdict (file material kind) p bytes) (sym place) ∙ h.whole in
    let whole : verdict (file material kind) 0 bytes ≡ good t n.fill.items [] = from ∙ ap (λ (z : List ℕ). good t z []) (sym filled) in
    let g = good_is_file material kind bytes t n.fill.items [] h.fits whole in
    record { whole = whole; accepted = g.2; file_is = g.3 ∙ append-nil (file_of t n.fill.items) }

-- ---- bytes in memory

pub in_memory : (v : Verdict Contents) (r : Result Shown ReadFault) (coming : Option (List ℕ)) → FollowsVerdict v r coming → (IsErrOf r Device → ⊥) → IsVerdict v r
in_memory v (Ok t) coming h never = (h.0, h.1)
in_memory (good t filled rest) (Err (Refused place reason)) coming h never = absurd h
in_memory (refused at why rest) (Err (Refused place reason)) coming h never = (h.0, h.1)
in_memory (truncated count) (Err (Refused place reason)) coming h never = (h.0, h.1)
in_memory v (Err Device) coming h never = absurd (never refl)
in_memory v (Err Memory) coming h never = tt

-- ---- a fault

at_first : {A : Type 0} (f : Format A) (from : ℕ) (bytes : List ℕ) (place : ℕ) (reason : Reason) (coming : Option (List ℕ)) → from ≡ 0 →
    IsRefusal (verdict f from bytes) place reason coming → IsRefusal (verdict f 0 bytes) place reason coming
at_first f from bytes place reason coming e h = subst (λ (p : ℕ). IsRefusal (verdict f p bytes) place reason coming) e h

pub fault_follows : {X R : Type 0} (f : Format Contents) (view : X → Contents) (fault : ReadFault) {o n : ReaderState}
    {dev : Ghosts R} {i k : R} → o.place ≡ 0 →
    Reading f view o n dev i k (Err fault) → (IsErrOf {T = X} (Err fault) Memory → Lacking f o dev i k) →
    IfSome (dev.coming i) (λ all. FollowsVerdict (verdict f 0 all) (Err fault) (dev.coming k))
fault_follows f view (Refused place reason) {o = o} {dev = dev} {i = i} {k = k} first h lacks =
    follows_refusal f place reason (dev.coming i) (dev.coming k) h.bytes h.taken.bytes_gone (at_first f o.place h.bytes place reason (dev.coming k) first h.answer.0)
fault_follows f view Device {dev = dev} {i = i} {k = k} first h lacks = follows_device f (dev.coming i) (dev.coming k)
fault_follows f view Memory {o = o} {dev = dev} {i = i} {k = k} first h lacks =
    let l = lacks refl in
    follows_memory f (dev.coming i) (dev.coming k) l.bytes l.taken.bytes_gone (subst (λ (p : ℕ). IsCut (verdict f p l.bytes)) first l.short)

pub fault_took : {X R : Type 0} (material : Sides) (kind : Kind) (view : X → Contents) (fault : ReadFault) {o n : ReaderState}
    {dev : Ghosts R} {i k : R} → o.place ≡ 0 →
    Reading (file material kind) view o n dev i k (Err fault) → (IsErrOf {T = X} (Err fault) Memory → Lacking (file material kind) o dev i k) →
    (bytes : List ℕ) × Takes dev i k bytes 1 × TookBytes material kind bytes (dev.coming k) (Err fault)
fault_took material kind view (Refused place reason) {o = o} {dev = dev} {k = k} first h lacks =
    (h.bytes, h.taken, at_first (file material kind) o.place h.bytes place reason (dev.coming k) first h.answer.0)
fault_took material kind view Device first h lacks = (h.bytes, h.taken, tt)
fault_took material kind view Memory first h lacks =
    let l = lacks refl in
    (l.bytes, l.taken, subst (λ (p : ℕ). IsCut (verdict (file material kind) p l.bytes)) first l.short)

-- what `read` returns, and what it did, if it ends with a fault
pub record Ends {R : Type 0} (material : Sides) (kind : Kind) (dev : Ghosts R) (i k : R) (fault : ReadFault) : Type 0 where
  pub follows : IfSome (dev.coming i) (λ all. FollowsVerdict (verdict (file material kind) 0 all) (Err fault) (dev.coming k))
  pub took : (bytes : List ℕ) × Takes dev i k bytes 1 × TookBytes material kind bytes (dev.coming k) (Err fault)
  pub device : IsErrOf {T = Shown} (Err fault) Device → HasFailed (dev.failures i) (dev.failures k) (dev.interrupted k)
  pub may_fail : IsErrOf {T = Shown} (Err fault) Device → IsTrue (dev.may_fail i)
  pub quiet : (IsErrOf {T = Shown} (Err fault) Device → ⊥) → dev.failures k ≡ dev.failures i

failed_device : {A X R : Type 0} (f : Format A) (view : X → A) (fault : ReadFault) {o n : ReaderState} {dev : Ghosts R} {i k : R} →
    Reading f view o n dev i k (Err fault) → IsErrOf {T = Shown} (Err fault) Device → HasFailed (dev.failures i) (dev.failures k) (dev.interrupted k) × IsTrue (dev.may_fail i)
failed_device f view (Refused place reason) h e = absurd cc
failed_device f view Device h e = h.answer
failed_device f view Memory h e = absurd cc

not_failed : {A X R : Type 0} (f : Format A) (view : X → A) (fault : ReadFault) {o n : ReaderState} {dev : Ghosts R} {i k : R} →
    Reading f view o n dev i k (Err fault) → (IsErrOf {T = Shown} (Err fault) Device → ⊥) → dev.failures k ≡ dev.failures i
not_failed f view (Refused place reason) h never = h.answer.1
not_failed f view Device h never = absurd (never refl)
not_failed f view Memory h never = h.answer.1

pub read_ends : {X R : Type 0} (material : Sides) (kind : Kind) (view : X → Contents) (fault : ReadFault) {o n : ReaderState} {dev : Ghosts R} {i k : R} → o.place ≡ 0 →
    Stops (file material kind) view o n dev i k fault → Ends material kind dev i k fault
read_ends material kind view fault first h = record {
  follows = fault_follows (file material kind) view fault first h.read h.lacks;
  took = fault_took material kind view fault first h.read h.lacks;
  device = λ e. (failed_device (file material kind) view fault h.read e).0;
  may_fail = λ e. (failed_device (file material kind) view fault h.read e).1;
  quiet = not_failed (file material kind) view fault h.read;
}
