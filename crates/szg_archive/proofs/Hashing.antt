-- What holds of a hashed input holds of the input that it wraps.
use Rattle.std.proofs.Common.{◌≡◌, ℕ, Bool, List, [], ◌∷◌, true, false, refl, sym, ap, subst, Result, Ok, Err, OnErr, OnOk, IfOk, if◌then◌else◌}
use Rattle.std.specs.Prelude.{Some, None}
use Rattle.std.specs.Result.{is_err}
use Rattle.sha2.specs.Sha256.{sha256}
use Rattle.szg_archive.specs.declared.one.Checked.{Checked}
use Rattle.szg_archive.specs.declared.one.CheckedFile.{CheckedFile}
use Rattle.std.proofs.Math.Logic.{∥∥₁_prop}
use Rattle.szg_io.specs.Moved.{Takes}
use Rattle.szg_io.specs.declared.device.Input as input
use Rattle.szg_values.specs.Material.{Sides}
use Rattle.szg_values.specs.declared.Kind.{Kind}
use Rattle.szg_file.specs.Held.{Shown}
use Rattle.szg_file.specs.WholeRead.{IsFileRead}
use Rattle.szg_file.specs.declared.fault.ReadFault.{ReadFault}
use Rattle.szg_sums.specs.Digests.{has_sum}
use Rattle.szg_sums.specs.declared.hasher.Hasher as hasher
use Rattle.szg_sums.specs.declared.sum.Sum.{Sum as Digest}
use Rattle.szg_archive.specs.declared.hashed.Hashed.{Hashed}
use Rattle.szg_archive.specs.Verdicts.{IsComparedTable, IsDigestedOn, IsDueVerdictOn, IsFoundOn, IsHashedVerdictOn, IsReadOn, IsVerdictOn, found_as, is_table}
use Rattle.szg_archive.specs.declared.due.Due.{Due}
use Rattle.szg_archive.specs.declared.due.Due.TheVariants as dues
use Rattle.szg_archive.specs.declared.file_verdict.FileVerdict.{FileVerdict}
use Rattle.szg_archive.specs.declared.file_verdict.FileVerdict.TheVariants.{Whole, Ending, Name, At, Trailing, Unopened, Unread, NoText, Empty, Skipped, Kept, Differs, Unlisted, Missing}

-- what holds if reading on failed, or didn't
pub on_err : {A E P : Type 0} (r : Result A E) → is_err r ≡ true → OnErr r P → P
on_err (Ok a) failed h = absurd (cc failed)
on_err (Err e) failed h = h

pub on_ok : {A E P : Type 0} (r : Result A E) → is_err r ≡ false → OnOk r P → P
on_ok (Ok a) passed h = h
on_ok (Err e) passed h = absurd (cc passed)

-- an input that didn't change, with the same hasher, is the same hashed input
pub same_hashed : {F H : Type 0} {device : input.Ghosts F} {hashing : hasher.Ghosts H} (next : F) (hashed : Hashed F H device hashing) (fed : ∥ hashing.has_taken hashed.hasher (device.moved next) ∥₁) → next ≡ hashed.input →
    ◌≡◌ {A = Hashed F H device hashing} record { input = next; hasher = hashed.hasher; fed = fed } hashed
same_hashed {F = F} {H = H} {device = device} {hashing = hashing} next hashed fed is =
    subst (λ (i : F). (f : ∥ hashing.has_taken hashed.hasher (device.moved i) ∥₁) → ◌≡◌ {A = Hashed F H device hashing} record { input = i; hasher = hashed.hasher; fed = f } hashed) (sym is)
    (λ f. ap (λ (f : ∥ hashing.has_taken hashed.hasher (device.moved hashed.input) ∥₁). record { input = hashed.input; hasher = hashed.hasher; fed = f }) (∥∥₁_prop f hashed.fed)) fed

module _ {F H : Type 0} {hashing : hasher.Ghosts H} (device : input.Ghosts F) where
  abbrev over : input.Ghosts (Hashed F H device hashing)
  over = record {
    coming = λ hashed. device.coming hashed.input;
    calls = λ hashed. device.calls hashed.input;
    moved = λ hashed. device.moved hashed.input;
    failures = λ hashed. device.failures hashed.input;
    interrupted = λ hashed. device.interrupted hashed.input;
    may_fail = λ hashed. device.may_fail hashed.input;
  }

  takes : (old new : Hashed F H device hashing) (bytes : List ℕ) (more : ℕ) → Takes over old new bytes more → Takes device old.input new.input bytes more
  takes old new bytes more t = record { bytes_gone = t.bytes_gone; bytes_moved = t.bytes_moved; calls_made = t.calls_made; stays = t.stays }

  file_read : (material : Sides) (kind : Kind) (old new : Hashed F H device hashing) (result : Result Shown ReadFault) → IsFileRead over material kind old new result → IsFileRead device material kind old.input new.input result
  file_read material kind old new result h = record { table = h.table; follows = h.follows; bytes = h.bytes; taken = takes old new h.bytes 1 h.taken; took = h.took }

  verdict_on : (material : Sides) (kind : Kind) (old new : Hashed F H device hashing) (found : FileVerdict) → IsVerdictOn over material kind old new found → IsVerdictOn device material kind old.input new.input found
  verdict_on material kind old new (Whole length) h = (h.0.input, h.1, file_read material kind old h.0 _ h.2, h.3, takes h.0 new [] 1 h.4, h.5)
  verdict_on material kind old new (Trailing length) h = (h.0.input, h.1, file_read material kind old h.0 _ h.2, h.3, h.4, takes h.0 new (h.4 ∷ []) 0 h.5)
  verdict_on material kind old new (At offset reason) h = file_read material kind old new _ h
  verdict_on material kind old new (Unread error) h = h
  verdict_on material kind old new Ending h = absurd h
  verdict_on material kind old new (Name fault) h = absurd h
  verdict_on material kind old new (Unopened fault) h = absurd h
  verdict_on material kind old new NoText h = absurd h
  verdict_on material kind old new Empty h = absurd h
  verdict_on material kind old new (Kept size) h = absurd h
  verdict_on material kind old new (Skipped skip) h = absurd h
  verdict_on material kind old new Differs h = absurd h
  verdict_on material kind old new Unlisted h = absurd h
  verdict_on material kind old new Missing h = absurd h

  compared_on : (table : Bool) (has : List ℕ → Bool) (checked read : Hashed F H device hashing) (found verdict : FileVerdict) → IsComparedTable table over has checked read found verdict →
      IsComparedTable table device has checked.input read.input found verdict
  compared_on true has checked read found verdict h = h
  compared_on false has checked read found verdict h = h

  due_on : (due : Due) (material : Sides) (kind : Kind) (old new : Hashed F H device hashing) (verdict : FileVerdict) → IsDueVerdictOn over due material kind old new verdict → IsDueVerdictOn device due material kind old.input new.input verdict
  due_on dues.Any material kind old new verdict h = verdict_on material kind old new verdict h
  due_on dues.Unlisted material kind old new verdict h = (h.0, verdict_on material kind old new h.0 h.1, h.2)
  due_on (dues.Sum sum) material kind old new verdict h = (h.0.input, h.1, verdict_on material kind old h.0 h.1 h.2, compared_on (is_table h.1) (λ m. has_sum sum m) h.0 new h.1 verdict h.3)

  -- what is no table keeps its verdict
  pub no_table : (has : List ℕ → Bool) (material : Sides) (kind : Kind) (file input : F) (old new : Hashed F H device hashing) (found : FileVerdict) → old.input ≡ file → input ≡ new.input → IsVerdictOn over material kind old new found → is_table found ≡ false →
      IsHashedVerdictOn device has material kind file input found
  no_table has material kind file input old new found is same h none =
      subst (λ (f : F). IsHashedVerdictOn device has material kind f input found) is
      (subst (λ (i : F). IsHashedVerdictOn device has material kind old.input i found) (sym same)
      (new.input, found, verdict_on material kind old new found h, rw none refl))

  -- a table is compared with the digest that is due
  pub compared : (has : List ℕ → Bool) (material : Sides) (kind : Kind) (file input : F) (old new read : Hashed F H device hashing) (found after : FileVerdict) → old.input ≡ file → input ≡ read.input → IsVerdictOn over material kind old new found → is_table found ≡ true →
      IsReadOn device new.input read.input (λ m. if has m then found else Differs) (λ error. Unread error) after → IsHashedVerdictOn device has material kind file input after
  compared has material kind file input old new read found after is same h table c =
      subst (λ (f : F). IsHashedVerdictOn device has material kind f input after) is
      (subst (λ (i : F). IsHashedVerdictOn device has material kind old.input i after) (sym same)
      (new.input, found, verdict_on material kind old new found h, rw table c))

  -- what is no table gets no digest
  pub undigested : (due : Due) (material : Sides) (kind : Kind) (file : F) (old checked : Hashed F H device hashing) (verdict : FileVerdict) → old.input ≡ file → IsDueVerdictOn over due material kind old checked verdict → is_table verdict ≡ false →
      (read : F) × IsDigestedOn device due material kind file read (found_as verdict None)
  undigested due material kind file old checked verdict is h none =
      subst (λ (f : F). (read : F) × IsDigestedOn device due material kind f read (found_as verdict None)) is
      (checked.input, (checked.input, verdict, due_on due material kind old checked verdict h, rw none refl))

  -- a table gets the digest of its bytes
  pub digested : (due : Due) (material : Sides) (kind : Kind) (file : F) (old checked read : Hashed F H device hashing) (verdict : FileVerdict) (found : CheckedFile) → old.input ≡ file → IsDueVerdictOn over due material kind old checked verdict → is_table verdict ≡ true →
      IsReadOn device checked.input read.input (λ m. found_as verdict (Some (sha256 m))) (λ error. found_as (Unread error) None) found → (input : F) × IsDigestedOn device due material kind file input found
  digested due material kind file old checked read verdict found is h table c =
      subst (λ (f : F). (input : F) × IsDigestedOn device due material kind f input found) is
      (read.input, (checked.input, verdict, due_on due material kind old checked verdict h, rw table c))

-- the verdict where a digest is due, whose algorithm is known
pub summed : {F E : Type 0} (device : input.Ghosts F) (due : Due) (sum : Digest) (material : Sides) (kind : Kind) (file : F) (result : Result (Checked F) E) → due ≡ dues.Sum sum →
    IfOk result (λ checked. IsHashedVerdictOn device (λ m. has_sum sum m) material kind file checked.input checked.verdict) →
    IfOk result (λ checked. IsDueVerdictOn device due material kind file checked.input checked.verdict)
summed device due sum material kind file result is h =
    subst (λ (d : Due). IfOk result (λ checked. IsDueVerdictOn device d material kind file checked.input checked.verdict)) (sym is) h

-- what was found where a digest is asked for, and where none is
module _ {F : Type 0} (device : input.Ghosts F) (has : Bool) (due : Due) (material : Sides) (kind : Kind) (file : F) where
  pub found_digested : {E : Type 0} (result : Result CheckedFile E) → has ≡ true → IfOk result (λ found. (read : F) × IsDigestedOn device due material kind file read found) →
      IfOk result (λ found. (read : F) × IsFoundOn has device due material kind file read found)
  found_digested (Ok found) is h = (h.0, rw is h.1)
  found_digested (Err stop) is h = tt

  pub found_alone : (read : F) (verdict : FileVerdict) → has ≡ false → IsDueVerdictOn device due material kind file read verdict → (input : F) × IsFoundOn has device due material kind file input (found_as verdict None)
  found_alone read verdict is h = (read, rw is (h, refl))
