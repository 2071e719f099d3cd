-- The status of a fault of bytes in memory says why there is no table.
use Rattle.std.proofs.Common.{◌≡◌, ℕ, zero, suc, List, subst}
use Rattle.std.specs.Prelude.{◌≢◌, Bool, Ok, Err}
use Rattle.szg_values.specs.Material.{Sides, parsed}
use Rattle.szg_values.specs.declared.Kind.{Kind}
use Rattle.szg_file.specs.Contents.{Contents}
use Rattle.szg_file.specs.File.{file}
use Rattle.szg_file.specs.Format.{Format, Verdict, verdict}
use Rattle.szg_file.specs.FrontInput.{IsFrontFault}
use Rattle.szg_file.specs.Held.{Shown}
use Rattle.szg_file.specs.WholeRead.{IsVerdict, Refuses}
use Rattle.szg_file.specs.declared.fault.ReadFault.{ReadFault}
use Rattle.szg_file.specs.declared.fault.ReadFault.TheVariants.{Refused, Memory, Device}
use Rattle.szg_c.specs.Reported.{IsFaultStatus, Reports, Stops, kind_of_flag}
use Rattle.szg_c.specs.declared.opening.RawAnswer.{RawAnswer}

pub of_verdict : (v : Verdict Contents) (fault : ReadFault) → IsVerdict v (Err fault) → IsFrontFault v fault
of_verdict v (Refused place why) h = h
of_verdict v Device h = h
of_verdict v Memory h = h

-- bytes in memory never fail
pub no_device : (v : Verdict Contents) (fault : ReadFault) → IsFrontFault v fault → fault ≢ Device
no_device v (Refused place why) h = λ e. cc e
no_device v Device h = λ e. h
no_device v Memory h = λ e. cc e

module _ (format : Sides → Kind → Format Contents) (name : List ℕ) (dtz : Bool) (bytes : List ℕ) (material : Sides) (kind : Kind) (named : parsed name ≡ Ok material) (k : kind ≡ kind_of_flag dtz) where
  pub stops : (fault : ReadFault) (before after : RawAnswer) (status : ℕ) → IsFrontFault (verdict (format material kind) 0 bytes) fault → IsFaultStatus fault before after status → Stops format name dtz bytes status after.place after.reason
  stops (Refused place why) before after status h is =
      let refused : Refuses (verdict (format material (kind_of_flag dtz)) 0 bytes) place why = subst (λ (k : Kind). Refuses (verdict (format material k) 0 bytes) place why) k h in
      rw (is.0, is.1) (why, (material, named, refused), is.2)
  stops Device before after status h is = absurd h
  stops Memory before after status h is = rw (is.0) (material, named)

pub reports : (name : List ℕ) (dtz : Bool) (bytes : List ℕ) (done outside : Shown → Type 0) (status place reason : ℕ) → Stops file name dtz bytes status place reason → Reports name dtz bytes done outside status place reason
reports name dtz bytes done outside zero place reason h = absurd h
reports name dtz bytes done outside (suc zero) place reason h = h
reports name dtz bytes done outside (suc (suc zero)) place reason h = h
reports name dtz bytes done outside (suc (suc (suc zero))) place reason h = h
reports name dtz bytes done outside (suc (suc (suc (suc zero)))) place reason h = absurd h
reports name dtz bytes done outside (suc (suc (suc (suc (suc status))))) place reason h = absurd h
