-- What calls on an opened front return.
use Rattle.std.proofs.Common.{◌≡◌, ◌<◌, ◌∙◌, ℕ, zero, suc, Bool, true, false, List, Option, None, Some, Ok, option_map, cond, inl, inr, refl, sym, subst}
use Rattle.std.proofs.lemmas.Bool.{ltb-true}
use Rattle.std.specs.Prelude.{◌⊎◌, ℤ, Err, nat_lt, is_some, IsSomeAnd, MatchOption}
use Rattle.szg_values.specs.Material.{Sides, parsed}
use Rattle.szg_file.specs.Contents.{Slot}
use Rattle.szg_file.specs.FrontTable.{FrontKept, IsFrontOf}
use Rattle.szg_file.specs.Unread.{unread_file}
use Rattle.szg_file.specs.declared.opened.fetching.FetchFault.{FetchFault}
use Rattle.szg_file.specs.declared.opened.fetching.FetchFault.TheVariants.{Block, Source}
use Rattle.szg_c.specs.Fronts.{FetchReported, IsFront, IsOutcomeWritten, ReportsFront}
use Rattle.szg_c.specs.Places.{with_slot}
use Rattle.szg_c.specs.Reported.{IsName, Stops, kind_of_flag}
use Rattle.szg_c.specs.declared.fronts.BadBlock.{BadBlock}
use Rattle.szg_c.specs.declared.places.Unfound.TheVariants.{Fetch}

abbrev is_below : Option ℕ → ℕ → Bool
is_below None i = false
is_below (Some size) i = nat_lt i size

-- a front has the indexes below its sizes
pub has : (size : Option ℕ) (o : Option Slot) (i : ℕ) → size ≡ option_map (λ slot. slot.size) o → is_below size i ≡ is_some (with_slot o i)
has None None i e = refl
has None (Some slot) i e = absurd (cc e)
has (Some size) None i e = absurd (cc e)
has (Some size) (Some slot) i e =
    let same : size ≡ slot.size = cc e in
    rw same
    elim (nat_lt i slot.size) as (λ b. b ≡ is_some (cond b (Some slot) None)) [ true ↦ refl | false ↦ refl ]

pub below : (o : Option Slot) (i : ℕ) → true ≡ is_some (with_slot o i) → IsSomeAnd o (λ slot. i < slot.size)
below None i e = absurd (cc e)
below (Some slot) i e = of (nat_lt i slot.size) refl e where
  of : (b : Bool) → nat_lt i slot.size ≡ b → true ≡ is_some (cond b (Some slot) None) → i < slot.size
  of true is e = ltb-true i slot.size is
  of false is e = absurd (cc e)

-- the result where the index does not exist, and where it does
pub missing : (A : Type 0) (B : Slot → Type 0) (w : Option Slot) → false ≡ is_some w → A → MatchOption w A B
missing A B None e a = a
missing A B (Some slot) e a = absurd (cc e)

pub there : (A : Type 0) (B : Slot → Type 0) (w : Option Slot) → true ≡ is_some w → ((slot : Slot) → B slot) → MatchOption w A B
there A B None e make = absurd (cc e)
there A B (Some slot) e make = make slot

-- the status of a fetch's fault is never 0
pub fetch_status : (fault : FetchFault) (before after : BadBlock) (status : ℕ) → FetchReported fault before after status → (status ≡ 0) ⊎ (status ≡ 17) ⊎ (status ≡ 18)
fetch_status (Block number offset) before after status h = inr (inr h.0)
fetch_status Source before after status h = inr (inl h.0)

pub fetch_not_done : (fault : FetchFault) (before after : BadBlock) (status : ℕ) → FetchReported fault before after status → status ≡ 0 → ⊥
fetch_not_done (Block number offset) before after status h e = let k : ◌≡◌ {A = ℕ} 0 18 = sym e ∙ h.0 in cc k
fetch_not_done Source before after status h e = let k : ◌≡◌ {A = ℕ} 0 17 = sym e ∙ h.0 in cc k

pub fetch_written : (fault : FetchFault) (before after : BadBlock) (status : ℕ) (outcome : ℤ) → FetchReported fault before after status → IsOutcomeWritten (Err (Fetch fault)) status outcome after
fetch_written (Block number offset) before after status outcome h = h
fetch_written Source before after status outcome h = h.0

pub bad_stays : (fault : FetchFault) (before after : BadBlock) (status : ℕ) → FetchReported fault before after status → (status ≡ 18 → ⊥) → after ≡ before
bad_stays (Block number offset) before after status h other = absurd (other h.0)
bad_stays Source before after status h other = h.1

-- the front of the bytes, by the name that was given
pub is_front : (name : List ℕ) (dtz : Bool) (bytes : List ℕ) (material : Sides) (kept : FrontKept) → parsed name ≡ Ok material → kept.index.material ≡ material → kept.index.kind ≡ kind_of_flag dtz → IsFrontOf kept bytes →
    IsFront name dtz bytes kept
is_front name dtz bytes material kept named m k of = (subst (λ (s : Sides). parsed name ≡ Ok s) (sym m) named, k, of)

-- where it is held, or there is no memory for it, the call says so
pub front_states : (name : List ℕ) (dtz : Bool) (bytes : List ℕ) (kept : FrontKept) (held : Option FrontKept) (status place reason : ℕ) → IsFront name dtz bytes kept →
    (status ≡ 0 → held ≡ Some kept) → (status ≡ 0) ⊎ (status ≡ 3) → ReportsFront name dtz bytes (IsSomeAnd held (IsFront name dtz bytes)) status place reason
front_states name dtz bytes kept held status place reason is done (inl e) =
    let there : IsSomeAnd held (IsFront name dtz bytes) = subst (λ (o : Option FrontKept). IsSomeAnd o (IsFront name dtz bytes)) (sym (done e)) is in
    subst (λ (s : ℕ). ReportsFront name dtz bytes (IsSomeAnd held (IsFront name dtz bytes)) s place reason) (sym e) there
front_states name dtz bytes kept held status place reason is done (inr e) =
    let name_is : IsName name = (kept.index.material, is.0) in
    subst (λ (s : ℕ). ReportsFront name dtz bytes (IsSomeAnd held (IsFront name dtz bytes)) s place reason) (sym e) name_is

-- where there is none, the status says why
pub front_stops : (name : List ℕ) (dtz : Bool) (bytes : List ℕ) (done : Type 0) (status place reason : ℕ) → Stops unread_file name dtz bytes status place reason → ReportsFront name dtz bytes done status place reason
front_stops name dtz bytes done zero place reason h = absurd h
front_stops name dtz bytes done (suc status) place reason h = h
