-- Lists of materials that are not verified.
use Rattle.std.proofs.Common.{ℕ, suc, ◌≡◌, ◌∙◌, ◌+◌, ◌<◌, ◌≤◌, List, [], ◌∷◌, ◌++◌, length, refl, sym, ap, subst, Bool, true, false, arith, inl, inr, get_or, drop, All, Contains, Option, Some, None}
use denote.Ref.{Bor}
use Rattle.std.specs.Prelude.{◌&&◌, not, find, IsNone, if◌then◌else◌}
use Rattle.std.proofs.lemmas.Bool.{cases_Bool}
use Rattle.std.proofs.lemmas.List.{drop_all, drop_more, map-append}
use Rattle.std.proofs.lemmas.List.Elements.{All-push, Contains-append_left}
use Rattle.szg_values.specs.Material.{Sides, name_of}
use Rattle.szg_file.specs.Held.{Shown}
use Rattle.szg_game.specs.Game.{is_empty}
use Rattle.szg_chess.proofs.Images.Men.{contains_map}
use Rattle.szg_verify.specs.Materials.{leads_to}
use Rattle.szg_verify.specs.Walk.{colored_men, number_count}
use Rattle.szg_verified.specs.declared.verifying.Cause.{Cause}
use Rattle.szg_verified.specs.declared.verifying.Cause.TheVariants.{Refused, NoTable, Missing, Unchecked}
use Rattle.szg_verified.specs.declared.verifying.MaterialFinding.{MaterialFinding}
use Rattle.szg_verified.specs.declared.verifying.MaterialFinding.TheVariants.{Verified, Logged, Failed}
use Rattle.szg_verified.specs.declared.verifying.Unverified.{Unverified}
use Rattle.szg_verified.specs.Verified.{AreCheckedIn, AreTrue, IsCause, IsCauseOf, IsCaused, IsCheckedIn, IsFinding, IsLoggedIn, materials_in}
use Rattle.szg_verified.specs.Digests.{IsDigestOf}
use Rattle.szg_verified.specs.Logs.{AreRecorded}

-- what is found of a material that is found to be verified, or not
pub verified_as : (tables : List Shown) (us : List Unverified) (log : Option (Bor (List ℕ))) (sides : Sides) (found : MaterialFinding) (positions : ℕ) → found ≡ Verified positions → IsFinding tables us log sides found → IsCheckedIn tables sides
verified_as tables us log sides found positions e h = (subst (IsFinding tables us log sides) e h).0

pub failed_as : (tables : List Shown) (us : List Unverified) (log : Option (Bor (List ℕ))) (sides : Sides) (found : MaterialFinding) (cause : Cause) → found ≡ Failed cause → IsFinding tables us log sides found → IsCauseOf tables us sides cause
failed_as tables us log sides found cause e h = subst (IsFinding tables us log sides) e h

pub logged_as : (tables : List Shown) (us : List Unverified) (log : Option (Bor (List ℕ))) (sides : Sides) (found : MaterialFinding) (positions : ℕ) → found ≡ Logged positions → IsFinding tables us log sides found → IsLoggedIn log tables sides
logged_as tables us log sides found positions e h = subst (IsFinding tables us log sides) e h

-- a material that a log has
pub logged_in : (log : Option (Bor (List ℕ))) (text : Bor (List ℕ)) (tables : List Shown) (sides : Sides) (name digest : List ℕ) → log ≡ Some text → name ≡ name_of sides → IsDigestOf tables sides digest → AreRecorded text.now name digest → IsLoggedIn log tables sides
logged_in log text tables sides name digest e d of recorded =
    subst (λ (o : Option (Bor (List ℕ))). IsLoggedIn o tables sides) (sym e) (digest, of, subst (λ (n : List ℕ). AreRecorded text.now n digest) d recorded)

pub one_more_logged : (log : Option (Bor (List ℕ))) (tables : List Shown) (materials next : List Sides) (one s : Sides) → next ≡ materials ++ s ∷ [] → s ≡ one → All (IsLoggedIn log tables) materials → IsLoggedIn log tables one → All (IsLoggedIn log tables) next
one_more_logged log tables materials next one s e d all here =
    subst (All (IsLoggedIn log tables)) (sym e) (All-push (IsLoggedIn log tables) materials s all (subst (IsLoggedIn log tables) (sym d) here))

-- without a log nothing is logged
pub none_logged : (log : Option (Bor (List ℕ))) (tables : List Shown) (materials : List Sides) → All (IsLoggedIn log tables) materials → IsNone log → materials ≡ []
none_logged log tables [] all none = refl
none_logged None tables (m ∷ ms) all none = absurd (all 0 m (omega arith))
none_logged (Some text) tables (m ∷ ms) all none = absurd cc

-- a cause stays one when more is not verified
later : (tables : List Shown) (us more : List Unverified) (sides : Sides) (from to : ℕ) (cause : Cause) → IsCause tables us sides from to cause → IsCause tables (us ++ more) sides from to cause
later tables us more sides from to (Refused r) h = h
later tables us more sides from to (NoTable kind material) h = h
later tables us more sides from to (Missing missing) h = h
later tables us more sides from to (Unchecked other) h =
    (h.0, subst (λ (ms : List Sides). Contains ms other) (sym (map-append (λ (u : Unverified). u.material) us more)) (Contains-append_left (materials_in us) (materials_in more) other h.1))

caused_later : (tables : List Shown) (materials : List Sides) (us more : List Unverified) (u : Unverified) → IsCaused tables materials us u → IsCaused tables materials (us ++ more) u
caused_later tables materials us more u h = (h.0, later tables us more u.material 0 (number_count (colored_men u.material)) u.cause h.1)

-- the cause of the material at an index
pub caused_by : (tables : List Shown) (materials : List Sides) (us : List Unverified) (i : ℕ) (m s : Sides) (cause : Cause) → i < length materials → m ≡ get_or materials i m → s ≡ m → IsCauseOf tables us m cause →
    IsCaused tables materials us (record { material = s; cause = cause })
caused_by tables materials us i m s cause less is same h = (subst (Contains materials) (sym same) (i, less, sym is), subst (λ (x : Sides). IsCauseOf tables us x cause) (sym same) h)

pub pushed : (tables : List Shown) (materials : List Sides) (us next : List Unverified) (u : Unverified) → next ≡ us ++ u ∷ [] → All (IsCaused tables materials us) us → IsCaused tables materials us u →
    All (IsCaused tables materials next) next
pushed tables materials us next u e before here =
    let all = All-push (IsCaused tables materials us) us u before here in
    subst (λ (vs : List Unverified). All (IsCaused tables materials vs) vs) (sym e) (λ i v less. caused_later tables materials us (u ∷ []) _ (all i v less))

-- the material of one that is not verified
pub material_in : (us : List Unverified) (i : ℕ) (u : Unverified) (s : Sides) → i < length us → u ≡ get_or us i u → s ≡ u.material → Contains (materials_in us) s
material_in us i u s less is same = subst (Contains (materials_in us)) (sym same) (contains_map (λ (v : Unverified). v.material) us u (i, less, sym is))

-- the first to which a material leads
leads_of : (p : Sides → Bool) (xs : List Sides) (x : Sides) → find p xs ≡ Some x → (p x ≡ true) × Contains xs x
leads_of p [] x e = let no : None ≡ Some x = e in absurd (cc no)
leads_of p (y ∷ ys) x e = elim (cases_Bool (p y)) [
  | inl t ↦ (let same : Some y ≡ Some x = rw t at e in let is : y ≡ x = cc same in (ap p (sym is) ∙ t, (0, omega arith, is)))
  | inr f ↦ (let rest = leads_of p ys x (rw f at e) in (rest.0, (suc rest.1.0, (let less = rest.1.1 in omega (arith, less)), rest.1.2)))
]

pub leads_in : (material : Sides) (us : List Unverified) (other : Sides) → Some other ≡ find (leads_to material) (materials_in us) → (leads_to material other ≡ true) × Contains (materials_in us) other
leads_in material us other e = leads_of (leads_to material) (materials_in us) other (sym e)

module _ (material : Sides) (us : List Unverified) (i : ℕ) where
  abbrev from : ℕ → Option Sides
  from n = find (leads_to material) (materials_in (drop n us))

  from_next : (u : Unverified) → i < length us → u ≡ get_or us i u → from i ≡ (if leads_to material u.material then Some u.material else from (i + 1))
  from_next u less is = ap (λ (vs : List Unverified). find (leads_to material) (materials_in vs)) (drop_more us i u less ∙ ap (λ (v : Unverified). v ∷ drop (i + 1) us) (sym is))

  pub leads_not : (u : Unverified) → i < length us → u ≡ get_or us i u → leads_to material u.material ≡ false → find (leads_to material) (materials_in us) ≡ from i → find (leads_to material) (materials_in us) ≡ from (i + 1)
  leads_not u less is fails so-far = so-far ∙ from_next u less is ∙ rw fails refl

  pub leads_here : (u : Unverified) → i < length us → u ≡ get_or us i u → leads_to material u.material ≡ true → find (leads_to material) (materials_in us) ≡ from i → Some u.material ≡ find (leads_to material) (materials_in us)
  leads_here u less is passes so-far = sym (so-far ∙ from_next u less is ∙ rw passes refl)

  pub leads_nowhere : length us ≤ i → find (leads_to material) (materials_in us) ≡ from i → None ≡ find (leads_to material) (materials_in us)
  leads_nowhere past so-far = sym (so-far ∙ ap (λ (vs : List Unverified). find (leads_to material) (materials_in vs)) (drop_all i us past))

one_is_not_empty : (us : List Unverified) (u : Unverified) → is_empty (us ++ u ∷ []) ≡ false
one_is_not_empty [] u = refl
one_is_not_empty (v ∷ vs) u = refl

pub not_empty : {P : Type 0} (us next : List Unverified) (u : Unverified) → next ≡ us ++ u ∷ [] → is_empty next ≡ true → P
not_empty us next u e t = let f = one_is_not_empty us u in absurd (cc (ap is_empty e, f, t))

pub whole_parts : (a b c : Bool) → (not a && b && c) ≡ true → (b ≡ true) × (c ≡ true)
whole_parts false true true e = (refl, refl)
whole_parts false true false e = absurd cc
whole_parts false false true e = absurd cc
whole_parts false false false e = absurd cc
whole_parts true true true e = absurd cc
whole_parts true true false e = absurd cc
whole_parts true false true e = absurd cc
whole_parts true false false e = absurd cc

pub same_caused : (tables : List Shown) (materials : List Sides) (us next : List Unverified) → next ≡ us → All (IsCaused tables materials us) us → All (IsCaused tables materials next) next
same_caused tables materials us next e h = subst (λ (vs : List Unverified). All (IsCaused tables materials vs) vs) (sym e) h

-- causes over the same tables and materials
pub caused_by_same : (tables others : List Shown) (materials more : List Sides) (us : List Unverified) → tables ≡ others → materials ≡ more → All (IsCaused tables materials us) us → All (IsCaused others more us) us
caused_by_same tables others materials more us a b h =
    subst (λ (ts : List Shown). All (IsCaused ts more us) us) a (subst (λ (ms : List Sides). All (IsCaused tables ms us) us) b h)

-- truth over the same tables and materials
pub true_by_same : (tables others : List Shown) (materials more logged : List Sides) → tables ≡ others → materials ≡ more → (AreCheckedIn tables logged → AreTrue tables materials) → AreCheckedIn others logged → AreTrue others more
true_by_same tables others materials more logged a b h checked =
    subst (λ (ts : List Shown). AreTrue ts more) a (subst (AreTrue tables) b (h (subst (λ (ts : List Shown). AreCheckedIn ts logged) (sym a) checked)))
