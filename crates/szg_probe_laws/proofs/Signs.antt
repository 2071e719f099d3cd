-- The sign of a distance.
use Rattle.std.proofs.Common.{◌≡◌, ℕ, zero, suc, ◌+◌, ◌<◌, pos, negsuc, ◌↔◌, List, map, refl, sym, Bool, true, false, arith, inl, inr, Option, Some, None}
use Rattle.std.specs.Prelude.{◌<ℤ◌, IsTrue}
use Rattle.std.proofs.Math.Facts.{ltb_yes, yes_ltb}
use Rattle.std.proofs.lemmas.Bool.{cases_Bool}
use Rattle.szg_game.specs.Game.{IsWon, IsLost}
use Rattle.szg_game.specs.Certified.{is_won, is_lost}
use Rattle.szg_game.specs.declared.Class.{Class}
use Rattle.szg_game.specs.declared.Class.TheVariants.{Loss, BlessedLoss, Draw, CursedWin, Win}
use Rattle.szg_chess.specs.Position.{Position, IsPosition}
use Rattle.szg_chess.specs.Moves.{after, legal_moves}
use Rattle.szg_probe.specs.Chess.{chess, ply_limit}
use Rattle.szg_probe.specs.Probing.{StoredClasses, AreTrue, all_known, probed}
use Rattle.szg_probe.specs.Distances.{StoredNumbers, offset_of, is_drawn, stays, stored_distance, chosen, quiet_distance, distance_of, distance_by, probed_distance, signed_distance}
use Rattle.szg_probe.proofs.Probed.{probed_true}
use Rattle.szg_probe_laws.proofs.Within.{won_of, of_won, lost_of, of_lost}
use Rattle.szg_probe_laws.proofs.Parts.{some_is, map_parts, known_back, least_in, greatest_base, probed_parts, counted, stored_parts, stored_drawn, distance_parts, by_parts, quiet_parts, quiet_zeroing, searched_parts}

module _ (classes : StoredClasses) (numbers : StoredNumbers) where
  stored_positive : (p : Position) (k : Class) (d : ℕ) → is_drawn k ≡ false → stored_distance classes numbers p k ≡ Some (Some d) → 0 < d
  stored_positive p k d drawn e = elim (stored_parts classes numbers p k (Some d) drawn e) [
    | inl r ↦ (let is = some_is _ _ r.1 in omega arith)
    | inr r ↦ (let s = map_parts (counted k) r.number d r.is in let is = s.2 in omega arith)
  ]

  by_positive : (j : Class) (q : Position) (e : ℕ) → distance_by classes numbers j q ≡ Some e → 0 < e
  by_positive j q e h = elim (by_parts classes numbers j q e h) [
    | inl r ↦ (let is = r.1 in omega arith)
    | inr r ↦ (let is = r.3 in omega arith)
  ]

  chosen_positive : (p : Position) (k : Class) (d : ℕ) (ds : List (Option ℕ)) (b : Bool) → is_won k ≡ b → all_known (map (quiet_distance classes numbers p k) (legal_moves p)) ≡ Some ds → chosen k ds ≡ Some d → 0 < d
  chosen_positive p k d ds true won known e =
      let i = least_in ds d (rw won at e) in
      let m = known_back (quiet_distance classes numbers p k) (legal_moves p) ds known (Some d) i in
      let quiet = quiet_parts classes numbers p k m.0 (Some d) (quiet_zeroing classes numbers p k m.0 d m.2) m.2 in
      elim (cases_Bool (stays k quiet.class)) [
        | inl s ↦ (let r = quiet.staying s in let is = some_is _ _ r.1 in let more = by_positive quiet.class (after p m.0) r.0 r.2 in omega arith)
        | inr s ↦ (let no = quiet.leaving s in cc)
      ]
  chosen_positive p k d ds false won known e =
      let is = some_is _ _ (rw won at e) in
      let base = greatest_base (1 + offset_of k) ds in
      omega arith

  pub distance_positive : (p : Position) (k : Class) (d : ℕ) → is_drawn k ≡ false → distance_of classes numbers p k ≡ Some d → 0 < d
  distance_positive p k d drawn e = elim (distance_parts classes numbers p k d e) [
    | inl s ↦ stored_positive p k d drawn s
    | inr s ↦ (let r = searched_parts classes numbers p k d s.1 in chosen_positive p k d r.0 (is_won k) refl r.1 r.2)
  ]

  pub distance_drawn : (p : Position) (k : Class) (d : ℕ) → is_drawn k ≡ true → distance_of classes numbers p k ≡ Some d → d ≡ 0
  distance_drawn p k d drawn e = elim (distance_parts classes numbers p k d e) [
    | inl s ↦ (let is = some_is _ _ (stored_drawn classes numbers p k (Some d) drawn s) in sym is)
    | inr s ↦ (let no = stored_drawn classes numbers p k None drawn s.0 in cc)
  ]

-- ---- signs

abbrev pub Signs : Class → ℕ → Type 0
Signs k d = (pos 0 <ℤ signed_distance k d ↔ IsTrue (is_won k)) × (signed_distance k d <ℤ pos 0 ↔ IsTrue (is_lost k)) × (signed_distance k d ≡ pos 0 ↔ k ≡ Draw)

below : (n : ℕ) → pos 0 <ℤ pos (suc n)
below n = record { lt = yes_ltb {a = 0} {b = suc n} (omega arith) }

above : (n : ℕ) → pos (suc n) <ℤ pos 0 → ⊥
above n h = let no = ltb_yes {a = suc n} {b = 0} h.lt in omega arith

beneath : (n : ℕ) → negsuc n <ℤ pos 0
beneath n = record { lt = tt }

over : (n : ℕ) → pos 0 <ℤ negsuc n → ⊥
over n h = absurd h.lt

level_zero : pos 0 <ℤ pos 0 → ⊥
level_zero h = let no = ltb_yes {a = 0} {b = 0} h.lt in omega arith

signs : (k : Class) (d : ℕ) → (is_drawn k ≡ false → 0 < d) → (is_drawn k ≡ true → d ≡ 0) → Signs k d
signs Win zero some none = let h = some refl in absurd (omega arith)
signs Win (suc n) some none = ((λ h. refl, λ h. below n), (λ h. absurd (above n h), λ h. cc), (λ h. cc, λ h. cc))
signs CursedWin zero some none = let h = some refl in absurd (omega arith)
signs CursedWin (suc n) some none = ((λ h. refl, λ h. below n), (λ h. absurd (above n h), λ h. cc), (λ h. cc, λ h. cc))
signs Draw zero some none = ((λ h. absurd (level_zero h), λ h. cc), (λ h. absurd (level_zero h), λ h. cc), (λ h. refl, λ h. refl))
signs Draw (suc n) some none = let h = none refl in absurd (omega arith)
signs BlessedLoss zero some none = let h = some refl in absurd (omega arith)
signs BlessedLoss (suc n) some none = ((λ h. absurd (over n h), λ h. cc), (λ h. refl, λ h. beneath n), (λ h. cc, λ h. cc))
signs Loss zero some none = let h = some refl in absurd (omega arith)
signs Loss (suc n) some none = ((λ h. absurd (over n h), λ h. cc), (λ h. refl, λ h. beneath n), (λ h. cc, λ h. cc))

pub sign_of_class : (classes : StoredClasses) (numbers : StoredNumbers) (p : Position) (k : Class) (d : ℕ) → probed_distance classes numbers p ≡ Some (k, d) →
    (probed classes p ≡ Some k)
    × (pos 0 <ℤ signed_distance k d ↔ IsTrue (is_won k))
    × (signed_distance k d <ℤ pos 0 ↔ IsTrue (is_lost k))
    × (signed_distance k d ≡ pos 0 ↔ k ≡ Draw)
sign_of_class classes numbers p k d e =
    let r = probed_parts classes numbers p k d e in
    let s = signs k d (λ drawn. distance_positive classes numbers p k d drawn r.1) (λ drawn. distance_drawn classes numbers p k d drawn r.1) in
    (r.0, s.0, s.1, s.2)

pub sign_true : (classes : StoredClasses) (numbers : StoredNumbers) (p : Position) (k : Class) (d : ℕ) → AreTrue classes → IsPosition p → probed_distance classes numbers p ≡ Some (k, d) →
    (pos 0 <ℤ signed_distance k d ↔ IsWon chess None 0 p) × (signed_distance k d <ℤ pos 0 ↔ IsLost chess None 0 p)
sign_true classes numbers p k d right position e =
    let s = sign_of_class classes numbers p k d e in
    let class = probed_true classes p k right position s.0 in (
      (λ h. won_of chess ply_limit k p class (s.1.0 h), λ w. s.1.1 (of_won chess ply_limit k p class w)),
      (λ h. lost_of chess ply_limit k p class (s.2.0 h), λ l. s.2.1 (of_lost chess ply_limit k p class l)),
    )
