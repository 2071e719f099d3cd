-- Runs: joined they are the values; each has at least one value, and neighbours have different values, so none could
-- be longer.
use Rattle.std.proofs.Common.{◌≡◌, ℕ, suc, ◌+◌, ◌<◌, true, false, List, [], ◌∷◌, ◌++◌, length, replicate, refl, sym, ap, subst, ◌∙◌, arith, inl, inr}
use Rattle.std.specs.Prelude.{◌==◌}
use Rattle.std.specs.List.{flat_map, AllByRecursion}
use Rattle.std.proofs.lemmas.Bool.{eqb-true}
use Rattle.szg_build.specs.Text.{with_value, runs_of}
use Rattle.szg_build.proofs.Texts.LinesLaws.{bool_cases}

-- the values of a run
abbrev pub run_list : ℕ × ℕ → List ℕ
run_list run = replicate run.0 run.1

abbrev pub run_total : List (ℕ × ℕ) → ℕ
run_total [] = 0
run_total (run ∷ others) = run.0 + run_total others

abbrev pub IsRun : ℕ × ℕ → Type 0
IsRun run = 0 < run.0

pub with_value-same : (v count w : ℕ) (others : List (ℕ × ℕ)) → (v == w) ≡ true → with_value v ((count, w) ∷ others) ≡ (suc count, w) ∷ others
with_value-same v count w others e = rw (e, with_value) refl

pub with_value-other : (v count w : ℕ) (others : List (ℕ × ℕ)) → (v == w) ≡ false → with_value v ((count, w) ∷ others) ≡ (1, v) ∷ (count, w) ∷ others
with_value-other v count w others e = rw (e, with_value) refl

values-with_value : (v : ℕ) (found : List (ℕ × ℕ)) → flat_map run_list (with_value v found) ≡ v ∷ flat_map run_list found
values-with_value v [] = refl
values-with_value v ((count, w) ∷ others) =
    elim (bool_cases (v == w)) [
      | inl e ↦ ap (flat_map run_list) (with_value-same v count w others e)
          ∙ ap (λ (z : ℕ). z ∷ (replicate count w ++ flat_map run_list others)) (sym (eqb-true v w e))
      | inr e ↦ ap (flat_map run_list) (with_value-other v count w others e)
    ]

-- The runs of a list, joined, are the list.
pub values-runs_of : (values : List ℕ) → flat_map run_list (runs_of values) ≡ values
values-runs_of [] = refl
values-runs_of (v ∷ values) = values-with_value v (runs_of values) ∙ ap (λ (z : List ℕ). v ∷ z) (values-runs_of values)

run_total-with_value : (v : ℕ) (found : List (ℕ × ℕ)) → run_total (with_value v found) ≡ suc (run_total found)
run_total-with_value v [] = refl
run_total-with_value v ((count, w) ∷ others) =
    elim (bool_cases (v == w)) [
      | inl e ↦ let a : run_total (with_value v ((count, w) ∷ others)) ≡ suc count + run_total others = ap run_total (with_value-same v count w others e) in omega (arith, a)
      | inr e ↦ let a : run_total (with_value v ((count, w) ∷ others)) ≡ 1 + (count + run_total others) = ap run_total (with_value-other v count w others e) in omega (arith, a)
    ]

pub run_total-runs_of : (values : List ℕ) → run_total (runs_of values) ≡ length values
run_total-runs_of [] = refl
run_total-runs_of (v ∷ values) = run_total-with_value v (runs_of values) ∙ ap (λ (z : ℕ). suc z) (run_total-runs_of values)

are_runs-with_value : (v : ℕ) (found : List (ℕ × ℕ)) → AllByRecursion IsRun found → AllByRecursion IsRun (with_value v found)
are_runs-with_value v [] h = (omega arith, tt)
are_runs-with_value v ((count, w) ∷ others) h =
    let P : List (ℕ × ℕ) → Type 0 = λ (z : List (ℕ × ℕ)). AllByRecursion IsRun z in
    elim (bool_cases (v == w)) [
      | inl e ↦ subst P (sym (with_value-same v count w others e)) (omega arith, h.1)
      | inr e ↦ subst P (sym (with_value-other v count w others e)) (omega arith, h)
    ]

pub are_runs-runs_of : (values : List ℕ) → AllByRecursion IsRun (runs_of values)
are_runs-runs_of [] = tt
are_runs-runs_of (v ∷ values) = are_runs-with_value v (runs_of values) (are_runs-runs_of values)

-- neighbours have different values
abbrev pub AreLongest : List (ℕ × ℕ) → Type 0
AreLongest [] = Unit {0}
AreLongest (run ∷ []) = Unit {0}
AreLongest (run ∷ next ∷ others) = ((run.1 == next.1) ≡ false) × AreLongest (next ∷ others)

longer : (count count' w : ℕ) (others : List (ℕ × ℕ)) → AreLongest ((count, w) ∷ others) → AreLongest ((count', w) ∷ others)
longer count count' w [] h = tt
longer count count' w (next ∷ others) h = h

are_longest-with_value : (v : ℕ) (found : List (ℕ × ℕ)) → AreLongest found → AreLongest (with_value v found)
are_longest-with_value v [] h = tt
are_longest-with_value v ((count, w) ∷ others) h =
    let P : List (ℕ × ℕ) → Type 0 = λ (z : List (ℕ × ℕ)). AreLongest z in
    elim (bool_cases (v == w)) [
      | inl e ↦ subst P (sym (with_value-same v count w others e)) (longer count (suc count) w others h)
      | inr e ↦ subst P (sym (with_value-other v count w others e)) (e, h)
    ]

-- No run of a list could be longer.
pub are_longest-runs_of : (values : List ℕ) → AreLongest (runs_of values)
are_longest-runs_of [] = tt
are_longest-runs_of (v ∷ values) = are_longest-with_value v (runs_of values) (are_longest-runs_of values)
