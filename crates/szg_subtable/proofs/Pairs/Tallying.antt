-- How the code counts and replaces a pair symbol by symbol: the state of a tally over the list.
use Rattle.std.proofs.Common.{ℕ, suc, ◌≡◌, ◌+◌, Bool, true, false, List, [], ◌∷◌, ◌++◌, refl, sym, ap, ◌∙◌, arith, cond}
use Rattle.std.specs.Prelude.{◌==◌, ◌&&◌}
use Rattle.std.proofs.lemmas.Bool.{eq-eqb, eqb-true}
use Rattle.szg_subtable.specs.Pairing.{pair_count}
use Rattle.szg_subtable.proofs.Pairs.PairingLaws.{pair_count-here, pair_count-later}

-- how often the pair was counted, and whether the symbol read last is a left one that waits for a right one
pub record Tally : Type 0 where
  pub count : ℕ
  pub waits : Bool

-- the tally after one more symbol
abbrev pub tallied : ℕ → ℕ → Tally → ℕ → Tally
tallied left right t s = cond (t.waits && (s == right)) (record { count = t.count + 1; waits = false }) (record { count = t.count; waits = s == left })

abbrev pub tally : ℕ → ℕ → Tally → List ℕ → Tally
tally left right t [] = t
tally left right t (s ∷ symbols) = tally left right (tallied left right t s) symbols

pub tally-last : (left right : ℕ) (t : Tally) (symbols : List ℕ) (s : ℕ) → tally left right t (symbols ++ s ∷ []) ≡ tallied left right (tally left right t symbols) s
tally-last left right t [] s = refl
tally-last left right t (x ∷ symbols) s = tally-last left right (tallied left right t x) symbols s

-- a symbol that isn't the left one begins no pair
begins_none : (left right s : ℕ) (symbols : List ℕ) → (s == left) ≡ false → pair_count left right (s ∷ symbols) ≡ pair_count left right symbols
begins_none left right s [] h = refl
begins_none left right s (t ∷ symbols) h = pair_count-later left right s t symbols (rw h refl)

begun : ℕ → Bool → List ℕ → List ℕ
begun left true symbols = left ∷ symbols
begun left false symbols = symbols

mutual_step : (left right n s : ℕ) (symbols : List ℕ) →
    ((m : ℕ) (waiting : Bool) → (tally left right (record { count = m; waits = waiting }) symbols).count ≡ m + pair_count left right (begun left waiting symbols)) →
    (b : Bool) → (s == left) ≡ b → (tally left right (record { count = n; waits = b }) symbols).count ≡ n + pair_count left right (s ∷ symbols)
unfolding begun
mutual_step left right n s symbols rest true h = rest n true ∙ ap (λ (z : ℕ). n + pair_count left right (z ∷ symbols)) (sym (eqb-true s left h))
mutual_step left right n s symbols rest false h = rest n false ∙ ap (λ (z : ℕ). n + z) (sym (begins_none left right s symbols h))

open_step : (left right n s : ℕ) (symbols : List ℕ) →
    ((m : ℕ) (waiting : Bool) → (tally left right (record { count = m; waits = waiting }) symbols).count ≡ m + pair_count left right (begun left waiting symbols)) →
    (b : Bool) → (s == right) ≡ b → (tally left right (cond b (record { count = n + 1; waits = false }) (record { count = n; waits = s == left })) symbols).count ≡ n + pair_count left right (left ∷ s ∷ symbols)
unfolding begun
open_step left right n s symbols rest true h =
    let here : pair_count left right (left ∷ s ∷ symbols) ≡ suc (pair_count left right symbols) = pair_count-here left right left s symbols (rw (eq-eqb left left refl, h) refl) in
    let more : (tally left right (record { count = n + 1; waits = false }) symbols).count ≡ n + 1 + pair_count left right symbols = rest (n + 1) false in
    more ∙ rw here (omega arith)
open_step left right n s symbols rest false h =
    let later : pair_count left right (left ∷ s ∷ symbols) ≡ pair_count left right (s ∷ symbols) = pair_count-later left right left s symbols (rw (eq-eqb left left refl, h) refl) in
    mutual_step left right n s symbols rest (s == left) refl ∙ ap (λ (z : ℕ). n + z) (sym later)

-- The tally counts the pairs of the list, with a left symbol before it if the tally waits.
tally-from : (left right : ℕ) (symbols : List ℕ) (n : ℕ) (waiting : Bool) → (tally left right (record { count = n; waits = waiting }) symbols).count ≡ n + pair_count left right (begun left waiting symbols)
unfolding begun
tally-from left right [] n true = omega arith
tally-from left right [] n false = omega arith
tally-from left right (s ∷ symbols) n true = open_step left right n s symbols (λ m o. tally-from left right symbols m o) (s == right) refl
tally-from left right (s ∷ symbols) n false = mutual_step left right n s symbols (λ m o. tally-from left right symbols m o) (s == left) refl

abbrev pub none_yet : Tally
none_yet = record { count = 0; waits = false }

-- The tally over a whole list is the count of the pair.
pub tally-pair_count : (left right : ℕ) (symbols : List ℕ) → (tally left right none_yet symbols).count ≡ pair_count left right symbols
unfolding begun
tally-pair_count left right symbols = let e : (tally left right none_yet symbols).count ≡ 0 + pair_count left right symbols = tally-from left right symbols 0 false in omega (arith, e)
