-- The words of an argument, and facts of a result.
use Rattle.std.proofs.Common.{◌≡◌, ℕ, List, [], map, Option, Some, None, option_map, Bor, Result, Ok, Err, IfOk, IfErr, refl}
use Rattle.std.specs.Prelude.{unwrap_or}

-- the texts of words that may be missing
pub texts_or : (words : Option (Bor (List (Bor (List ℕ))))) (none : Bor (List (Bor (List ℕ)))) (texts : Option (List (List ℕ))) →
    option_map (λ (s : Bor (List (Bor (List ℕ)))). map (λ (v : Bor (List ℕ)). v.now) s.now) words ≡ texts → none.now ≡ [] →
    map (λ (v : Bor (List ℕ)). v.now) (unwrap_or words none).now ≡ unwrap_or texts []
texts_or None none texts stated empty = rw (← stated, empty) refl
texts_or (Some words) none texts stated empty = rw (← stated) refl

-- what follows from a fact of a result holds of it
pub if_ok_then : {A E : Type 0} {P Q : A → Type 0} (r : Result A E) → ((a : A) → P a → Q a) → IfOk r P → IfOk r Q
if_ok_then (Ok a) f p = f a p
if_ok_then (Err e) f p = p

pub if_err_then : {A E : Type 0} {P Q : E → Type 0} (r : Result A E) → ((e : E) → P e → Q e) → IfErr r P → IfErr r Q
if_err_then (Ok a) f p = p
if_err_then (Err e) f p = f e p
