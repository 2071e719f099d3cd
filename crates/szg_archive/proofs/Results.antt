-- What follows from a fact of a result.
use Rattle.std.proofs.Common.{IfOk, Result, Ok, Err}

-- what follows from a fact of a result holds of it
pub if_ok_then : {A E : Type 0} {P Q : A → Type 0} (r : Result A E) → ((a : A) → P a → Q a) → IfOk r P → IfOk r Q
if_ok_then (Ok a) f p = f a p
if_ok_then (Err e) f p = p
