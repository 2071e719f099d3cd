-- The lengths of lists whose items have lists of their own.
use Rattle.std.proofs.Common.{◌≡◌, ℕ, ◌+◌, List, [], ◌∷◌, ◌++◌, length, map, refl, ap, arith}
use Rattle.std.specs.Prelude.{sum}
use Rattle.std.specs.List.{sum_by}
use Rattle.std.proofs.lemmas.List.{length_push}
use Rattle.std.proofs.lemmas.List.Sums.{sum_by-cons, sum_by_push}

pub none_yet : {X : Type 0} (f : X → ℕ) (xs : List X) → xs ≡ [] → length xs + sum_by f xs ≡ 0
none_yet f xs e = omega (arith, ap length e, ap (sum_by f) e)

pub one_more : {X : Type 0} (f : X → ℕ) (xs ys : List X) (x : X) → ys ≡ xs ++ x ∷ [] → length ys + sum_by f ys ≡ length xs + sum_by f xs + (1 + f x)
one_more f xs ys x e = omega (arith, ap length e, length_push xs x, ap (sum_by f) e, sum_by_push f xs x)

-- the sum over the views of the items
pub sum_shown : {X Y : Type 0} (f : Y → ℕ) (g : X → Y) (xs : List X) → sum (map f (map g xs)) ≡ sum_by (λ x. f (g x)) xs
sum_shown f g [] = refl
sum_shown f g (x ∷ xs) = omega (arith, sum_by-cons (λ (n : ℕ). n) (f (g x)) (map f (map g xs)), sum_by-cons (λ x. f (g x)) x xs, sum_shown f g xs)
