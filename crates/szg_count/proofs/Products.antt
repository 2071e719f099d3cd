-- Products of ways: of the remaining ones, and of those at positions before one.
use Rattle.std.proofs.Common.{◌≡◌, ℕ, zero, suc, ◌+◌, ◌*◌, ◌<◌, ◌≤◌, List, [], ◌∷◌, length, get_or, drop, refl, Bool, true, false, cond, arith}
use Rattle.std.specs.Prelude.{nat_lt}
use Rattle.std.proofs.Math.Nat.{mul-le-mul, mul-le-mul_left}
use Rattle.std.proofs.lemmas.List.{drop_more}
use Rattle.szg_count.specs.Groups.{product}
use Rattle.szg_count.specs.Steps.{ArePositive}
use Rattle.szg_count.proofs.Radix.{ways_below}

pub product-positive : (ws : List ℕ) → ArePositive ws → 0 < product ws
product-positive [] h = omega arith
product-positive (w ∷ ws) h = let p = product-positive ws h.1 in let q = h.0 in
    let m : 1 * 1 ≤ w * product ws = mul-le-mul q p in omega (arith, m)

pub ArePositive-drop : (i : ℕ) (ws : List ℕ) → ArePositive ws → ArePositive (drop i ws)
ArePositive-drop zero ws h = h
ArePositive-drop (suc i) [] h = tt
ArePositive-drop (suc i) (w ∷ ws) h = ArePositive-drop i ws h.1

pub ways_below-positive : (p : ℕ) (ps ws : List ℕ) → ArePositive ws → 0 < ways_below p ps ws
ways_below-positive p [] ws h = omega arith
ways_below-positive p (q ∷ ps) [] h = omega arith
ways_below-positive p (q ∷ ps) (w ∷ ws) h = taken (nat_lt q p) (ways_below-positive p ps ws h.1) where
  taken : (b : Bool) → 0 < ways_below p ps ws → 0 < cond b w 1 * ways_below p ps ws
  taken true k = let q = h.0 in let m : 1 * 1 ≤ w * ways_below p ps ws = mul-le-mul q k in omega (arith, m)
  taken false k = omega (arith, k)

pub ways_below-le : (p : ℕ) (ps ws : List ℕ) → ArePositive ws → ways_below p ps ws ≤ product ws
ways_below-le p [] ws h = product-positive ws h
ways_below-le p (q ∷ ps) [] h = omega arith
ways_below-le p (q ∷ ps) (w ∷ ws) h = mul-le-mul (taken (nat_lt q p)) (ways_below-le p ps ws h.1) where
  taken : (b : Bool) → cond b w 1 ≤ w
  taken true = omega arith
  taken false = h.0

-- the item at i, and those after it
pub ways_below-drop : (p i : ℕ) (ps ws : List ℕ) → i < length ps → length ws ≡ length ps →
    ways_below p (drop i ps) (drop i ws) ≡ cond (nat_lt (get_or ps i 0) p) (get_or ws i 0) 1 * ways_below p (drop (i + 1) ps) (drop (i + 1) ws)
ways_below-drop p i ps ws h l = rw (drop_more ps i 0 h, drop_more ws i 0 (omega arith)) refl

pub product-drop : (i : ℕ) (ws : List ℕ) → i < length ws → product (drop i ws) ≡ get_or ws i 0 * product (drop (i + 1) ws)
product-drop i ws h = rw (drop_more ws i 0 h) refl

-- a factor of a product is at most the product, if the other factor is not 0
pub factor_below : (a b c m : ℕ) → a * b ≡ c → 0 < b → c < m → a < m
factor_below a b c m e h k = let s : a * 1 ≤ a * b = mul-le-mul_left a h in omega (arith, s)
