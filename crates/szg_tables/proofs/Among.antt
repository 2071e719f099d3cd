-- What is known in part is known in whole.
use Rattle.std.proofs.Common.{◌≡◌, refl, Bool, true, false, Option, Some, None, option_map}
use Rattle.std.specs.Prelude.{option_and_then, if◌then◌else◌}

-- what the first knows is what the second knows
abbrev pub Among : {A : Type 0} → Option A → Option A → Type 0
Among {A} a b = (x : A) → a ≡ Some x → b ≡ Some x

pub map_among : {A B : Type 0} (f : A → B) (a b : Option A) → Among a b → Among (option_map f a) (option_map f b)
map_among f None b h x e = let no : None ≡ Some x = e in absurd (cc no)
map_among f (Some y) b h x e = rw (h y refl) e

pub then_among : {A B : Type 0} (f g : A → Option B) (a b : Option A) → Among a b → ((y : A) → Among (f y) (g y)) → Among (option_and_then f a) (option_and_then g b)
then_among f g None b h each x e = let no : None ≡ Some x = e in absurd (cc no)
then_among f g (Some y) b h each x e = rw (h y refl) (each y x e)

pub if_among : {A : Type 0} (c : Bool) (a b u v : Option A) → Among a u → Among b v → Among (if c then a else b) (if c then u else v)
if_among true a b u v h g = h
if_among false a b u v h g = g
