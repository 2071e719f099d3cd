-- The materials of names.
use denote.Ref.{Bor}
use Rattle.std.proofs.Common.{ℕ, ◌≡◌, ◌+◌, ◌<◌, ◌≤◌, List, [], ◌∷◌, length, get_or, take, refl, sym, subst, arith, false, Contains, Option, Some, None}
use Rattle.std.specs.Prelude.{Ok, Err, IsSomeAnd, OnOk, Result, is_err}
use Rattle.std.proofs.lemmas.List.{take_more}
use Rattle.std.proofs.lemmas.List.Elements.{All-push}
use Rattle.szg_values.specs.Material.{Sides, parsed}
use Rattle.szg_verified.specs.Logs.{IsShardText}
use Rattle.szg_verified.specs.Runs.{AreNamed, IsNamedIn}

pub done : {T E : Type 0} {P : Type 0} (r : Result T E) → is_err r ≡ false → OnOk r P → P
done (Ok x) e p = p
done (Err x) e p = absurd (cc e)

pub more_named : (names : List (Bor (List ℕ))) (old new : List Sides) → ((s : Sides) → Contains old s → Contains new s) → AreNamed names old → AreNamed names new
more_named names old new kept named k name within = let n = named k name within in (n.0, n.1, kept n.0 n.2)

pub one_more_named : (names : List (Bor (List ℕ))) (old new : List Sides) (i : ℕ) (m : Sides) (d : Bor (List ℕ)) → i < length names → parsed (get_or names i d).now ≡ Ok m → Contains new m → ((s : Sides) → Contains old s → Contains new s) →
    AreNamed (take i names) old → AreNamed (take (i + 1) names) new
one_more_named names old new i m d less is held kept named =
    subst (λ (ns : List (Bor (List ℕ))). AreNamed ns new) (sym (take_more names i d less)) (All-push (IsNamedIn new) (take i names) (get_or names i d) (more_named (take i names) old new kept named) (m, is, held))

-- a shard's text
pub shard_named : (given : Option (Bor (List ℕ))) (text : List ℕ) (before shards : ℕ) → IsSomeAnd given (λ t. t.now ≡ text) → IsShardText text before shards → IsSomeAnd given (λ t. IsShardText t.now before shards)
shard_named None text before shards is named = absurd is
shard_named (Some t) text before shards is named = subst (λ (bytes : List ℕ). IsShardText bytes before shards) (sym is) named

-- one name, if there are one at least and less than two
pub alone : (names : List (Bor (List ℕ))) (d : Bor (List ℕ)) → 1 ≤ length names → length names < 2 → names ≡ get_or names 0 d ∷ []
alone [] d least most = absurd (omega (arith, least))
alone (name ∷ []) d least most = refl
alone (name ∷ other ∷ names) d least most = absurd (omega (arith, most))
