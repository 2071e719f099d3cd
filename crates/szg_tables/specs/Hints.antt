-- Which table was found before. No public contract speaks of these.
use Rattle.std.specs.Prelude.{ℕ, suc, ◌≡◌, ◌<◌, true, List, length, slice_get, Some}
use Rattle.std.specs.List.{All, position_or_len}
use Rattle.szg_values.specs.Material.{Sides}
use Rattle.szg_values.specs.declared.Kind.{Kind}
use Rattle.szg_tables.specs.Opened.{Opened, is_for}

-- of all tables of its kind and material, the one with this number is the first
pub record IsFirst {A : Type 0} (opened : A → Opened) (tables : List A) (n : ℕ) : Type 0 where
  pub below : n < length tables
  pub first : (kind : Kind) (sides : Sides) (t : A) → slice_get tables n ≡ Some t → is_for kind sides (opened t).index ≡ true → position_or_len (λ u. is_for kind sides (opened u).index) tables ≡ n

-- a hint is 0, or one more than the number of such a table
abbrev pub IsHint : {A : Type 0} → (A → Opened) → List A → ℕ → Type 0
IsHint opened tables hint = (n : ℕ) → hint ≡ suc n → IsFirst opened tables n

abbrev pub AreHints : {A : Type 0} → (A → Opened) → List A → List ℕ → Type 0
AreHints opened tables hints = All (IsHint opened tables) hints
