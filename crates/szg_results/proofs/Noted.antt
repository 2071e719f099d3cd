-- Values that were not fetched, and count as draws or as the number 0.
use Rattle.std.proofs.Common.{◌≡◌, List, Option, Some, None, refl, subst}
use Rattle.std.specs.Prelude.{unwrap_or}
use Rattle.szg_values.specs.Placement.{PlacedMan}
use Rattle.szg_values.specs.declared.Color.{Color}
use Rattle.szg_values.specs.declared.Kind.{Kind}
use Rattle.szg_values.specs.declared.Kind.TheVariants.{Wdl}
use Rattle.szg_probe.specs.Probing.{StoredClasses}
use Rattle.szg_probe.specs.Distances.{StoredNumbers}
use Rattle.szg_tables.specs.Stored.{IsMissing, LacksKind}
use Rattle.szg_tables.specs.declared.Missing.{Missing}
use Rattle.szg_tables.specs.declared.fetched.FetchedTable.{FetchedTable}

module _ {A : Type 0} (f : List FetchedTable → Option A) (other : A) (tables' tables : List FetchedTable) (same : tables' ≡ tables) where
  pub known : (x : A) → f tables' ≡ Some x → Some (unwrap_or (f tables) other) ≡ Some x
  known x is = subst (λ (ts : List FetchedTable). Some (unwrap_or (f ts) other) ≡ Some x) same (rw is refl)

  pub unknown : f tables' ≡ None → Some (unwrap_or (f tables) other) ≡ Some other
  unknown is = subst (λ (ts : List FetchedTable). Some (unwrap_or (f ts) other) ≡ Some other) same (rw is refl)

pub no_class : (classes : StoredClasses) (numbers : StoredNumbers) (missing : Missing) (men : List PlacedMan) (mover : Color) → missing.kind ≡ Wdl → IsMissing classes numbers missing men mover → classes men mover ≡ None
no_class classes numbers missing men mover is h = subst (λ (kind : Kind). LacksKind kind classes numbers men mover) is h.1
