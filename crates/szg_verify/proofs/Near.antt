-- The entry of a position from its class and the stored number.
use Rattle.std.proofs.Common.{◌≡◌, refl, sym, ap, ◌∙◌, true, false, Option, Some, None}
use Rattle.std.specs.Prelude.{◌||◌, option_map}
use Rattle.std.specs.Option.{option_and_then}
use Rattle.szg_game.specs.declared.Class.{Class}
use Rattle.szg_game.specs.declared.Entry.{Entry}
use Rattle.szg_chess.specs.Position.{Position}
use Rattle.szg_chess.specs.Moves.{has_no_move}
use Rattle.szg_probe.specs.Probing.{StoredClasses, probed}
use Rattle.szg_verify.specs.declared.Distance.{Distance}
use Rattle.szg_verify.specs.Entries.{StoredTables, StoredDistances, tables_of, is_drawn, is_one_ply, entry_by_distance, near_entry, near_or_far, far_as, plain_entry}

module _ (classes : StoredClasses) (distances : StoredDistances) (p : Position) (k : Class) (is : probed classes p ≡ Some k) where
  pub near_ended : (is_drawn k || has_no_move p) ≡ true → Some (record { class = k; lower = 0; upper = 0 }) ≡ near_entry (tables_of classes distances) p
  unfolding near_entry
  near_ended ended = rw (is, ended) refl

  pub near_one_ply : (is_drawn k || has_no_move p) ≡ false → is_one_ply classes k p ≡ true → Some (record { class = k; lower = 1; upper = 1 }) ≡ near_entry (tables_of classes distances) p
  unfolding near_entry
  near_one_ply on one = rw (is, on, one) refl

  pub near_stored : (is_drawn k || has_no_move p) ≡ false → is_one_ply classes k p ≡ false → (o : Option Distance) → distances p.placed_men p.mover k ≡ o → option_map (entry_by_distance k) o ≡ near_entry (tables_of classes distances) p
  unfolding near_entry
  near_stored on more o stored = rw (is, on, more) (ap (option_map (entry_by_distance k)) (sym stored))

module _ (tables : StoredTables) (p : Position) where
  pub plain_near : (e : Entry) → Some e ≡ near_entry tables p → Some e ≡ plain_entry tables p
  unfolding plain_entry
  plain_near e near = ap (near_or_far tables p) near

  pub plain_far : (k : Class) → None ≡ near_entry tables p → probed tables.classes p ≡ Some k → far_as tables p k ≡ plain_entry tables p
  unfolding plain_entry
  plain_far k near is = sym (ap (option_and_then (far_as tables p)) is) ∙ ap (near_or_far tables p) near
