-- The class of an entry is the probed one.
use Rattle.std.proofs.Common.{◌≡◌, List, refl, sym, ap, ◌∙◌, inl, inr, Option, Some, None}
use Rattle.std.specs.Prelude.{◌||◌, option_map}
use Rattle.std.specs.Option.{option_and_then}
use Rattle.std.proofs.lemmas.Bool.{cases_Bool}
use Rattle.szg_game.specs.Game.{Move as Step}
use Rattle.szg_game.specs.Certified.{is_won}
use Rattle.szg_game.specs.declared.Class.{Class}
use Rattle.szg_game.specs.declared.Entry.{Entry}
use Rattle.szg_chess.specs.Position.{Position}
use Rattle.szg_chess.specs.Moves.{has_no_move}
use Rattle.szg_probe.specs.Probing.{probed}
use Rattle.szg_verify.specs.Entries.{StoredTables, is_drawn, is_one_ply, entry_by_distance, near_as, near_entry, near_after, steps_to, entry_before, far_as, near_or_far, plain_entry, quiet_moves}

mapped_class : {A : Type 0} (f : A → Entry) (k : Class) → ((x : A) → (f x).class ≡ k) → (o : Option A) (e : Entry) → option_map f o ≡ Some e → e.class ≡ k
mapped_class f k each None e is = cc
mapped_class f k each (Some x) e is = let same : f x ≡ e = cc in sym (ap (λ (y : Entry). y.class) same) ∙ each x

known_class : (f : Class → Option Entry) → ((k : Class) (e : Entry) → f k ≡ Some e → e.class ≡ k) → (o : Option Class) (e : Entry) → option_and_then f o ≡ Some e → o ≡ Some e.class
known_class f each None e is = cc
known_class f each (Some k) e is = ap (λ (j : Class). Some j) (sym (each k e is))

near_class : (tables : StoredTables) (p : Position) (k : Class) (e : Entry) → near_as tables p k ≡ Some e → e.class ≡ k
near_class tables p k e is = elim (cases_Bool (is_drawn k || has_no_move p)) [
  | inl t ↦ (let h = rw t at is in let same : record { class = k; lower = 0; upper = 0 } ≡ e = cc in sym (ap (λ (y : Entry). y.class) same))
  | inr f ↦ elim (cases_Bool (is_one_ply tables.classes k p)) [
    | inl t ↦ (let h = rw (f, t) at is in let same : record { class = k; lower = 1; upper = 1 } ≡ e = cc in sym (ap (λ (y : Entry). y.class) same))
    | inr g ↦ (let h = rw (f, g) at is in mapped_class (entry_by_distance k) k (λ d. refl) (tables.distances p.placed_men p.mover k) e h)
  ]
]

before_class : (k : Class) (next : List (Step Entry)) → (entry_before k next).class ≡ k
unfolding entry_before
before_class k next = elim (cases_Bool (is_won k)) [ inl t ↦ rw t refl | inr f ↦ rw f refl ]

far_class : (tables : StoredTables) (p : Position) (k : Class) (e : Entry) → far_as tables p k ≡ Some e → e.class ≡ k
far_class tables p k e is = mapped_class (entry_before k) k (before_class k) (steps_to (near_after tables p) p (quiet_moves p)) e is

near_entry_class : (tables : StoredTables) (p : Position) (e : Entry) → near_entry tables p ≡ Some e → probed tables.classes p ≡ Some e.class
unfolding near_entry
near_entry_class tables p e is = known_class (near_as tables p) (near_class tables p) (probed tables.classes p) e is

near_or_far_class : (tables : StoredTables) (p : Position) (o : Option Entry) → near_entry tables p ≡ o → (e : Entry) → near_or_far tables p o ≡ Some e → probed tables.classes p ≡ Some e.class
near_or_far_class tables p None near e is = known_class (far_as tables p) (far_class tables p) (probed tables.classes p) e is
near_or_far_class tables p (Some f) near e is = near_entry_class tables p e (near ∙ is)

pub plain_class : (tables : StoredTables) (p : Position) (e : Entry) → plain_entry tables p ≡ Some e → probed tables.classes p ≡ Some e.class
unfolding plain_entry
plain_class tables p e is = near_or_far_class tables p (near_entry tables p) refl e is
