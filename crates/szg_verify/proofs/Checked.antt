-- The test of a position, from the entries that it takes.
use Rattle.std.proofs.Common.{◌≡◌, ℕ, List, [], ◌∷◌, map, refl, sym, ap, ◌∙◌, subst, Bool, true, false, inl, inr, Option, Some, None}
use Rattle.std.specs.Prelude.{◌==◌, option_map, unwrap_or, IsSome}
use Rattle.std.specs.Option.{option_and_then}
use Rattle.std.proofs.lemmas.Bool.{or_parts, and_right}
use Rattle.szg_values.specs.Placement.{PlacedMan}
use Rattle.szg_game.specs.declared.Class.{Class}
use Rattle.szg_game.proofs.Lists.{IsIn, contains_in}
use Rattle.szg_chess.specs.declared.Move.{Move}
use Rattle.szg_chess.proofs.AfterMove.{after_is_position}
use Rattle.szg_probe.specs.Probing.{probed}
use Rattle.szg_probe.proofs.WithoutRight.{position_without}
use Rattle.szg_probe.proofs.Beside.{map_map}
use Rattle.szg_game.specs.Game.{Move as Step}
use Rattle.szg_game.specs.Certified.{accepts, accepts_at, successors_of}
use Rattle.szg_game.specs.declared.Entry.{Entry}
use Rattle.szg_chess.specs.Position.{Position, IsPosition}
use Rattle.szg_chess.specs.Moves.{after, legal_moves, is_check, is_zeroing, is_pawn_on, is_capture}
use Rattle.szg_probe.specs.Chess.{chess, step_of, ply_limit, ChessClass, without_right}
use Rattle.szg_verify.specs.Entries.{StoredTables, plain_entry, steps_to, entry_as, entry_of, entry_at, with_passing, missing}
use Rattle.szg_verify.specs.Verified.{class_alone, entry_after, agrees, is_checked, IsClosed, IsChecked, IsVerified}
use Rattle.szg_verify.proofs.Classes.{plain_class}
use Rattle.szg_verify.proofs.Passing.{entry_plain}
use Rattle.szg_verify.proofs.Probed.{probed_class}
use Rattle.szg_verify.proofs.Chosen.{ArePlainThere, passing_class}
use Rattle.szg_verify.proofs.Alike.{IsAlike, AreAlike, accepts_alike}
use Rattle.szg_chess.specs.Attacks.{ranks_apart}

module _ (tables : StoredTables) (p : Position) where
  abbrev pub all_steps : Option (List (Step Entry))
  all_steps = steps_to (entry_after tables p) p (legal_moves p)

  pub checked_with : (e : Entry) (next : List (Step Entry)) → plain_entry tables p ≡ Some e → all_steps ≡ Some next → accepts ply_limit e (is_check p) next ≡ is_checked tables p
  unfolding is_checked
  checked_with e next there steps = sym (ap (λ (o : Option Entry). agrees (is_check p) o all_steps) there ∙ ap (agrees (is_check p) (Some e)) steps)

  pub checked_no_entry : plain_entry tables p ≡ None → false ≡ is_checked tables p
  unfolding is_checked
  checked_no_entry none = sym (ap (λ (o : Option Entry). agrees (is_check p) o all_steps) none)

  pub checked_no_steps : (e : Entry) → plain_entry tables p ≡ Some e → all_steps ≡ None → false ≡ is_checked tables p
  unfolding is_checked
  checked_no_steps e there none = sym (ap (λ (o : Option Entry). agrees (is_check p) o all_steps) there ∙ ap (agrees (is_check p) (Some e)) none)

  -- what passes has an entry and all steps
  pub checked_parts : is_checked tables p ≡ true → (e : Entry) × (plain_entry tables p ≡ Some e) × (next : List (Step Entry)) × (all_steps ≡ Some next) × (accepts ply_limit e (is_check p) next ≡ true)
  unfolding is_checked
  checked_parts h = go (plain_entry tables p) refl all_steps refl h
    where
      go : (o : Option Entry) → plain_entry tables p ≡ o → (steps : Option (List (Step Entry))) → all_steps ≡ steps → agrees (is_check p) o steps ≡ true →
          (e : Entry) × (plain_entry tables p ≡ Some e) × (next : List (Step Entry)) × (all_steps ≡ Some next) × (accepts ply_limit e (is_check p) next ≡ true)
      go None a steps b t = cc
      go (Some e) a None b t = cc
      go (Some e) a (Some next) b t = (e, a, next, b, t)

-- ---- steps

-- a move that is not zeroing leaves no right to capture en passant
quiet_no_right : (p : Position) (m : Move) → is_zeroing p m ≡ false → (after p m).en_passant ≡ None
unfolding after
quiet_no_right p m quiet = rw (and_right (ranks_apart m.from m.to == 2) (is_pawn_on p m.from) (or_parts (is_pawn_on p m.from) (is_capture p m) quiet).0) refl

step_parts : (o : Option Entry) (z : Bool) (rest : Option (List (Step Entry))) (next : List (Step Entry)) → option_and_then (λ e. option_map (λ tail. (e, z) ∷ tail) rest) o ≡ Some next →
    (e : Entry) × (o ≡ Some e) × (tail : List (Step Entry)) × (rest ≡ Some tail) × ((e, z) ∷ tail ≡ next)
step_parts None z rest next h = cc
step_parts (Some e) z None next h = cc
step_parts (Some e) z (Some tail) next h = (e, refl, tail, refl, cc)

alone_parts : (o : Option Class) (e : Entry) → option_map class_alone o ≡ Some e → o ≡ Some e.class
alone_parts None e h = cc
alone_parts (Some k) e h = let same : class_alone k ≡ e = cc in ap (λ (f : Entry). Some f.class) same

module _ (tables : StoredTables) (covers : List PlacedMan → Bool) (closed : IsClosed covers) (there : ArePlainThere tables covers) where
  -- each covered position has an entry, of the probed class
  pub record HasEntry (p : Position) : Type 0 where
    pub entry : Entry
    pub is : entry_of tables p ≡ Some entry
    pub class : probed tables.classes p ≡ Some entry.class

  has_entry_as : (p : Position) → IsPosition p → covers p.placed_men ≡ true → (o : Option ℕ) → p.en_passant ≡ o → HasEntry p
  unfolding entry_of
  has_entry_as p position covered None none =
      let r = there p position none covered in
      record { entry = r.0; is = entry_plain tables p none ∙ r.1; class = plain_class tables p r.0 r.1 }
  has_entry_as p position covered (Some square) right =
      let r = there (without_right p) (position_without p position) refl covered in
      record {
        entry = with_passing tables p r.0;
        is = ap (entry_as tables p) right ∙ ap (option_map (with_passing tables p)) r.1;
        class = passing_class tables covers closed there p position covered r.0 r.1;
      }

  pub has_entry : (p : Position) → IsPosition p → covers p.placed_men ≡ true → HasEntry p
  has_entry p position covered = has_entry_as p position covered p.en_passant refl

  entry_at_is : (p : Position) (e : Entry) → entry_of tables p ≡ Some e → e ≡ entry_at tables p
  entry_at_is p e is = ap (λ (o : Option Entry). unwrap_or o missing) (sym is)

  module _ (p : Position) (position : IsPosition p) (covered : covers p.placed_men ≡ true) where
    abbrev led : Move → Step Entry
    led m = (entry_at tables (after p m), is_zeroing p m)

    step_as : (m : Move) → IsIn (legal_moves p) m → (e : Entry) → entry_after tables p m ≡ Some e → (b : Bool) → is_zeroing p m ≡ b → (e.class ≡ (led m).0.class) × (b ≡ false → e ≡ (led m).0)
    unfolding entry_after
    step_as m i e is true zeroing =
        let held = contains_in (legal_moves p) m i in
        let h = has_entry (after p m) (after_is_position p m position held) (closed p m position covered held) in
        let alone = alone_parts (probed tables.classes (after p m)) e (rw zeroing at is) in
        let both : Some e.class ≡ Some h.entry.class = sym alone ∙ h.class in
        let same : e.class ≡ h.entry.class = cc in
        (same ∙ ap (λ (f : Entry). f.class) (entry_at_is (after p m) h.entry h.is), λ no. cc)
    step_as m i e is false quiet =
        let plain = rw quiet at is in
        let same = entry_at_is (after p m) e (entry_plain tables (after p m) (quiet_no_right p m quiet) ∙ plain) in
        (ap (λ (f : Entry). f.class) same, λ no. same)

    step_alike : (m : Move) → IsIn (legal_moves p) m → (e : Entry) → entry_after tables p m ≡ Some e → IsAlike (e, is_zeroing p m) (led m)
    step_alike m i e is = let r = step_as m i e is (is_zeroing p m) refl in record { zeroing = refl; class = r.0; entry = r.1 }

    steps_alike : (ms : List Move) → ((m : Move) → IsIn ms m → IsIn (legal_moves p) m) → (next : List (Step Entry)) → steps_to (entry_after tables p) p ms ≡ Some next → AreAlike next (map led ms)
    unfolding steps_to
    steps_alike [] legal next h = let none : [] ≡ next = cc in subst (λ (ns : List (Step Entry)). AreAlike ns []) none tt
    steps_alike (m ∷ ms) legal next h =
        let r = step_parts (entry_after tables p m) (is_zeroing p m) (steps_to (entry_after tables p) p ms) next h in
        subst (λ (ns : List (Step Entry)). AreAlike ns (map led (m ∷ ms))) r.4 (step_alike m (legal m (inl refl)) r.0 r.1, steps_alike ms (λ n i. legal n (inr i)) r.2 r.3)

    pub accepted : p.en_passant ≡ None → is_checked tables p ≡ true → accepts_at chess ply_limit (entry_at tables) p ≡ true
    accepted none checked =
        let parts = checked_parts tables p checked in
        let e = parts.0 in
        let next = parts.2 in
        let alike = steps_alike (legal_moves p) (λ m i. i) next parts.3 in
        let here : e ≡ entry_at tables p = entry_at_is p e (entry_plain tables p none ∙ parts.1) in
        let steps : successors_of chess (entry_at tables) p ≡ map led (legal_moves p) = map_map (step_of p) (λ (x : Position × Bool). (entry_at tables x.0, x.1)) (legal_moves p) in
        ap (accepts ply_limit (entry_at tables p) (is_check p)) steps
        ∙ (sym (accepts_alike ply_limit (entry_at tables p) (is_check p) next (map led (legal_moves p)) alike)
        ∙ (ap (λ (f : Entry). accepts ply_limit f (is_check p) next) (sym here) ∙ parts.4))

  -- the positions pass if those without an en passant square are accepted
  pub passing : ((p : Position) → IsPosition p → p.en_passant ≡ None → covers p.placed_men ≡ true → accepts_at chess ply_limit (entry_at tables) p ≡ true) → IsVerified tables covers
  passing each = record {
    closed = closed;
    passes = λ p position none covered. record {
      there = (let h = has_entry p position covered in subst (λ (o : Option Entry). IsSome o) (sym h.is) refl);
      accepted = each p position none covered;
    };
  }

-- ---- each position was checked

module _ (tables : StoredTables) (covers : List PlacedMan → Bool) (ok : IsChecked tables covers) where
  checked_there : ArePlainThere tables covers
  checked_there q position none covered = let parts = checked_parts tables q (ok.checked q position none covered) in (parts.0, parts.1)

  pub verified : IsVerified tables covers
  verified = passing tables covers ok.closed checked_there (λ p position none covered. accepted tables covers ok.closed checked_there p position covered none (ok.checked p position none covered))

  pub checked_true : (p : Position) → IsPosition p → covers p.placed_men ≡ true → (k : Class) × (probed tables.classes p ≡ Some k) × ChessClass p k
  checked_true p position covered =
      let h = has_entry tables covers ok.closed checked_there p position covered in
      (h.entry.class, h.class, probed_class tables covers verified p position covered h.entry.class h.class)
