-- Zeroing moves without pawns: captures alone.
use Rattle.std.proofs.Common.{◌≡◌, ℕ, List, [], ◌∷◌, refl, sym, ap, ◌∙◌, Bool, false, inl, inr}
use Rattle.std.specs.Prelude.{◌||◌, not, filter}
use Rattle.std.specs.List.{list_any, list_all}
use Rattle.std.proofs.lemmas.Bool.{cases_Bool, or_parts}
use Rattle.szg_values.specs.Men.{is_man}
use Rattle.szg_values.specs.Placement.{PlacedMan}
use Rattle.szg_values.specs.declared.Color.{Color}
use Rattle.szg_values.specs.declared.Man.TheVariants.{Pawn}
use Rattle.szg_game.specs.declared.Class.{Class}
use Rattle.szg_chess.specs.declared.Move.{Move}
use Rattle.szg_chess.specs.Position.{Position, is_on}
use Rattle.szg_chess.specs.Moves.{has_quiet_move, is_capture, is_zeroing, legal_moves}
use Rattle.szg_probe.specs.Probing.{StoredClasses}
use Rattle.szg_probe.proofs.Moves.{none_fails}
use Rattle.szg_verify.specs.Entries.{wins_at_once}
use Rattle.szg_verify.specs.Memory.{holds_pawn}

none_on : (color : Color) (men : List PlacedMan) (square : ℕ) → holds_pawn men ≡ false → is_on Pawn color men square ≡ false
none_on color [] square h = refl
none_on color (s ∷ men) square h = let parts = or_parts (is_man Pawn s.0) (holds_pawn men) h in rw parts.0 (none_on color men square parts.1)

pub captures_alone : (p : Position) (m : Move) → holds_pawn p.placed_men ≡ false → is_zeroing p m ≡ is_capture p m
captures_alone p m none = let off = none_on p.mover p.placed_men m.from none in rw off refl

any_filtered : {A : Type 0} (c test : A → Bool) (xs : List A) → ((x : A) → c x ≡ false → test x ≡ false) → list_any test (filter c xs) ≡ list_any test xs
any_filtered c test [] passed = refl
any_filtered c test (x ∷ xs) passed = elim (cases_Bool (c x)) [
  | inl t ↦ rw t (ap (λ (b : Bool). test x || b) (any_filtered c test xs passed))
  | inr f ↦ let off = passed x f in rw (f, off) (any_filtered c test xs passed)
]

all_alike : {A : Type 0} (f g : A → Bool) (xs : List A) → ((x : A) → f x ≡ g x) → list_all f xs ≡ list_all g xs
all_alike f g [] same = refl
all_alike f g (x ∷ xs) same = let here = same x in let rest = all_alike f g xs same in rw (here, rest) refl

-- a zeroing move that keeps a win is among the captures
pub won_by_captures : (classes : StoredClasses) (k : Class) (p : Position) (captures : List Move) → holds_pawn p.placed_men ≡ false → captures ≡ filter (is_capture p) (legal_moves p) →
    list_any (wins_at_once classes k p) captures ≡ list_any (wins_at_once classes k p) (legal_moves p)
won_by_captures classes k p captures none same =
    ap (list_any (wins_at_once classes k p)) same
    ∙ any_filtered (is_capture p) (wins_at_once classes k p) (legal_moves p) (λ m quiet. let off = captures_alone p m none ∙ quiet in rw off refl)

-- each move is zeroing if there is no quiet one
pub zeroing_by_captures : (p : Position) → holds_pawn p.placed_men ≡ false → not (has_quiet_move p) ≡ list_all (is_zeroing p) (legal_moves p)
zeroing_by_captures p none =
    none_fails (is_capture p) (legal_moves p) ∙ all_alike (is_capture p) (is_zeroing p) (legal_moves p) (λ m. sym (captures_alone p m none))
