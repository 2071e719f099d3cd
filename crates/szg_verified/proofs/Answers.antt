-- An answer of true tables is true.
use Rattle.std.proofs.Common.{ℕ, ◌≡◌, Option, Some, None, ap, subst}
use Rattle.std.specs.Prelude.{option_map}
use Rattle.szg_game.specs.declared.Class.{Class}
use Rattle.szg_chess.specs.Position.{Position}
use Rattle.szg_probe.specs.Chess.{ChessClass}
use Rattle.szg_probe.specs.Probing.{StoredClasses, probed}
use Rattle.szg_probe.specs.Distances.{StoredNumbers, probed_distance, distance_of}
use Rattle.szg_tables.specs.Stored.{stored_classes}
use Rattle.szg_verified.specs.Verified.{AnswersAreTrue}

abbrev class_in : Class → Option (Class × ℕ) → Class
class_in other None = other
class_in other (Some found) = found.0

first_is : (k j : Class) (d : ℕ) (o : Option ℕ) → option_map {U = Class × ℕ} (λ (n : ℕ). (k, n)) o ≡ Some (j, d) → k ≡ j
first_is k j d None e = cc e
first_is k j d (Some n) e = ap (class_in k) e

-- the class of a probe with distances is that of a probe
pub class_is : (classes : StoredClasses) (numbers : StoredNumbers) (p : Position) (k j : Class) (d : ℕ) → probed classes p ≡ Some k → probed_distance classes numbers p ≡ Some (j, d) → k ≡ j
class_is classes numbers p k j d is e = first_is k j d (distance_of classes numbers p k) (rw is at e)

pub answers_are_true : AnswersAreTrue
answers_are_true tables materials fen a true_tables position covered answer =
    let found = true_tables fen.position position covered in
    let same : found.0 ≡ answer.class = class_is (stored_classes tables) _ fen.position found.0 answer.class answer.plies found.1 answer.probed in
    (answer.class, answer.plies, subst (λ (k : Class). ChessClass fen.position k) same found.2, answer.distance)
