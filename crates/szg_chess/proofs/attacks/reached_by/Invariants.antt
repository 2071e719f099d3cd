use Rattle.std.proofs.Common.{◌≡◌, ◌<◌, ℕ, take}
use Rattle.std.specs.List.{list_any}
use Rattle.szg_values.specs.Men.{other_color}
use Rattle.szg_chess.specs.Squares.{is_in}
use Rattle.szg_chess.proofs.Enemies.{reaches, stands}
use Rattle.szg_chess.proofs.attacks.reached_by.Given as goal

abbrev pub invariant-loop-man : goal.invariant-loop-man
invariant-loop-man l =
    ((q : ℕ) → q < 64 → is_in l.reached q ≡ list_any (reaches l.color q) (take l.man-index l.men))
    × ((q : ℕ) → q < 64 → is_in l.others q ≡ list_any (stands (other_color l.color) q) (take l.man-index l.men))
