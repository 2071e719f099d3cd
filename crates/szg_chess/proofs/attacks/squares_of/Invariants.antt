use Rattle.std.proofs.Common.{◌≡◌, ◌<◌, ℕ, take}
use Rattle.szg_chess.specs.Attacks.{is_occupied}
use Rattle.szg_chess.specs.Squares.{is_in}
use Rattle.szg_chess.proofs.attacks.squares_of.Given as goal

abbrev pub invariant-loop-man : goal.invariant-loop-man
invariant-loop-man l = (q : ℕ) → q < 64 → is_in l.squares q ≡ is_occupied (take l.man-index l.men) q
