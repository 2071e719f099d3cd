use Rattle.std.proofs.Common.{◌≡◌, ◌∙◌, sym, true, None, List, ℕ, inl, inr}
use Rattle.std.specs.Prelude.{◌==◌, count_by}
use Rattle.std.specs.List.{list_all}
use Rattle.std.proofs.lemmas.Bool.{cases_Bool, and_parts}
use Rattle.szg_chess.specs.Fen.{are_ranks, has_ranks, board_fault, is_board_letter, is_slash}
use Rattle.szg_chess.proofs.Position.parse_fen.Goals as goal

board_none : (board : List ℕ) → board_fault board ≡ None → are_ranks 8 board ≡ true
unfolding board_fault
board_none board e = elim (cases_Bool (has_ranks board)) [
  | inl t ↦ (and_parts (count_by is_slash board == 7) (are_ranks 8 board) t).1
  | inr f ↦ elim (cases_Bool (list_all is_board_letter board)) [
    | inl a ↦ let h = rw (a, f) at e in absurd cc
    | inr a ↦ let h = rw a at e in absurd cc
  ]
]

pub men_of_board-men-requires : goal.men_of_board-men-requires
men_of_board-men-requires c = board_none c.field-board.result.now (sym c.board_fault.ensures ∙ c.in_default.is)
