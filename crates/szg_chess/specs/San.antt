-- The standard algebraic notation of a legal move (SAN): Nf3, exd6, R1xe4, Qa1b2, e8=Q+, Kb6#.
use Rattle.std.specs.Prelude.{ℕ, ◌+◌, Bool, not, ◌&&◌, ◌==◌, List, [], ◌∷◌, ◌++◌, Option, Some, None, option_map, unwrap_or, if◌then◌else◌}
use Rattle.std.specs.List.{list_any}
use Rattle.szg_values.specs.Men.{is_man, letter_of, file_of, rank_of}
use Rattle.szg_values.specs.declared.Man.{Man}
use Rattle.szg_values.specs.declared.Man.TheVariants.{Pawn}
use Rattle.szg_chess.specs.Position.{Position, man_on}
use Rattle.szg_chess.specs.Moves.{legal_moves, after, is_capture, is_check, is_mate}
use Rattle.szg_chess.specs.Uci.{square_text}
use Rattle.szg_chess.specs.declared.Move.{Move}

-- the kind of the man that moves
abbrev pub moved_kind : Position → Move → Man
moved_kind p m = unwrap_or (option_map (λ man. man.0) (man_on p.placed_men m.from)) Pawn

-- the move n is a rival of m: by it another man of the same kind goes to the same square
abbrev pub is_rival : Position → Move → Move → Bool
is_rival p m n = n.to == m.to && not (n.from == m.from) && is_man (moved_kind p n) (moved_kind p m)

-- a rival that is on the same file as the man that moves
abbrev pub is_rival_on_file : Position → Move → Move → Bool
is_rival_on_file p m n = is_rival p m n && file_of n.from == file_of m.from

-- a rival that is on the same rank as the man that moves
abbrev pub is_rival_on_rank : Position → Move → Move → Bool
is_rival_on_rank p m n = is_rival p m n && rank_of n.from == rank_of m.from

-- the file of a square, a to h, and its rank, 1 to 8
abbrev pub file_text : ℕ → List ℕ
file_text square = (97 + file_of square) ∷ []

abbrev pub rank_text : ℕ → List ℕ
rank_text square = (49 + rank_of square) ∷ []

-- where a piece comes from, if another of its kind may go to the same square: its file if no other is on that file, else its
-- rank if no other is on that rank, else both
unfoldable pub origin_text : Position → Move → List ℕ
origin_text p m =
    if not (list_any (is_rival p m) (legal_moves p)) then [] else
    if not (list_any (is_rival_on_file p m) (legal_moves p)) then file_text m.from else
    if not (list_any (is_rival_on_rank p m) (legal_moves p)) then rank_text m.from else
    file_text m.from ++ rank_text m.from

-- the letter of a piece and where it comes from; of a pawn nothing, or its file if it captures
unfoldable pub mover_text : Position → Move → List ℕ
mover_text p m =
    if is_man Pawn (moved_kind p m)
    then (if is_capture p m then file_text m.from else [])
    else letter_of (moved_kind p m) ∷ origin_text p m

-- x if the move captures
abbrev pub capture_text : Bool → List ℕ
capture_text capture = if capture then 120 ∷ [] else []

-- = and the letter of what a pawn is promoted to
abbrev pub promotion_text : Option Man → List ℕ
promotion_text None = []
promotion_text (Some man) = 61 ∷ letter_of man ∷ []

-- # for mate, + for any other check
abbrev pub check_text : Position → List ℕ
check_text p = if is_mate p then 35 ∷ [] else if is_check p then 43 ∷ [] else []

-- The man that moves, x for a capture, the square that the man goes to, the promotion, and the sign of a check or a mate.
unfoldable pub san_text : Position → Move → List ℕ
san_text p m = mover_text p m ++ capture_text (is_capture p m) ++ square_text m.to ++ promotion_text m.promotion ++ check_text (after p m)
