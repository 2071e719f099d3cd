use Rattle.std.proofs.Common.{ℕ, ◌+◌, ◌*◌, ap, ◌∙◌, arith}
use Rattle.std.specs.Prelude.{slice_index, ◌&&◌, if◌then◌else◌}
use Rattle.szg_values.specs.Men.{is_man, is_color, code_of}
use Rattle.szg_values.specs.declared.Man.TheVariants.{Pawn}
use Rattle.szg_values.specs.declared.Color.TheVariants.{Black}
use Rattle.szg_chess.specs.Squares.{is_in}
use Rattle.szg_chess.specs.declared.tables.TheConstants.{REACH}
use Rattle.szg_chess.proofs.Rows.{reach_by_read}
use Rattle.szg_chess.proofs.tables.reach_by.Goals as goal

pub returns : goal.returns
returns c = λ q h.
    let man = c.args.man.now in let own = is_color c.args.color man.1 in
    let same = c.number.ensures.same in let below = c.number.ensures.below in
    ap (λ (n : ℕ). is_in n q)
    (ap (λ (n : ℕ). slice_index REACH (64 * n + c.from-2.result)) (c.from.ensures ∙ c.reach_number_by.ensures.number)
    ∙ ap (λ (n : ℕ). slice_index REACH (64 * (if own then (if is_man Pawn man.0 && is_color Black man.1 then 0 else code_of man.0) else 7) + n)) (c.from-2.ensures ∙ same))
    ∙ reach_by_read own man.0 man.1 man.2 q (omega (arith, same, below)) h
