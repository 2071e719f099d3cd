use Rattle.std.proofs.Common.{ℕ, ◌+◌, ◌*◌, ap, ◌∙◌, arith}
use Rattle.std.specs.Prelude.{slice_index, ◌&&◌, if◌then◌else◌}
use Rattle.szg_values.specs.Men.{is_man, is_color, code_of}
use Rattle.szg_values.specs.declared.Man.TheVariants.{Pawn}
use Rattle.szg_values.specs.declared.Color.TheVariants.{Black}
use Rattle.szg_chess.specs.declared.tables.TheConstants.{REACH}
use Rattle.szg_chess.proofs.Rows.{reach_read}
use Rattle.szg_chess.proofs.tables.reach_of.Goals as goal

pub returns : goal.returns
returns c =
    let man = c.args.man.now in
    let same = c.number.ensures.same in let below = c.number.ensures.below in
    ap (λ (n : ℕ). slice_index REACH (64 * n + c.from-2.result)) (c.from.ensures ∙ c.reach_number.ensures.number)
    ∙ ap (λ (n : ℕ). slice_index REACH (64 * (if is_man Pawn man.0 && is_color Black man.1 then 0 else code_of man.0) + n)) (c.from-2.ensures ∙ same)
    ∙ reach_read man.0 man.1 man.2 (omega (arith, same, below))
