use Rattle.std.proofs.Common.{ℕ, ◌+◌, ◌*◌, ap, ◌∙◌}
use Rattle.std.specs.Prelude.{slice_index}
use Rattle.szg_chess.specs.declared.tables.TheConstants.{BETWEEN}
use Rattle.szg_chess.proofs.Rows.{between_read}
use Rattle.szg_chess.proofs.tables.squares_between.Goals as goal

pub returns : goal.returns
returns c =
    ap (λ (n : ℕ). slice_index BETWEEN (64 * n + c.from-2.result)) c.from.ensures
    ∙ ap (λ (n : ℕ). slice_index BETWEEN (64 * c.args.from + n)) c.from-2.ensures
    ∙ between_read c.args.from c.args.to c.requires.from c.requires.to
