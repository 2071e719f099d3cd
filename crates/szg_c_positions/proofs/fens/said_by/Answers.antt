use Rattle.std.proofs.Common.{rules, inl, inr, ◌≡◌, ◌∙◌, List, ℕ, Option, None, Some, ap, refl, subst, sym}
use Rattle.std.specs.Prelude.{IfSome, IsNone, Result, Ok, Err}
use Rattle.std.specs.Str.{IsUtf8, is_utf8}
use Rattle.std.proofs.lemmas.Bool.{cases_Bool}
use Rattle.std.proofs.lemmas.Str.{IsUtf8-from_is_utf8, is_utf8-from_IsUtf8}
use Rattle.szg_chess.specs.Fen.{fen_fault, record_of}
use Rattle.szg_chess.specs.declared.FenRecord.{FenRecord}
use Rattle.szg_chess.specs.declared.PositionFault.{PositionFault}
use Rattle.szg_c_positions.specs.Fens.{fen_result, record_unless}
use Rattle.szg_c_positions.specs.Positions.{position_status}
use Rattle.szg_c_positions.proofs.fens.said_by.Goals as goal

-- what the parser returns, with a status for its fault
abbrev or_status : Result FenRecord PositionFault → Result FenRecord ℕ
or_status (Ok said) = Ok said
or_status (Err why) = Err (position_status why)

said_by : (fault : Option PositionFault) (said : FenRecord) (o : Result FenRecord PositionFault) → (IsNone fault → o ≡ Ok said) → IfSome fault (λ why. o ≡ Err why) → record_unless fault said ≡ or_status o
said_by None said o accepted refused = ap or_status (sym (accepted (search rules)))
said_by (Some why) said o accepted refused = ap or_status (sym refused)

read_text : (text : List ℕ) (o : Result FenRecord PositionFault) → IsUtf8 text → (IsNone (fen_fault text) → o ≡ Ok (record_of text)) → IfSome (fen_fault text) (λ why. o ≡ Err why) → fen_result text ≡ or_status o
unfolding fen_result
read_text text o utf accepted refused = let yes = is_utf8-from_IsUtf8 text utf in rw yes (said_by (fen_fault text) (record_of text) o accepted refused)

no_text : (text : List ℕ) → (IsUtf8 text → ⊥) → fen_result text ≡ Err 6
unfolding fen_result
no_text text not_utf = elim (cases_Bool (is_utf8 text)) [
  | inl t ↦ absurd (not_utf (IsUtf8-from_is_utf8 text t))
  | inr f ↦ rw f refl
]

pub returns-in_default : goal.returns-in_default
returns-in_default c = sym (no_text c.args.text.now (rw c.in_default.is at c.from_utf8.ensures.cases).0)

pub returns-in-Ok-parse_fen : goal.returns-in-Ok-parse_fen
returns-in-Ok-parse_fen c =
    let same = c.in-Ok.ensures.cases.0 in
    let e = ap fen_result (sym same) ∙ read_text c.in-Ok.fen.now c.parse_fen.result (subst IsUtf8 (sym same) c.in-Ok.ensures.cases.1) c.parse_fen.ensures.accepted c.parse_fen.ensures.refused in
    rw (e, c.in-Ok-parse_fen.is) refl

pub returns-in-Err : goal.returns-in-Err
returns-in-Err c =
    let same = c.in-Ok.ensures.cases.0 in
    let e = ap fen_result (sym same) ∙ read_text c.in-Ok.fen.now c.parse_fen.result (subst IsUtf8 (sym same) c.in-Ok.ensures.cases.1) c.parse_fen.ensures.accepted c.parse_fen.ensures.refused in
    rw (e, c.in-Err.is) (ap Err c.position_status.ensures)
