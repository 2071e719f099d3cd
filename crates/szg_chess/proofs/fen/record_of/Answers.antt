use Rattle.std.proofs.Common.{◌≡◌, ◌∙◌, ap, sym, true, None, List, ℕ, inl, inr}
use Rattle.std.proofs.lemmas.Bool.{cases_Bool}
use Rattle.szg_chess.specs.Fen.{has_counters, from_en_passant, counters_fault}
use Rattle.szg_chess.proofs.fen.record_of.Goals as goal

counters_none : (text : List ℕ) → counters_fault text ≡ None → has_counters (from_en_passant text) ≡ true
unfolding counters_fault
counters_none text e = elim (cases_Bool (has_counters (from_en_passant text))) [
  | inl t ↦ t
  | inr f ↦ let h = rw f at e in absurd cc
]

pub halfmove_of-requires : goal.halfmove_of-requires
halfmove_of-requires c = ap has_counters c.from_en_passant-last.ensures ∙ counters_none c.args.text.now (sym c.counters_fault.ensures ∙ c.in_default-counters_fault.is)

pub fullmove_of-requires : goal.fullmove_of-requires
fullmove_of-requires c = ap has_counters c.from_en_passant-last.ensures ∙ counters_none c.args.text.now (sym c.counters_fault.ensures ∙ c.in_default-counters_fault.is)
