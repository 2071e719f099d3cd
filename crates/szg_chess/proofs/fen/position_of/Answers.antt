use Rattle.std.proofs.Common.{◌≡◌, ◌∙◌, ap, true, None, List, ℕ, inl, inr}
use Rattle.std.proofs.lemmas.Bool.{cases_Bool}
use Rattle.szg_chess.specs.Fen.{field, is_mover, is_dash, is_en_passant_field, from_mover, from_castling, from_en_passant, fields_fault}
use Rattle.szg_chess.proofs.Facts.{few_men_of}
use Rattle.szg_chess.proofs.fen.position_of.Goals as goal

fields_none : (text : List ℕ) → fields_fault text ≡ None → is_en_passant_field (field (from_en_passant text)) ≡ true
unfolding fields_fault
fields_none text e = elim (cases_Bool (is_en_passant_field (field (from_en_passant text)))) [
  | inl t ↦ t
  | inr f ↦ elim (cases_Bool (is_mover (field (from_mover text)))) [
    | inl a ↦ elim (cases_Bool (is_dash (field (from_castling text)))) [
      | inl b ↦ let h = rw (a, b, f) at e in absurd cc
      | inr b ↦ let h = rw (a, b) at e in absurd cc
    ]
    | inr a ↦ let h = rw a at e in absurd cc
  ]
]

pub en_passant_of-en_passant-requires : goal.en_passant_of-en_passant-requires
en_passant_of-en_passant-requires c = ap is_en_passant_field (c.field-2.ensures ∙ ap field c.from_en_passant.ensures) ∙ fields_none c.args.text.now c.requires.fields

pub key_of-requires : goal.key_of-requires
key_of-requires c = few_men_of c.args.men.now c.requires.men
