-- Laws of writing and reading: written words are read back.
use Rattle.std.proofs.Common.{ℕ, Bool, ◌≡◌, List, [], ◌∷◌, ◌++◌, ap, sym, ◌∙◌}
use Rattle.std.proofs.lemmas.List.{append_assoc, append-nil, append_cancel_left}
use Rattle.szg_code.specs.Canonical.{CanonicalCode, IsWord}
use Rattle.szg_code.specs.Acceptance.{IsCode}
use Rattle.szg_code.specs.Cursor.{Cursor, TakesWord}
use Rattle.szg_code.specs.Spelling.{BeginsWithNoWord, Spells}
use Rattle.szg_code.specs.Laws.{Appended}
use Rattle.szg_code.proofs.Words.{no_word_begins_another}

pub written_is_read : (code : CanonicalCode) → IsCode code → (word rest : List Bool) (s : ℕ) → IsWord code word s → (old new : Cursor) → old.left ≡ word ++ rest →
    (¬ BeginsWithNoWord code old.left) × ((t : ℕ) → TakesWord code old new t → (t ≡ s) × (new.taken ≡ old.taken ++ word) × (new.left ≡ rest))
written_is_read code accepted word rest s w old new e = (
  λ none. none s rest (record { word = word; is_one = w; joined = e }),
  λ t taken.
      let same = no_word_begins_another code accepted taken.word word new.left rest t s taken.is_one w (sym taken.left ∙ e) in
      let left : word ++ new.left ≡ word ++ rest = ap (λ (u : List Bool). u ++ new.left) (sym same.0) ∙ sym taken.left ∙ e in
      (same.1, taken.taken ∙ ap (λ (u : List Bool). old.taken ++ u) same.0, append_cancel_left word new.left rest left),
)

pub written_list_is_spelled : (code : CanonicalCode) (symbols : List ℕ) (old new : List Bool) → Appended code symbols old new →
    (bits : List Bool) × (new ≡ old ++ bits) × ((rest : List Bool) → Spells code (bits ++ rest) symbols)
written_list_is_spelled code [] old new e = ([], e ∙ sym (append-nil old), λ rest. tt)
written_list_is_spelled code (s ∷ symbols) old new w =
    let r = written_list_is_spelled code symbols (old ++ w.0) new w.2 in (
      w.0 ++ r.0,
      r.1 ∙ append_assoc old w.0 r.0,
      λ rest. (r.0 ++ rest, record { word = w.0; is_one = w.1; joined = append_assoc w.0 r.0 rest }, r.2 rest),
    )
