use Rattle.std.proofs.Common.{◌≡◌, List, ℕ, [], ◌∷◌, ◌++◌, append_assoc, append-nil}
use Rattle.std.specs.Prelude.{codes, option_map}
use Rattle.std.specs.Duration.{as_nanos}
use Rattle.std.specs.List.{concat}
use Rattle.szg_archive.specs.Records.{json_times}
use Rattle.szg_archive.proofs.records.json_record.Goals as goal

-- what was appended, one after another
appended : (a b c d e f path word bytes reason offset times p1 p2 p3 p4 p5 : List ℕ) → a ≡ [] ++ (p1 ++ path) → b ≡ a ++ (p2 ++ word) → c ≡ b ++ (p3 ++ bytes) → d ≡ c ++ (p4 ++ reason) → e ≡ d ++ (p5 ++ offset) → f ≡ e ++ times →
    f ≡ concat (p1 ∷ path ∷ p2 ∷ word ∷ p3 ∷ bytes ∷ p4 ∷ reason ∷ p5 ∷ offset ∷ times ∷ [])
appended a b c d e f path word bytes reason offset times p1 p2 p3 p4 p5 ea eb ec ed ee ef = rw (ef, ee, ed, ec, eb, ea) (simp (append_assoc, append-nil))

pub returns : goal.returns
returns c = (
  _,
  c.in_ok-reason_field.ensures,
  option_map (λ d. as_nanos d) c.args.timing.elapsed,
  c.args.timing.modified,
  appended _ _ _ _ _ _ _ _ _ _ _ (json_times (option_map (λ d. as_nanos d) c.args.timing.elapsed) c.args.timing.modified) (codes "{\"path\":") (codes ",\"verdict\":\"") (codes "\",\"bytes\":") (codes ",\"reason\":") (codes ",\"offset\":")
      (rw (c.new-line.ensures.items, c.deref.ensures.value, c.in_ok-quoted.ensures) at c.in_ok-push_field.ensures)
      (rw (c.as_bytes.ensures.value, c.verdict_word-word.ensures) at c.in_ok-push_field-2.ensures) (rw c.bytes_field-bytes.ensures at c.in_ok-push_number.ensures)
      (rw (c.deref-2.ensures.value, c.in_ok-reason.ensures) at c.in_ok-push_field-3.ensures) (rw c.offset_field-offset.ensures at c.in_ok-push_number-2.ensures) c.in_ok-push_json_times.ensures,
)
