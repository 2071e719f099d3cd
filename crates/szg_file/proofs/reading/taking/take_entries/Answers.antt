use Rattle.std.proofs.Common.{◌+◌, ◌-◌, ◌*◌, ◌≤◌, ◌∷◌, [], length, take, drop, List, ℕ, slice_index, rules, ap, ◌∙◌}
use Rattle.std.proofs.lemmas.List.{length-drop, length_push, take_rest}
use Rattle.szg_file.proofs.Readers.ItemsRead.{rows-more, three_bytes}
use Rattle.szg_file.proofs.reading.taking.take_entries.Goals as goal

pub rows-preserved : goal.rows-preserved
rows-preserved g c =
    let bytes = c.as_slice-rows.result.now in
    let i = c.rows.i in
    let whole = take_rest bytes (3 * i) in
    let there : 3 ≤ length (drop (3 * i) bytes) = search (rules, length-drop (3 * i) bytes) in
    let w : List ℕ = take (length bytes - 3 * i) (drop (3 * i) bytes) in
    let x : List ℕ = slice_index w 0 ∷ slice_index w 1 ∷ slice_index w 2 ∷ [] in
    let row = ap (λ (z : List ℕ). slice_index z 0 ∷ slice_index z 1 ∷ slice_index z 2 ∷ []) whole ∙ three_bytes (drop (3 * i) bytes) there in
    record {
      read = c.in_ok-push.ensures.items ∙ rows-more 3 i bytes c.rows.list.items x c.rows.invariant.read row;
      count = ap length c.in_ok-push.ensures.items ∙ length_push c.rows.list.items x ∙ ap (λ (n : ℕ). n + 1) c.rows.invariant.count;
    }
