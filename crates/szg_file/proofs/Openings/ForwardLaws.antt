-- Bytes that a reader over a source copies out of its chunk.
use Rattle.std.proofs.Common.{ℕ, ◌≡◌, ◌+◌, ◌-◌, ◌<◌, ◌≤◌, min, List, [], ◌++◌, length, take, drop, ap, sym, subst, ◌∙◌, arith, length-take, length-drop, drop-drop}
use Rattle.std.proofs.Math.Seq.{take-append_seam, take-add}
use Rattle.std.proofs.lemmas.List.{take-append-drop, take-take, drop-take, drop_all}
use Rattle.szg_file.specs.Forward.{IsForward}

-- a list that was lent and overwritten in full is what was written
pub written_whole : (len : ℕ) (new old lent : List ℕ) → len ≡ length old → lent ≡ old → length new ≡ length lent → take len (new ++ drop (length new) old) ≡ new
written_whole len new old lent long same kept =
    let all : len ≡ length new = long ∙ ap (λ (l : List ℕ). length l) (sym same) ∙ sym kept in
    ap (λ k. take k (new ++ drop (length new) old)) all ∙ take-append_seam new (drop (length new) old)

-- `n` bytes of the chunk are copied to the front of a list
module _ (content chunk lent out : List ℕ) (place end from to n room : ℕ) (h : IsForward content place end chunk from to) (same : lent ≡ chunk)
    (count : n ≡ min (length (take (to - from) (drop from lent))) room) (copied : take n out ≡ take n (take (to - from) (drop from lent))) where
  here : lent ≡ chunk → length (take (to - from) (drop from lent)) ≡ to - from
  here e =
      let long : length lent ≡ length chunk = ap (λ (l : List ℕ). length l) e in
      let i : from ≤ to = h.in_order in
      let w : to ≤ length chunk = h.within in
      let d : length (drop from lent) ≡ length lent - from = length-drop from lent in
      length-take (to - from) (drop from lent) ∙ omega arith

  pub count_is : n ≡ min (to - from) room
  count_is = count ∙ ap (λ k. min k room) (here same)

  pub few : n ≤ to - from
  few = let c : n ≡ min (to - from) room = count_is in omega arith

  -- they are the bytes from `place` on
  front_is : take n out ≡ take n (drop place content)
  front_is =
      copied ∙ ap (λ (l : List ℕ). take n (take (to - from) (drop from l))) same ∙ ap (λ (l : List ℕ). take n l) h.held ∙ take-take n (to - from) (drop place content) few

  -- they are consumed, and the others remain
  pub bytes_gone : drop place content ≡ take n out ++ drop (place + n) content
  bytes_gone =
      sym (take-append-drop n (drop place content)) ∙ ap (λ u. u ++ drop n (drop place content)) (sym front_is) ∙ ap (λ u. take n out ++ u) (drop-drop n place content)

  -- if none was copied to a list that is not empty, no byte remains
  pub bytes_end : (from ≡ to → place ≡ end) → n ≡ 0 → 0 < room → drop (place + n) content ≡ []
  bytes_end last z r =
      let c : n ≡ min (to - from) room = count_is in
      let i : from ≤ to = h.in_order in
      let e : place ≡ end = last (omega arith) in
      let w : end ≡ length content = h.whole in
      drop_all (place + n) content (omega arith)

  -- they follow the bytes that were read before
  pub bytes_come : take (place + n) content ≡ take place content ++ take n out
  bytes_come = take-add place n content ∙ ap (λ u. take place content ++ u) (sym front_is)

  -- the remaining bytes of the chunk follow them
  rest_held : take (to - (from + n)) (drop (from + n) chunk) ≡ take (to - (from + n)) (drop (place + n) content)
  rest_held =
      let f : n ≤ to - from = few in
      let split : n + (to - (from + n)) ≡ to - from = omega arith in
      let rest : drop n (take (n + (to - (from + n))) (drop from chunk)) ≡ drop n (take (n + (to - (from + n))) (drop place content)) =
      subst (λ k. drop n (take k (drop from chunk)) ≡ drop n (take k (drop place content))) (sym split) (ap (λ (l : List ℕ). drop n l) h.held) in
      ap (λ (l : List ℕ). take (to - (from + n)) l) (sym (drop-drop n from chunk))
      ∙ sym (drop-take n (to - (from + n)) (drop from chunk)) ∙ rest ∙ drop-take n (to - (from + n)) (drop place content)
      ∙ ap (λ (l : List ℕ). take (to - (from + n)) l) (drop-drop n place content)

  pub goes_on : IsForward content (place + n) end chunk (from + n) to
  goes_on =
      let f : n ≤ to - from = few in
      let o : from ≤ to = h.in_order in
      let i : place + (to - from) ≤ end = h.inside in
      record {
        whole = h.whole;
        room = h.room;
        in_order = omega arith;
        within = h.within;
        inside = omega arith;
        held = rest_held;
      }
