-- Block lengths that are read one after another: the state after one more, and after all of a chunk.
use Rattle.std.proofs.Common.{◌≡◌, ℕ, ◌+◌, ◌<◌, ◌≤◌, Bool, true, false, List, [], ◌∷◌, ◌++◌, length, refl, sym, ap, append_assoc, append-nil, ◌∙◌, inl, inr, arith}
use Rattle.std.specs.Prelude.{nat_lt}
use Rattle.std.specs.List.{sum_by}
use Rattle.std.proofs.lemmas.Bool.{lt-ltb, le-ltb, cases_lt}
use Rattle.std.proofs.lemmas.List.{length-append, length_push}
use Rattle.std.proofs.lemmas.List.Sums.{sum_by-append, sum_by-cons, sum_by_push}
use Rattle.szg_block.specs.Block.{start}
use Rattle.szg_block.specs.Kept.{kept_lengths}
use Rattle.szg_block.proofs.Kept.{kept-none, kept_push, kept_shorter, pushed_if, start-end, start-kept, start-pushed}
use Rattle.szg_block.proofs.Values.{start-zero}
use Rattle.szg_file.specs.Kept.{IsKept}
use Rattle.szg_file.specs.declared.begun.KeptLengths.{KeptLengths}

-- no length
pub kept_begins : (size last : ℕ) (kept : KeptLengths) → kept.lengths.items ≡ [] → kept.values ≡ 0 → kept.seen ≡ 0 → kept.before_last ≡ 0 → IsKept size last [] kept
kept_begins size last kept lengths values seen before = record {
  lengths = lengths ∙ sym (kept-none size);
  values = values ∙ ap (λ (l : List ℕ). sum_by (λ n. n + 1) l) (sym (kept-none size));
  seen = seen;
  before = before ∙ sym (start-end [] last (omega arith) ∙ start-zero []);
}

-- one more length: it is kept while values are missing, and counted before the last entry's block
pub kept_next : (size last : ℕ) (list : List ℕ) (n : ℕ) (old new : KeptLengths) → IsKept size last list old → new.seen ≡ old.seen + 1 →
    (old.seen < last → new.before_last ≡ old.before_last + (n + 1)) → (last ≤ old.seen → new.before_last ≡ old.before_last) →
    (old.values < size → (new.lengths.items ≡ old.lengths.items ++ n ∷ []) × (new.values ≡ old.values + (n + 1))) →
    (size ≤ old.values → (new.lengths.items ≡ old.lengths.items) × (new.values ≡ old.values)) →
    IsKept size last (list ++ n ∷ []) new
kept_next size last list n old new h seen counted passed pushed full =
    let kept : List ℕ = kept_lengths size list in
    let sum : List ℕ → ℕ = λ l. sum_by (λ n. n + 1) l in
    let before : new.before_last ≡ start (list ++ n ∷ []) last = elim (cases_lt old.seen last) [
      | inl less ↦ omega (arith, counted less, h.before, start-pushed list n last (omega (arith, less, h.seen)))
      | inr more ↦ omega (arith, passed more, h.before, start-kept list n last (omega (arith, more, h.seen)))
    ] in
    let all : new.seen ≡ length (list ++ n ∷ []) = omega (arith, seen, h.seen, length_push list n) in
    elim (cases_lt old.values size) [
      | inl less ↦
          let test : nat_lt (sum kept) size ≡ true = ap (λ (k : ℕ). nat_lt k size) (sym h.values) ∙ lt-ltb old.values size less in
          let now : kept_lengths size (list ++ n ∷ []) ≡ kept ++ n ∷ [] = kept_push size list n ∙ ap (λ (b : Bool). pushed_if b kept n) test in
          let p = pushed less in
          record {
            lengths = p.0 ∙ ap (λ (l : List ℕ). l ++ n ∷ []) h.lengths ∙ sym now;
            values = omega (arith, p.1, h.values, sum_by_push (λ n. n + 1) kept n, ap sum now);
            seen = all;
            before = before;
          }
      | inr more ↦
          let test : nat_lt (sum kept) size ≡ false = ap (λ (k : ℕ). nat_lt k size) (sym h.values) ∙ le-ltb old.values size more in
          let now : kept_lengths size (list ++ n ∷ []) ≡ kept = kept_push size list n ∙ ap (λ (b : Bool). pushed_if b kept n) test in
          let p = full more in
          record {
            lengths = p.0 ∙ h.lengths ∙ sym now;
            values = p.1 ∙ h.values ∙ ap sum (sym now);
            seen = all;
            before = before;
          }
    ]

-- ---- more lengths at once, all of which are kept

abbrev sum : List ℕ → ℕ
sum lengths = sum_by (λ n. n + 1) lengths

kept_append : (limit : ℕ) (list numbers : List ℕ) → sum (kept_lengths limit list) + sum numbers ≤ limit → kept_lengths limit (list ++ numbers) ≡ kept_lengths limit list ++ numbers
kept_append limit list [] h = ap (kept_lengths limit) (append-nil list) ∙ sym (append-nil (kept_lengths limit list))
kept_append limit list (n ∷ ns) h =
    let kept : List ℕ = kept_lengths limit list in
    let c : sum (n ∷ ns) ≡ (n + 1) + sum ns = sum_by-cons (λ n. n + 1) n ns in
    let test : nat_lt (sum kept) limit ≡ true = lt-ltb (sum kept) limit (omega (arith, h, c)) in
    let one : kept_lengths limit (list ++ n ∷ []) ≡ kept ++ n ∷ [] = kept_push limit list n ∙ ap (λ (b : Bool). pushed_if b kept n) test in
    let s : sum (kept_lengths limit (list ++ n ∷ [])) ≡ sum kept + (n + 1) = ap sum one ∙ sum_by_push (λ n. n + 1) kept n in
    ap (kept_lengths limit) (sym (append_assoc list (n ∷ []) ns))
    ∙ kept_append limit (list ++ n ∷ []) ns (omega (arith, h, c, s))
    ∙ ap (λ (l : List ℕ). l ++ ns) one
    ∙ append_assoc kept (n ∷ []) ns

start_after : (list numbers : List ℕ) (last : ℕ) → last ≤ length list → start (list ++ numbers) last ≡ start list last
start_after list [] last h = ap (λ (l : List ℕ). start l last) (append-nil list)
start_after list (n ∷ ns) last h =
    ap (λ (l : List ℕ). start l last) (sym (append_assoc list (n ∷ []) ns))
    ∙ start_after (list ++ n ∷ []) ns last (omega (arith, h, length_push list n))
    ∙ start-kept list n last h

start_before : (list numbers : List ℕ) (last : ℕ) → length list + length numbers ≤ last → start (list ++ numbers) last ≡ start list last + sum numbers
start_before list [] last h = let none : sum [] ≡ 0 = refl in omega (arith, none, ap (λ (l : List ℕ). start l last) (append-nil list))
start_before list (n ∷ ns) last h =
    let here : start (list ++ n ∷ ns) last ≡ start ((list ++ n ∷ []) ++ ns) last = ap (λ (l : List ℕ). start l last) (sym (append_assoc list (n ∷ []) ns)) in
    let rest = start_before (list ++ n ∷ []) ns last (omega (arith, h, length_push list n)) in
    let one = start-pushed list n last (omega (arith, h)) in
    omega (arith, here, rest, one, sum_by-cons (λ n. n + 1) n ns)

pub kept_more : (limit last : ℕ) (list numbers : List ℕ) (old new : KeptLengths) → IsKept limit last list old → new.seen ≡ old.seen + length numbers → old.values + sum numbers ≤ limit →
    (old.seen < last → old.seen + length numbers ≤ last) → (old.seen < last → new.before_last ≡ old.before_last + sum numbers) → (last ≤ old.seen → new.before_last ≡ old.before_last) →
    new.lengths.items ≡ old.lengths.items ++ numbers → new.values ≡ old.values + sum numbers → IsKept limit last (list ++ numbers) new
kept_more limit last list numbers old new h seen room apart counted passed pushed more =
    let now : kept_lengths limit (list ++ numbers) ≡ kept_lengths limit list ++ numbers = kept_append limit list numbers (omega (arith, room, h.values)) in
    record {
      lengths = pushed ∙ ap (λ (l : List ℕ). l ++ numbers) h.lengths ∙ sym now;
      values = omega (arith, more, h.values, ap sum now, sum_by-append (λ n. n + 1) (kept_lengths limit list) numbers);
      seen = omega (arith, seen, h.seen, length-append list numbers);
      before = elim (cases_lt old.seen last) [
        | inl less ↦ omega (arith, counted less, h.before, start_before list numbers last (omega (arith, apart less, h.seen)))
        | inr after ↦ omega (arith, passed after, h.before, start_after list numbers last (omega (arith, after, h.seen)))
      ];
    }

-- no more are kept than were read
pub kept_within : (size last : ℕ) (list : List ℕ) (kept : KeptLengths) → IsKept size last list kept → length kept.lengths.items ≤ kept.seen
kept_within size last list kept h = omega (arith, ap (λ (l : List ℕ). length l) h.lengths, kept_shorter size list, h.seen)
