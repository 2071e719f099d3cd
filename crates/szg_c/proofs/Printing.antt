-- A text in a buffer.
use Rattle.std.proofs.Common.{arith, ◌≡◌, ◌∙◌, ℕ, false, ◌-◌, ◌<◌, ◌≤◌, List, [], ◌∷◌, ◌++◌, length, slice_set, take, drop, ap, sym, subst}
use Rattle.std.specs.Prelude.{◌==◌, min}
use Rattle.std.proofs.Math.Seq.{set-append_seam, drop-cons}
use Rattle.std.proofs.Math.ListN.{get_or}
use Rattle.std.proofs.Math.Nat.{min-le_left, min-le_right}
use Rattle.std.proofs.lemmas.List.{length-take-le}
use Rattle.szg_c.specs.Texts.{printed}

-- a zero byte right after the first bytes of a text
ended : (text : List ℕ) (first : ℕ) (rest : List ℕ) (count : ℕ) → count ≤ length text → count ≤ length rest →
    slice_set (take count text ++ drop count (first ∷ rest)) count 0 ≡ take count text ++ 0 ∷ drop count rest
ended text first rest count a b =
    let front = take count text in let next = get_or (first ∷ rest) count 0 in
    let long : length front ≡ count = length-take-le count text a in
    let inside : count < length (first ∷ rest) = omega arith in
    ap (λ (l : List ℕ). slice_set (front ++ l) count 0) (drop-cons (first ∷ rest) count 0 inside)
    ∙ subst (λ (k : ℕ). slice_set (front ++ next ∷ drop count rest) k 0 ≡ front ++ 0 ∷ drop count rest) long (set-append_seam front next (drop count rest) 0)

pub written : (text buffer front : List ℕ) (count : ℕ) → (length buffer == 0) ≡ false → front ≡ take count text → count ≡ min (length text) (length buffer - 1) →
    slice_set (front ++ drop count buffer) count 0 ≡ printed text buffer
written text [] front count some f e = absurd (cc some)
written text (first ∷ rest) front count some f e =
    let n = min (length text) (length rest) in
    let one : length (first ∷ rest) - 1 ≡ length rest = omega arith in
    let same : count ≡ n = e ∙ ap (min (length text)) one in
    let done : slice_set (take n text ++ drop n (first ∷ rest)) n 0 ≡ printed text (first ∷ rest) =
    ended text first rest n (min-le_left (length text) (length rest)) (min-le_right (length text) (length rest)) in
    ap (λ (l : List ℕ). slice_set (l ++ drop count (first ∷ rest)) count 0) f
    ∙ subst (λ (k : ℕ). slice_set (take k text ++ drop k (first ∷ rest)) k 0 ≡ printed text (first ∷ rest)) (sym same) done
