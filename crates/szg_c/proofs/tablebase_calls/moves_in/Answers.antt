use Rattle.std.proofs.Common.{arith, ◌≡◌, ◌∙◌, ◌≤◌, ◌<◌, ◌+◌, ◌++◌, ◌∷◌, [], ℕ, List, ap, drop, drop-cons, get_or, length, map, refl, slice_set, subst, suc, sym, take}
use Rattle.std.proofs.Math.Seq.{set-append_seam}
use Rattle.std.proofs.lemmas.List.{append_assoc, length-map, length-take-le, map-append, take_more}
use Rattle.std.specs.Prelude.{IfOk, Ok, Result}
use Rattle.std.proofs.lemmas.List.Sorted.{length_permutation}
use Rattle.szg_chess.specs.Moves.{legal_moves}
use Rattle.szg_chess.specs.declared.Move.{Move}
use Rattle.szg_probe.specs.declared.assessments.RankedMove.{RankedMove}
use Rattle.szg_c.specs.Tablebases.{raw_move}
use Rattle.szg_c.proofs.tablebase_calls.moves_in.Goals as goal

-- one element more is written over the first of the rest
written_more : {A B : Type 0} (f : A → B) (xs : List A) (ys : List B) (i : ℕ) (x : A) → i < length xs → length xs ≤ length ys → x ≡ get_or xs i x →
    slice_set (map f (take i xs) ++ drop i ys) i (f x) ≡ map f (take (i + 1) xs) ++ drop (i + 1) ys
written_more {A} {B} f xs ys i x inside room is =
    let front = map f (take i xs) in let old = get_or ys i (f x) in
    let many : length front ≡ i = length-map (take i xs) f ∙ length-take-le i xs (omega (arith, inside)) in
    let more : map f (take (i + 1) xs) ≡ front ++ f x ∷ [] =
    ap (map f) (take_more xs i x inside) ∙ map-append f (take i xs) (get_or xs i x ∷ []) ∙ ap (λ (y : A). front ++ f y ∷ []) (sym is) in
    let next : suc i ≡ i + 1 = omega arith in
    ap (λ (rest : List B). slice_set (front ++ rest) i (f x)) (drop-cons ys i (f x) (omega (arith, inside, room)))
    ∙ ap (λ (n : ℕ). slice_set (front ++ old ∷ drop (suc i) ys) n (f x)) (sym many)
    ∙ set-append_seam front old (drop (suc i) ys) (f x)
    ∙ sym (append_assoc front (f x ∷ []) (drop (suc i) ys))
    ∙ ap (λ (l : List B). l ++ drop (suc i) ys) (sym more)
    ∙ ap (λ (n : ℕ). map f (take (i + 1) xs) ++ drop n ys) next

when_ok : {V E : Type 0} (r : Result V E) (v : V) (P : Type 0) → r ≡ Ok v → IfOk r (λ _. P) → P
when_ok {V} {E} r v P is h = subst (λ (s : Result V E). IfOk s (λ _. P)) is h

pub returns-then-moves-len-clause-reported : goal.returns-then-moves-len-clause-reported
returns-then-moves-len-clause-reported c =
    let ranked = c.rank_moves.new.moves.items in
    let move_of : RankedMove → Move = λ r. r.m in
    let each : length (map move_of ranked) ≡ length (legal_moves c.args.position.now) = length_permutation _ _ (when_ok c.rank_moves.result c.in-Ok.field-0 _ c.in-Ok.is c.rank_moves.ensures.each) in
    let many : length (map move_of ranked) ≡ length ranked = length-map ranked move_of in
    let fewer = c.if-moves-len.true in
    let value = c.len.ensures.value in
    record {
      done = λ e. let no : ◌≡◌ {A = ℕ} 4 0 = e in absurd (cc no);
      short = λ e. (omega (arith, each, many, fewer, value), refl);
      stays = λ e. let no : ◌≡◌ {A = ℕ} 4 0 = e in absurd (cc no);
      lacking = λ undone other. absurd (other refl);
    }

pub loop-i-preserved : goal.loop-i-preserved
loop-i-preserved c =
    let ranked = c.rank_moves.new.moves.items in let i = c.loop-i.i in let x = c.index-deref-i.result in
    let is : x ≡ get_or ranked i x = c.index-deref-i.is ∙ ap (λ (l : List RankedMove). get_or l i x) c.deref.ensures.0 in
    let inside : i < length ranked = omega (arith, c.loop-i-test.true, c.len-i-end.ensures.value) in
    let room : length ranked ≤ length c.args.moves.now = omega (arith, c.if-moves-len.false, c.len.ensures.value) in
    rw (c.raw_move.ensures, c.loop-i.invariant) (written_more raw_move ranked c.args.moves.now i x inside room is)
