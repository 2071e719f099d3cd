-- The text of moves, move by move.
use Rattle.std.proofs.Common.{◌≡◌, ℕ, ◌+◌, ◌<◌, length, get_or, take, List, [], ◌∷◌, ◌++◌, flat_map, append_assoc, sym, ap, ◌∙◌}
use Rattle.std.specs.Prelude.{codes}
use Rattle.std.proofs.lemmas.Grind.{flat_map-append}
use Rattle.std.proofs.lemmas.List.{append-nil, take_more}
use Rattle.szg_chess.specs.Position.{Position}
use Rattle.szg_results.specs.Objects.{move_object, others_text}
use Rattle.szg_results.specs.declared.objects.MoveAfter.{MoveAfter}

abbrev object_after : Position → MoveAfter → List ℕ
object_after p s = codes "," ++ move_object p s

-- the text of the first moves and of the next
pub next_text : (p : Position) (ss : List MoveAfter) (i : ℕ) (d : MoveAfter) (start text text' : List ℕ) → i < length ss → text ≡ start ++ others_text p (take i ss) →
    text' ≡ text ++ object_after p (get_or ss i d) → text' ≡ start ++ others_text p (take (i + 1) ss)
next_text p ss i d start text text' below so next =
    let f = object_after p in
    let x : MoveAfter = get_or ss i d in
    let more : flat_map f (take (i + 1) ss) ≡ flat_map f (take i ss) ++ f x =
    ap (flat_map f) (take_more ss i d below) ∙ flat_map-append f (take i ss) (x ∷ []) ∙ ap (λ (t : List ℕ). flat_map f (take i ss) ++ t) (append-nil (f x)) in
    next ∙ ap (λ (t : List ℕ). t ++ f x) so ∙ append_assoc start (flat_map f (take i ss)) (f x) ∙ ap (λ (t : List ℕ). start ++ t) (sym more)
