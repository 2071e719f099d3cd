use Rattle.std.proofs.Common.{◌≡◌, ◌<◌, ◌∙◌, ℕ, List, [], ◌∷◌, ◌++◌, length, take, get_or, sym, ap, subst, refl, arith}
use Rattle.std.proofs.lemmas.List.{take_more, take_all}
use Rattle.szg_values.specs.Placement.{PlacedMan}
use Rattle.szg_count.proofs.Differ.{IsIn-at}
use Rattle.szg_values.specs.Men.{man_at, color_at}
use Rattle.szg_values.specs.declared.Man.{Man}
use Rattle.szg_values.specs.declared.Color.{Color}
use Rattle.szg_count.specs.Laws.{IsIn}
use Rattle.szg_place.specs.Spots.{men_on_squares}
use Rattle.szg_place.proofs.Placements.Placed.{placed_men-long, placed_men-at}
use Rattle.szg_place.proofs.unranking.men_on_squares.Goals as goal

first : PlacedMan
first = (man_at 1, color_at 1, 0)

-- each man's square is on the board
within : (codes squares : List ℕ) (i : ℕ) → i < length codes → length squares ≡ length codes → ((s : PlacedMan) → IsIn s (men_on_squares codes squares) → s.2 < 64) → get_or squares i 0 < 64
within codes squares i h e inside =
    let long = placed_men-long codes squares e in
    subst (λ (s : PlacedMan). s.2 < 64) (placed_men-at codes squares i first h e)
    (inside (get_or (men_on_squares codes squares) i first) (IsIn-at (men_on_squares codes squares) i first (omega (arith, long, h))))

pub unreachable-requires : goal.unreachable-requires
unreachable-requires c =
    c.in_default.not-Some _ (c.new.ensures.below (within c.args.codes.now c.args.squares.now c.loop-i.i (let test = c.loop-i-test.true in omega (arith, test)) c.requires.same c.requires.inside))

man_is : {man : Man} {color : Color} {square at : ℕ} (code : ℕ) → man ≡ man_at code → color ≡ color_at code → square ≡ at → (let s : PlacedMan = (man, color, square) in s) ≡ (man_at code, color_at code, at)
man_is code e f g = rw (e, f, g) refl

pub loop-i-preserved : goal.loop-i-preserved
loop-i-preserved c =
    let codes = c.args.codes.now in let squares = c.args.squares.now in let i = c.loop-i.i in
    let test = c.loop-i-test.true in let h : i < length codes = omega (arith, test) in
    let long = placed_men-long codes squares c.requires.same in
    let found = sym c.in-Some.is ∙ c.new.ensures.below (within codes squares i h c.requires.same c.requires.inside) in
    let square : c.in-Some.square ≡ get_or squares i 0 = cc in
    let man : PlacedMan = (c.of_code.result, c.of_code-in-loop-i.result, c.in-Some.square) in
    c.push.ensures.items ∙ ap (λ (l : List PlacedMan). l ++ man ∷ []) c.loop-i.invariant
    ∙ ap (λ (s : PlacedMan). take i (men_on_squares codes squares) ++ s ∷ []) (man_is (get_or codes i 0) c.of_code.ensures c.of_code-in-loop-i.ensures square ∙ sym (placed_men-at codes squares i first h c.requires.same))
    ∙ sym (take_more (men_on_squares codes squares) i first (omega (arith, long, h)))

pub returns : goal.returns
returns c =
    let codes = c.args.codes.now in let squares = c.args.squares.now in
    let long = placed_men-long codes squares c.requires.same in let past = c.loop-i-test.false in
    c.loop-i.invariant ∙ take_all c.loop-i.i (men_on_squares codes squares) (omega (arith, long, past))
