use Rattle.std.proofs.Common.{◌≡◌, ◌<◌, ◌+◌, ◌-◌, ◌*◌, ◌≤◌, ◌∙◌, ℕ, List, length, get_or, map, drop, ap, sym, subst, arith}
use Rattle.std.specs.Prelude.{Some, slice_get}
use Rattle.std.proofs.lemmas.List.{length-map, get_or-map}
use Rattle.szg_count.specs.Sets.{subsets, choose, binomial_sum, IsFallingBelow}
use Rattle.szg_count.proofs.Sizes.{power}
use Rattle.szg_count.proofs.SubsetRanks.{binomial_sum-bound, binomial_sum-drop, binomial_sum-done, ranked}
use Rattle.szg_place.proofs.Ranks.LeadPawns.{pawn_number}
use Rattle.szg_place.proofs.Ranks.NumberedSets.{IsIn-get_or, falling_below}
use Rattle.szg_place.proofs.lead_pawns.rank_pawns.Goals as goal

number_at : (squares : List ℕ) (i : ℕ) → i < length squares → get_or (map pawn_number squares) i 0 ≡ pawn_number (get_or squares i 0)
number_at squares i h = get_or-map pawn_number squares i 0 0 h

number_below : (squares : List ℕ) (i : ℕ) → i < length squares → IsFallingBelow 64 (map pawn_number squares) → pawn_number (get_or squares i 0) < 64
number_below squares i h fall =
    let long = length-map squares pawn_number in
    subst (λ (n : ℕ). n < 64) (number_at squares i h)
    (falling_below 64 (map pawn_number squares) (get_or (map pawn_number squares) i 0) fall (IsIn-get_or (map pawn_number squares) i 0 (omega (arith, h, long))))

-- what a pawn adds
step : (squares : List ℕ) (i n left added : ℕ) → i < length squares → n ≡ pawn_number (get_or squares i 0) → left + i ≡ length squares → added ≡ choose n left →
    binomial_sum (drop i (map pawn_number squares)) ≡ added + binomial_sum (drop (i + 1) (map pawn_number squares))
step squares i n left added h e l a =
    let set = map pawn_number squares in let long = length-map squares pawn_number in
    let following : length set - i ≡ left = omega (arith, l, long) in
    binomial_sum-drop i set (omega (arith, h, long))
    ∙ ap (λ (k : ℕ). choose (get_or set i 0) k + binomial_sum (drop (i + 1) set)) following
    ∙ ap (λ (m : ℕ). choose m left + binomial_sum (drop (i + 1) set)) (number_at squares i h ∙ sym e)
    ∙ ap (λ (k : ℕ). k + binomial_sum (drop (i + 1) set)) (sym a)

pub bounds-from : goal.bounds-from
bounds-from c = let inside = c.requires.inside c.loop-square.square-index (omega arith) in let e = c.from.ensures in omega (arith, inside, e)

pub choose-number-requires-clause-things : goal.choose-number-requires-clause-things
choose-number-requires-clause-things c =
    let below = number_below c.args.squares.now c.loop-square.square-index (omega arith) c.requires.falling in
    let number = c.from-in-loop-square.ensures ∙ ap pawn_number c.from.ensures in
    omega (arith, below, number)

pub overflow_add-number : goal.overflow_add-number
overflow_add-number c =
    let set = map pawn_number c.args.squares.now in
    let here = step c.args.squares.now c.loop-square.square-index c.from-in-loop-square.result c.loop-square.left c.choose-number.result
    (omega arith) (c.from-in-loop-square.ensures ∙ ap pawn_number c.from.ensures) c.loop-square.invariant.left c.choose-number.ensures.count in
    let long = length-map c.args.squares.now pawn_number in
    let few = c.requires.few in let now = c.loop-square.invariant.number in
    let bound = binomial_sum-bound 64 set (omega arith) c.requires.falling (omega (arith, few, long)) in
    let most : length set * power 6 ≤ 6 * power 6 = omega (arith, few, long) in
    omega (arith, now, here, bound, most)

pub loop-square-preserved : goal.loop-square-preserved
loop-square-preserved c =
    let here = step c.args.squares.now c.loop-square.square-index c.from-in-loop-square.result c.loop-square.left c.choose-number.result
    (omega arith) (c.from-in-loop-square.ensures ∙ ap pawn_number c.from.ensures) c.loop-square.invariant.left c.choose-number.ensures.count in
    let now = c.loop-square.invariant.number in
    record { number = omega (arith, now, here); left = omega arith }

pub returns : goal.returns
returns c n f =
    let set = map pawn_number c.args.squares.now in
    let long = length-map c.args.squares.now pawn_number in
    let done = binomial_sum-done c.loop-square.square-index set (omega (arith, long)) in
    let now = c.loop-square.invariant.number in
    let all : binomial_sum set ≡ c.loop-square.number = omega (arith, done, now) in
    subst (λ (m : ℕ). slice_get (subsets n m) c.loop-square.number ≡ Some set) long
    (subst (λ (k : ℕ). slice_get (subsets n (length set)) k ≡ Some set) all (ranked n set f))
