use Rattle.std.proofs.Common.{◌≡◌, ◌+◌, ◌-◌, ◌*◌, ◌<◌, ℕ, List, [], ◌∷◌, ◌++◌, length, map, sym, ap, ◌∙◌, subst, arith}
use Rattle.std.specs.Prelude.{Some, slice_get, slice_index}
use Rattle.szg_count.specs.Sets.{subsets, IsFallingBelow}
use Rattle.szg_count.specs.Leads.{lead_pawn_sets}
use Rattle.szg_count.specs.Laws.{IsIn}
use Rattle.szg_place.specs.declared.lead_pawns.TheConstants.{PAWN_NUMBERS, PAWN_SQUARES, WAYS_BEFORE}
use Rattle.szg_place.proofs.Ranks.NumberedSets.{falling_below}
use Rattle.szg_place.proofs.Ranks.LeadPawns.{pawn_number, first_square, following, after_fewer, first_number, lead_pawns_found}
use Rattle.szg_place.proofs.lead_pawns.unrank_lead_pawns.Goals as goal

-- a first square by its rank
square_is : (file rank : ℕ) → 0 < rank → 8 * rank + file ≡ first_square file (rank - 1)
square_is file rank h = let r = rank - 1 in let e : rank ≡ 1 + r = omega (arith, h) in omega (arith, e)

-- the number of squares after it
count_is : (file rank from : ℕ) → file < 4 → 0 < rank → rank < 7 → from ≡ 8 * rank + file → slice_index PAWN_NUMBERS from ≡ length (following file (rank - 1))
count_is file rank from f a b e = ap pawn_number (e ∙ square_is file rank a) ∙ first_number file (rank - 1) f (omega (arith, a, b))

pub unrank_subset-numbers-requires-clause-numbers : goal.unrank_subset-numbers-requires-clause-numbers
unrank_subset-numbers-requires-clause-numbers c =
    let file = c.args.file in let rank = c.first_rank-rank.result in
    let a = c.first_rank-rank.ensures.second in let b = c.first_rank-rank.ensures.seventh in
    let n = count_is file rank c.from-2.result c.requires.file a b c.from-2.ensures in
    let few = after_fewer file (rank - 1) c.requires.file (omega (arith, a, b)) in
    omega (arith, n, few)

pub append_pawns-requires-clause-below : goal.append_pawns-requires-clause-below
append_pawns-requires-clause-below c = λ n i.
    let file = c.args.file in let rank = c.first_rank-rank.result in
    let a = c.first_rank-rank.ensures.second in let b = c.first_rank-rank.ensures.seventh in
    let m = count_is file rank c.from-2.result c.requires.file a b c.from-2.ensures in
    let few = after_fewer file (rank - 1) c.requires.file (omega (arith, a, b)) in
    let k = falling_below (slice_index PAWN_NUMBERS c.from-2.result) c.unrank_subset-numbers.result.items n c.unrank_subset-numbers.ensures.falling (subst (λ (l : List ℕ). IsIn n l) c.as_slice.ensures.value i) in
    omega (arith, m, few, k)

pub returns : goal.returns
returns c =
    let pawns = c.args.pawns in let file = c.args.file in let rank = c.first_rank-rank.result in
    let a = c.first_rank-rank.ensures.second in let b = c.first_rank-rank.ensures.seventh in
    let r = rank - 1 in
    let nums = c.unrank_subset-numbers.result.items in
    let j = c.args.number - c.ways_before.result in
    let m = count_is file rank c.from-2.result c.requires.file a b c.from-2.ensures in
    let at : slice_get (subsets (length (following file r)) (pawns - 1)) j ≡ Some nums =
    subst (λ (n : ℕ). slice_get (subsets n (pawns - 1)) j ≡ Some nums) m c.unrank_subset-numbers.ensures.set in
    let fall : IsFallingBelow (length (following file r)) nums = subst (λ (n : ℕ). IsFallingBelow n nums) m c.unrank_subset-numbers.ensures.falling in
    let found = lead_pawns_found pawns file r j nums c.requires.some c.requires.few c.requires.file (omega (arith, a, b)) fall at in
    let w : c.ways_before.result ≡ slice_index WAYS_BEFORE (24 * (pawns - 1) + 6 * file + r) =
    c.ways_before.ensures.ways ∙ ap (λ n. slice_index WAYS_BEFORE (24 * (n - 1) + 6 * file + r)) c.from.ensures in
    let number : c.args.number ≡ slice_index WAYS_BEFORE (24 * (pawns - 1) + 6 * file + r) + j = let f = c.first_rank-rank.ensures.from in omega (arith, w, f) in
    let one : c.push.new.self.items ≡ (8 * rank + file) ∷ [] = c.push.ensures.items ∙ ap (λ (l : List ℕ). l ++ (8 * rank + file) ∷ []) c.new-squares.ensures in
    let stated : c.append_pawns.new.squares.items ≡ first_square file r ∷ map (slice_index PAWN_SQUARES) nums =
    c.append_pawns.ensures ∙ ap (λ (l : List ℕ). l ++ map (slice_index PAWN_SQUARES) c.as_slice.result.now) one ∙ ap (λ (l : List ℕ). (8 * rank + file) ∷ map (slice_index PAWN_SQUARES) l) c.as_slice.ensures.value
    ∙ ap (λ x. x ∷ map (slice_index PAWN_SQUARES) nums) (square_is file rank a) in
    ap (λ n. slice_get (lead_pawn_sets pawns file) n) number ∙ found ∙ ap Some (sym stated)
