-- The squares of an index, group by group.
use Rattle.std.proofs.Common.{◌≡◌, ℕ, zero, suc, ◌*◌, ◌/◌, ◌%◌, ◌<◌, List, [], ◌∷◌, ◌++◌, length, get_or, take, refl, sym, ap, ◌∙◌, subst, arith, append_assoc}
use Rattle.std.specs.Prelude.{Option, Some, None, slice_get}
use Rattle.std.specs.List.{zip}
use Rattle.std.proofs.lemmas.List.{length-map, length-take-le, append-nil, get_or-map}
use Rattle.szg_values.specs.Material.{Sides, IsMaterial, has_pawns, man_codes}
use Rattle.szg_count.specs.Leads.{rank_in}
use Rattle.szg_count.specs.Groups.{IsPart, Nibbles, order_fault, groups_of, counted, lead_length, factors_of, product, ways_of, ways_before, positions_of}
use Rattle.szg_count.specs.Steps.{ArePositive}
use Rattle.szg_count.specs.Radix.{decode_digits, EachBelow}
use Rattle.szg_count.proofs.Pawns.{lead_length-fits, rearranged-length}
use Rattle.szg_count.proofs.RanksInLists.{slice_get-rank_in}
use Rattle.szg_count.proofs.Products.{ways_below-positive}
use Rattle.szg_count.proofs.Radix.{product-ways_before}
use Rattle.szg_place.specs.Spots.{ordered_sets, ranks_in_lists, squares_of_ranks, ranks_of_index}
use Rattle.szg_count.specs.declared.Group.{Group}
use Rattle.szg_place.specs.Known.{AreGrouped}
use Rattle.szg_place.specs.Ranks.{EachInList}
use Rattle.szg_place.proofs.Ranks.Ranking.{ranks_again}
use Rattle.szg_place.proofs.Ranks.Ways.{laid_none, each_rank, stated_in_lists}
use Rattle.szg_place.proofs.Indexes.Spotted.{ordered, ways_many}
use Rattle.szg_place.proofs.Placements.Stated.{digits_below}
use Rattle.szg_place.proofs.Indexes.Indexing.{IsStep, part_small, IsTurn}

ranks_from : (sides : Sides) (part : ℕ) (before sets : List (List ℕ)) (i : ℕ) → i < length sets →
    get_or (ranks_in_lists sides part before sets) i 0 ≡ rank_in (ordered_sets sides part (before ++ take i sets) (length (get_or sets i []))) (get_or sets i [])
unfolding ranks_in_lists
ranks_from sides part before [] i h = absurd (omega (arith, h))
ranks_from sides part before (set ∷ sets) zero h = ap (λ (l : List (List ℕ)). rank_in (ordered_sets sides part l (length set)) set) (sym (append-nil before))
ranks_from sides part before (set ∷ sets) (suc i) h =
    ranks_from sides part (before ++ set ∷ []) sets i (omega (arith, h))
    ∙ ap (λ (l : List (List ℕ)). rank_in (ordered_sets sides part l (length (get_or sets i []))) (get_or sets i [])) (append_assoc before (set ∷ []) (take i sets))

digit_of : (fs ws : List ℕ) (index i : ℕ) → i < length fs → length fs ≡ length ws → get_or (decode_digits fs ws index) i 0 ≡ (index / get_or fs i 0) % get_or ws i 0
digit_of [] ws index i h e = absurd (omega (arith, h))
digit_of (f ∷ fs) [] index i h e = absurd (omega (arith, e))
digit_of (f ∷ fs) (w ∷ ws) index zero h e = refl
digit_of (f ∷ fs) (w ∷ ws) index (suc i) h e = digit_of fs ws index i (omega (arith, h)) (omega (arith, e))

both_some : (a b : ℕ) → 0 < a * b → (0 < a) × (0 < b)
both_some zero b h = absurd (omega (arith, h))
both_some (suc a) zero h = absurd (omega (arith, h))
both_some (suc a) (suc b) h = (omega arith, omega arith)

all_positive : (ws : List ℕ) → 0 < product ws → ArePositive ws
all_positive [] h = tt
all_positive (w ∷ ws) h = let k = both_some w (product ws) h in (k.0, all_positive ws k.1)

one_positive : (ws : List ℕ) (i : ℕ) → ArePositive ws → i < length ws → 0 < get_or ws i 0
one_positive [] i p h = absurd (omega (arith, h))
one_positive (w ∷ ws) zero p h = p.0
one_positive (w ∷ ws) (suc i) p h = one_positive ws i p.1 (omega (arith, h))

factor_positive : (group_ranks ways : List ℕ) (i : ℕ) → ArePositive ways → i < length group_ranks → 0 < get_or (factors_of group_ranks ways) i 0
unfolding factors_of
factor_positive group_ranks ways i p h =
    let e = get_or-map (λ position. product (ways_before position group_ranks ways)) group_ranks i 0 0 h in
    let q = product-ways_before (get_or group_ranks i 0) group_ranks ways in
    let r = ways_below-positive (get_or group_ranks i 0) group_ranks ways p in omega (arith, e, q, r)

factors_length : (group_ranks ways : List ℕ) → length (factors_of group_ranks ways) ≡ length group_ranks
unfolding factors_of
factors_length group_ranks ways = length-map group_ranks (λ position. product (ways_before position group_ranks ways))

lead_size : (sides : Sides) (n : Nibbles) → IsMaterial sides → order_fault sides n ≡ None → (group : List ℕ) (more : List (List ℕ)) → groups_of sides n.men ≡ group ∷ more → length group ≡ lead_length sides
unfolding groups_of
lead_size sides n m o group more q =
    let a = rearranged-length n.men (man_codes sides) (ordered sides n o).pieces in let b = (lead_length-fits sides m).1 in
    let e : group ≡ take (lead_length sides) n.men = cc in
    ap length e ∙ length-take-le (lead_length sides) n.men (omega (arith, a, b))

-- the squares of an index
abbrev pub sets_stated : Sides → ℕ → Nibbles → ℕ → List (List ℕ)
sets_stated sides part n index = squares_of_ranks sides part [] (zip (counted sides part n).groups (ranks_of_index (counted sides part n) index))

pub record IsStating (sides : Sides) (part : ℕ) (n : Nibbles) (index : ℕ) (sets : List (List ℕ)) : Type 0 where
  pub lists : EachInList sides part [] (groups_of sides n.men) sets
  pub group_ranks : ranks_in_lists sides part [] sets ≡ decode_digits (counted sides part n).factors (counted sides part n).ways index
  pub ways : (i : ℕ) → i < length (counted sides part n).factors → 0 < get_or (counted sides part n).ways i 0
  pub factors : (i : ℕ) → i < length (counted sides part n).factors → 0 < get_or (counted sides part n).factors i 0
  pub many : length (counted sides part n).factors ≡ length (counted sides part n).ways

stating_known : (sides : Sides) (part : ℕ) (n : Nibbles) (index : ℕ) → IsMaterial sides → IsPart sides part → order_fault sides n ≡ None → index < product (counted sides part n).ways →
    IsStating sides part n index (sets_stated sides part n index)
unfolding counted
stating_known sides part n index m p o h =
    let groups = groups_of sides n.men in
    let ok = ordered sides n o in
    let ways = ways_of sides part groups in
    let group_ranks = positions_of n (length groups) in
    let factors = factors_of group_ranks ways in
    let many = ways_many sides part n ok.group_ranks in
    let same = factors_length group_ranks ways in
    let digits = decode_digits factors ways index in
    let below : EachBelow digits ways = digits_below factors ways index (many ∙ sym same) (omega (arith, h)) in
    let first : [] ≡ [] → (group : List ℕ) (more : List (List ℕ)) → groups ≡ group ∷ more → length group ≡ lead_length sides = λ e group more q. lead_size sides n m o group more q in
    let each = each_rank sides part [] [] groups digits m p refl refl (laid_none sides) first below in
    let positive = all_positive ways (omega (arith, h)) in
    record {
      lists = stated_in_lists sides part [] groups digits m p first each;
      group_ranks = ranks_again sides part groups digits (part_small (has_pawns sides) part p) each;
      ways = λ i k. one_positive ways i positive (omega (arith, k, many, same));
      factors = λ i k. factor_positive group_ranks ways i positive (omega (arith, k, same));
      many = same ∙ sym many;
    }

pub telling : (sides : Sides) (part : ℕ) (n : Nibbles) (index : ℕ) (sets : List (List ℕ)) → IsMaterial sides → IsPart sides part → order_fault sides n ≡ None → index < product (counted sides part n).ways →
    sets ≡ sets_stated sides part n index → IsStating sides part n index sets
telling sides part n index sets m p o h e = subst (λ (l : List (List ℕ)). IsStating sides part n index l) (sym e) (stating_known sides part n index m p o h)

-- the set at a group's rank is its set
pub set_is : (sides : Sides) (part : ℕ) (n : Nibbles) (index i size rank : ℕ) (sets : List (List ℕ)) → IsStating sides part n index sets → i < length sets →
    i < length (counted sides part n).factors →
    IsTurn sides part [] (groups_of sides n.men) sets i → size ≡ length (get_or sets i []) →
    rank ≡ (index / get_or (counted sides part n).factors i 0) % get_or (counted sides part n).ways i 0 →
    slice_get (ordered_sets sides part (take i sets) size) rank ≡ Some (get_or sets i [])
set_is sides part n index i size rank sets t h f symmetry s e =
    let a = ranks_from sides part [] sets i h in
    let b = ap (λ (l : List ℕ). get_or l i 0) t.group_ranks in
    let d = digit_of (counted sides part n).factors (counted sides part n).ways index i f t.many in
    let at : rank_in (ordered_sets sides part (take i sets) (length (get_or sets i []))) (get_or sets i []) ≡ rank = sym a ∙ b ∙ d ∙ sym e in
    ap (λ n. slice_get (ordered_sets sides part (take i sets) n) rank) s
    ∙ ap (λ k. slice_get (ordered_sets sides part (take i sets) (length (get_or sets i []))) k) (sym at)
    ∙ slice_get-rank_in (ordered_sets sides part (take i sets) (length (get_or sets i []))) (get_or sets i []) symmetry.listed

pub stating_at : {sides : Sides} {part : ℕ} {n : Nibbles} {sets : List (List ℕ)} {groups : List Group} (index : ℕ) → IsMaterial sides → AreGrouped sides part n groups →
    index < product (counted sides part n).ways → sets ≡ sets_stated sides part n index → IsStating sides part n index sets
stating_at {sides} {part} {n} {sets} index m g h e = telling sides part n index sets m g.has_part g.ordered h e

-- a group's factor and number of ways are not zero, and the set at its rank is its set
pub record IsPlaced (sides : Sides) (part index : ℕ) (sets : List (List ℕ)) (i : ℕ) (group : Group) : Type 0 where
  pub factor : 0 < group.factor
  pub ways : 0 < group.ways
  pub set : slice_get (ordered_sets sides part (take i sets) group.length) (index / group.factor % group.ways) ≡ Some (get_or sets i [])

pub placed_at : {sides : Sides} {part index : ℕ} {n : Nibbles} {sets : List (List ℕ)} {i : ℕ} {group : Group} → IsStating sides part n index sets → IsStep sides part n sets i group → IsPlaced sides part index sets i group
placed_at {sides} {part} {index} {n} {sets} {i} {group} t s =
    let c = counted sides part n in
    let inside : i < length c.factors = let a = s.count in let b = s.many in omega (arith, a, b) in
    let own : index / group.factor % group.ways ≡ (index / get_or c.factors i 0) % get_or c.ways i 0 =
    ap (λ k. index / k % group.ways) s.factor ∙ ap (λ k. (index / get_or c.factors i 0) % k) s.ways in record {
      factor = let a = t.factors i inside in let b = s.factor in omega (arith, a, b);
      ways = let a = t.ways i inside in let b = s.ways in omega (arith, a, b);
      set = set_is sides part n index i group.length (index / group.factor % group.ways) sets t s.count inside s.symmetry s.size own;
    }

pub set_stated : {sides : Sides} {part index : ℕ} {sets : List (List ℕ)} {i : ℕ} {group : Group} {set : List ℕ} → IsPlaced sides part index sets i group →
    slice_get (ordered_sets sides part (take i sets) group.length) (index / group.factor % group.ways) ≡ Some set → set ≡ get_or sets i []
set_stated {sets = sets} {i} {set = set} p e = let k : ◌≡◌ {A = Option (List ℕ)} (Some set) (Some (get_or sets i [])) = sym e ∙ p.set in cc
