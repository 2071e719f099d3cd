-- Ranks of three lead men, by arithmetic.
use Rattle.std.proofs.Common.{◌≡◌, ℕ, ◌<◌, ◌≢◌, inl, inr, List, [], ◌∷◌, length, refl, true, arith}
use Rattle.std.specs.Prelude.{Some, slice_get, slice_index}
use Rattle.std.proofs.lemmas.Option.{slice_get_within}
use Rattle.szg_count.specs.Leads.{triples, triples_from, lists_by, squares, diagonal, below_diagonal}
use Rattle.szg_count.specs.Laws.{IsIn}
use Rattle.szg_count.proofs.LeadSets.{triples_set}
use Rattle.szg_place.specs.Numbers.{triple_number, triple_of_rank}
use Rattle.szg_place.proofs.Ranks.Numbered.{are_numbered, are_stated, valid_at, stated_at}

abbrev number_of : List ℕ → ℕ
number_of set = triple_number (slice_index set 0) (slice_index set 1) (slice_index set 2)

triples_numbered : are_numbered number_of 0 triples ≡ true
unfolding triples triples_from lists_by squares diagonal below_diagonal
triples_numbered = refl

triples_stated : are_stated triple_of_rank 0 triples ≡ true
unfolding triples triples_from lists_by squares diagonal below_diagonal
triples_stated = refl

pub triples_many : length triples ≡ 31332
unfolding triples triples_from lists_by squares diagonal below_diagonal
triples_many = refl

pub triple_placed : (s t u : ℕ) → IsIn (s ∷ t ∷ u ∷ []) triples → slice_get triples (triple_number s t u) ≡ Some (s ∷ t ∷ u ∷ [])
triple_placed s t u h = valid_at number_of triples (s ∷ t ∷ u ∷ []) triples_numbered h

pub triple_below : (s t u : ℕ) → IsIn (s ∷ t ∷ u ∷ []) triples → triple_number s t u < 31332
triple_below s t u h = let k = slice_get_within triples (triple_number s t u) (s ∷ t ∷ u ∷ []) (triple_placed s t u h) in let m = triples_many in omega (arith, k, m)

pub triple_found : (n : ℕ) → n < 31332 → slice_get triples n ≡ Some (triple_of_rank n)
triple_found n h = stated_at triple_of_rank triples n triples_stated (let m = triples_many in omega (arith, h, m))

-- the squares of a triple are on the board, the first two different
pub triple_inside : (s t u : ℕ) → IsIn (s ∷ t ∷ u ∷ []) triples → (s < 64) × (t < 64) × (u < 64) × (s ≢ t)
triple_inside s t u h =
    let r = triples_set (s ∷ t ∷ u ∷ []) h in
    (r.inside s (inl refl), r.inside t (inr (inl refl)), r.inside u (inr (inr (inl refl))), λ e. r.differ.0 (inl e))
