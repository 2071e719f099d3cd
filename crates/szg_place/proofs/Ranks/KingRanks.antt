-- Ranks of two lead kings, by tables.
use Rattle.std.proofs.Common.{◌≡◌, ℕ, ◌+◌, ◌*◌, ◌<◌, inl, inr, List, [], ◌∷◌, length, refl, true, arith}
use Rattle.std.specs.Prelude.{Some, slice_get, slice_index, nat_lt}
use Rattle.std.proofs.lemmas.Bool.{ltb-true}
use Rattle.std.proofs.lemmas.Option.{slice_get_within}
use Rattle.szg_count.specs.Leads.{king_pairs, lists_by, squares}
use Rattle.szg_count.specs.Laws.{IsIn}
use Rattle.szg_count.proofs.LeadSets.{kings_set}
use Rattle.szg_place.specs.declared.triples.TheConstants.{TRIANGLE}
use Rattle.szg_place.specs.declared.kings.TheConstants.{KING_RANKS, FIRST_KINGS, SECOND_KINGS}
use Rattle.szg_place.proofs.Ranks.Lists.{tested}
use Rattle.szg_place.proofs.Ranks.Numbered.{are_numbered, are_stated, valid_at, stated_at}

abbrev pub king_number : ℕ → ℕ → ℕ
king_number a b = slice_index KING_RANKS (64 * slice_index TRIANGLE a + b)

abbrev number_of : List ℕ → ℕ
number_of set = king_number (slice_index set 0) (slice_index set 1)

abbrev pub kings_told : ℕ → List ℕ
kings_told n = slice_index FIRST_KINGS n ∷ slice_index SECOND_KINGS n ∷ []

pairs_numbered : are_numbered number_of 0 king_pairs ≡ true
unfolding king_pairs lists_by squares
pairs_numbered = refl

pairs_stated : are_stated kings_told 0 king_pairs ≡ true
unfolding king_pairs lists_by squares
pairs_stated = refl

pub pairs_many : length king_pairs ≡ 462
unfolding king_pairs lists_by squares
pairs_many = refl

pub kings_placed : (a b : ℕ) → IsIn (a ∷ b ∷ []) king_pairs → slice_get king_pairs (king_number a b) ≡ Some (a ∷ b ∷ [])
kings_placed a b h = valid_at number_of king_pairs (a ∷ b ∷ []) pairs_numbered h

pub kings_below : (a b : ℕ) → IsIn (a ∷ b ∷ []) king_pairs → king_number a b < 462
kings_below a b h = let k = slice_get_within king_pairs (king_number a b) (a ∷ b ∷ []) (kings_placed a b h) in let m = pairs_many in omega (arith, k, m)

pub kings_found : (n : ℕ) → n < 462 → slice_get king_pairs n ≡ Some (kings_told n)
kings_found n h = stated_at kings_told king_pairs n pairs_stated (let m = pairs_many in omega (arith, h, m))

pub kings_inside : (a b : ℕ) → IsIn (a ∷ b ∷ []) king_pairs → (a < 64) × (b < 64)
kings_inside a b h = let r = kings_set (a ∷ b ∷ []) h in (r.inside a (inl refl), r.inside b (inr (inl refl)))

-- the triangle has ten squares
pub row_below : (a : ℕ) → a < 64 → slice_index TRIANGLE a < 10
row_below a h = ltb-true (slice_index TRIANGLE a) 10 (tested (λ x. nat_lt (slice_index TRIANGLE x) 10) 64 a refl h)
