-- Examples of pairs, computed through the definitions.
use Rattle.std.proofs.Common.{◌≡◌, [], ◌∷◌, refl}
use Rattle.szg_subtable.specs.Pairing.{pair_count, replaced}

twice_in_five : pair_count 1 1 (1 ∷ 1 ∷ 1 ∷ 1 ∷ 1 ∷ []) ≡ 2
twice_in_five = refl

once_after_another : pair_count 1 2 (1 ∷ 1 ∷ 2 ∷ 2 ∷ []) ≡ 1
once_after_another = refl

replaced_in_five : replaced 1 1 9 (1 ∷ 1 ∷ 1 ∷ 1 ∷ 1 ∷ []) ≡ 9 ∷ 9 ∷ 1 ∷ []
replaced_in_five = refl
