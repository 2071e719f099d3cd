-- Codes that are accepted or refused, by the rules.
use Rattle.std.proofs.Common.{ℕ, zero, suc, ◌*◌, ◌<◌, ◌≤◌, inl, [], ◌∷◌, arith, refl}
use Rattle.szg_code.specs.Canonical.{CanonicalCode, base, base_below_max, lowest_of}
use Rattle.szg_code.specs.Acceptance.{IsOrderedAt, HasRoomAt, IsCode, IsCodeFault}
use Rattle.szg_code.specs.declared.CodeFault.TheVariants.{TooFull}

abbrev three : CanonicalCode
three = record { min_length = 1; max_length = 2; lowest = 2 ∷ 0 ∷ []; symbols = 3 }

-- words of one and two bits, of three symbols: accepted
accepts_three : IsCode three
unfolding base base_below_max lowest_of
accepts_three = record {
  lengths = record { some_bits = omega arith; in_order = omega arith; at_most = omega arith; each = refl };
  ordered = ordered;
  room = room;
  least = omega arith;
}
  where
    ordered : (j : ℕ) → IsOrderedAt three j
    ordered zero g h = absurd (omega arith)
    ordered (suc zero) g h = omega arith
    ordered (suc (suc j)) g h = absurd (omega arith)

    room : (l : ℕ) → HasRoomAt three l
    room zero g h = absurd (omega arith)
    room (suc zero) g h = omega arith
    room (suc (suc l)) g h = absurd (omega arith)

abbrev equal_lowest : CanonicalCode
equal_lowest = record { min_length = 1; max_length = 3; lowest = 2 ∷ 2 ∷ 0 ∷ []; symbols = 4 }

-- lowest 2, 2, 0: the base of two bits is 1, that of one bit 0
refuses_equal_lowest : IsCodeFault equal_lowest (TooFull 0)
unfolding base base_below_max lowest_of
refuses_equal_lowest = (record { some_bits = omega arith; in_order = omega arith; at_most = omega arith; each = refl }, ordered, inl (record { after = after; here = here }))
  where
    ordered : (j : ℕ) → IsOrderedAt equal_lowest j
    ordered zero g h = absurd (omega arith)
    ordered (suc zero) g h = omega arith
    ordered (suc (suc zero)) g h = omega arith
    ordered (suc (suc (suc j))) g h = absurd (omega arith)

    after : (k : ℕ) → 1 < k → HasRoomAt equal_lowest k
    after zero m g h = absurd (omega arith)
    after (suc zero) m g h = absurd (omega arith)
    after (suc (suc zero)) m g h = omega arith
    after (suc (suc (suc k))) m g h = absurd (omega arith)

    here : ¬ HasRoomAt equal_lowest 1
    here h = let r : 1 ≤ 2 * 0 = h (omega arith) (omega arith) in absurd (omega arith)
