-- The three bytes of an entry: a leaf of a value, or a pair of two symbols.
use Rattle.std.proofs.Common.{ℕ, ◌≡◌, ◌<◌, true, false, arith}
use Rattle.std.proofs.lemmas.Bool.{eq-eqb, ne_eqb}
use Rattle.szg_pairs.specs.Entry.{left_of, right_of, is_leaf}
use Rattle.szg_subtable.specs.Building.{entry_of}

pub entry-left : (left right : ℕ) → left < 4096 → left_of (entry_of left right) ≡ left
unfolding left_of
entry-left left right h = omega (arith, h)

pub entry-right : (left right : ℕ) → left < 4096 → right_of (entry_of left right) ≡ right
unfolding right_of
entry-right left right h = omega (arith, h)

pub entry-leaf : (value : ℕ) → value < 4096 → is_leaf (entry_of value 4095) ≡ true
unfolding is_leaf
entry-leaf value h = eq-eqb (right_of (entry_of value 4095)) 4095 (entry-right value 4095 h)

pub entry-pair : (left right : ℕ) → left < 4096 → right < 4095 → is_leaf (entry_of left right) ≡ false
unfolding is_leaf
entry-pair left right h lt = let e = entry-right left right h in ne_eqb (right_of (entry_of left right)) 4095 (λ same. absurd (omega (arith, e, same, lt)))
