use Rattle.std.proofs.Common.{◌≡◌, ℕ, ◌<◌, ◌*◌, refl, arith}
use Rattle.std.proofs.lemmas.Grind.{common_steps}
use Rattle.std.specs.Prelude.{Bool, true, false, ◌==◌, bit_xor, if◌then◌else◌}
use mir.Val.{bool_byte}
use Rattle.std.specs.List.{list_all, range_with_len}
use Rattle.std.proofs.lemmas.Bool.{eqb-true}
use Rattle.szg_place.specs.Normal.{flip_rank}
use Rattle.szg_place.proofs.Ranks.Lists.{tested}
use Rattle.szg_place.proofs.men.coded_man.Goals as goal

abbrev is_flipped : ℕ → Bool
is_flipped square = bit_xor square 56 == flip_rank square

all_flipped : list_all is_flipped (range_with_len 0 64) ≡ true
all_flipped = refl

abbrev is_same : ℕ → Bool
is_same square = bit_xor square 0 == square

all_same : list_all is_same (range_with_len 0 64) ≡ true
all_same = refl

by_mask : (flips : Bool) (square mask : ℕ) → square < 64 → mask ≡ bool_byte flips → bit_xor square (56 * mask) ≡ (if flips then flip_rank square else square)
by_mask true square mask h e = rw e (eqb-true (bit_xor square 56) (flip_rank square) (tested is_flipped 64 square all_flipped h))
by_mask false square mask h e = rw e (eqb-true (bit_xor square 0) square (tested is_same 64 square all_same h))

pub returns : goal.returns
returns c =
    let at = by_mask c.args.flips c.number.result c.from-2.result c.number.ensures.below c.from-2.ensures in rw (at, c.number.ensures.same) (grind (arith, common_steps))
