use Rattle.std.proofs.Common.{◌≡◌, ◌<◌, ◌≤◌, ap, arith, length}
use Rattle.std.proofs.lemmas.Nat.{mul-lt}
use Rattle.szg_verify.specs.Memory.{digits_of, place_value}
use Rattle.szg_verify.proofs.Kept.{digits_within, place_within, digits_changed}
use Rattle.szg_verify.proofs.memory.digits_after.Goals as goal

pub overflow_mul-gained : goal.overflow_mul-gained
overflow_mul-gained c =
    let men = c.args.position.now.placed_men in
    let size : length men ≤ 6 = let same = ap length c.men.ensures.men in let few = c.men.ensures.few in omega (arith, same, few) in
    let value : place_value c.args.numbered.now.square men < 68719476736 = place_within 6 0 c.args.numbered.now.square men size in
    let is = c.requires.numbered.value in
    let below : c.from.result < 64 = omega arith in
    let few = mul-lt c.args.numbered.now.place c.from.result 68719476736 64 (omega (arith, value, is)) below in
    omega (arith, few)

pub overflow_mul-lost : goal.overflow_mul-lost
overflow_mul-lost c =
    let men = c.args.position.now.placed_men in
    let size : length men ≤ 6 = let same = ap length c.men.ensures.men in let few = c.men.ensures.few in omega (arith, same, few) in
    let value : place_value c.args.numbered.now.square men < 68719476736 = place_within 6 0 c.args.numbered.now.square men size in
    let is = c.requires.numbered.value in
    let below : c.from-2.result < 64 = omega arith in
    let few = mul-lt c.args.numbered.now.place c.from-2.result 68719476736 64 (omega (arith, value, is)) below in
    omega (arith, few)

pub overflow_add-result : goal.overflow_add-result
overflow_add-result c =
    let men = c.args.position.now.placed_men in
    let size : length men ≤ 6 = let same = ap length c.men.ensures.men in let few = c.men.ensures.few in omega (arith, same, few) in
    let value : place_value c.args.numbered.now.square men < 68719476736 = place_within 6 0 c.args.numbered.now.square men size in
    let is = c.requires.numbered.value in
    let below : c.from.result < 64 = omega arith in
    let few = mul-lt c.args.numbered.now.place c.from.result 68719476736 64 (omega (arith, value, is)) below in
    let all : digits_of men < 68719476736 = digits_within 6 0 men c.men.ensures.position.squares.men size in
    let before = c.requires.numbered.number in
    omega (arith, few, all, before)

pub overflow_sub-result : goal.overflow_sub-result
overflow_sub-result c =
    let from : c.from-2.result ≡ c.args.m.now.from = omega arith in
    let to : c.from.result ≡ c.args.m.now.to = omega arith in
    let moved = digits_changed c.args.m.now c.args.position.now.placed_men c.args.numbered.now.digits c.args.numbered.now.square c.args.numbered.now.place c.from-2.result c.from.result
    c.requires.numbered.number c.requires.numbered.value c.requires.from from to in
    omega (arith, moved)

pub returns : goal.returns
returns c =
    let from : c.from-2.result ≡ c.args.m.now.from = omega arith in
    let to : c.from.result ≡ c.args.m.now.to = omega arith in
    let moved = digits_changed c.args.m.now c.args.position.now.placed_men c.args.numbered.now.digits c.args.numbered.now.square c.args.numbered.now.place c.from-2.result c.from.result
    c.requires.numbered.number c.requires.numbered.value c.requires.from from to in
    omega (arith, moved)
