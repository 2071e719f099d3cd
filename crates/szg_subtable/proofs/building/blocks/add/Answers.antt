use Rattle.std.proofs.Common.{ℕ, Bool, List, [], ◌≡◌, ◌<◌, ◌≤◌, ◌+◌, ◌*◌, ◌^◌, length, ap, ◌∙◌, arith, inl, inr, refl}
use Rattle.std.specs.Prelude.{◌⊎◌}
use Rattle.szg_code.specs.Bits.{bits_of_number}
use Rattle.szg_code.proofs.Numbers.{length-bits_of_number}
use Rattle.szg_subtable.specs.Building.{IsFilling}
use Rattle.szg_subtable.proofs.Builders.BlockSteps.{block_large, block_room, full_some, filling_is, filling_more, filling_closed}
use Rattle.szg_subtable.proofs.building.blocks.add.Goals as goal
use Rattle.szg_subtable.proofs.building.blocks.add.Goals.{then-len-from+in_ok-close, then-len-from-via-then-len-from, then-len-from-via-else-len-from+then-filling-values-gt-MAX_VALUES, else-len-from+else-filling-values-gt-MAX_VALUES}

pub unreachable-requires : goal.unreachable-requires
unreachable-requires c =
    let word = c.requires.chosen.words c.args.symbol c.requires.there in
    c.in_default.ensures.none word.0 word.1

pub close-requires-clause-some : goal.close-requires-clause-some
close-requires-clause-some c =
    let b : ℕ = c.args.block_bits in
    let f = c.args.filling.now in
    let room = block_room b c.requires.most_bits in
    let full : (8 * 2 ^ b < length f.buffer + 32) ⊎ (65536 < f.values + 256) = elim c.then-len-from.branch [
      | then-len-from-via-then-len-from w ↦ inl (omega (arith, w.if-len-from.true, room, c.len-2.ensures, c.from.ensures, c.in-Some.ensures.short.1))
      | then-len-from-via-else-len-from+then-filling-values-gt-MAX_VALUES w ↦ inr (omega (arith, w.if-filling-values-gt-MAX_VALUES.true, c.from-values.ensures, c.len.ensures.at_most))
    ] in
    full_some c.args.code.now c.args.dict.now b c.requires.filling.0 f.lengths.items f.packed.items f.buffer f.values 32 256 c.requires.filling.1 (block_large b c.requires.least_bits) (omega arith) (omega arith) full

pub returns-clause-more : goal.returns-clause-more
returns-clause-more c = λ symbols h.
    let code = c.args.code.now in
    let dict = c.args.dict.now in
    let b : ℕ = c.args.block_bits in
    let s : ℕ = c.args.symbol in
    let old = c.args.filling.now in
    let f = c.if-len-from.filling in
    let n : ℕ = c.len.result in
    let word : List Bool = bits_of_number c.in-Some.word.length c.in-Some.word.number in
    let bits_are : length word ≡ c.in-Some.word.length = length-bits_of_number c.in-Some.word.length c.in-Some.word.number in
    let short : length word ≤ 32 = omega (arith, bits_are, c.in-Some.ensures.short.1) in
    let room = block_room b c.requires.most_bits in
    let large : 32 ≤ 2 ^ b = block_large b c.requires.least_bits in
    let same : f.values + c.from-values.result ≡ f.values + n = ap (λ (k : ℕ). f.values + k) c.from-values.ensures in
    let done = λ (now : IsFilling code dict b symbols f.lengths.items f.packed.items f.buffer f.values) (fits : length f.buffer + length word ≤ 8 * 2 ^ b) (most : f.values + n ≤ 65536).
    filling_is code dict b _ f.lengths.items f.lengths.items f.packed.items f.packed.items _ c.append.new.self (f.values + n) (f.values + c.from-values.result)
    (filling_more code dict b symbols f.lengths.items f.packed.items f.buffer word f.values s n now c.in-Some.ensures.found.1 short c.len.ensures.number c.len.ensures.at_least c.len.ensures.at_most fits most)
    refl refl c.in_ok-append.ensures same in
    elim c.if-len-from.branch [
      | then-len-from+in_ok-close w ↦
          let block = w.in_ok-close.ensures.block in
          let again : (8 * 2 ^ b < length old.buffer + 32) ⊎ (65536 < old.values + 256) = elim w.then-len-from.branch [
            | then-len-from-via-then-len-from v ↦ inl (omega (arith, v.if-len-from.true, room, c.len-2.ensures, c.from.ensures, c.in-Some.ensures.short.1))
            | then-len-from-via-else-len-from+then-filling-values-gt-MAX_VALUES v ↦ inr (omega (arith, v.if-filling-values-gt-MAX_VALUES.true, c.from-values.ensures, c.len.ensures.at_most))
          ] in
          let none : f.buffer ≡ [] = ap (λ z. z.buffer) w.filling-is ∙ w.in_ok-close.ensures.buffer in
          let no_values : f.values ≡ 0 = ap (λ z. z.values) w.filling-is ∙ w.in_ok-close.ensures.values in
          let empty : length f.buffer ≡ 0 = ap length none in
          done
          (filling_is code dict b symbols _ f.lengths.items _ f.packed.items [] f.buffer 0 f.values
          (filling_closed code dict b symbols old.lengths.items old.packed.items old.buffer old.values block.0 h block.1 large again)
          (ap (λ z. z.lengths.items) w.filling-is ∙ w.in_ok-close.ensures.lengths) (ap (λ z. z.packed.items) w.filling-is ∙ block.2) none no_values)
          (omega (arith, empty, short, large)) (omega (arith, no_values, c.len.ensures.at_most))
      | else-len-from+else-filling-values-gt-MAX_VALUES w ↦
          let same_buffer : f.buffer ≡ old.buffer = ap (λ z. z.buffer) w.filling-is in
          let same_values : f.values ≡ old.values = ap (λ z. z.values) w.filling-is in
          let same_length : length f.buffer ≡ length old.buffer = ap length same_buffer in
          let fits : length f.buffer + length word ≤ 8 * 2 ^ b = omega (arith, w.if-len-from.false, room, c.len-2.ensures, c.from.ensures, same_length, bits_are) in
          let most : f.values + n ≤ 65536 = omega (arith, w.if-filling-values-gt-MAX_VALUES.false, same_values, c.from-values.ensures) in
          done
          (filling_is code dict b symbols old.lengths.items f.lengths.items old.packed.items f.packed.items old.buffer f.buffer old.values f.values h
          (ap (λ z. z.lengths.items) w.filling-is) (ap (λ z. z.packed.items) w.filling-is) same_buffer same_values)
          fits most
    ]
