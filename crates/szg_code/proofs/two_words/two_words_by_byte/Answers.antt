use Rattle.std.proofs.Common.{refl, ◌∙◌, arith}
use Rattle.std.proofs.lemmas.List.{length-set}
use Rattle.szg_code.proofs.TwoWords.{none_by_byte, one_more_byte}
use Rattle.szg_code.proofs.two_words.two_words_by_byte.Goals as goal

pub loop-byte-init : goal.loop-byte-init
loop-byte-init c = record { bits = refl; first = refl; second = refl; valid = none_by_byte c.args.code.now }

pub loop-byte-preserved : goal.loop-byte-preserved
loop-byte-preserved c =
    let now = c.loop-byte in
    let words = c.two_words_of-words.result in
    record {
      bits = length-set now.bits now.byte words.bits ∙ now.invariant.bits;
      first = length-set now.first now.byte words.first ∙ now.invariant.first;
      second = length-set now.second now.byte words.second ∙ now.invariant.second;
      valid = one_more_byte c.args.code.now now.bits now.first now.second now.byte words (omega (arith, now.invariant.bits)) (omega (arith, now.invariant.first)) (omega (arith, now.invariant.second)) now.invariant.valid c.two_words_of-words.ensures;
    }
