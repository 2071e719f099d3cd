use Rattle.std.proofs.Common.{◌≤◌, arith}
use Rattle.szg_code.specs.TwoWords.{BeginsWithTwoWords}
use Rattle.szg_code.proofs.TwoWords.{begins_with_taken}
use Rattle.szg_code.proofs.two_words.two_words_of.Goals as goal

pub overflow_cast-result : goal.overflow_cast-result
overflow_cast-result c =
    let found : BeginsWithTwoWords c.args.code.now c.args.byte (record { first = c.in-Some.first; second = c.in-Some-next.second; bits = c.place.result }) =
    begins_with_taken c.args.code.now c.args.byte _ c.new-words.result c.next.new.bits c.next-2.new.bits c.new-words.ensures.taken c.new-words.ensures.left c.in-Some.ensures.found c.in-Some-next.ensures.found c.place.ensures in
    let short : c.place.result ≤ 8 = found.inside in
    omega (arith, short)

pub returns : goal.returns
returns c some =
    begins_with_taken c.args.code.now c.args.byte _ c.new-words.result c.next.new.bits c.next-2.new.bits c.new-words.ensures.taken c.new-words.ensures.left c.in-Some.ensures.found c.in-Some-next.ensures.found c.place.ensures
