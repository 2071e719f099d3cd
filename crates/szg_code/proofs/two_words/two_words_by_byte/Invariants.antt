use Rattle.std.proofs.Common.{◌≡◌, length}
use Rattle.szg_code.specs.TwoWords.{HasTwoWords}
use Rattle.szg_code.proofs.two_words.two_words_by_byte.Given as goal

abbrev pub invariant-loop-byte : goal.invariant-loop-byte
invariant-loop-byte l = record {
  bits : length l.bits ≡ 256;
  first : length l.first ≡ 256;
  second : length l.second ≡ 256;
  valid : HasTwoWords l.code l.bits l.first l.second;
}
