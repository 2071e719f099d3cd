use Rattle.std.proofs.Common.{◌≡◌, ◌+◌, ◌/◌, ◌<◌, length}
use Rattle.szg_code.specs.Bits.{bits_of_number}
use Rattle.szg_code.proofs.Numbers.{length-bits_of_number}
use Rattle.szg_code.proofs.writer.put.Goals as goal

pub returns-in-Err-clause-full : goal.returns-in-Err-clause-full
returns-in-Err-clause-full c =
    let word = c.in-Some.word in
    let n : length (bits_of_number word.length word.number) ≡ word.length = length-bits_of_number word.length word.number in
    let full : c.args.buffer.now.capacity < (length c.args.buffer.now.written + word.length + 7) / 8 = c.in-Err.ensures.full in
    λ _. (bits_of_number word.length word.number, c.in-Some.ensures.found.1, rw n full)
