use Rattle.std.proofs.Common.{◌≡◌, ◌++◌, ◌∙◌, List, ℕ, length, ap, append_assoc, length-append, arith, rules}
use Rattle.szg_archive.proofs.one.read_on.Goals as goal

pub chunks-preserved : goal.chunks-preserved
chunks-preserved g c =
    let h = c.chunks.invariant in
    let size : length c.take_whole.new.chunk ≡ 4096 = search rules in
    let took = c.in_ok-take_whole.ensures.ok (omega (arith, c.in_ok-take_whole.ensures.within)) in
    let count = length-append h.rest c.take_whole.new.chunk in
    record {
      size = size;
      quiet = c.in_ok-take_whole.ensures.quiet ∙ h.quiet;
      rest = h.rest ++ c.take_whole.new.chunk;
      moved = took.bytes_moved ∙ ap (λ (z : List ℕ). z ++ c.take_whole.new.chunk) h.moved ∙ append_assoc _ h.rest c.take_whole.new.chunk;
      count = omega (arith, count, size, h.count);
    }
