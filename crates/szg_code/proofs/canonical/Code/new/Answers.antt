use Rattle.szg_code.proofs.canonical.Code.new.Goals as goal

pub invariant_of-code : goal.invariant_of-code
invariant_of-code c = (c.in-Ok.ensures.accepted, c.by_length.ensures.shifted, c.starts.ensures, c.by_length.ensures.symbols, tt)
