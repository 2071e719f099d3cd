-- The words for failing checks: the names of their variants.
use Rattle.std.specs.Prelude.{ℕ, List, codes}
use Rattle.szg_file.specs.declared.fault.Reason.{Reason}
use Rattle.szg_file.specs.declared.fault.Reason.TheVariants as reasons

abbrev pub reason_word : Reason → List ℕ
reason_word reasons.Truncated = codes "Truncated"
reason_word reasons.Magic = codes "Magic"
reason_word reasons.SplitBit = codes "SplitBit"
reason_word reasons.PawnBit = codes "PawnBit"
reason_word reasons.Pieces = codes "Pieces"
reason_word reasons.PawnsFirst = codes "PawnsFirst"
reason_word reasons.OrderPlace = codes "OrderPlace"
reason_word reasons.BlockBits = codes "BlockBits"
reason_word reasons.SpanBits = codes "SpanBits"
reason_word reasons.CodeLengths = codes "CodeLengths"
reason_word reasons.LowestOrder = codes "LowestOrder"
reason_word reasons.TooFull = codes "TooFull"
reason_word reasons.Child = codes "Child"
reason_word reasons.Cycle = codes "Cycle"
reason_word reasons.LongSymbol = codes "LongSymbol"
reason_word reasons.ShortTotal = codes "ShortTotal"
reason_word reasons.SparseEntry = codes "SparseEntry"
reason_word reasons.Word = codes "Word"
