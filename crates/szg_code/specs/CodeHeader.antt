-- The code section of a subtable header as the code stores it, and the canonical code that it defines.
use Rattle.szg_code.specs.Canonical.{CanonicalCode}
use Rattle.szg_code.specs.declared.checks.CodeHeader.{CodeHeader}

abbrev pub code_of : CodeHeader → CanonicalCode
code_of header = record { min_length = header.min; max_length = header.max; lowest = header.lowest.items; symbols = header.symbols }
