-- A handle on a tablebase.
use Rattle.std.proofs.Common.{refl}
use Rattle.szg_tables.specs.contracts.mapped.MappedTable as table
use Rattle.szg_tables.specs.contracts.mapped.MappedTableOpenTable.TheImpl.{ghosts}
use denote.Signature.{static_lft}
use Rattle.szg_tables.specs.contracts.opened.OpenedSet as tables
use Rattle.szg_c.specs.contracts.held_tablebase.HeldTablebase as handle
use Rattle.szg_c.proofs.HandleValues.{Kind}

abbrev pub kind : Kind
kind = record {
  name = handle.the_type.name;
  R = tables.the_row (table.the_row static_lft) ghosts;
  D = handle.the_type.D;
  at = λ d. d.at;
  alloc = λ d. d.alloc;
  value = λ d. d.value;
  coded = handle.the_type.coded;
  shr_at = handle.the_type.shr_at;
  make = λ p a v. record { at = p; alloc = a; value = v };
  make_at = λ p a v. refl;
  make_alloc = λ p a v. refl;
  make_value = λ p a v. refl;
}
