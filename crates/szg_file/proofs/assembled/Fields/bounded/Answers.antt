use Rattle.std.proofs.Common.{◌*◌, ◌<◌, ◌^◌, [], length, ap, lit≤, arith}
use Rattle.std.specs.Prelude.{option_map}
use Rattle.std.proofs.lemmas.List.{length-map}
use Rattle.szg_file.specs.Assembled.{fields_shown}
use Rattle.szg_file.specs.Contents.{Contents}
use Rattle.szg_file.specs.FileOf.{fill_asked, sections}
use Rattle.szg_file.specs.Held.{subtable_of, map_of}
use Rattle.szg_file.proofs.Writers.FileLengths.{queried-from, few_filled, few_held}
use Rattle.szg_file.proofs.assembled.Fields.bounded.Goals as goal

pub returns : goal.returns
unfolding fill_asked
returns c =
    let t : Contents = (fields_shown c.args.self.now).contents in
    let subs : 80 * length c.as_slice.result.now < 2 ^ 64 = few_held (length c.as_slice.result.now) _ c.size_of_val.result c.size_of_val.ensures c.size_of_val.type_inv (lit≤ tt) in
    let maps : 80 * length c.as_slice-2.result.now < 2 ^ 64 = few_held (length c.as_slice-2.result.now) _ c.size_of_val-2.result c.size_of_val-2.ensures c.size_of_val-2.type_inv (lit≤ tt) in
    omega (
      arith,
      few_filled t,
      subs,
      maps,
      ap length c.as_slice.ensures.value,
      ap length c.as_slice-2.ensures.value,
      length-map c.args.self.now.subs.items subtable_of,
      length-map c.args.self.now.maps.items (option_map map_of),
      queried-from [] (sections t),
    )
