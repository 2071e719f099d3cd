use Rattle.std.proofs.Common.{◌≡◌, length, arith, refl, inl}
use Rattle.std.proofs.lemmas.Grind.{common_steps}
use Rattle.szg_build.proofs.Builders.TableLaws.{no_items}
use Rattle.szg_build.proofs.reading.gathering.add_values.Goals as goal

pub returns-in-Some : goal.returns-in-Some
returns-in-Some g c =
    let none : length c.args.subs.now.rest.items ≡ 0 = grind (arith, common_steps, c.is_empty.ensures, c.if-not-is_empty.false) in
    record {
      same_flags = refl;
      same_maps = refl;
      added = inl (record {
        packed = c.in-Some.packed;
        good = c.in-Some.ensures c.args.choice;
        first = no_items c.args.subs.now.rest.items none;
        rest = refl;
        more = c.in_ok-push-2.ensures.items;
      });
    }
