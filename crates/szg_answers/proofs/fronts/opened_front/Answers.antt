use Rattle.std.proofs.Common.{◌≡◌, rules, arith, ◌≤◌, length}
use Rattle.szg_answers.proofs.FrontFacts.{front_long}
use Rattle.szg_answers.proofs.fronts.opened_front.Goals as goal

pub returns-clause-front : goal.returns-clause-front
returns-clause-front g c =
    let r = c.in-Ok-open_front.ensures.read in
    let many : c.in-Ok-open_front.found.1 ≡ length r.bytes = r.stated.2 in
    let room : c.in-Ok-open_front.found.1 ≤ c.args.size = omega (arith, r.stated.3, many) in
    record {
      material = c.in-Ok.material;
      named = search rules;
      material_is = r.stated.0;
      kind_is = r.stated.1;
      bytes = r.bytes;
      taken = r.taken;
      read_is = many;
      room = room;
      length_is = front_long c.in-Ok-open_front.found.0 r.bytes c.args.size r.stated.3 r.stated.4;
      front = r.stated.4;
    }
