use Rattle.std.proofs.Common.{◌<◌, ◌/◌, ◌^◌, arith}
use Rattle.szg_chess.proofs.Sets.{rest_empty, rest_first, rest_found, rest_within}
use Rattle.szg_chess.proofs.moves.next_in.Goals as goal

pub returns-then-rest-eq0-clause-first : goal.returns-then-rest-eq0-clause-first
returns-then-rest-eq0-clause-first c = λ square from within. rest_empty c.args.squares c.args.from square from c.if-rest-eq0.true

pub returns-clause-within : goal.returns-clause-within
returns-clause-within c =
    let some : 0 < c.args.squares / 2 ^ c.args.from = omega (arith, c.if-rest-eq0.false) in
    let less = rest_within c.args.squares c.args.from c.ranges.squares.fits some in omega (arith, less)

pub returns-clause-found : goal.returns-clause-found
returns-clause-found c =
    let some : 0 < c.args.squares / 2 ^ c.args.from = omega (arith, c.if-rest-eq0.false) in
    λ within. rest_found c.args.squares c.args.from c.ranges.squares.fits some

pub returns-clause-first : goal.returns-clause-first
returns-clause-first c =
    let some : 0 < c.args.squares / 2 ^ c.args.from = omega (arith, c.if-rest-eq0.false) in
    λ square from before. rest_first c.args.squares c.args.from square c.ranges.squares.fits some from before
