use Rattle.std.proofs.Common.{string_bytes}
use Rattle.szg_results.proofs.FetchedPieces.{fetched_is, is_below}
use Rattle.szg_results.proofs.pieces.fetch.Goals as goal

pub returns-in-Ok-decode-clause-value : goal.returns-in-Ok-decode-clause-value
returns-in-Ok-decode-clause-value g c =
    let kept = c.args.table.now.front in
    fetched_is kept c.args.spot c.locate-located.result c.in-Ok-decode.value c.deref.result.now c.range.result (g.S.FileSystem.content c.args.system.now (string_bytes c.args.table.now.path))
    (is_below kept c.args.spot c.in-Some.size (cc c.index.ensures) c.if-spot-size.false) c.locate-located.ensures c.range.ensures.wanted
    (rw (c.deref.ensures.value) (c.in-Ok.ensures.block)) c.in-Ok-decode.ensures.value
