use Rattle.std.proofs.Common.{◌≡◌, ◌<◌, true, false, length, get_or, sym, ◌∙◌, arith}
use Rattle.std.proofs.lemmas.List.{get_or_read, get_or-set_same}
use Rattle.szg_pairs.proofs.Walking.{walk_begins, stays_seen}
use Rattle.szg_pairs.proofs.walk.Walk.visit.Goals as goal

pub loop-last-init : goal.loop-last-init
loop-last-init c =
    let w = c.requires.walk in
    let there : c.args.symbol < length c.args.self.now.seen.items = omega (arith, c.requires.there, w.seen_count) in
    let unseen : get_or c.args.self.now.seen.items c.args.symbol false ≡ false = sym (get_or_read c.args.self.now.seen.items _ _ there c.index.ensures false) ∙ c.if-index.false in
    rw (c.in_ok-enter.ensures.lengths, c.in_ok-enter.ensures.seen, c.in_ok-enter.ensures.path, c.requires.path_empty)
    (record {
      walk = walk_begins _ _ _ c.args.symbol w c.requires.there unseen;
      entered = get_or-set_same c.args.self.now.seen.items c.args.symbol true false there;
      stays = stays_seen c.args.self.now.seen.items c.args.symbol there;
    })
