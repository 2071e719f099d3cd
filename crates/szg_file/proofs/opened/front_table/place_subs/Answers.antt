use Rattle.std.proofs.Common.{ℕ, List, ◌≡◌, ◌≤◌, ◌∙◌, ◌+◌, ◌∷◌, [], ◌++◌, length, map, take, refl, sym, ap, subst, arith, rules}
use Rattle.std.specs.List.{AllByRecursion}
use Rattle.std.proofs.lemmas.List.{length_push}
use Rattle.std.proofs.lemmas.Iterator.Adapters.{YieldsList-from_vec}
use Rattle.std.proofs.lemmas.Iterator.Consumers.{YieldsList-turn}
use Rattle.szg_file.specs.Contents.{Subtable}
use Rattle.szg_file.specs.File.{Begun}
use Rattle.szg_file.specs.Held.{subtable_of}
use Rattle.szg_file.specs.Placed.{whole_sub, Fits}
use Rattle.szg_file.specs.Unread.{unread_subs, unread_end, blocks_end}
use Rattle.szg_file.specs.declared.reading.dropping.PlacedSub.{PlacedSub}
use Rattle.szg_file.proofs.Openings.FrontLaws.{ends_after}
use Rattle.szg_file.proofs.Readers.LoopReads.{taken_next}
use Rattle.szg_file.proofs.Openings.PlacingLaws.{end_more, placed_more, fits_more}
use Rattle.szg_file.proofs.opened.front_table.place_subs.Goals as goal

pub subtables-init : goal.subtables-init
subtables-init c = record {
  subs = λ content. ap (map (whole_sub content)) c.new-subs.ensures.items;
  end = refl;
  few = omega arith;
  fits = λ content inside. subst (λ (l : List PlacedSub). AllByRecursion (Fits (length content) 0) l) (sym c.new-subs.ensures.items) tt;
}

pub subtables-preserved : goal.subtables-preserved
subtables-preserved c =
    let made = c.into_iter-measured-iterator.ensures.into_iter_gives in
    let turn = YieldsList-turn (YieldsList-from_vec {s = c.into_iter-measured-iterator.result} c.args.list.items made.0 (made.1 ∙ c.args.list.ok.0)) c.subtables.yielded c.subtables.measured-iterator c.subtables.yielded_by c.next.result c.next.new.self c.in-Some.measured c.in-Some.is c.next.ensures.steps in
    let n : ℕ = length c.subtables.yielded in
    let done : List Begun = take n c.args.list.items in
    let longer : length (c.subtables.yielded ++ c.in-Some.measured ∷ []) ≡ n + 1 = length_push c.subtables.yielded c.in-Some.measured in
    let taken : take (length (c.subtables.yielded ++ c.in-Some.measured ∷ [])) c.args.list.items ≡ done ++ c.in-Some.measured ∷ [] =
    ap (λ (k : ℕ). take k c.args.list.items) longer ∙ taken_next c.args.list.items n c.in-Some.measured turn.0 turn.1 in
    let one : Subtable = subtable_of c.measured.inside.sub in
    let is : one ≡ c.in-Some.measured.subtable = ap (λ (b : Begun). b.subtable) c.measured.view_is in
    let first = c.place_blocks-at.ensures.first in
    let ends = c.place_blocks-at.ensures.end in
    let after = ends_after c.subtables.end one in
    let pushed = c.in_ok-push.ensures.items in
    let kept : c.subtables.room ≤ c.max-room.result = search rules in
    let held : c.block_bytes.result ≤ c.max-room.result = search rules in
    record {
      subs = λ content. ap (map (whole_sub content)) pushed
          ∙ placed_more content c.args.place done c.in-Some.measured c.subtables.subs.items c.measured.inside.sub c.place_blocks-at.result.0 c.subtables.end (c.subtables.invariant.subs content) c.subtables.invariant.end is first
          ∙ sym (ap (λ (l : List Begun). unread_subs content c.args.place l) taken);
      end = ends ∙ ap (λ (k : ℕ). blocks_end k one) c.subtables.invariant.end ∙ ap (λ (s : Subtable). blocks_end (unread_end c.args.place done) s) is
          ∙ sym (end_more c.args.place done c.in-Some.measured) ∙ sym (ap (λ (l : List Begun). unread_end c.args.place l) taken);
      few = omega (arith, c.subtables.invariant.few, c.place_blocks-at.ensures.long, longer);
      fits = λ content inside.
          subst (λ (l : List PlacedSub). AllByRecursion (Fits (length content) c.max-room.result) l) (sym pushed)
          (fits_more (length content) c.subtables.room c.max-room.result c.subtables.end c.subtables.subs.items c.measured.inside.sub c.place_blocks-at.result.0 c.block_bytes.result
          (c.subtables.invariant.fits content (omega (arith, after, ends, inside))) kept first (omega (arith, ends, inside)) c.block_bytes.ensures.bytes held);
    }
