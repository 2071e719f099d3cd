use Rattle.std.proofs.Common.{◌≡◌, ◌<◌, ◌+◌, ◌*◌, ℕ, arith, length, ap, ◌∙◌, refl, sym, subst, None, Some, List, Option, IsSome}
use Rattle.std.specs.Prelude.{slice_get, IfSome, false, true}
use Rattle.std.proofs.lemmas.Option.{slice_get_read}
use Rattle.szg_values.specs.declared.Kind.{Kind}
use Rattle.szg_block.specs.BlocksTrait.{bytes_at, packed_blocks}
use Rattle.szg_block.specs.Paging.{buffer_len_of, size_of, count_of}
use Rattle.szg_block.specs.Views.{IsReady}
use Rattle.szg_block.specs.Subtable.{values_over}
use Rattle.szg_file.specs.Contents.{Slot, Subtable}
use Rattle.szg_file.specs.Lookup.{byte_of}
use Rattle.szg_file.specs.Index.{slots_in}
use Rattle.szg_file.specs.Opened.{Opened, requested_after}
use Rattle.szg_file.specs.Placed.{whole_sub}
use Rattle.szg_file.specs.Values.{item, values_of, constant_value}
use Rattle.szg_file.specs.declared.reading.dropping.PlacedSub.{PlacedSub}
use Rattle.szg_file.proofs.Openings.OpenedLaws.{as_many_opened, none_opened, one_opened, few_bits, room_enough, flipped_ready, flipped_value, requested_placed}
use Rattle.szg_file.proofs.Openings.WantedLaws.{constant_holds}
use Rattle.szg_file.proofs.Tables.IndexLaws.{at_position}
use Rattle.szg_file.proofs.opened.Opened.get.Goals as goal

pub unreachable-requires : goal.unreachable-requires
unreachable-requires g c =
    let absent = none_opened _ c.args.self.now (buffer_len_of c.self.inside.blocks) (slots_in c.self.inside.index) (slots_in c.self.inside.index) c.self.inside.subs.items c.self.inside.subs.items c.args.part c.args.side c.self.invariant.0 c.self.view_is refl refl c.in_default.ensures in
    let no : IsSome {T = Slot × Subtable} None = subst (λ (o : Option (Slot × Subtable)). IsSome o) absent c.requires.there in
    cc

pub index-held-requires : goal.index-held-requires
index-held-requires g c =
    let lt = at_position c.args.part c.args.side _ c.in-Some.found.number c.in-Some.ensures.number_is in
    let many = as_many_opened _ c.args.self.now (buffer_len_of c.self.inside.blocks) (slots_in c.self.inside.index) (slots_in c.self.inside.index) c.self.inside.subs.items c.self.inside.subs.items c.args.part c.args.side c.self.invariant.0 c.self.view_is refl refl in
    omega (arith, lt, many)

pub block_bytes-requires : goal.block_bytes-requires
block_bytes-requires g c =
    let held : PlacedSub = c.index-held.result.now in
    let content : List ℕ = g.S.Source.content c.self.inside.blocks.source in
    let list : List PlacedSub = c.self.inside.subs.items in
    let lt = at_position c.args.part c.args.side _ c.in-Some.found.number c.in-Some.ensures.number_is in
    let many = as_many_opened _ c.args.self.now (buffer_len_of c.self.inside.blocks) (slots_in c.self.inside.index) (slots_in c.self.inside.index) list list c.args.part c.args.side c.self.invariant.0 c.self.view_is refl refl in
    let there = slice_get_read list (length list) c.in-Some.found.number held refl (omega (arith, lt, many)) c.index-held.ensures in
    let kept = one_opened _ c.args.self.now (buffer_len_of c.self.inside.blocks) (slots_in c.self.inside.index) (slots_in c.self.inside.index) list list c.args.part c.args.side c.self.invariant.0 c.self.view_is refl refl c.in-Some.found.slot held (c.in-Some.found.number, c.in-Some.ensures.number_is, c.in-Some.ensures.slot_is, there) in
    few_bits c.in-Some.found.slot content held.sub held.first kept.is_valid

pub select_blocks-requires : goal.select_blocks-requires
select_blocks-requires g c =
    let held : PlacedSub = c.index-held.result.now in
    let content : List ℕ = g.S.Source.content c.self.inside.blocks.source in
    let list : List PlacedSub = c.self.inside.subs.items in
    let lt = at_position c.args.part c.args.side _ c.in-Some.found.number c.in-Some.ensures.number_is in
    let many = as_many_opened _ c.args.self.now (buffer_len_of c.self.inside.blocks) (slots_in c.self.inside.index) (slots_in c.self.inside.index) list list c.args.part c.args.side c.self.invariant.0 c.self.view_is refl refl in
    let there = slice_get_read list (length list) c.in-Some.found.number held refl (omega (arith, lt, many)) c.index-held.ensures in
    let kept = one_opened _ c.args.self.now (buffer_len_of c.self.inside.blocks) (slots_in c.self.inside.index) (slots_in c.self.inside.index) list list c.args.part c.args.side c.self.invariant.0 c.self.view_is refl refl c.in-Some.found.slot held (c.in-Some.found.number, c.in-Some.ensures.number_is, c.in-Some.ensures.slot_is, there) in
    room_enough held.sub c.block_bytes.result (buffer_len_of c.self.inside.blocks) c.block_bytes.ensures.bytes c.block_bytes.ensures.none kept.fits.roomy

pub look_up-requires : goal.look_up-requires
look_up-requires g c =
    let held : PlacedSub = c.index-held.result.now in
    let content : List ℕ = g.S.Source.content c.self.inside.blocks.source in
    let list : List PlacedSub = c.self.inside.subs.items in
    let lt = at_position c.args.part c.args.side _ c.in-Some.found.number c.in-Some.ensures.number_is in
    let many = as_many_opened _ c.args.self.now (buffer_len_of c.self.inside.blocks) (slots_in c.self.inside.index) (slots_in c.self.inside.index) list list c.args.part c.args.side c.self.invariant.0 c.self.view_is refl refl in
    let there = slice_get_read list (length list) c.in-Some.found.number held refl (omega (arith, lt, many)) c.index-held.ensures in
    let kept = one_opened _ c.args.self.now (buffer_len_of c.self.inside.blocks) (slots_in c.self.inside.index) (slots_in c.self.inside.index) list list c.args.part c.args.side c.self.invariant.0 c.self.view_is refl refl c.in-Some.found.slot held (c.in-Some.found.number, c.in-Some.ensures.number_is, c.in-Some.ensures.slot_is, there) in
    let sized : c.slot.inside.size ≡ c.in-Some.found.slot.size = ap (λ (s : Slot). s.size) c.slot.view_is in
    let turned : IsReady held.sub c.in-Some.found.slot.size (count_of c.select_blocks.new.self) (λ n. bytes_at (g.S.Source.content c.select_blocks.new.self.source) (c.select_blocks.new.self.at + n * size_of c.select_blocks.new.self) (size_of c.select_blocks.new.self)) =
    flipped_ready c.in-Some.found.slot content _ held.sub held.first c.select_blocks.new.self.at c.block_count.result (count_of c.select_blocks.new.self) c.block_bytes.result (size_of c.select_blocks.new.self)
    kept.is_valid kept.fits.inside c.block_count.ensures.blocks c.block_bytes.ensures.bytes (ap (g.S.Source.content) c.select_blocks.ensures.source) c.select_blocks.ensures.first c.select_blocks.ensures.count c.select_blocks.ensures.size in
    let ready : IsReady held.sub c.slot.inside.size (count_of c.select_blocks.new.self) (λ n. bytes_at (g.S.Source.content c.select_blocks.new.self.source) (c.select_blocks.new.self.at + n * size_of c.select_blocks.new.self) (size_of c.select_blocks.new.self)) =
    subst (λ (k : ℕ). IsReady held.sub k (count_of c.select_blocks.new.self) (λ n. bytes_at (g.S.Source.content c.select_blocks.new.self.source) (c.select_blocks.new.self.at + n * size_of c.select_blocks.new.self) (size_of c.select_blocks.new.self))) (sym sized) turned in
    let below : c.args.i < c.in-Some.found.slot.size = subst (λ (o : Option (Slot × Subtable)). IfSome o (λ found. c.args.i < found.0.size)) kept.is c.requires.below in
    record {
      head = ready.head;
      all = ready.all;
      whole = ready.whole;
      sound = ready.sound;
      below = subst (λ (k : ℕ). c.args.i < k) (sym sized) below;
    }

pub returns-in_err-value-clause-requested : goal.returns-in_err-value-clause-requested
returns-in_err-value-clause-requested g c =
    let held : PlacedSub = c.index-held.result.now in
    let content : List ℕ = g.S.Source.content c.self.inside.blocks.source in
    let list : List PlacedSub = c.self.inside.subs.items in
    let lt = at_position c.args.part c.args.side _ c.in-Some.found.number c.in-Some.ensures.number_is in
    let many = as_many_opened _ c.args.self.now (buffer_len_of c.self.inside.blocks) (slots_in c.self.inside.index) (slots_in c.self.inside.index) list list c.args.part c.args.side c.self.invariant.0 c.self.view_is refl refl in
    let there = slice_get_read list (length list) c.in-Some.found.number held refl (omega (arith, lt, many)) c.index-held.ensures in
    let kept = one_opened _ c.args.self.now (buffer_len_of c.self.inside.blocks) (slots_in c.self.inside.index) (slots_in c.self.inside.index) list list c.args.part c.args.side c.self.invariant.0 c.self.view_is refl refl c.in-Some.found.slot held (c.in-Some.found.number, c.in-Some.ensures.number_is, c.in-Some.ensures.slot_is, there) in
    let before = ap (g.S.Source.requested) c.select_blocks.ensures.source ∙ ap (λ (o : Opened). o.requested) c.self.view_is in
    rw kept.is (requested_placed content held.sub held.first _ _ (size_of c.select_blocks.new.self) c.block_bytes.result c.block_bytes.ensures.bytes c.look_up.ensures.requested_none c.look_up.ensures.requested_one c.select_blocks.ensures.size
    ∙ ap (λ (k : ℕ). requested_after (whole_sub content held) k) before)

pub returns-in_err-value-clause-constant : goal.returns-in_err-value-clause-constant
returns-in_err-value-clause-constant g c =
    let held : PlacedSub = c.index-held.result.now in
    let content : List ℕ = g.S.Source.content c.self.inside.blocks.source in
    let list : List PlacedSub = c.self.inside.subs.items in
    let lt = at_position c.args.part c.args.side _ c.in-Some.found.number c.in-Some.ensures.number_is in
    let many = as_many_opened _ c.args.self.now (buffer_len_of c.self.inside.blocks) (slots_in c.self.inside.index) (slots_in c.self.inside.index) list list c.args.part c.args.side c.self.invariant.0 c.self.view_is refl refl in
    let there = slice_get_read list (length list) c.in-Some.found.number held refl (omega (arith, lt, many)) c.index-held.ensures in
    let kept = one_opened _ c.args.self.now (buffer_len_of c.self.inside.blocks) (slots_in c.self.inside.index) (slots_in c.self.inside.index) list list c.args.part c.args.side c.self.invariant.0 c.self.view_is refl refl c.in-Some.found.slot held (c.in-Some.found.number, c.in-Some.ensures.number_is, c.in-Some.ensures.slot_is, there) in
    rw kept.is (λ none. let no : false ≡ true = constant_holds (false ≡ true) content held.sub held.first c.args.i c.in_err-value.ensures.constant none in absurd (cc no))

pub returns-clause-value : goal.returns-clause-value
returns-clause-value g c =
    let held : PlacedSub = c.index-held.result.now in
    let content : List ℕ = g.S.Source.content c.self.inside.blocks.source in
    let list : List PlacedSub = c.self.inside.subs.items in
    let lt = at_position c.args.part c.args.side _ c.in-Some.found.number c.in-Some.ensures.number_is in
    let many = as_many_opened _ c.args.self.now (buffer_len_of c.self.inside.blocks) (slots_in c.self.inside.index) (slots_in c.self.inside.index) list list c.args.part c.args.side c.self.invariant.0 c.self.view_is refl refl in
    let there = slice_get_read list (length list) c.in-Some.found.number held refl (omega (arith, lt, many)) c.index-held.ensures in
    let kept = one_opened _ c.args.self.now (buffer_len_of c.self.inside.blocks) (slots_in c.self.inside.index) (slots_in c.self.inside.index) list list c.args.part c.args.side c.self.invariant.0 c.self.view_is refl refl c.in-Some.found.slot held (c.in-Some.found.number, c.in-Some.ensures.number_is, c.in-Some.ensures.slot_is, there) in
    let kind : Kind = c.args.self.now.kind in
    let kind_is : c.kind.result ≡ kind = c.kind.ensures ∙ ap (λ (o : Opened). o.kind) c.self.view_is in
    let sized : c.slot.inside.size ≡ c.in-Some.found.slot.size = ap (λ (s : Slot). s.size) c.slot.view_is in
    let constant_is : c.constant_value-constant.result ≡ constant_value kind (byte_of held.sub) = c.constant_value-constant.ensures ∙ ap (λ (k : Kind). constant_value k (byte_of held.sub)) kind_is in
    let got = subst (λ (k : ℕ). slice_get (values_over held.sub (packed_blocks (λ n. bytes_at (g.S.Source.content c.select_blocks.new.self.source) (c.select_blocks.new.self.at + n * size_of c.select_blocks.new.self) (size_of c.select_blocks.new.self)) (count_of c.select_blocks.new.self)) k c.constant_value-constant.result) c.args.i ≡ Some c.in_ok-value.value) sized c.in_ok-value.ensures.value in
    subst (λ (o : Option (Slot × Subtable)). IfSome o (λ found. item (values_of kind found) c.args.i ≡ Some c.in_ok-value.value)) (sym kept.is)
    (flipped_value kind c.in-Some.found.slot content _ held.sub held.first c.select_blocks.new.self.at c.block_count.result (count_of c.select_blocks.new.self) c.block_bytes.result (size_of c.select_blocks.new.self)
    c.constant_value-constant.result c.args.i c.in_ok-value.value c.block_count.ensures.blocks c.block_bytes.ensures.bytes (ap (g.S.Source.content) c.select_blocks.ensures.source) c.select_blocks.ensures.first c.select_blocks.ensures.count c.select_blocks.ensures.size constant_is got)

pub returns-clause-requested : goal.returns-clause-requested
returns-clause-requested g c =
    let held : PlacedSub = c.index-held.result.now in
    let content : List ℕ = g.S.Source.content c.self.inside.blocks.source in
    let list : List PlacedSub = c.self.inside.subs.items in
    let lt = at_position c.args.part c.args.side _ c.in-Some.found.number c.in-Some.ensures.number_is in
    let many = as_many_opened _ c.args.self.now (buffer_len_of c.self.inside.blocks) (slots_in c.self.inside.index) (slots_in c.self.inside.index) list list c.args.part c.args.side c.self.invariant.0 c.self.view_is refl refl in
    let there = slice_get_read list (length list) c.in-Some.found.number held refl (omega (arith, lt, many)) c.index-held.ensures in
    let kept = one_opened _ c.args.self.now (buffer_len_of c.self.inside.blocks) (slots_in c.self.inside.index) (slots_in c.self.inside.index) list list c.args.part c.args.side c.self.invariant.0 c.self.view_is refl refl c.in-Some.found.slot held (c.in-Some.found.number, c.in-Some.ensures.number_is, c.in-Some.ensures.slot_is, there) in
    let before = ap (g.S.Source.requested) c.select_blocks.ensures.source ∙ ap (λ (o : Opened). o.requested) c.self.view_is in
    rw kept.is (requested_placed content held.sub held.first _ _ (size_of c.select_blocks.new.self) c.block_bytes.result c.block_bytes.ensures.bytes c.look_up.ensures.requested_none c.look_up.ensures.requested_one c.select_blocks.ensures.size
    ∙ ap (λ (k : ℕ). requested_after (whole_sub content held) k) before)
