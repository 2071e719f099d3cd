-- Public view of a sound subtable: the subtable, its size, its value if it is constant, its blocks one after another,
-- the number of failures of their source, the number of bytes requested from it, and the number of bytes requested for
-- one block.
use Rattle.std.specs.Prelude.{ℕ, ◌≡◌, ◌<◌, ◌^◌, List, Option, Some, None, Result, length, IfSome}
use Rattle.szg_code.specs.Acceptance.{IsCode}
use Rattle.szg_block.specs.BlocksTrait.{failed_after, packed_blocks, raised}
use Rattle.szg_block.specs.Layout.{Layout}
use Rattle.szg_block.specs.declared.Sub.{Sub}
use Rattle.szg_block.specs.Subtable.{layout_of, IsShapedHead, IsSoundOver, values_over, steps_over}
use Rattle.szg_block.specs.declared.probing.Steps.{Steps}

pub record Shown : Type 0 where
  pub sub : Sub
  pub size : ℕ
  pub constant : ℕ
  pub packed : List ℕ
  pub failures : ℕ
  pub requested : ℕ
  pub cost : ℕ

-- a sound subtable with `count` blocks of full length
pub record IsReady (sub : Sub) (size : ℕ) (count : ℕ) (bytes : ℕ → List ℕ) : Type 0 where
  pub head : IsShapedHead sub size
  pub code : IfSome (layout_of sub) (λ layout. IsCode layout.code)
  pub all : IfSome (layout_of sub) (λ layout. count ≡ layout.blocks)
  pub whole : IfSome (layout_of sub) (λ layout. (k : ℕ) → k < layout.blocks → length (bytes k) ≡ 2 ^ layout.block_bits)
  pub sound : IsSoundOver sub (packed_blocks bytes count) size

-- there are blocks with which the subtable is sound
abbrev pub IsSound : Sub → ℕ → Type 0
IsSound sub size = (count : ℕ) × (bytes : ℕ → List ℕ) × IsReady sub size count bytes

-- the values of a sound subtable
abbrev pub values_shown : Shown → List ℕ
values_shown shown = values_over shown.sub shown.packed shown.size shown.constant

-- the steps of a look-up of value i
abbrev pub steps_shown : Shown → ℕ → Steps
steps_shown shown i = steps_over shown.sub shown.packed i

-- the number of bytes requested after a look-up: one block was requested, and none in a constant subtable
abbrev pub requested_by : Option Layout → Shown → ℕ
requested_by None shown = shown.requested
requested_by (Some layout) shown = raised shown.requested shown.cost

-- a look-up only raises the counts
abbrev pub after_look_up : {A E : Type 0} → Result A E → Shown → Shown
after_look_up result shown = record {
  sub = shown.sub;
  size = shown.size;
  constant = shown.constant;
  packed = shown.packed;
  failures = failed_after result shown.failures;
  requested = requested_by (layout_of shown.sub) shown;
  cost = shown.cost;
}
