-- Subtables of lists of values: constant ones, and those made with pairs.
use Rattle.std.proofs.Common.{ℕ, zero, suc, ◌≡◌, ◌<◌, arith, Bool, true, List, [], ◌∷◌, get_or, replicate, Option, Some, None, Result, Ok, Err, refl, sym, ap, subst, ◌∙◌}
use Rattle.std.specs.Prelude.{◌==◌, ◌&&◌, IfOk, if◌then◌else◌}
use Rattle.std.specs.List.{list_all}
use Rattle.std.proofs.lemmas.Bool.{eq-eqb}
use Rattle.szg_values.specs.declared.Kind.TheVariants.{Wdl, Dtz}
use Rattle.szg_values.specs.declared.Kind.{Kind}
use Rattle.szg_block.specs.Sound.{IsShapedLayout, IsSoundLayout}
use Rattle.szg_block.specs.Subtable.{layout_from}
use Rattle.szg_block.specs.declared.Sub.{Sub}
use Rattle.szg_block.specs.declared.Sub.TheVariants.{Constant, Pairs}
use Rattle.szg_file.specs.Assembled.{IsTyped}
use Rattle.szg_file.specs.Held.{subtable_of}
use Rattle.szg_file.proofs.Tables.AssembledLaws.{sub_standing}
use Rattle.szg_subtable.specs.declared.building.Choice.{Choice}
use Rattle.szg_subtable.specs.declared.building.Choice.TheVariants.{Fixed, Small}
use Rattle.szg_subtable.specs.PackedSubtable.{IsInBounds, IsPackedSub}
use Rattle.szg_build.specs.Plan.{Plan}
use Rattle.szg_build.specs.Rule.{constant_for}
use Rattle.szg_build.specs.Tabling.{IsInRange, IsChoiceOf, IsBuiltSub}

-- a packed subtable whose values make no constant one is built
pub packed_is_built : (kind : Kind) (flags : ℕ) (values : List ℕ) (choice : Choice) (sub : Sub) → IsPackedSub values flags choice sub → IsTyped (subtable_of sub) → flags < 128 → constant_for kind values ≡ None →
    IsBuiltSub kind flags values choice (subtable_of sub)
packed_is_built kind flags values choice (Constant f byte) h typed small none = absurd h
packed_is_built kind flags values choice (Pairs f block_bits span_bits extra blocks code dict sparse lengths packed) h typed small none =
    let layout = layout_from block_bits span_bits extra blocks code dict sparse.items lengths.items in
    record {
      is_valid = λ slot size. sub_standing slot (Pairs f block_bits span_bits extra blocks code dict sparse lengths packed) typed
          ((omega (arith, h.0, small), subst (λ (n : ℕ). IsShapedLayout layout n) (sym size) h.1.shaped), h.1.whole)
          (subst (λ (n : ℕ). IsSoundLayout layout packed.items n) (sym size) h.1.sound);
      expands = h.1.expands;
      flags_kept = h.0;
      packed = h.1.chosen;
      rule = record { constants = sym none; codes = h.1.code; index = h.1.index };
    }

-- if a plan's numbers are in their ranges, its choice's numbers are in their bounds
pub choice_in_bounds : (plan : Plan) (choice : Choice) → IsInRange plan → IsChoiceOf plan choice → IsInBounds choice
choice_in_bounds plan (Fixed packing) range same = (
  omega (arith, same.0, range.least_block),
  omega (arith, same.0, range.most_block),
  omega (arith, same.1, range.least_span),
  omega (arith, same.1, range.most_span),
  omega (arith, same.2, range.rounds),
)
choice_in_bounds plan Small range same = tt

-- if P implies Q for each value, it does for the value of a result
pub if_ok : {A E : Type 0} {P Q : A → Type 0} (r : Result A E) → ((x : A) → P x → Q x) → IfOk r P → IfOk r Q
if_ok (Ok x) f h = f x h
if_ok (Err e) f h = tt

-- ---- lists of one value

pub replicated_all : (one n : ℕ) → list_all (λ value. value == one) (replicate n one) ≡ true
replicated_all one zero = refl
replicated_all one (suc n) = ap (λ (b : Bool). b && list_all (λ value. value == one) (replicate n one)) (eq-eqb one one refl) ∙ replicated_all one n

-- a list whose values are all equal to its first one is constant in WDL, a list of zeros in DTZ
pub wdl_constant : (values : List ℕ) (one : ℕ) → one ≡ get_or values 0 0 → list_all (λ value. value == one) values ≡ true → Some one ≡ constant_for Wdl values
wdl_constant [] one e all = ap Some e
wdl_constant (v ∷ values) one e all =
    let own : list_all (λ value. value == v) (v ∷ values) ≡ true = subst (λ (k : ℕ). list_all (λ value. value == k) (v ∷ values) ≡ true) e all in
    ap Some e ∙ sym (ap (λ (b : Bool). if b then Some v else None) own)

pub dtz_constant : (values : List ℕ) (one : ℕ) → one ≡ 0 → list_all (λ value. value == one) values ≡ true → Some one ≡ constant_for Dtz values
dtz_constant values one e all =
    let own : list_all (λ value. value == 0) values ≡ true = subst (λ (k : ℕ). list_all (λ value. value == k) values ≡ true) e all in
    ap Some e ∙ sym (ap (λ (b : Bool). if b then Some 0 else None) own)

-- an option that has no value is None
pub none_of : {A : Type 0} (o : Option A) → ((x : A) → o ≡ Some x → ⊥) → o ≡ None
none_of None h = refl
none_of (Some x) h = absurd (h x refl)
