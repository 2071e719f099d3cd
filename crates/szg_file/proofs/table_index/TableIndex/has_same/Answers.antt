use Rattle.std.proofs.Common.{◌≡◌, ℕ, true, List, sym, subst, ◌∙◌}
use Rattle.std.specs.Prelude.{Bool}
use Rattle.std.specs.Bool.{Decides}
use Rattle.std.proofs.lemmas.Bool.Decides.{Decides-eqb}
use Rattle.std.proofs.lemmas.Slice.Eq.{slice_eq-Decides}
use Rattle.szg_file.specs.Index.{Index}
use Rattle.szg_file.proofs.Tables.Compared.{parts_test, maps_test}
use Rattle.szg_file.proofs.table_index.TableIndex.has_same.Goals.{then-eq, else-eq}
use Rattle.szg_file.proofs.table_index.TableIndex.has_same.Goals as goal

-- a test of parts of two indexes, by equal indexes
viewed : {A : Type 0} (f : Index → A) {a b x y : Index} {r : Bool} → x ≡ a → y ≡ b → Decides r (f x ≡ f y) → Decides r (f a ≡ f b)
viewed f {a} {b} {x} {y} {r} e h test = subst (λ (z : Index). Decides r (f z ≡ f b)) e (subst (λ (z : Index). Decides r (f x ≡ f z)) h test)

pub returns-then-eq-2 : goal.returns-then-eq-2
returns-then-eq-2 c =
    let xs = c.self.inside in
    let ys = c.other.inside in
    let parts : Decides c.eq.result (c.args.self.now.parts ≡ c.args.other.now.parts) = viewed (λ (x : Index). x.parts) c.self.view_is c.other.view_is (parts_test xs.parts.bytes.items ys.parts.bytes.items c.eq.result c.eq.ensures) in
    let flags : Decides c.if-eq.value ((c.args.self.now.parts ≡ c.args.other.now.parts) × (c.args.self.now.flags ≡ c.args.other.now.flags)) = elim c.if-eq.branch [
      | then-eq w ↦
          let same = slice_eq-Decides Decides-eqb w.as_slice.result.now w.as_slice-then-eq.result.now w.eq-then-eq.result w.eq-then-eq.ensures in
          let of_items = subst (λ (l : List ℕ). Decides w.eq-then-eq.result (l ≡ ys.flags.items)) w.as_slice.ensures.value (subst (λ (l : List ℕ). Decides w.eq-then-eq.result (w.as_slice.result.now ≡ l)) w.as_slice-then-eq.ensures.value same) in
          let test = viewed (λ (x : Index). x.flags) c.self.view_is c.other.view_is of_items in
          (λ t. (parts.0 w.if-eq.true, test.0 (sym w.value-is ∙ t)), λ h. w.value-is ∙ test.1 h.1)
      | else-eq w ↦ (λ t. absurd cc, λ h. let t = parts.1 h.0 in absurd cc)
    ] in
    let maps : Decides c.eq-then-eq-2.result (c.args.self.now.maps ≡ c.args.other.now.maps) = viewed (λ (x : Index). x.maps) c.self.view_is c.other.view_is (maps_test xs.maps.items ys.maps.items c.eq-then-eq-2.result c.eq-then-eq-2.ensures) in
    (λ t. let h = flags.0 c.if-eq-2.true in (h.0, h.1, maps.0 t), λ h. maps.1 h.2)

pub returns-else-eq-2 : goal.returns-else-eq-2
returns-else-eq-2 c =
    let xs = c.self.inside in
    let ys = c.other.inside in
    let parts : Decides c.eq.result (c.args.self.now.parts ≡ c.args.other.now.parts) = viewed (λ (x : Index). x.parts) c.self.view_is c.other.view_is (parts_test xs.parts.bytes.items ys.parts.bytes.items c.eq.result c.eq.ensures) in
    let flags : Decides c.if-eq.value ((c.args.self.now.parts ≡ c.args.other.now.parts) × (c.args.self.now.flags ≡ c.args.other.now.flags)) = elim c.if-eq.branch [
      | then-eq w ↦
          let same = slice_eq-Decides Decides-eqb w.as_slice.result.now w.as_slice-then-eq.result.now w.eq-then-eq.result w.eq-then-eq.ensures in
          let of_items = subst (λ (l : List ℕ). Decides w.eq-then-eq.result (l ≡ ys.flags.items)) w.as_slice.ensures.value (subst (λ (l : List ℕ). Decides w.eq-then-eq.result (w.as_slice.result.now ≡ l)) w.as_slice-then-eq.ensures.value same) in
          let test = viewed (λ (x : Index). x.flags) c.self.view_is c.other.view_is of_items in
          (λ t. (parts.0 w.if-eq.true, test.0 (sym w.value-is ∙ t)), λ h. w.value-is ∙ test.1 h.1)
      | else-eq w ↦ (λ t. absurd cc, λ h. let t = parts.1 h.0 in absurd cc)
    ] in
    (λ t. absurd cc, λ h. flags.1 (h.0, h.1))
