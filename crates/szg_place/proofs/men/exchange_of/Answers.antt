use Rattle.std.proofs.Common.{◌≡◌, ◌≢◌, ◌<◌, cond, ◌⊎◌, inl, inr, ℕ, List, refl, sym, ap, subst, ◌∙◌, Bool, true, false}
use Rattle.std.specs.Prelude.{IsNone, ◌==◌, ◌&&◌, ◌||◌}
use Rattle.std.proofs.Math.Bool.{not}
use Rattle.std.proofs.lemmas.Bool.{cases_Bool, eq-eqb, eqb-true}
use Rattle.szg_values.specs.Men.{is_color}
use Rattle.szg_values.specs.Material.{Sides, IsMaterial, is_symmetric, man_codes}
use Rattle.szg_values.specs.Placement.{Board, PlacedMan, placement_fault}
use denote.Enum.Bare.{sameb}
use Rattle.szg_values.specs.contracts.Color.{the_type}
use Rattle.szg_values.specs.declared.Color.{Color}
use Rattle.szg_values.specs.declared.Color.TheVariants.{White, Black}
use Rattle.szg_count.specs.Facts.{key_of, with_exchanged_halves}
use Rattle.szg_place.specs.Keys.{men_key}
use Rattle.szg_place.specs.Normal.{is_exchanged}
use Rattle.szg_place.specs.Spots.{is_of_material}
use Rattle.szg_place.proofs.MenOnSlots.Keys.{plain_if, flipped_if, other_if, exchanged_key, exchanged_twice, men_key-small}
use Rattle.szg_place.proofs.MenOnSlots.Slotted.{few_men}
use Rattle.szg_place.proofs.men.exchange_of.Goals as goal

turned : (list : List PlacedMan) (key stated : ℕ) → IsNone (placement_fault list) → key ≡ men_key false list → stated ≡ with_exchanged_halves key → stated ≡ men_key true list
turned list key stated sound e f = f ∙ ap with_exchanged_halves e ∙ sym (exchanged_key list (few_men list sound))

-- a placement whose key is the material's, with colours exchanged or not
one_of : (m : Sides) (board : Board) (list : List PlacedMan) (key stated own : ℕ) (twin result : Bool) → IsMaterial m → list ≡ board.placed_men → IsNone (placement_fault list) →
    key ≡ men_key false list → stated ≡ men_key true list → own ≡ key_of (man_codes m) → twin ≡ (is_symmetric m && is_color Black board.mover) →
    (key ≡ own → result ≡ twin) → (key ≢ own → result ≡ true) → ((key ≡ own → ⊥) × (stated ≡ own)) ⊎ (key ≡ own) → (is_of_material m board ≡ true) × (result ≡ is_exchanged m board)
one_of m board list key stated own twin result mat e sound k t o w same other some = elim some [
  | inl h ↦ let p = flipped_if m board list key stated own mat e sound k t o h.0 h.1 in (p.0, other h.0 ∙ sym p.1)
  | inr h ↦ let p = plain_if m board list key own mat e sound k o h in (p.0, same h ∙ w ∙ sym p.1)
]

is_black : (color : Color) → sameb the_type color Black ≡ is_color Black color
is_black White = refl
is_black Black = refl

clash : (b : Bool) → b ≡ false → b ≡ true → ⊥
clash b e f = cc

-- colours are exchanged by the keys, or where both sides have the same men and Black is to move
by_keys : (key own : ℕ) (twin : Bool) → (key ≡ own → (not (key == own) || twin) ≡ twin) × (key ≢ own → (not (key == own) || twin) ≡ true)
by_keys key own twin = elim (cases_Bool (key == own)) [
  | inl t ↦ ((λ h. ap (λ (b : Bool). not b || twin) t), (λ h. absurd (h (eqb-true key own t))))
  | inr f ↦ ((λ h. absurd (clash (key == own) f (eq-eqb key own h))), (λ h. ap (λ (b : Bool). not b || twin) f))
]

-- the key that is compared with the placement's is the material's if they are the same, else the one with colours exchanged
chosen : (key own due : ℕ) → due ≡ cond (not (key == own)) (with_exchanged_halves own) own → ((key ≡ own) × (due ≡ own)) ⊎ ((key ≡ own → ⊥) × (due ≡ with_exchanged_halves own))
chosen key own due e = elim (cases_Bool (key == own)) [
  | inl t ↦ inl (eqb-true key own t, e ∙ ap (λ (b : Bool). cond (not b) (with_exchanged_halves own) own) t)
  | inr f ↦ inr ((λ h. clash (key == own) f (eq-eqb key own h)), e ∙ ap (λ (b : Bool). cond (not b) (with_exchanged_halves own) own) f)
]

neither : (key stated own due : ℕ) → key < 281474976710656 → stated ≡ with_exchanged_halves key → due ≡ cond (not (key == own)) (with_exchanged_halves own) own → (key ≡ due → ⊥) → (key ≡ own → ⊥) × (stated ≡ own → ⊥)
neither key stated own due small t e differ = elim (chosen key own due e) [
  | inl h ↦ absurd (differ (h.0 ∙ sym h.1))
  | inr h ↦ (h.0, (λ k. differ (sym (exchanged_twice key small) ∙ ap with_exchanged_halves (sym t ∙ k) ∙ sym h.1)))
]

one : (key stated own due : ℕ) → own < 281474976710656 → stated ≡ with_exchanged_halves key → due ≡ cond (not (key == own)) (with_exchanged_halves own) own → key ≡ due → ((key ≡ own → ⊥) × (stated ≡ own)) ⊎ (key ≡ own)
one key stated own due small t e same = elim (chosen key own due e) [
  | inl h ↦ inr h.0
  | inr h ↦ inl (h.0, t ∙ ap with_exchanged_halves (same ∙ h.1) ∙ exchanged_twice own small)
]

pub returns-then-key-key_if-clause-other : goal.returns-then-key-key_if-clause-other
returns-then-key-key_if-clause-other c =
    let m = c.args.material.now in let board = c.args.placement.now in let list = board.placed_men in let key = c.key-key.ensures in
    let stated = with_exchanged_halves c.key-key.result in let sound = subst (λ (l : List PlacedMan). IsNone (placement_fault l)) c.men.ensures.men c.men.ensures.no_fault in
    let due : c.key_if.result ≡ cond (not (c.key-key.result == c.key-own.result)) (with_exchanged_halves c.key-own.result) c.key-own.result =
    c.key_if.ensures ∙ ap (λ (k : ℕ). cond (not (c.key-key.result == c.key-own.result)) (with_exchanged_halves k) k) (sym c.key-own.ensures.key) in
    let small = subst (λ (k : ℕ). k < 281474976710656) (sym key) (men_key-small list (few_men list sound)) in
    let n = neither c.key-key.result stated c.key-own.result c.key_if.result small refl due c.if-key-key_if.true in
    other_if m board list c.key-key.result stated c.key-own.result c.material.ensures.named refl sound key (turned list c.key-key.result stated sound key refl) c.key-own.ensures.key n.0 n.1

pub returns-clause-men : goal.returns-clause-men
returns-clause-men c =
    let m = c.args.material.now in let board = c.args.placement.now in let list = board.placed_men in let key = c.key-key.ensures in
    let stated = with_exchanged_halves c.key-key.result in let sound = subst (λ (l : List PlacedMan). IsNone (placement_fault l)) c.men.ensures.men c.men.ensures.no_fault in
    let due : c.key_if.result ≡ cond (not (c.key-key.result == c.key-own.result)) (with_exchanged_halves c.key-own.result) c.key-own.result =
    c.key_if.ensures ∙ ap (λ (k : ℕ). cond (not (c.key-key.result == c.key-own.result)) (with_exchanged_halves k) k) (sym c.key-own.ensures.key) in
    let twin = c.symmetric.result && c.eq.result in
    let own_symmetric : c.symmetric.result ≡ is_symmetric m = c.symmetric.ensures in
    let is : twin ≡ (is_symmetric m && is_color Black board.mover) =
    ap (λ (b : Bool). b && c.eq.result) own_symmetric ∙ ap (λ (b : Bool). is_symmetric m && b) (c.eq.ensures ∙ is_black c.mover.result ∙ ap (is_color Black) c.mover.ensures) in
    let by = by_keys c.key-key.result c.key-own.result twin in
    (one_of m board list c.key-key.result stated c.key-own.result twin (not (c.key-key.result == c.key-own.result) || twin) c.material.ensures.named refl sound key
    (turned list c.key-key.result stated sound key refl) c.key-own.ensures.key is by.0 by.1
    (one c.key-key.result stated c.key-own.result c.key_if.result c.key-own.ensures.small refl due c.if-key-key_if.false)).0

pub returns-clause-exchanged : goal.returns-clause-exchanged
returns-clause-exchanged c =
    let m = c.args.material.now in let board = c.args.placement.now in let list = board.placed_men in let key = c.key-key.ensures in
    let stated = with_exchanged_halves c.key-key.result in let sound = subst (λ (l : List PlacedMan). IsNone (placement_fault l)) c.men.ensures.men c.men.ensures.no_fault in
    let due : c.key_if.result ≡ cond (not (c.key-key.result == c.key-own.result)) (with_exchanged_halves c.key-own.result) c.key-own.result =
    c.key_if.ensures ∙ ap (λ (k : ℕ). cond (not (c.key-key.result == c.key-own.result)) (with_exchanged_halves k) k) (sym c.key-own.ensures.key) in
    let twin = c.symmetric.result && c.eq.result in
    let own_symmetric : c.symmetric.result ≡ is_symmetric m = c.symmetric.ensures in
    let is : twin ≡ (is_symmetric m && is_color Black board.mover) =
    ap (λ (b : Bool). b && c.eq.result) own_symmetric ∙ ap (λ (b : Bool). is_symmetric m && b) (c.eq.ensures ∙ is_black c.mover.result ∙ ap (is_color Black) c.mover.ensures) in
    let by = by_keys c.key-key.result c.key-own.result twin in
    (one_of m board list c.key-key.result stated c.key-own.result twin (not (c.key-key.result == c.key-own.result) || twin) c.material.ensures.named refl sound key
    (turned list c.key-key.result stated sound key refl) c.key-own.ensures.key is by.0 by.1
    (one c.key-key.result stated c.key-own.result c.key_if.result c.key-own.ensures.small refl due c.if-key-key_if.false)).1
