use Rattle.std.proofs.Common.{◌≡◌, ◌∙◌, ◌^◌, ℕ, List, [], ◌∷◌, None, refl, sym, ap, inl, inr}
use Rattle.std.specs.Prelude.{map, sum, ◌==◌}
use Rattle.std.proofs.lemmas.Bool.{cases_Bool}
use Rattle.std.proofs.lemmas.List.Sums.{sum-map}
use Rattle.szg_values.specs.Placement.{PlacedMan, colored_code, men_key}
use Rattle.szg_chess.specs.Attacks.{is_occupied}
use Rattle.szg_chess.specs.declared.Move.{Move}
use Rattle.szg_chess.specs.Moves.{captured_square, man_after, men_after}
use Rattle.szg_chess.proofs.Members.{all_off}
use Rattle.szg_chess.proofs.Position.key_after.Goals as goal

-- what a man adds to a key
abbrev adds : PlacedMan → ℕ
adds s = 8 ^ colored_code s.0 s.1

same_man : (m : Move) (s : PlacedMan) → m.promotion ≡ None → adds (man_after m s) ≡ adds s
same_man m s none = elim (cases_Bool (s.2 == m.from)) [ inl t ↦ rw (t, none) refl | inr f ↦ rw f refl ]

same_men : (m : Move) (men : List PlacedMan) → m.promotion ≡ None → map adds (map (man_after m) men) ≡ map adds men
same_men m [] none = refl
same_men m (s ∷ men) none = ap (λ (k : ℕ). k ∷ map adds (map (man_after m) men)) (same_man m s none) ∙ ap (λ (ks : List ℕ). adds s ∷ ks) (same_men m men none)

same_key : (m : Move) (men : List PlacedMan) → m.promotion ≡ None → men_key (map (man_after m) men) ≡ men_key men
same_key m men none = sym (sum-map adds (map (man_after m) men)) ∙ ap sum (same_men m men none) ∙ sum-map adds men

pub returns-in-None : goal.returns-in-None
unfolding men_after
returns-in-None c =
    let p = c.args.self.now in let m = c.args.m.now in
    let empty = ap (is_occupied p.placed_men) (sym c.requires.captured) ∙ sym c.is_occupied.ensures ∙ c.if-not-is_occupied.true in
    c.key.ensures ∙ sym (ap (λ (men : List PlacedMan). men_key (map (man_after m) men)) (all_off (captured_square p m) p.placed_men empty) ∙ same_key m p.placed_men c.in-None.is)
