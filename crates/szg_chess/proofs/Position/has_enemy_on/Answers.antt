use Rattle.std.proofs.Common.{◌≡◌, ℕ, List, [], ◌∷◌, refl, sym, ◌∙◌, false}
use Rattle.std.specs.Prelude.{◌&&◌, ◌==◌}
use Rattle.std.specs.List.{list_any}
use Rattle.std.proofs.lemmas.Bool.{or_parts, and_right}
use Rattle.szg_values.specs.Men.{is_color, other_color}
use Rattle.szg_values.specs.declared.Color.{Color}
use Rattle.szg_values.specs.Placement.{PlacedMan}
use Rattle.szg_chess.proofs.Position.has_enemy_on.Goals as goal

none_there : (color : Color) (square : ℕ) (men : List PlacedMan) → list_any (λ s. s.2 == square) men ≡ false → list_any (λ s. is_color color s.1 && s.2 == square) men ≡ false
none_there color square [] e = refl
none_there color square (s ∷ men) e =
    let parts = or_parts (s.2 == square) (list_any (λ u. u.2 == square) men) e in
    rw (and_right (is_color color s.1) (s.2 == square) parts.0, none_there color square men parts.1) refl

pub returns-else-is_occupied : goal.returns-else-is_occupied
returns-else-is_occupied c = c.if-is_occupied.false ∙ sym (none_there (other_color c.args.self.now.mover) c.args.square c.args.self.now.placed_men (sym c.is_occupied.ensures ∙ c.if-is_occupied.false))
