use Rattle.std.proofs.Common.{List, Bool, ◌≡◌, ◌+◌, ◌*◌, length, ap, sym, ◌∙◌, arith}
use Rattle.szg_subtable.proofs.Builders.WordBits.{length_held}
use Rattle.szg_subtable.proofs.building.bitbuf.WordBits.len.Goals as goal

-- the number of bits by the fields
long : (c : goal.After-len) → length c.args.self.now ≡ 8 * length c.self.inside.bytes.items + c.self.inside.count
long c = ap (λ (z : List Bool). length z) (sym c.self.view_is) ∙ length_held c.self.inside.bytes.items c.self.inside.count c.self.inside.waiting

pub overflow_mul-result : goal.overflow_mul-result
overflow_mul-result c = omega (arith, long c, c.requires, c.len.ensures)

pub overflow_add-result : goal.overflow_add-result
overflow_add-result c = omega (arith, long c, c.requires, c.len.ensures)

pub returns : goal.returns
returns c = omega (arith, long c, c.len.ensures)
