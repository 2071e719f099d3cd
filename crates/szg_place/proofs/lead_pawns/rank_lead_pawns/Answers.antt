use Rattle.std.proofs.Common.{◌≡◌, ◌+◌, ◌-◌, ◌*◌, ◌/◌, ◌<◌, ℕ, List, length, map, suc, take, drop, get_or, sym, ap, ◌∙◌, subst, arith}
use Rattle.std.specs.Prelude.{Some, slice_get, slice_index}
use Rattle.std.proofs.lemmas.List.{length-map, take_all}
use Rattle.szg_count.specs.Sets.{subsets, IsFallingBelow}
use Rattle.szg_count.specs.Leads.{lead_pawn_sets}
use Rattle.szg_count.specs.Laws.{IsIn}
use Rattle.szg_place.specs.declared.lead_pawns.TheConstants.{WAYS_BEFORE}
use Rattle.szg_place.proofs.Ranks.LeadPawns.{pawn_number, first_square, following, IsPawnLead, pawn_parts, IsRest, rest_numbers, rest_inside, rest_small, lead_pawns_placed}
use Rattle.szg_place.proofs.lead_pawns.rank_lead_pawns.Goals as goal
use Rattle.szg_place.proofs.lead_pawns.rank_lead_pawns.Goals.{After-rank_pawns}

-- what is known of the squares
record Facts (squares : List ℕ) (file : ℕ) : Type 0 where
  parts : IsPawnLead (length squares) file squares
  first : get_or squares 0 0 ≡ first_square file parts.r
  rank : get_or squares 0 0 / 8 ≡ 1 + parts.r
  rest : take (length squares - 1) (drop 1 squares) ≡ parts.rest
  numbers : IsRest (length squares) file parts.r parts.rest

facts : (squares : List ℕ) (file : ℕ) → file < 4 → IsIn squares (lead_pawn_sets (length squares) file) → Facts squares file
facts squares file f h =
    let p = pawn_parts (length squares) file squares h in
    let q : get_or squares 0 0 ≡ first_square file p.r = ap (λ (l : List ℕ). get_or l 0 0) p.is in record {
      parts = p;
      first = q;
      rank = omega (arith, q, f);
      rest = ap (λ (l : List ℕ). take (length l - 1) (drop 1 l)) p.is ∙ take_all (suc (length p.rest) - 1) p.rest (omega arith);
      numbers = rest_numbers (length squares) file p.r p.rest f p.rank p.others;
    }

pub ways_before-before-requires : goal.ways_before-before-requires
ways_before-before-requires c =
    let f = facts c.args.squares.now c.args.file c.requires.file c.requires.listed in
    let a = f.rank in let b = f.parts.rank in record {
      some = c.requires.some;
      few = c.requires.few;
      file = c.requires.file;
      second = omega (arith, a, b);
      seventh = omega (arith, a, b);
    }

pub rank_pawns-requires-clause-inside : goal.rank_pawns-requires-clause-inside
rank_pawns-requires-clause-inside c =
    let squares = c.args.squares.now in
    let f = facts squares c.args.file c.requires.file c.requires.listed in
    subst (λ (l : List ℕ). (k : ℕ) → k < length l → slice_index l k < 64) (sym f.rest)
    (rest_inside (length squares) c.args.file squares f.parts.rest (first_square c.args.file f.parts.r) c.requires.some c.requires.file c.requires.listed f.parts.is)

pub rank_pawns-requires-clause-falling : goal.rank_pawns-requires-clause-falling
rank_pawns-requires-clause-falling c =
    let squares = c.args.squares.now in
    let f = facts squares c.args.file c.requires.file c.requires.listed in
    subst (λ (l : List ℕ). IsFallingBelow 64 (map pawn_number l)) (sym f.rest) f.numbers.falling

-- the rank of the others among those after the first
placed : (c : After-rank_pawns) → let f = facts c.args.squares.now c.args.file c.requires.file c.requires.listed in
    slice_get (subsets (length (following c.args.file f.parts.r)) (length (map pawn_number f.parts.rest))) c.rank_pawns.result ≡ Some (map pawn_number f.parts.rest)
placed c =
    let squares = c.args.squares.now in
    let f = facts squares c.args.file c.requires.file c.requires.listed in
    let n = length (following c.args.file f.parts.r) in let r = c.rank_pawns.result in
    let fall = subst (λ (l : List ℕ). IsFallingBelow n (map pawn_number l)) (sym f.rest) f.numbers.within in
    subst (λ (m : ℕ). slice_get (subsets n m) r ≡ Some (map pawn_number f.parts.rest)) (sym (length-map f.parts.rest pawn_number))
    (subst (λ (l : List ℕ). slice_get (subsets n (length l)) r ≡ Some (map pawn_number l)) f.rest (c.rank_pawns.ensures n fall))

pub overflow_add-result : goal.overflow_add-result
overflow_add-result c =
    let d = (goal.at.overflow_add-result c).After-rank_pawns in
    let f = facts c.args.squares.now c.args.file c.requires.file c.requires.listed in
    let s = rest_small (length c.args.squares.now) c.args.file f.parts.r c.rank_pawns.result f.parts.rest c.requires.few c.requires.file f.parts.rank f.numbers (placed d) in
    let w = c.ways_before-before.ensures.small in omega (arith, s, w)

pub returns : goal.returns
returns c =
    let d = (goal.at.returns c).After-rank_pawns in
    let squares = c.args.squares.now in let k = length squares in let file = c.args.file in
    let f = facts squares file c.requires.file c.requires.listed in
    let r = f.parts.r in
    let rank : get_or squares 0 0 / 8 - 1 ≡ r = let e = f.rank in omega (arith, e) in
    let w : c.ways_before-before.result ≡ slice_index WAYS_BEFORE (24 * (k - 1) + 6 * file + r) =
    c.ways_before-before.ensures.ways ∙ ap (λ n. slice_index WAYS_BEFORE (24 * (k - 1) + 6 * file + n)) rank in
    ap (λ n. slice_get (lead_pawn_sets k file) (n + c.rank_pawns.result)) w
    ∙ lead_pawns_placed k file r c.rank_pawns.result f.parts.rest c.requires.some c.requires.few c.requires.file f.parts.rank f.parts.others (placed d)
    ∙ ap Some (sym f.parts.is)
