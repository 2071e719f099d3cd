-- Moves, each with the DTZ of the position after it.
use Rattle.std.proofs.Common.{◌≡◌, ℕ, ℤ, ◌+◌, ◌<◌, length, get_or, map, take, List, [], ◌∷◌, ◌++◌, false, Option, Some, None, option_map, refl, sym, ap, subst, ◌∙◌}
use Rattle.std.specs.Prelude.{Result, Ok, Err, IfSome, IsNone}
use Rattle.std.proofs.lemmas.List.{map-append, take_more}
use Rattle.szg_chess.specs.Position.{Position}
use Rattle.szg_chess.specs.Fen.{fen_fault, record_of}
use Rattle.szg_chess.specs.declared.FenRecord.{FenRecord}
use Rattle.szg_chess.specs.declared.PositionFault.{PositionFault}
use Rattle.szg_game.specs.declared.Class.{Class}
use Rattle.szg_probe.specs.Distances.{probed_distance, signed_distance}
use Rattle.szg_probe.specs.declared.assessments.RankedMove.{RankedMove}
use Rattle.szg_tables.specs.Fetched.{fetched_classes, fetched_numbers}
use Rattle.szg_tables.specs.declared.fetched.FetchedTable.{FetchedTable}
use Rattle.szg_results.specs.Folders.{IsAnswerIn, IsPieceOf, LacksDistances}
use Rattle.szg_results.specs.Results.{IsAnswerOf}
use Rattle.szg_results.specs.Objects.{AreAfter, IfRead, IsDtz, IsObjectOf, object_text}
use Rattle.szg_results.specs.declared.objects.MoveAfter.{MoveAfter}
use Rattle.szg_results.specs.declared.objects.OrPiece.{OrPiece}
use Rattle.szg_results.specs.declared.objects.OrPiece.TheVariants.{Read}
use Rattle.szg_results.specs.declared.pieces.Piece.{Piece}
use Rattle.szg_results.specs.declared.results.Answer.{Answer}

abbrev ranked_of : MoveAfter → RankedMove
ranked_of s = s.ranked

-- the first moves and the next
pub more_moves : (rs : List RankedMove) (i : ℕ) (d : RankedMove) (ss : List MoveAfter) (s : MoveAfter) → i < length rs → map ranked_of ss ≡ take i rs → s.ranked ≡ get_or rs i d →
    map ranked_of (ss ++ s ∷ []) ≡ take (i + 1) rs
more_moves rs i d ss s below first next =
    map-append ranked_of ss (s ∷ []) ∙ ap (λ (us : List RankedMove). us ++ s.ranked ∷ []) first ∙ ap (λ (r : RankedMove). take i rs ++ r ∷ []) next ∙ sym (take_more rs i d below)

pub same_dtz : (files files' : List ℕ → Option (List ℕ)) (words words' : List (List ℕ)) (tables tables' : List FetchedTable) (p : Position) (dtz : Option ℤ) → files' ≡ files → words' ≡ words → tables' ≡ tables →
    IsDtz files' words' tables' p dtz → IsDtz files words tables p dtz
same_dtz files files' words words' tables tables' p dtz same words-are tables-are is =
    subst (λ (these : List ℕ → Option (List ℕ)). IsDtz these words tables p dtz) same
    (subst (λ (ws : List (List ℕ)). IsDtz files' ws tables p dtz) words-are
    (subst (λ (ts : List FetchedTable). IsDtz files' words' ts p dtz) tables-are is))

-- a text that is parsed as a record
parsed_by : (o : Option PositionFault) (parsed : Result FenRecord PositionFault) (r r' : FenRecord) → (IsNone o → parsed ≡ Ok r') → IfSome o (λ fault. parsed ≡ Err fault) → parsed ≡ Ok r →
    IsNone o × (r ≡ r')
parsed_by None parsed r r' accepted refused is = (refl, cc (sym is ∙ accepted refl))
parsed_by (Some fault) parsed r r' accepted refused is = absurd (cc (sym is ∙ refused))

-- the answer for a text that is parsed
pub answer_is : (files : List ℕ → Option (List ℕ)) (words words' : List (List ℕ)) (tables : List FetchedTable) (fen : List ℕ) (parsed : Result FenRecord PositionFault) (r : FenRecord) (a : Answer) →
    (IsNone (fen_fault fen) → parsed ≡ Ok (record_of fen)) → IfSome (fen_fault fen) (λ fault. parsed ≡ Err fault) → parsed ≡ Ok r → words' ≡ words → IsAnswerOf (fetched_classes tables) (fetched_numbers tables) r a →
    (a.has_distances ≡ false → LacksDistances files words' r.position) → IsNone (fen_fault fen) × (r ≡ record_of fen) × IsAnswerIn files words tables (record_of fen) a
answer_is files words words' tables fen parsed r a accepted refused is words-is answer lacks =
    let both = parsed_by (fen_fault fen) parsed r (record_of fen) accepted refused is in
    let so : r ≡ record_of fen = both.1 in
    let there : IsAnswerIn files words tables r a = (answer, λ none. subst (λ (ws : List (List ℕ)). LacksDistances files ws r.position) words-is (lacks none)) in
    (both.0, so, subst (λ (q : FenRecord). IsAnswerIn files words tables q a) so there)

-- the object of a text that is parsed, once all tables are read
pub object_is : (files files' files'' : List ℕ → Option (List ℕ)) (words words' words'' : List (List ℕ)) (tables : List FetchedTable) (fen text : List ℕ) (parsed : Result FenRecord PositionFault) (r : FenRecord)
    (a : Answer) (ss : List MoveAfter) → (IsNone (fen_fault fen) → parsed ≡ Ok (record_of fen)) → IfSome (fen_fault fen) (λ fault. parsed ≡ Err fault) → parsed ≡ Ok r →
    files' ≡ files → words' ≡ words → files'' ≡ files' → words'' ≡ words' → IsAnswerOf (fetched_classes tables) (fetched_numbers tables) r a → (a.has_distances ≡ false → LacksDistances files' words' r.position) →
    AreAfter files'' words'' tables r.position a.moves.items ss → text ≡ object_text r.position a ss → IsObjectOf files words tables fen text
object_is files files' files'' words words' words'' tables fen text parsed r a ss accepted refused is files-is words-is files-are words-are answer lacks after object =
    let both = parsed_by (fen_fault fen) parsed r (record_of fen) accepted refused is in
    let so : r ≡ record_of fen = both.1 in
    let p : Position = (record_of fen).position in
    let lacks-there : a.has_distances ≡ false → LacksDistances files words p = λ none.
    subst (λ (q : FenRecord). LacksDistances files words q.position) so (subst (λ (ws : List (List ℕ)). LacksDistances files ws r.position) words-is
    (subst (λ (these : List ℕ → Option (List ℕ)). LacksDistances these words' r.position) files-is (lacks none))) in
    let after-there : AreAfter files words tables p a.moves.items ss =
    subst (λ (q : FenRecord). AreAfter files words tables q.position a.moves.items ss) so (subst (λ (ws : List (List ℕ)). AreAfter files ws tables r.position a.moves.items ss) (words-are ∙ words-is)
    (subst (λ (these : List ℕ → Option (List ℕ)). AreAfter these words'' tables r.position a.moves.items ss) (files-are ∙ files-is) after)) in
    (both.0, a, (subst (λ (q : FenRecord). IsAnswerOf (fetched_classes tables) (fetched_numbers tables) q a) so answer, lacks-there), ss, after-there, object ∙ ap (λ (q : FenRecord). object_text q.position a ss) so)

-- a piece that was read on the way
pub piece_is : {A : Type 0} (files files' : List ℕ → Option (List ℕ)) (words words' : List (List ℕ)) (tables tables' : List FetchedTable) (found : OrPiece A) (piece : Piece) → files' ≡ files → words' ≡ words →
    tables' ≡ tables → found ≡ Read piece → IfRead found (IsPieceOf files' words' tables') → IsPieceOf files words tables piece
piece_is {A} files files' words words' tables tables' found piece same words-are tables-are is read =
    subst (λ (these : List ℕ → Option (List ℕ)). IsPieceOf these words tables piece) same
    (subst (λ (ws : List (List ℕ)). IsPieceOf files' ws tables piece) words-are
    (subst (λ (ts : List FetchedTable). IsPieceOf files' words' ts piece) tables-are (subst (λ (f : OrPiece A). IfRead f (IsPieceOf files' words' tables')) is read)))

-- the DTZ that a probe found
pub dtz_is : (files : List ℕ → Option (List ℕ)) (words : List (List ℕ)) (tables : List FetchedTable) (p : Position) (k : Class) (d : ℕ) (n : ℤ) →
    probed_distance (fetched_classes tables) (fetched_numbers tables) p ≡ Some (k, d) → n ≡ signed_distance k d → IsDtz files words tables p (Some n)
dtz_is files words tables p k d n is signed = ap (option_map (λ (found : Class × ℕ). signed_distance found.0 found.1)) is ∙ ap (λ (m : ℤ). Some m) (sym signed)
