-- Tables that are absent.
use Rattle.std.proofs.Common.{◌≡◌, ℕ, ◌+◌, ◌<◌, true, length, get_or, map, take, drop, Bor, List, [], ◌∷◌, ◌++◌, Option, Some, All, sym, ap, subst, ◌∙◌}
use Rattle.std.proofs.lemmas.List.{drop_more, map-append, take-append-drop, take_more}
use Rattle.std.proofs.lemmas.Bool.{leb-true}
use Rattle.std.proofs.lemmas.List.Elements.{All-push}
use Rattle.szg_values.specs.Material.{Sides, man_codes}
use Rattle.szg_values.specs.declared.Kind.{Kind}
use Rattle.szg_values.specs.declared.Kind.TheVariants.{Wdl, Dtz}
use Rattle.szg_chess.specs.Position.{Position}
use Rattle.szg_results.specs.Folders.{IsAbsent, IsAbsentAt, IsFirstPath, LacksDistances, may_do_without, path_of}

abbrev texts : List (Bor (List ℕ)) → List (List ℕ)
texts words = map (λ word. word.now) words

-- a table that is absent by the first words, and by the next
pub absent_next : (files files' : List ℕ → Option (List ℕ)) (words : List (Bor (List ℕ))) (i : ℕ) (d : Bor (List ℕ)) (material : Sides) (kind : Kind) → i < length words → files' ≡ files →
    IsAbsent files (texts (take i words)) material kind → IsAbsentAt files' material kind (get_or words i d).now → IsAbsent files (texts (take (i + 1) words)) material kind
absent_next files files' words i d material kind below same first next =
    let more : texts (take (i + 1) words) ≡ texts (take i words) ++ (get_or words i d).now ∷ [] =
    ap texts (take_more words i d below) ∙ map-append (λ (word : Bor (List ℕ)). word.now) (take i words) (get_or words i d ∷ []) in
    subst (All (IsAbsentAt files material kind)) (sym more)
    (All-push (IsAbsentAt files material kind) (texts (take i words)) (get_or words i d).now first
    (subst (λ (these : List ℕ → Option (List ℕ)). IsAbsentAt these material kind (get_or words i d).now) same next))

-- the path of a table that is absent by the first words, by the next
pub first_at : (files : List ℕ → Option (List ℕ)) (words : List (Bor (List ℕ))) (i : ℕ) (d : Bor (List ℕ)) (material : Sides) (kind : Kind) (path : List ℕ) → i < length words →
    IsAbsent files (texts (take i words)) material kind → path_of material kind (get_or words i d).now ≡ Some path → IsFirstPath files (texts words) material kind path
first_at files words i d material kind path below absent is =
    let rest : drop i words ≡ get_or words i d ∷ drop (i + 1) words = drop_more words i d below in
    record {
      before = texts (take i words);
      word = (get_or words i d).now;
      later = texts (drop (i + 1) words);
      words_are = ap texts (sym (take-append-drop i words)) ∙ map-append (λ (word : Bor (List ℕ)). word.now) (take i words) (drop i words) ∙ ap (λ (ws : List (Bor (List ℕ))). texts (take i words) ++ texts ws) rest;
      absent = absent;
      path_is = is;
    }

-- an answer does without such a table
pub lacking : (files : List ℕ → Option (List ℕ)) (words : List (List ℕ)) (material : Sides) (kind : Kind) (p : Position) → may_do_without kind material p ≡ true → IsAbsent files words material kind → LacksDistances files words p
lacking files words material Wdl p may absent = absurd (cc may)
lacking files words material Dtz p may absent = (material, leb-true (length (man_codes material)) (length p.placed_men) may, absent)

pub same_lacking : (files files' : List ℕ → Option (List ℕ)) (words words' : List (List ℕ)) (p : Position) → files' ≡ files → words' ≡ words → LacksDistances files' words' p → LacksDistances files words p
same_lacking files files' words words' p same same-words lacks =
    subst (λ (ws : List (List ℕ)). LacksDistances files ws p) same-words (subst (λ (these : List ℕ → Option (List ℕ)). LacksDistances these words' p) same lacks)
