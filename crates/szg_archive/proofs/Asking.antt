-- The files that a command line checks, by its words.
use Rattle.std.proofs.Common.{◌≡◌, ℕ, ◌<◌, ◌≤◌, Bool, true, false, ◌&&◌, nat_lt, List, length, map, drop, option_map, Some, None, Bor, refl, ap, ◌∙◌, arith, if◌then◌else◌}
use Rattle.std.specs.Prelude.{slice_get}
use Rattle.std.proofs.lemmas.Bool.{le-ltb, lt-ltb}
use Rattle.std.proofs.lemmas.List.{drop-map, length-map}
use Rattle.std.proofs.lemmas.Option.{slice_get-map}
use Rattle.szg_archive.specs.Requested.{all_named, files_to_check, is_check}

abbrev pub texts : List (Bor (List ℕ)) → List (List ℕ)
texts words = map (λ word. word.now) words

-- the results by which the definition decides
requested_by : (words : List (Bor (List ℕ))) (many check named : Bool) → nat_lt 2 (length (texts words)) ≡ many → is_check (option_map (λ word. word.now) (slice_get words 1)) ≡ check →
    all_named (texts (drop 2 words)) ≡ named → files_to_check (texts words) ≡ (if many && (check && named) then Some (texts (drop 2 words)) else None)
requested_by words many check named a b c =
    let at : is_check (slice_get (texts words) 1) ≡ check = ap is_check (slice_get-map (λ (word : Bor (List ℕ)). word.now) words 1) ∙ b in
    let rest : drop 2 (texts words) ≡ texts (drop 2 words) = drop-map (λ (word : Bor (List ℕ)). word.now) 2 words in
    let all : all_named (drop 2 (texts words)) ≡ named = ap all_named rest ∙ c in
    ap (λ (m : Bool). if m && (is_check (slice_get (texts words) 1) && all_named (drop 2 (texts words))) then Some (drop 2 (texts words)) else None) a
    ∙ ap (λ (k : Bool). if many && (k && all_named (drop 2 (texts words))) then Some (drop 2 (texts words)) else None) at
    ∙ ap (λ (n : Bool). if many && (check && n) then Some (drop 2 (texts words)) else None) all
    ∙ ap (λ (l : List (List ℕ)). if many && (check && named) then Some l else None) rest

abbrev command_is : List (Bor (List ℕ)) → Bool
command_is words = is_check (option_map (λ word. word.now) (slice_get words 1))

pub none_few : (words : List (Bor (List ℕ))) → length words < 3 → files_to_check (texts words) ≡ None
none_few words few =
    let many : length (texts words) ≡ length words = length-map words (λ (word : Bor (List ℕ)). word.now) in
    requested_by words false (command_is words) (all_named (texts (drop 2 words))) (le-ltb 2 (length (texts words)) (omega (arith, few, many))) refl refl

not_check : {X : Type 0} (m n : Bool) (x : X) → (if m && (false && n) then Some x else None) ≡ None
not_check true n x = refl
not_check false n x = refl

not_named : {X : Type 0} (m k : Bool) (x : X) → (if m && (k && false) then Some x else None) ≡ None
not_named true true x = refl
not_named true false x = refl
not_named false k x = refl

pub none_other : (words : List (Bor (List ℕ))) → is_check (option_map (λ word. word.now) (slice_get words 1)) ≡ false → files_to_check (texts words) ≡ None
none_other words other =
    requested_by words (nat_lt 2 (length (texts words))) false (all_named (texts (drop 2 words))) refl other refl
    ∙ not_check (nat_lt 2 (length (texts words))) (all_named (texts (drop 2 words))) (texts (drop 2 words))

pub none_unnamed : (words : List (Bor (List ℕ))) → all_named (texts (drop 2 words)) ≡ false → files_to_check (texts words) ≡ None
none_unnamed words unnamed =
    requested_by words (nat_lt 2 (length (texts words))) (command_is words) false refl refl unnamed
    ∙ not_named (nat_lt 2 (length (texts words))) (command_is words) (texts (drop 2 words))

pub query_is : (words : List (Bor (List ℕ))) → 3 ≤ length words → is_check (option_map (λ word. word.now) (slice_get words 1)) ≡ true → all_named (texts (drop 2 words)) ≡ true →
    files_to_check (texts words) ≡ Some (texts (drop 2 words))
query_is words long check named =
    let many : length (texts words) ≡ length words = length-map words (λ (word : Bor (List ℕ)). word.now) in
    requested_by words true true true (lt-ltb 2 (length (texts words)) (omega (arith, long, many))) check named
