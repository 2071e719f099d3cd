-- Lists of entries, extended.
use Rattle.std.proofs.Common.{◌≡◌, ℕ, ◌+◌, ◌<◌, Bool, true, false, length, get_or, map, take, Bor, Option, Some, None, List, [], ◌∷◌, ◌++◌, refl, sym, ap, subst, ◌∙◌, append_assoc, append-nil, arith, if◌then◌else◌}
use Rattle.std.proofs.lemmas.List.{length-map, length-take-le, map-append, take_more}
use Rattle.szg_archive.specs.Shards.{has, shard_after, taken_of}
use Rattle.szg_named.specs.declared.checks.FileShard.{FileShard}
use Rattle.szg_archive.specs.Verdicts.{AllMissing, AreListed, AreMissing, IsListedAt, Listed, file_at, listed_of}
use Rattle.szg_sums.specs.declared.lists.Sums.{Sums}
use Rattle.szg_archive.specs.declared.file_verdict.FileVerdict.TheVariants.{Missing}
use Rattle.szg_archive.specs.declared.entries.PathToCheck.{PathToCheck}

abbrev texts : List (Bor (List ℕ)) → List (List ℕ)
texts paths = map (λ path. path.now) paths

-- the texts of the first paths, extended by the next
texts_more : (paths : List (Bor (List ℕ))) (i : ℕ) (d : Bor (List ℕ)) → i < length paths → texts (take (i + 1) paths) ≡ texts (take i paths) ++ (get_or paths i d).now ∷ []
texts_more paths i d below = ap texts (take_more paths i d below) ∙ map-append (λ (path : Bor (List ℕ)). path.now) (take i paths) (get_or paths i d ∷ [])

-- one entry more
pub entries_more : (entries : List PathToCheck) (entry : PathToCheck) (path : List ℕ) → listed_of entry ≡ file_at path → map listed_of (entries ++ entry ∷ []) ≡ map listed_of entries ++ map file_at (path ∷ [])
entries_more entries entry path is = map-append listed_of entries (entry ∷ []) ∙ ap (λ (one : Listed). map listed_of entries ++ one ∷ []) is

-- the files at the first paths, extended by the next
pub files_more : (paths : List (Bor (List ℕ))) (i : ℕ) (d : Bor (List ℕ)) (old new : List PathToCheck) → i < length paths → map listed_of old ≡ map file_at (texts (take i paths)) →
    map listed_of new ≡ map listed_of old ++ map file_at ((get_or paths i d).now ∷ []) → map listed_of new ≡ map file_at (texts (take (i + 1) paths))
files_more paths i d old new below h one =
    one ∙ ap (λ (z : List Listed). z ++ map file_at ((get_or paths i d).now ∷ [])) h
    ∙ sym (ap (map file_at) (texts_more paths i d below) ∙ map-append file_at (texts (take i paths)) ((get_or paths i d).now ∷ []))

-- what is listed for the first paths, extended by the next
listed_more : (paths : List (List ℕ)) (listed : List Listed) (path : List ℕ) (here : List Listed) → AreListed paths listed → IsListedAt path here → AreListed (paths ++ path ∷ []) (listed ++ here)
listed_more [] listed path here h one = (here, [], one, ap (λ (z : List Listed). z ++ here) h ∙ sym (append-nil here), refl)
listed_more (p ∷ ps) listed path here h one =
    (h.0, h.1 ++ here, h.2, ap (λ (z : List Listed). z ++ here) h.3 ∙ append_assoc h.0 h.1 here, listed_more ps h.1 path here h.4 one)

pub listed_next : (paths : List (Bor (List ℕ))) (i : ℕ) (d : Bor (List ℕ)) (old here : List PathToCheck) → i < length paths → AreListed (texts (take i paths)) (map listed_of old) →
    IsListedAt (get_or paths i d).now (map listed_of here) → AreListed (texts (take (i + 1) paths)) (map listed_of (old ++ here))
listed_next paths i d old here below h one =
    subst (λ (z : List (List ℕ)). AreListed z (map listed_of (old ++ here))) (sym (texts_more paths i d below))
    (subst (λ (z : List Listed). AreListed (texts (take i paths) ++ (get_or paths i d).now ∷ []) z) (sym (map-append listed_of old here))
    (listed_more (texts (take i paths)) (map listed_of old) (get_or paths i d).now (map listed_of here) h one))

all_missing_more : (listed : List Listed) (one : Listed) → AllMissing listed → one.1 ≡ Some Missing → AllMissing (listed ++ one ∷ [])
all_missing_more [] one all is = (is, tt)
all_missing_more (l ∷ ls) one all is = (all.0, all_missing_more ls one all.1 is)

-- one missing entry more
pub one_more_missing : (entries : List PathToCheck) (entry : PathToCheck) → AllMissing (map listed_of entries) → entry.note ≡ Some Missing → AllMissing (map listed_of (entries ++ entry ∷ []))
one_more_missing entries entry all is = subst AllMissing (sym (map-append listed_of entries (entry ∷ []))) (all_missing_more (map listed_of entries) (listed_of entry) all is)

-- nothing is missing
pub none_missing : (sums : Option (Bor Sums)) → AreMissing sums []
none_missing None = refl
none_missing (Some sums) = tt

-- the files at paths are what is listed for them
pub files_are_listed : (paths : List (List ℕ)) → AreListed paths (map file_at paths)
files_are_listed [] = refl
files_are_listed (path ∷ paths) = (file_at path ∷ [], map file_at paths, λ named. refl, refl, files_are_listed paths)

-- a shard's of some, and of one more
shard_more : {X : Type 0} (shard : FileShard) (before : ℕ) (xs : List X) (x : X) (i : ℕ) → i ≡ before + length xs → shard_after shard before (xs ++ x ∷ []) ≡ shard_after shard before xs ++ taken_of shard i x
shard_more shard before [] x i is = let same : before ≡ i = omega (arith, is) in append-nil (taken_of shard before x) ∙ ap (λ (k : ℕ). taken_of shard k x) same
shard_more shard before (y ∷ ys) x i is =
    ap (λ (z : List _). taken_of shard before y ++ z) (shard_more shard (before + 1) ys x i (omega (arith, is)))
    ∙ sym (append_assoc (taken_of shard before y) (shard_after shard (before + 1) ys) (taken_of shard i x))

-- a shard's of the first entries, and of the next
pub shard_next : (shard : FileShard) (entries : List PathToCheck) (i : ℕ) (item : PathToCheck) (old new : List PathToCheck) → i < length entries → item ≡ get_or entries i item →
    map listed_of old ≡ shard_after shard 0 (map listed_of (take i entries)) → map listed_of new ≡ map listed_of old ++ taken_of shard i (listed_of item) →
    map listed_of new ≡ shard_after shard 0 (map listed_of (take (i + 1) entries))
shard_next shard entries i item old new below is h grown =
    let count : i ≡ 0 + length (map listed_of (take i entries)) = let a = length-map (take i entries) listed_of in let b = length-take-le i entries (omega (arith, below)) in omega (arith, a, b) in
    let next = ap (λ (z : List PathToCheck). shard_after shard 0 (map listed_of z)) (take_more entries i item below)
    ∙ ap (shard_after shard 0) (map-append listed_of (take i entries) (get_or entries i item ∷ []))
    ∙ ap (λ (e : PathToCheck). shard_after shard 0 (map listed_of (take i entries) ++ listed_of e ∷ [])) (sym is)
    ∙ shard_more shard 0 (map listed_of (take i entries)) (listed_of item) i count in
    grown ∙ ap (λ (z : List Listed). z ++ taken_of shard i (listed_of item)) h ∙ sym next

pub entry_taken : (shard : FileShard) (i : ℕ) (old : List PathToCheck) (entry one : PathToCheck) → has shard i ≡ true → listed_of one ≡ listed_of entry → map listed_of (old ++ one ∷ []) ≡ map listed_of old ++ taken_of shard i (listed_of entry)
entry_taken shard i old entry one taken same =
    map-append listed_of old (one ∷ []) ∙ ap (λ (z : Listed). map listed_of old ++ z ∷ []) same
    ∙ sym (ap (λ (b : Bool). map listed_of old ++ (if b then listed_of entry ∷ [] else [])) taken)

pub entry_passed : (shard : FileShard) (i : ℕ) (old : List PathToCheck) (entry : PathToCheck) → has shard i ≡ false → map listed_of old ≡ map listed_of old ++ taken_of shard i (listed_of entry)
entry_passed shard i old entry passed =
    sym (ap (λ (b : Bool). map listed_of old ++ (if b then listed_of entry ∷ [] else [])) passed ∙ append-nil (map listed_of old))
