-- What is kept of what was read.
use Rattle.std.proofs.Common.{◌≡◌, ℕ, ◌<◌, List, [], ◌∷◌, ◌++◌, length, get_or, Option, Some, None, Bool, true, false, All, set, ap, sym, subst}
use Rattle.std.specs.Prelude.{IfSome, slice_get, string_bytes, if◌then◌else◌}
use Rattle.std.proofs.lemmas.List.Elements.{All-nil, All-push, All-set}
use Rattle.std.proofs.lemmas.Option.{slice_get-get_or}
use Rattle.szg_values.specs.Material.{Sides}
use Rattle.szg_values.specs.declared.Kind.{Kind}
use Rattle.szg_file.specs.FrontTable.{FrontKept, IsFrontOf}
use Rattle.szg_file.specs.Held.{Shown}
use Rattle.szg_file.specs.Opened.{table_in}
use Rattle.szg_file.specs.WholeRead.{IsTable}
use Rattle.szg_tables.specs.Fetched.{IsOfFile, IsValueIn}
use Rattle.szg_tables.specs.declared.fetched.FetchedTable.{FetchedTable}
use Rattle.szg_tables.specs.declared.fetched.FetchedValue.{FetchedValue}
use Rattle.szg_results.specs.Folders.{AreFetched, IsFetched, IsFirstPath, IsPieceOf, IsReadFrom, IsValueOf}
use Rattle.szg_results.specs.declared.pieces.Piece.{Piece}

more_of : (t u : FetchedTable) (v : FetchedValue) (b : Bool) (o : Option (List ℕ)) → u.front ≡ t.front → u.values.items ≡ (if b then t.values.items ++ v ∷ [] else t.values.items) →
    IfSome o (λ content. IsFrontOf t.front content → IsValueIn t.front content v) → IfSome o (IsOfFile t) → IfSome o (IsOfFile u)
more_of t u v b None front values is of = tt
more_of t u v true (Some content) front values is of =
    let In = λ (v : FetchedValue). IsValueIn u.front content v in
    record {
      front = subst (λ x. IsFrontOf x content) (sym front) of.front;
      values = subst (All In) (sym values) (subst (λ x. All (IsValueIn x content) (t.values.items ++ v ∷ [])) (sym front) (All-push (IsValueIn t.front content) t.values.items v of.values (is of.front)));
    }
more_of t u v false (Some content) front values is of =
    record {
      front = subst (λ x. IsFrontOf x content) (sym front) of.front;
      values = subst (All (IsValueIn u.front content)) (sym values) (subst (λ x. All (IsValueIn x content) t.values.items) (sym front) of.values);
    }

-- a table with one more value, if there was room for it
pub more_values : (files : List ℕ → Option (List ℕ)) (words : List (List ℕ)) (t u : FetchedTable) (v : FetchedValue) (b : Bool) → u.path ≡ t.path → u.front ≡ t.front →
    u.values.items ≡ (if b then t.values.items ++ v ∷ [] else t.values.items) → IsValueOf files v t → IsFetched files words t → IsFetched files words u
more_values files words t u v b path front values is of =
    let there : string_bytes u.path ≡ string_bytes t.path = ap (λ p. string_bytes p) path in
    let First = λ (f : FrontKept) (p : List ℕ). IsFirstPath files words f.index.material f.index.kind p in
    record {
      first = subst (λ (f : FrontKept). First f (string_bytes u.path)) (sym front) (subst (λ (p : List ℕ). First t.front p) (sym there) of.first);
      there = subst (λ (p : List ℕ). IfSome (files p) (IsOfFile u)) (sym there) (more_of t u v b (files (string_bytes t.path)) front values is of.there);
    }

at_of : (ts : List FetchedTable) (i : ℕ) (d : FetchedTable) (P : FetchedTable → Type 0) → i < length ts → IfSome (slice_get ts i) P → P (get_or ts i d)
at_of ts i d P below is = subst (λ (o : Option FetchedTable). IfSome o P) (slice_get-get_or ts i d below) is

-- tables of which one has one more value
pub kept_at : (files : List ℕ → Option (List ℕ)) (words : List (List ℕ)) (ts : List FetchedTable) (i : ℕ) (d u : FetchedTable) (v : FetchedValue) → i < length ts →
    (IsValueOf files v (get_or ts i d) → IsFetched files words (get_or ts i d) → IsFetched files words u) →
    IfSome (slice_get ts i) (IsValueOf files v) → AreFetched files words ts → AreFetched files words (set ts i u)
kept_at files words ts i d u v below step is all = All-set (IsFetched files words) ts i u (step (at_of ts i d (IsValueOf files v) below is) (all i d below)) all

-- ---- a table that was opened, and one that was read

found_of : (P : List ℕ → Type 0) (o coming : Option (List ℕ)) → IfSome o (λ bytes. coming ≡ Some bytes) → IfSome coming P → IfSome o P
found_of P None coming is there = tt
found_of P (Some content) coming is there = subst (λ (c : Option (List ℕ)). IfSome c P) is there

front_of : (t : FetchedTable) (o : Option (List ℕ)) → t.values.items ≡ [] → IfSome o (IsFrontOf t.front) → IfSome o (IsOfFile t)
front_of t None none front = tt
front_of t (Some content) none front = record {
  front = front;
  values = subst (All (IsValueIn t.front content)) (sym none) (All-nil (IsValueIn t.front content));
}

-- a table that was opened by the front of its file, and of which no value was fetched
pub opened_is : (files : List ℕ → Option (List ℕ)) (words : List (List ℕ)) (t : FetchedTable) (material : Sides) (kind : Kind) (path : List ℕ) (coming : Option (List ℕ)) → IsFirstPath files words material kind path →
    IfSome (files path) (λ bytes. coming ≡ Some bytes) → IfSome coming (IsFrontOf t.front) → t.front.index.material ≡ material → t.front.index.kind ≡ kind → string_bytes t.path ≡ path → t.values.items ≡ [] →
    IsFetched files words t
opened_is files words t material kind path coming first is front material-is kind-is path-is none =
    let here : IsFirstPath files words t.front.index.material t.front.index.kind path =
    subst (λ (k : Kind). IsFirstPath files words t.front.index.material k path) (sym kind-is) (subst (λ (m : Sides). IsFirstPath files words m kind path) (sym material-is) first) in
    record {
      first = subst (λ (p : List ℕ). IsFirstPath files words t.front.index.material t.front.index.kind p) (sym path-is) here;
      there = subst (λ (p : List ℕ). IfSome (files p) (IsOfFile t)) (sym path-is) (front_of t (files path) none (found_of (IsFrontOf t.front) (files path) coming is front));
    }

pub read_is : (files : List ℕ → Option (List ℕ)) (words : List (List ℕ)) (material : Sides) (kind : Kind) (t : Shown) (path : List ℕ) (coming : Option (List ℕ)) → IsFirstPath files words material kind path →
    IfSome (files path) (λ bytes. coming ≡ Some bytes) → IsTable material kind t → IfSome coming (λ content. table_in material kind content ≡ Some t.contents) → IsReadFrom files words material kind t
read_is files words material kind t path coming first is table there = record {
  path = path;
  first = first;
  table = table;
  there = found_of (λ (content : List ℕ). table_in material kind content ≡ Some t.contents) (files path) coming is there;
}

-- ---- what stays true while pieces are read

pub moved : (files files' : List ℕ → Option (List ℕ)) (words words' : List (List ℕ)) (old new : List FetchedTable) → files' ≡ files → (AreFetched files' words old → AreFetched files' words' new) →
    AreFetched files words old → AreFetched files words' new
moved files files' words words' old new same h = subst (λ (these : List ℕ → Option (List ℕ)). AreFetched these words old → AreFetched these words' new) same h

pub carried : (files files' : List ℕ → Option (List ℕ)) (words words' : List (List ℕ)) (old new : List FetchedTable) (piece : Piece) → files' ≡ files → IsPieceOf files' words old piece →
    ((these : List ℕ → Option (List ℕ)) → IsPieceOf these words old piece → AreFetched these words old → AreFetched these words' new) → AreFetched files words old → AreFetched files words' new
carried files files' words words' old new piece same is keep = keep files (subst (λ (these : List ℕ → Option (List ℕ)). IsPieceOf these words old piece) same is)

-- the same words and tables
pub still : (files : List ℕ → Option (List ℕ)) (words words' : List (List ℕ)) (old new : List FetchedTable) → words' ≡ words → new ≡ old → AreFetched files words old → AreFetched files words' new
still files words words' old new same same-tables all =
    subst (λ (ws : List (List ℕ)). AreFetched files ws new) (sym same) (subst (AreFetched files words) (sym same-tables) all)
