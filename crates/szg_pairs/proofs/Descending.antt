-- The descent through the pairs of an accepted dictionary.
use Rattle.std.proofs.Common.{ℕ, zero, suc, map, Bool, true, false, ◌≡◌, ◌==◌, ◌+◌, ◌*◌, ◌-◌, ◌<◌, ◌≤◌, List, [], ◌∷◌, ◌++◌, Some, length, refl, ap, sym, ◌∙◌, subst, arith, length-append, get_or, append_assoc, append-nil}
use Rattle.std.specs.List.{slice_get}
use Rattle.std.specs.Option.{option_map}
use Rattle.std.proofs.lemmas.Option.{slice_get-get_or, slice_get-map, slice_get_read}
use Rattle.std.proofs.lemmas.List.{get_or_append_left, get_or-append_right, get_or_read, length-map}
use Rattle.szg_pairs.specs.Entry.{left_of, right_of, is_leaf}
use Rattle.szg_pairs.specs.Expansion.{Expands, leaf, pair, expansion_of, depths_within, depths_of}
use Rattle.szg_pairs.specs.Dictionary.{IsDictionary}
use Rattle.szg_pairs.specs.State.{entry_of, node_of, split_of, IsDictState, IsDescent, stack_values, steps_left}
use Rattle.szg_pairs.specs.declared.nodes.Node.{Node}
use Rattle.szg_pairs.proofs.Expanding.{length-depths_of, depths_of-below, Expands-length, Expands-expansion_of, AllBelow, AllBelow-push, AllBelow-pop}
use Rattle.szg_pairs.proofs.Accepting.{symbol_of_dictionary, Expands-there}

-- the lengths as `Dict` reads them
pub length_read_back : {nodes : List Node} (entries value : List (List ℕ)) (lengths : List ℕ) (s n : ℕ) → IsDictState entries nodes lengths → entries ≡ value → s < length value → n ≡ get_or lengths s n →
    (n ≡ length (expansion_of value s)) × (1 ≤ n) × (n ≤ 256)
length_read_back entries value lengths s n state same there read =
    let there_too : s < length entries = subst (λ (v : List (List ℕ)). s < length v) (sym same) there in
    let many = state.same_length in
    let at : get_or lengths s 0 ≡ n = sym (get_or_read lengths s n (omega (arith, there_too, many)) read 0) in
    let short = symbol_of_dictionary entries state.dictionary s there_too in
    let is : n ≡ length (expansion_of entries s) = sym at ∙ state.each s there_too in
    (subst (λ (v : List (List ℕ)). n ≡ length (expansion_of v s)) same is, omega (arith, is, short.some), omega (arith, is, short.few))

-- the conditions of a look-up, stated for the entries of `Dict`
pub opened : (entries value : List (List ℕ)) (s i : ℕ) → entries ≡ value → s < length value → i < length (expansion_of value s) → (s < length entries) × (i < length (expansion_of entries s))
opened entries value s i same there within = rw same (there, within)

module _ (entries : List (List ℕ)) where
  leaf_values : {s : ℕ} {xs : List ℕ} → Expands entries s xs → (entry : List ℕ) → slice_get entries s ≡ Some entry → is_leaf entry ≡ true → xs ≡ left_of entry ∷ []
  leaf_values (leaf {s = s} {entry = e} a p) entry b q = let same : Some e ≡ Some entry = sym a ∙ b in cc
  leaf_values (pair {s = s} {entry = e} a p l r) entry b q = let same : Some e ≡ Some entry = sym a ∙ b in absurd cc

  abbrev Parts : List ℕ → List ℕ → Type 0
  Parts entry xs = (left right : List ℕ) × Expands entries (left_of entry) left × Expands entries (right_of entry) right × (xs ≡ left ++ right)

  pair_values : {s : ℕ} {xs : List ℕ} → Expands entries s xs → (entry : List ℕ) → slice_get entries s ≡ Some entry → is_leaf entry ≡ false → Parts entry xs
  pair_values (leaf {s = s} {entry = e} a p) entry b q = let same : Some e ≡ Some entry = sym a ∙ b in absurd cc
  pair_values (pair {s = s} {entry = e} {left = x} {right = y} a p l r) entry b q =
      let twice : Some e ≡ Some entry = sym a ∙ b in
      let same : e ≡ entry = cc in
      (x, y, subst (λ (v : List ℕ). Expands entries (left_of v) x) same l, subst (λ (v : List ℕ). Expands entries (right_of v) y) same r, refl)

  -- what a pair of an accepted dictionary expands to
  pub record IsPairAt (s : ℕ) (entry : List ℕ) : Type 0 where
    pub left_there : left_of entry < length entries
    pub right_there : right_of entry < length entries
    pub joined : expansion_of entries s ≡ expansion_of entries (left_of entry) ++ expansion_of entries (right_of entry)
    pub left_shorter : length (expansion_of entries (left_of entry)) < length (expansion_of entries s)
    pub right_shorter : length (expansion_of entries (right_of entry)) < length (expansion_of entries s)

  pub pair_at : IsDictionary entries → (s : ℕ) (entry : List ℕ) → s < length entries → slice_get entries s ≡ Some entry → is_leaf entry ≡ false → IsPairAt s entry
  pair_at accepted s entry there at paired =
      let short = symbol_of_dictionary entries accepted s there in
      let p = pair_values short.expands entry at paired in
      let n = length-append p.0 p.1 in
      let whole = ap length p.4 in
      let few = short.few in
      let l : expansion_of entries (left_of entry) ≡ p.0 = Expands-expansion_of entries (left_of entry) p.0 p.2 (omega (arith, n, whole, few)) in
      let r : expansion_of entries (right_of entry) ≡ p.1 = Expands-expansion_of entries (right_of entry) p.1 p.3 (omega (arith, n, whole, few)) in
      record {
        left_there = Expands-there entries p.2;
        right_there = Expands-there entries p.3;
        joined = rw (l, r) p.4;
        left_shorter = rw l (omega (arith, n, whole, Expands-length entries p.3));
        right_shorter = rw r (omega (arith, n, whole, Expands-length entries p.2));
      }

  pub leaf_at : IsDictionary entries → (s : ℕ) (entry : List ℕ) → s < length entries → slice_get entries s ≡ Some entry → is_leaf entry ≡ true → expansion_of entries s ≡ left_of entry ∷ []
  leaf_at accepted s entry there at single = leaf_values (symbol_of_dictionary entries accepted s there).expands entry at single

  -- the item of a pair is an item of its left symbol or of its right symbol
  pub go_left : (s i : ℕ) (entry : List ℕ) → IsPairAt s entry → i < length (expansion_of entries (left_of entry)) →
      slice_get (expansion_of entries (left_of entry)) i ≡ slice_get (expansion_of entries s) i
  go_left s i entry p h =
      let whole = p.joined in
      let n = length-append (expansion_of entries (left_of entry)) (expansion_of entries (right_of entry)) in
      rw p.joined (slice_get-get_or (expansion_of entries (left_of entry)) i 0 h
      ∙ ap (λ (k : ℕ). Some k) (sym (get_or_append_left (expansion_of entries (left_of entry)) (expansion_of entries (right_of entry)) 0 i h))
      ∙ sym (slice_get-get_or (expansion_of entries (left_of entry) ++ expansion_of entries (right_of entry)) i 0 (omega (arith, h, n))))

  pub go_right : (s i : ℕ) (entry : List ℕ) → IsPairAt s entry → i < length (expansion_of entries s) → length (expansion_of entries (left_of entry)) ≤ i →
      slice_get (expansion_of entries (right_of entry)) (i - length (expansion_of entries (left_of entry))) ≡ slice_get (expansion_of entries s) i
  go_right s i entry p lt h =
      let whole = ap length p.joined in
      let n = length-append (expansion_of entries (left_of entry)) (expansion_of entries (right_of entry)) in
      rw p.joined (slice_get-get_or (expansion_of entries (right_of entry)) (i - length (expansion_of entries (left_of entry))) 0 (omega (arith, lt, h, n, whole))
      ∙ ap (λ (k : ℕ). Some k) (sym (get_or-append_right (expansion_of entries (left_of entry)) (expansion_of entries (right_of entry)) (length (expansion_of entries (left_of entry))) i 0 refl h))
      ∙ sym (slice_get-get_or (expansion_of entries (left_of entry) ++ expansion_of entries (right_of entry)) i 0 (omega (arith, lt, n, whole))))

  -- ---- a stack of symbols, the topmost last

  pub stack_values-push : (stack : List ℕ) (s : ℕ) → stack_values entries (stack ++ s ∷ []) ≡ expansion_of entries s ++ stack_values entries stack
  stack_values-push [] s = sym (append-nil (expansion_of entries s))
  stack_values-push (t ∷ stack) s = ap (λ (v : List ℕ). v ++ expansion_of entries t) (stack_values-push stack s) ∙ append_assoc (expansion_of entries s) (stack_values entries stack) (expansion_of entries t)

  pub steps_left-push : (stack : List ℕ) (s : ℕ) → steps_left entries (stack ++ s ∷ []) ≡ steps_left entries stack + (2 * length (expansion_of entries s) - 1)
  steps_left-push [] s = omega arith
  steps_left-push (t ∷ stack) s = let h = steps_left-push stack s in omega (arith, h)

  -- ---- the number of pairs above each value

  -- more levels than values change nothing
  depths_within-enough : {s : ℕ} {xs : List ℕ} → Expands entries s xs → (m n : ℕ) → length xs ≤ m → length xs ≤ n → depths_within entries m s ≡ depths_within entries n s
  unfolding depths_within
  depths_within-enough (leaf a p) zero n h g = absurd (omega arith)
  depths_within-enough (leaf a p) (suc m) zero h g = absurd (omega arith)
  depths_within-enough (leaf a p) (suc m) (suc n) h g = rw (a, p) refl
  depths_within-enough (pair {left = x} {right = y} a p l r) zero n h g = absurd (omega (arith, length-append x y, Expands-length entries l))
  depths_within-enough (pair {left = x} {right = y} a p l r) (suc m) zero h g = absurd (omega (arith, length-append x y, Expands-length entries l))
  depths_within-enough (pair {entry = e} {left = x} {right = y} a p l r) (suc m) (suc n) h g =
      let long = length-append x y in
      let lx = Expands-length entries l in
      let ly = Expands-length entries r in
      let i = depths_within-enough l m n (omega (arith, long, ly)) (omega (arith, long, ly)) in
      let j = depths_within-enough r m n (omega (arith, long, lx)) (omega (arith, long, lx)) in
      rw (a, p, i, j) refl

  -- the one value of a leaf has no pair above it
  pub leaf_depths : (s : ℕ) (entry : List ℕ) → slice_get entries s ≡ Some entry → is_leaf entry ≡ true → depths_of entries s ≡ 0 ∷ []
  unfolding depths_of depths_within
  leaf_depths s entry at single = rw (at, single) refl

  depths_step : (s : ℕ) (entry : List ℕ) → slice_get entries s ≡ Some entry → is_leaf entry ≡ false →
      depths_within entries 256 s ≡ map suc (depths_within entries 255 (left_of entry) ++ depths_within entries 255 (right_of entry))
  unfolding depths_within
  depths_step s entry at paired = rw (at, paired) refl

  pub pair_depths : IsDictionary entries → (s : ℕ) (entry : List ℕ) → s < length entries → slice_get entries s ≡ Some entry → is_leaf entry ≡ false →
      depths_of entries s ≡ map suc (depths_of entries (left_of entry) ++ depths_of entries (right_of entry))
  unfolding depths_of
  pair_depths accepted s entry there at paired =
      let short = symbol_of_dictionary entries accepted s there in
      let p = pair_values short.expands entry at paired in
      let n = length-append p.0 p.1 in
      let whole = ap length p.4 in
      let few = short.few in
      let lx = Expands-length entries p.2 in
      let ly = Expands-length entries p.3 in
      let i : depths_within entries 255 (left_of entry) ≡ depths_within entries 256 (left_of entry) = depths_within-enough p.2 255 256 (omega (arith, n, whole, few, ly)) (omega (arith, n, whole, few, ly)) in
      let j : depths_within entries 255 (right_of entry) ≡ depths_within entries 256 (right_of entry) = depths_within-enough p.3 255 256 (omega (arith, n, whole, few, lx)) (omega (arith, n, whole, few, lx)) in
      depths_step s entry at paired ∙ ap (λ (v : List ℕ). map suc (v ++ depths_within entries 255 (right_of entry))) i ∙ ap (λ (v : List ℕ). map suc (depths_within entries 256 (left_of entry) ++ v)) j

  get_or-map_suc : (xs : List ℕ) (i : ℕ) → i < length xs → get_or (map suc xs) i 0 ≡ suc (get_or xs i 0)
  get_or-map_suc [] i h = absurd (omega arith)
  get_or-map_suc (x ∷ xs) zero h = refl
  get_or-map_suc (x ∷ xs) (suc i) h = get_or-map_suc xs i (omega arith)

  depth_left : IsDictionary entries → (s i : ℕ) (entry : List ℕ) → s < length entries → slice_get entries s ≡ Some entry → is_leaf entry ≡ false → i < length (expansion_of entries (left_of entry)) →
      get_or (depths_of entries s) i 0 ≡ suc (get_or (depths_of entries (left_of entry)) i 0)
  depth_left accepted s i entry there at paired h =
      let l = depths_of entries (left_of entry) in
      let r = depths_of entries (right_of entry) in
      let n = length-append l r in
      let same : length l ≡ length (expansion_of entries (left_of entry)) = length-depths_of entries (left_of entry) in
      ap (λ (v : List ℕ). get_or v i 0) (pair_depths accepted s entry there at paired)
      ∙ get_or-map_suc (l ++ r) i (omega (arith, n, same, h))
      ∙ ap suc (get_or_append_left l r 0 i (omega (arith, same, h)))

  depth_right : IsDictionary entries → (s i : ℕ) (entry : List ℕ) → s < length entries → slice_get entries s ≡ Some entry → is_leaf entry ≡ false → i < length (expansion_of entries s) → length (expansion_of entries (left_of entry)) ≤ i →
      get_or (depths_of entries s) i 0 ≡ suc (get_or (depths_of entries (right_of entry)) (i - length (expansion_of entries (left_of entry))) 0)
  depth_right accepted s i entry there at paired lt h =
      let l = depths_of entries (left_of entry) in
      let r = depths_of entries (right_of entry) in
      let n = length-append l r in
      let p = pair_at accepted s entry there at paired in
      let whole = ap length p.joined ∙ length-append (expansion_of entries (left_of entry)) (expansion_of entries (right_of entry)) in
      let same : length l ≡ length (expansion_of entries (left_of entry)) = length-depths_of entries (left_of entry) in
      let same_r : length r ≡ length (expansion_of entries (right_of entry)) = length-depths_of entries (right_of entry) in
      ap (λ (v : List ℕ). get_or v i 0) (pair_depths accepted s entry there at paired)
      ∙ get_or-map_suc (l ++ r) i (omega (arith, n, same, same_r, whole, lt))
      ∙ ap suc (get_or-append_right l r (length (expansion_of entries (left_of entry))) i 0 same h)

  -- the depths that a descent can still reach
  pub few_pairs : IsDictionary entries → (s i : ℕ) → s < length entries → i < length (expansion_of entries s) → get_or (depths_of entries s) i 0 ≤ 255
  few_pairs accepted s i there within =
      let short = symbol_of_dictionary entries accepted s there in
      let same = length-depths_of entries s in
      depths_of-below entries s (expansion_of entries s) short.expands short.few i (omega (arith, same, within))

  -- ---- a look-up's steps

  -- what the node of a symbol says of its entry
  pub record IsNodeAt (s : ℕ) (node : Node) : Type 0 where
    pub at : slice_get entries s ≡ Some (entry_of node)
    pub left : node.left ≡ left_of (entry_of node)
    pub right : node.right ≡ right_of (entry_of node)
    pub leaf : (node.right == 4095) ≡ is_leaf (entry_of node)
    pub split : is_leaf (entry_of node) ≡ false → node.split ≡ length (expansion_of entries (left_of (entry_of node)))

  pub node_read : {nodes : List Node} {lengths : List ℕ} → IsDictState entries nodes lengths → entries ≡ map entry_of nodes → (s : ℕ) (node : Node) → s < length entries → node ≡ get_or nodes s node → IsNodeAt s node
  unfolding node_of is_leaf
  node_read {nodes} {lengths} state same s node there read =
      let many : length entries ≡ length nodes = ap length same ∙ length-map nodes entry_of in
      let held : slice_get nodes s ≡ Some node = slice_get_read nodes (length nodes) s node refl (omega (arith, there, many)) read in
      let at : slice_get entries s ≡ Some (entry_of node) = ap (λ (v : List (List ℕ)). slice_get v s) same ∙ slice_get-map entry_of nodes s ∙ ap (option_map entry_of) held in
      let twice : Some node ≡ Some (node_of lengths (entry_of node)) = sym held ∙ ap (λ (v : List Node). slice_get v s) state.same_nodes ∙ slice_get-map (node_of lengths) entries s ∙ ap (option_map (node_of lengths)) at in
      let is : node ≡ node_of lengths (entry_of node) = cc in
      record {
        at = at;
        left = ap (λ (n : Node). n.left) is;
        right = ap (λ (n : Node). n.right) is;
        leaf = ap (λ (n : Node). n.right == 4095) is;
        split = λ paired. ap (λ (n : Node). n.split) is ∙ ap (λ (leaf : Bool). split_of leaf lengths (entry_of node)) paired ∙ state.each (left_of (entry_of node)) (pair_at state.dictionary s (entry_of node) there at paired).left_there;
      }

  pub value_found : IsDictionary entries → (s i t k pairs : ℕ) (entry : List ℕ) → IsDescent entries s i t k pairs → slice_get entries t ≡ Some entry → is_leaf entry ≡ true →
      slice_get (expansion_of entries s) i ≡ Some (left_of entry)
  value_found accepted s i t k pairs entry d at single =
      let one = leaf_at accepted t entry d.there at single in
      let first : k ≡ 0 = let many = ap length one in omega (arith, d.within, many) in
      sym d.same ∙ ap (λ (v : List ℕ). slice_get v k) one ∙ ap (λ (n : ℕ). slice_get (left_of entry ∷ []) n) first

  pub pairs_found : IsDictionary entries → (s i t k pairs : ℕ) (entry : List ℕ) → s < length entries → i < length (expansion_of entries s) → IsDescent entries s i t k pairs → slice_get entries t ≡ Some entry → is_leaf entry ≡ true →
      (slice_get (depths_of entries s) i ≡ Some pairs) × (pairs ≤ 255)
  pairs_found accepted s i t k pairs entry there within d at single =
      let one = leaf_at accepted t entry d.there at single in
      let first : k ≡ 0 = let many = ap length one in omega (arith, d.within, many) in
      let none : get_or (depths_of entries t) k 0 ≡ 0 = ap (λ (v : List ℕ). get_or v k 0) (leaf_depths t entry at single) ∙ ap (λ (n : ℕ). get_or (0 ∷ []) n 0) first in
      let same = length-depths_of entries s in
      let is : get_or (depths_of entries s) i 0 ≡ pairs = omega (arith, d.deep, none) in
      let few = few_pairs accepted s i there within in
      (slice_get-get_or (depths_of entries s) i 0 (omega (arith, same, within)) ∙ ap (λ (n : ℕ). Some n) is, omega (arith, is, few))

  pub down_left : IsDictionary entries → (s i t k pairs l first : ℕ) (entry : List ℕ) → IsDescent entries s i t k pairs → slice_get entries t ≡ Some entry → is_leaf entry ≡ false →
      l ≡ left_of entry → first ≡ length (expansion_of entries (left_of entry)) → k < first → IsDescent entries s i l k (pairs + 1) × (length (expansion_of entries l) < length (expansion_of entries t))
  down_left accepted s i t k pairs l first entry d at paired is_left long less =
      let p = pair_at accepted t entry d.there at paired in
      rw is_left (record { there = p.left_there; within = omega (arith, long, less); same = go_left t k entry p (omega (arith, long, less)) ∙ d.same; deep = omega (arith, d.deep, depth_left accepted t k entry d.there at paired (omega (arith, long, less))) }, p.left_shorter)

  pub down_right : IsDictionary entries → (s i t k pairs r first : ℕ) (entry : List ℕ) → IsDescent entries s i t k pairs → slice_get entries t ≡ Some entry → is_leaf entry ≡ false →
      r ≡ right_of entry → first ≡ length (expansion_of entries (left_of entry)) → first ≤ k → IsDescent entries s i r (k - first) (pairs + 1) × (length (expansion_of entries r) < length (expansion_of entries t))
  down_right accepted s i t k pairs r first entry d at paired is_right long more =
      let p = pair_at accepted t entry d.there at paired in
      let whole = ap length p.joined in
      let n = length-append (expansion_of entries (left_of entry)) (expansion_of entries (right_of entry)) in
      rw (is_right, long) (record { there = p.right_there; within = omega (arith, long, more, whole, n, d.within); same = go_right t k entry p d.within (omega (arith, long, more)) ∙ d.same; deep = omega (arith, d.deep, depth_right accepted t k entry d.there at paired d.within (omega (arith, long, more))) }, p.right_shorter)

  -- ---- the steps of an expansion

  abbrev Goes : List ℕ → List ℕ → List ℕ → List ℕ → Type 0
  Goes whole values before after = (values ++ stack_values entries after ≡ whole) × AllBelow (length entries) after × (steps_left entries after < steps_left entries before)

  pub expand_leaf : IsDictionary entries → (whole values values' stack rest : List ℕ) (x v : ℕ) (entry : List ℕ) → values ++ stack_values entries stack ≡ whole → AllBelow (length entries) stack → stack ≡ rest ++ x ∷ [] →
      slice_get entries x ≡ Some entry → is_leaf entry ≡ true → v ≡ left_of entry → values' ≡ values ++ v ∷ [] → Goes whole values' stack rest
  expand_leaf accepted whole values values' stack rest x v entry so_far below popped at single is_left pushed =
      let b = AllBelow-pop (length entries) rest x (rw popped at below) in
      let one = leaf_at accepted x entry b.1 at single in
      let steps = ap (steps_left entries) popped ∙ steps_left-push rest x in
      let many = ap length one in
      let top : stack_values entries stack ≡ (v ∷ []) ++ stack_values entries rest = ap (stack_values entries) popped ∙ stack_values-push rest x ∙ ap (λ (u : List ℕ). u ++ stack_values entries rest) (one ∙ ap (λ (k : ℕ). k ∷ []) (sym is_left)) in (
        ap (λ (u : List ℕ). u ++ stack_values entries rest) pushed ∙ append_assoc values (v ∷ []) (stack_values entries rest) ∙ ap (λ (u : List ℕ). values ++ u) (sym top) ∙ so_far,
        b.0,
        omega (arith, steps, many),
      )

  pub expand_pair : IsDictionary entries → (whole values stack rest rest_right after : List ℕ) (x l r : ℕ) (entry : List ℕ) → values ++ stack_values entries stack ≡ whole → AllBelow (length entries) stack → stack ≡ rest ++ x ∷ [] →
      slice_get entries x ≡ Some entry → is_leaf entry ≡ false → l ≡ left_of entry → r ≡ right_of entry → rest_right ≡ rest ++ r ∷ [] → after ≡ rest_right ++ l ∷ [] → Goes whole values stack after
  expand_pair accepted whole values stack rest rest_right after x l r entry so_far below popped at paired is_left is_right pushed_right pushed_left =
      let b = AllBelow-pop (length entries) rest x (rw popped at below) in
      let p = pair_at accepted x entry b.1 at paired in
      let l_there : l < length entries = rw is_left p.left_there in
      let r_there : r < length entries = rw is_right p.right_there in
      let joined : expansion_of entries x ≡ expansion_of entries l ++ expansion_of entries r = rw (is_left, is_right) p.joined in
      let less_l : length (expansion_of entries l) < length (expansion_of entries x) = rw is_left p.left_shorter in
      let less_r : length (expansion_of entries r) < length (expansion_of entries x) = rw is_right p.right_shorter in
      let steps = ap (steps_left entries) popped ∙ steps_left-push rest x in
      let steps_r = ap (steps_left entries) pushed_right ∙ steps_left-push rest r in
      let steps_l = ap (steps_left entries) pushed_left ∙ steps_left-push rest_right l in
      let many = ap length joined ∙ length-append (expansion_of entries l) (expansion_of entries r) in
      let top : stack_values entries stack ≡ (expansion_of entries l ++ expansion_of entries r) ++ stack_values entries rest =
      ap (stack_values entries) popped ∙ stack_values-push rest x ∙ ap (λ (u : List ℕ). u ++ stack_values entries rest) joined in
      let now : stack_values entries after ≡ expansion_of entries l ++ (expansion_of entries r ++ stack_values entries rest) =
      ap (stack_values entries) pushed_left ∙ stack_values-push rest_right l ∙ ap (λ (u : List ℕ). expansion_of entries l ++ u) (ap (stack_values entries) pushed_right ∙ stack_values-push rest r) in (
        ap (λ (u : List ℕ). values ++ u) (now ∙ sym (append_assoc (expansion_of entries l) (expansion_of entries r) (stack_values entries rest)) ∙ sym top) ∙ so_far,
        rw pushed_left (AllBelow-push (length entries) rest_right l (rw pushed_right (AllBelow-push (length entries) rest r b.0 r_there)) l_there),
        omega (arith, steps, steps_r, steps_l, many, less_l, less_r),
      )
