-- The invariant of a dictionary, and the state of a descent and of an expansion.
use Rattle.std.specs.Prelude.{ℕ, Bool, true, false, ◌≡◌, ◌+◌, ◌*◌, ◌-◌, ◌/◌, ◌%◌, ◌<◌, ◌≤◌, List, [], ◌∷◌, ◌++◌, length, map, slice_get, slice_index}
use Rattle.szg_pairs.specs.Entry.{left_of, right_of, is_leaf}
use Rattle.szg_pairs.specs.Expansion.{expansion_of, depths_of}
use Rattle.szg_pairs.specs.Dictionary.{IsDictionary}
use Rattle.szg_pairs.specs.declared.nodes.Node.{Node}

-- the length of the left symbol of a pair, 0 for a leaf
abbrev pub split_of : Bool → List ℕ → List ℕ → ℕ
split_of true lengths entry = 0
split_of false lengths entry = slice_index lengths (left_of entry)

-- the node of an entry, where symbol s has slice_index lengths s values
unfoldable pub node_of : List ℕ → List ℕ → Node
node_of lengths entry = record { left = left_of entry; right = right_of entry; split = split_of (is_leaf entry) lengths entry }

-- the three bytes of 24 bits, the lowest first
abbrev pub bytes_of : ℕ → List ℕ
bytes_of bits = (bits % 256) ∷ (bits / 256 % 256) ∷ (bits / 65536 % 256) ∷ []

-- the entry of a node: the left number is the low 12 of the 24 bits, the right number the high 12
unfoldable pub entry_of : Node → List ℕ
entry_of node = bytes_of (node.left + 4096 * node.right)

-- the entries are an accepted dictionary of at most 65,535 symbols, the lengths are those of the symbols' expansions,
-- and the nodes are those of the entries
pub record IsDictState (entries : List (List ℕ)) (nodes : List Node) (lengths : List ℕ) : Type 0 where
  pub dictionary : IsDictionary entries
  pub few : length entries ≤ 65535
  pub same_length : length lengths ≡ length entries
  pub each : (s : ℕ) → s < length entries → slice_index lengths s ≡ length (expansion_of entries s)
  pub same_nodes : nodes ≡ map (node_of lengths) entries

-- the values of the symbols on a stack, from its top; the top is the last item of the list
abbrev pub stack_values : List (List ℕ) → List ℕ → List ℕ
stack_values entries [] = []
stack_values entries (s ∷ stack) = stack_values entries stack ++ expansion_of entries s

-- the number of symbols popped until the stack is empty: for a symbol of n values, n leaves and n - 1 pairs
abbrev pub steps_left : List (List ℕ) → List ℕ → ℕ
steps_left entries [] = 0
steps_left entries (s ∷ stack) = steps_left entries stack + (2 * length (expansion_of entries s) - 1)

-- value i of symbol s is value k of symbol t, which is `pairs` pairs below s
pub record IsDescent (entries : List (List ℕ)) (s i t k pairs : ℕ) : Type 0 where
  pub there : t < length entries
  pub within : k < length (expansion_of entries t)
  pub same : slice_get (expansion_of entries t) k ≡ slice_get (expansion_of entries s) i
  pub deep : pairs + slice_index (depths_of entries t) k ≡ slice_index (depths_of entries s) i
