-- The names in lists of sums, and the digest that they have for a path.
use Rattle.std.specs.Prelude.{ℕ, ◌-◌, ◌==◌, nat_lt, Bool, false, if◌then◌else◌, List, [], ◌∷◌, ◌++◌, codes, flat_map, length, map, take, Option, Some, None, option_map}
use Rattle.std.specs.List.{ends_with, slice_split}
use Rattle.std.specs.Str.{bytes_eq}
use Rattle.szg_sums.specs.declared.lists.Listed.{Listed}
use Rattle.szg_sums.specs.declared.lists.Sums.{Sums}
use Rattle.szg_sums.specs.declared.sum.Sum.{Sum}

-- a name in a list, as its normal path, with its digest
pub record Name : Type 0 where
  pub path : List ℕ
  pub sum : Sum

abbrev pub name_of : Listed → Name
name_of one = record { path = one.path.items; sum = one.sum }

abbrev pub names_of : Sums → List Name
names_of sums = map name_of sums.listed.items

-- parts of a path, and one more: an empty one and `.` add nothing, and `..` takes the last one away, if there is one
abbrev pub with_part : List (List ℕ) → List ℕ → List (List ℕ)
with_part parts part =
    if bytes_eq part (codes "..") then take (length parts - 1) parts
    else (if bytes_eq part [] then parts else (if bytes_eq part (codes ".") then parts else parts ++ part ∷ []))

abbrev pub with_parts : List (List ℕ) → List (List ℕ) → List (List ℕ)
with_parts parts [] = parts
with_parts parts (part ∷ more) = with_parts (with_part parts part) more

-- the parts of a path that are left without detours
abbrev pub parts_of : List ℕ → List (List ℕ)
parts_of path = with_parts [] (slice_split (λ byte. byte == 47) path)

-- a path without detours: the parts that are left, each after a slash
abbrev pub normal : List ℕ → List ℕ
normal path = flat_map (λ part. 47 ∷ part) (parts_of path)

-- the name is the path, or its end after a slash
abbrev pub is_for : List ℕ → Name → Bool
is_for path name = ends_with (λ a b. a == b) path name.path

abbrev pub is_longer : Option Name → Name → Bool
is_longer None name = false
is_longer (Some other) name = nat_lt (length name.path) (length other.path)

-- of the name that was found for a path and the next one in the list: the longer one, of two of one length the next
abbrev pub better : List ℕ → Option Name → Name → Option Name
better path found name = if is_for path name then (if is_longer found name then found else Some name) else found

abbrev pub best : List ℕ → Option Name → List Name → Option Name
best path found [] = found
best path found (name ∷ names) = best path (better path found name) names

-- the digest for a path: that of the longest name for it, of several the last
abbrev pub sum_for : List Name → List ℕ → Option Sum
sum_for names path = option_map (λ name. name.sum) (best (normal path) None names)
