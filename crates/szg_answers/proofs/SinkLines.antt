-- Lines of the values that a sink accepts.
use Rattle.std.proofs.Common.{◌≡◌, ℕ, zero, suc, add-one, refl, ◌+◌, ◌-◌, ◌<◌, ◌≤◌, List, [], ◌∷◌, ◌++◌, drop, length, take, get_or, flat_map, replicate, append_assoc, append-nil, ap, arith, sym, subst, ◌∙◌}
use Rattle.std.specs.List.{FoldsTo}
use Rattle.std.proofs.lemmas.List.{flat_map_more, replicate-append-replicate, take-append-drop, take_more}
use Rattle.std.proofs.lemmas.List.Concat.{flat_map-append}
use Rattle.szg_io.specs.Moved.{Gives}
use Rattle.szg_io.specs.declared.device.Output as output
use Rattle.szg_io.proofs.DeviceLaws.{Gives-none, Gives-on}
use Rattle.szg_file.specs.Streaming.{Accepted}
use Rattle.szg_answers.specs.Answers.{number_line}
use Rattle.szg_answers.specs.declared.streaming.LineSink.{LineSink}

-- what went out and what is held goes on by the line of the next number
pub lines_on : (start numbers : List ℕ) (i : ℕ) (out held out' held' : List ℕ) → i < length numbers →
    out ++ held ≡ start ++ flat_map number_line (take i numbers) → out' ++ held' ≡ held ++ number_line (get_or numbers i 0) →
    (out ++ out') ++ held' ≡ start ++ flat_map number_line (take (i + 1) numbers)
lines_on start numbers i out held out' held' below so_far now =
    let line : List ℕ = number_line (get_or numbers i 0) in
    append_assoc out out' held'
    ∙ ap (λ (z : List ℕ). out ++ z) now
    ∙ sym (append_assoc out held line)
    ∙ ap (λ (z : List ℕ). z ++ line) so_far
    ∙ append_assoc start (flat_map number_line (take i numbers)) line
    ∙ ap (λ (z : List ℕ). start ++ z) (flat_map_more number_line [] (take i numbers) (get_or numbers i 0) ∙ ap (λ (z : List ℕ). flat_map number_line z) (sym (take_more numbers i 0 below)))

-- the same text after `count` others of it, or before them
same_more : (f : ℕ → List ℕ) (count v : ℕ) → flat_map f (replicate count v) ++ f v ≡ f v ++ flat_map f (replicate count v)
same_more f zero v = sym (append-nil (f v))
same_more f (suc count) v = append_assoc (f v) (flat_map f (replicate count v)) (f v) ∙ ap (λ (z : List ℕ). f v ++ z) (same_more f count v)

-- the same by one line more of the same value
pub same_on : (start : List ℕ) (value i : ℕ) (out held out' held' : List ℕ) → out ++ held ≡ start ++ flat_map number_line (replicate i value) → out' ++ held' ≡ held ++ number_line value →
    (out ++ out') ++ held' ≡ start ++ flat_map number_line (replicate (i + 1) value)
same_on start value i out held out' held' so_far now =
    let line : List ℕ = number_line value in
    let more : flat_map number_line (replicate (i + 1) value) ≡ line ++ flat_map number_line (replicate i value) = rw add-one refl in
    append_assoc out out' held'
    ∙ ap (λ (z : List ℕ). out ++ z) now
    ∙ sym (append_assoc out held line)
    ∙ ap (λ (z : List ℕ). z ++ line) so_far
    ∙ append_assoc start (flat_map number_line (replicate i value)) line
    ∙ ap (λ (z : List ℕ). start ++ z) (same_more number_line i value ∙ sym more)

-- what went out, what is held and the lines of the other numbers are the lines of all
module _ (start out held : List ℕ) where
  pub begun : (before after all : List ℕ) → before ++ after ≡ all → out ++ held ≡ start ++ flat_map number_line before →
      out ++ (held ++ flat_map number_line after) ≡ start ++ flat_map number_line all
  begun before after all is so_far =
      sym (append_assoc out held (flat_map number_line after))
      ∙ ap (λ (z : List ℕ). z ++ flat_map number_line after) so_far
      ∙ append_assoc start (flat_map number_line before) (flat_map number_line after)
      ∙ ap (λ (z : List ℕ). start ++ z) (sym (flat_map-append number_line before after) ∙ ap (λ (z : List ℕ). flat_map number_line z) is)

  pub lines_begun : (numbers : List ℕ) (i : ℕ) → out ++ held ≡ start ++ flat_map number_line (take i numbers) →
      out ++ (held ++ flat_map number_line (drop i numbers)) ≡ start ++ flat_map number_line numbers
  lines_begun numbers i so_far = begun (take i numbers) (drop i numbers) numbers (take-append-drop i numbers) so_far

  pub same_begun : (value i count : ℕ) → i ≤ count → out ++ held ≡ start ++ flat_map number_line (replicate i value) →
      out ++ (held ++ flat_map number_line (replicate (count - i) value)) ≡ start ++ flat_map number_line (replicate count value)
  same_begun value i count within so_far =
      let whole : i + (count - i) ≡ count = omega (arith, within) in
      begun (replicate i value) (replicate (count - i) value) (replicate count value) (replicate-append-replicate i (count - i) value ∙ ap (λ (n : ℕ). replicate n value) whole) so_far

-- what a sink of lines does with values
abbrev pub line_accepts : {W : Type 0} → output.Ghosts W → LineSink → W → List ℕ → LineSink → W → Type 0
line_accepts writing sink out values sink' out' =
    (text : List ℕ) × Gives writing out out' text 0 × (text ++ sink'.text.items ≡ sink.text.items ++ flat_map number_line values)

pub joined_lines : (chunk rest start text held text' held' : List ℕ) → text ++ held ≡ start ++ flat_map number_line chunk → text' ++ held' ≡ held ++ flat_map number_line rest →
    (text ++ text') ++ held' ≡ start ++ flat_map number_line (chunk ++ rest)
joined_lines chunk rest start text held text' held' first second =
    append_assoc text text' held'
    ∙ ap (λ (z : List ℕ). text ++ z) second
    ∙ sym (append_assoc text held (flat_map number_line rest))
    ∙ ap (λ (z : List ℕ). z ++ flat_map number_line rest) first
    ∙ append_assoc start (flat_map number_line chunk) (flat_map number_line rest)
    ∙ ap (λ (z : List ℕ). start ++ z) (sym (flat_map-append number_line chunk rest))

-- where the writer took a beginning of what is held and of a chunk's lines, the rest and the lines of the other values are left
pub lines_cut : (done here left whole out held out' rest' : List ℕ) → done ++ (here ++ left) ≡ whole → out ++ held ≡ flat_map number_line done → out' ++ rest' ≡ held ++ flat_map number_line here →
    (out ++ out') ++ (rest' ++ flat_map number_line left) ≡ flat_map number_line whole
lines_cut done here left whole out held out' rest' all so_far now =
    let lines : List ℕ → List ℕ = flat_map number_line in
    append_assoc out out' (rest' ++ lines left)
    ∙ ap (λ (z : List ℕ). out ++ z) (sym (append_assoc out' rest' (lines left)) ∙ ap (λ (z : List ℕ). z ++ lines left) now ∙ append_assoc held (lines here) (lines left))
    ∙ sym (append_assoc out held (lines here ++ lines left))
    ∙ ap (λ (z : List ℕ). z ++ (lines here ++ lines left)) so_far
    ∙ ap (λ (z : List ℕ). lines done ++ z) (sym (flat_map-append number_line here left))
    ∙ sym (flat_map-append number_line done (here ++ left))
    ∙ ap lines all

fold_lines : {W : Type 0} (writing : output.Ghosts W) (chunks : List (List ℕ)) (p q : LineSink × W) → FoldsTo {P = LineSink × W} (λ p chunk q. line_accepts writing p.0 p.1 chunk q.0 q.1) p chunks q →
    line_accepts writing p.0 p.1 (flat_map (λ chunk. chunk) chunks) q.0 q.1
fold_lines writing [] p q same =
    subst (λ (z : _). line_accepts writing p.0 p.1 [] z.0 z.1) same ([], Gives-none writing p.1 0, sym (append-nil p.0.text.items))
fold_lines writing (chunk ∷ chunks) p q steps =
    let step = steps.1 in
    let rest = fold_lines writing chunks steps.0 q steps.2 in
    (step.0 ++ rest.0, Gives-on step.0 rest.0 0 step.1 rest.1, joined_lines chunk (flat_map (λ chunk. chunk) chunks) p.0.text.items step.0 steps.0.0.text.items rest.0 q.0.text.items step.2 rest.2)

-- all values that the sink accepted
pub accepted_lines : {W : Type 0} (writing : output.Ghosts W) (values : List ℕ) (sink sink' : LineSink) (out out' : W) → Accepted (line_accepts writing) values sink out sink' out' →
    line_accepts writing sink out values sink' out'
accepted_lines writing values sink sink' out out' h =
    subst (λ (z : List ℕ). line_accepts writing sink out z sink' out') (sym h.joined) (fold_lines writing h.chunks (sink, out) (sink', out') h.steps)
