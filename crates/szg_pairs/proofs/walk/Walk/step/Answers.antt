use Rattle.std.proofs.Common.{◌≡◌, ◌<◌, ℕ, ◌-◌, take, vec_len, [], ◌∷◌, true, false, length, get_or, sym, ◌∙◌, subst, arith, length-append}
use Rattle.std.proofs.lemmas.List.{get_or_read}
use Rattle.szg_pairs.proofs.Walking.{part_there, part_of_last, step_leaves, step_gives_up, step_enters, unseen-set}
use Rattle.szg_pairs.proofs.walk.Walk.step.Goals as goal

pub index-requires : goal.index-requires
index-requires c =
    let w = c.requires.walk in
    let part = part_of_last _ _ _ _ _ w c.requires.is_last c.in-Err.part (rw c.deref.ensures.value at c.in-Err.ensures.err) in
    omega (arith, part_there c.args.entries.now c.args.last c.in-Err.part (c.requires.named c.args.last) part, w.seen_count)

pub enter-requires : goal.enter-requires
enter-requires c =
    let w = c.requires.walk in
    let part = part_of_last _ _ _ _ _ w c.requires.is_last c.in-Err.part (rw c.deref.ensures.value at c.in-Err.ensures.err) in
    omega (arith, part_there c.args.entries.now c.args.last c.in-Err.part (c.requires.named c.args.last) part, w.seen_count)

pub returns-in-Ok-clause-walk : goal.returns-in-Ok-clause-walk
returns-in-Ok-clause-walk c = step_leaves _ _ _ _ _ c.requires.walk c.requires.is_last c.in-Ok.length c.pop.new.self.items (rw c.deref.ensures.value at c.in-Ok.ensures.ok)
    (let same : vec_len c.args.self.now.path ≡ length c.args.self.now.path.items = omega (arith, c.args.self.now.path.ok.0) in
    subst (λ (n : ℕ). c.pop.new.self.items ≡ take (n - 1) c.args.self.now.path.items) same c.pop.ensures.rest)

pub returns-then-index-clause-walk : goal.returns-then-index-clause-walk
returns-then-index-clause-walk c =
    let w = c.requires.walk in
    let part = part_of_last _ _ _ _ _ w c.requires.is_last c.in-Err.part (rw c.deref.ensures.value at c.in-Err.ensures.err) in
    let there : c.in-Err.part < length c.args.self.now.seen.items = omega (arith, part_there c.args.entries.now c.args.last c.in-Err.part (c.requires.named c.args.last) part, w.seen_count) in
    let once : get_or c.args.self.now.seen.items c.in-Err.part false ≡ true = sym (get_or_read c.args.self.now.seen.items _ _ there c.index.ensures false) ∙ c.if-index.true in
    rw c.clear.ensures.items (step_gives_up _ _ _ _ _ w c.requires.is_last c.in-Err.part (rw c.deref.ensures.value at c.in-Err.ensures.err) once)

pub returns-in_ok-enter-in-Err-clause-walk : goal.returns-in_ok-enter-in-Err-clause-walk
returns-in_ok-enter-in-Err-clause-walk c =
    let w = c.requires.walk in
    let part = part_of_last _ _ _ _ _ w c.requires.is_last c.in-Err.part (rw c.deref.ensures.value at c.in-Err.ensures.err) in
    let there : c.in-Err.part < length c.args.self.now.seen.items = omega (arith, part_there c.args.entries.now c.args.last c.in-Err.part (c.requires.named c.args.last) part, w.seen_count) in
    let unseen : get_or c.args.self.now.seen.items c.in-Err.part false ≡ false = sym (get_or_read c.args.self.now.seen.items _ _ there c.index.ensures false) ∙ c.if-index.false in
    rw (c.in_ok-enter-in-Err.ensures.lengths, c.in_ok-enter-in-Err.ensures.seen, c.in_ok-enter-in-Err.ensures.path)
    (step_enters _ _ _ _ _ w c.requires.is_last c.in-Err.part (c.requires.named c.args.last) (rw c.deref.ensures.value at c.in-Err.ensures.err) unseen)

pub returns-in_ok-enter-in-Err-clause-decreases : goal.returns-in_ok-enter-in-Err-clause-decreases
returns-in_ok-enter-in-Err-clause-decreases c =
    let w = c.requires.walk in
    let part = part_of_last _ _ _ _ _ w c.requires.is_last c.in-Err.part (rw c.deref.ensures.value at c.in-Err.ensures.err) in
    let there : c.in-Err.part < length c.args.self.now.seen.items = omega (arith, part_there c.args.entries.now c.args.last c.in-Err.part (c.requires.named c.args.last) part, w.seen_count) in
    let unseen : get_or c.args.self.now.seen.items c.in-Err.part false ≡ false = sym (get_or_read c.args.self.now.seen.items _ _ there c.index.ensures false) ∙ c.if-index.false in
    rw (c.in_ok-enter-in-Err.ensures.seen, c.in_ok-enter-in-Err.ensures.path)
    (omega (arith, unseen-set c.args.self.now.seen.items c.in-Err.part there unseen, length-append c.args.self.now.path.items (c.in-Err.part ∷ [])))
