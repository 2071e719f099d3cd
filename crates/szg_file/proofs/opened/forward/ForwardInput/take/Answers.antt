use Rattle.std.proofs.Common.{ℕ, ◌≡◌, ◌+◌, ◌<◌, List, [], ◌++◌, length, drop, take, sym, subst, ◌∙◌, arith}
use Rattle.szg_file.specs.Forward.{Forward, IsForward}
use Rattle.szg_file.proofs.Openings.ForwardLaws.{written_whole, bytes_gone, bytes_end, bytes_come, goes_on}
use Rattle.szg_file.proofs.opened.forward.ForwardInput.take.Goals as goal

pub invariant_of-self-2 : goal.invariant_of-self-2
invariant_of-self-2 g c =
    let n : ℕ = c.copy_front-n.result in
    let content : List ℕ = g.S.Source.content c.self.inside.source in
    let back = written_whole c.self.inside.chunk.len c.next_bytes.new.chunk c.self.inside.chunk.items c.deref_mut.result.now c.self.inside.chunk.ok.0 c.deref_mut.ensures.value c.next_bytes.auto.chunk in
    let next : IsForward content (c.self.inside.place + n) c.self.inside.end c.next_bytes.new.chunk (c.in-Ok.left.0 + n) c.in-Ok.left.1 =
    goes_on content c.next_bytes.new.chunk c.deref.result.now c.copy_front-n.new.out c.self.inside.place c.self.inside.end c.in-Ok.left.0 c.in-Ok.left.1 n (length c.args.chunk.now)
    c.in-Ok.ensures.held (c.deref.ensures.value ∙ back) c.copy_front-n.ensures.count c.copy_front-n.ensures.copied in
    subst (λ (u : List ℕ). IsForward u (c.self.inside.place + n) c.self.inside.end (take c.self.inside.chunk.len (c.next_bytes.new.chunk ++ drop (length c.next_bytes.new.chunk) c.self.inside.chunk.items)) (c.in-Ok.left.0 + n) c.in-Ok.left.1) (sym c.in-Ok.ensures.same_bytes)
    (subst (λ (p : List ℕ). IsForward content (c.self.inside.place + n) c.self.inside.end p (c.in-Ok.left.0 + n) c.in-Ok.left.1) (sym back) next)

pub returns-clause-bytes : goal.returns-clause-bytes
returns-clause-bytes g c =
    let n : ℕ = c.copy_front-n.result in
    let out : List ℕ = c.copy_front-n.new.out in
    let content : List ℕ = g.S.Source.content c.self.inside.source in
    let place : ℕ = c.self.inside.place in
    let back = written_whole c.self.inside.chunk.len c.next_bytes.new.chunk c.self.inside.chunk.items c.deref_mut.result.now c.self.inside.chunk.ok.0 c.deref_mut.ensures.value c.next_bytes.auto.chunk in
    let gone = bytes_gone content c.next_bytes.new.chunk c.deref.result.now out place c.self.inside.end c.in-Ok.left.0 c.in-Ok.left.1 n (length c.args.chunk.now)
    c.in-Ok.ensures.held (c.deref.ensures.value ∙ back) c.copy_front-n.ensures.count c.copy_front-n.ensures.copied in
    let none = bytes_end content c.next_bytes.new.chunk c.deref.result.now out place c.self.inside.end c.in-Ok.left.0 c.in-Ok.left.1 n (length c.args.chunk.now)
    c.in-Ok.ensures.held (c.deref.ensures.value ∙ back) c.copy_front-n.ensures.count c.copy_front-n.ensures.copied in
    subst (λ (f : Forward). (drop f.place f.content ≡ take n out ++ drop (place + n) (g.S.Source.content c.next_bytes.new.source)) × (n ≡ 0 → 0 < length out → drop (place + n) (g.S.Source.content c.next_bytes.new.source) ≡ [])) c.self.view_is
    (subst (λ (u : List ℕ). (drop place content ≡ take n out ++ drop (place + n) u) × (n ≡ 0 → 0 < length out → drop (place + n) u ≡ [])) (sym c.in-Ok.ensures.same_bytes)
    (gone, λ z r. let some : 0 < length out = r in none (λ e. c.in-Ok.ensures.some e (omega (arith, some, c.copy_front-n.auto.out, c.max-most.ensures))) z (omega (arith, r, c.copy_front-n.auto.out))))

pub returns-clause-moved : goal.returns-clause-moved
returns-clause-moved g c =
    let n : ℕ = c.copy_front-n.result in
    let out : List ℕ = c.copy_front-n.new.out in
    let content : List ℕ = g.S.Source.content c.self.inside.source in
    let place : ℕ = c.self.inside.place in
    let back = written_whole c.self.inside.chunk.len c.next_bytes.new.chunk c.self.inside.chunk.items c.deref_mut.result.now c.self.inside.chunk.ok.0 c.deref_mut.ensures.value c.next_bytes.auto.chunk in
    subst (λ (f : Forward). take (place + n) (g.S.Source.content c.next_bytes.new.source) ≡ take f.place f.content ++ take n out) c.self.view_is
    (subst (λ (u : List ℕ). take (place + n) u ≡ take place content ++ take n out) (sym c.in-Ok.ensures.same_bytes)
    (bytes_come content c.next_bytes.new.chunk c.deref.result.now out place c.self.inside.end c.in-Ok.left.0 c.in-Ok.left.1 n (length c.args.chunk.now)
    c.in-Ok.ensures.held (c.deref.ensures.value ∙ back) c.copy_front-n.ensures.count c.copy_front-n.ensures.copied))
