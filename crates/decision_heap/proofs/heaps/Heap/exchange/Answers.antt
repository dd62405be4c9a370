use Rattle.std.proofs.Common.{◌≡◌, ◌-◌, length, get_or, set, ap, ◌∙◌}
use Rattle.std.proofs.lemmas.List.{get_or_read, length-set}
use Rattle.decision_heap.proofs.Heaping.{IsHeap-exchanged, same_exchanged, length-exchanged}
use Rattle.decision_heap.proofs.heaps.Heap.exchange.Goals as goal

pub invariant_of-self : goal.invariant_of-self
invariant_of-self c =
    let array = c.self.inside.array.items in
    let places = c.self.inside.places.items in
    let i = rw (← c.self.view_is) at c.requires.i in
    let j = rw (← c.self.view_is) at c.requires.j in
    let a : c.index-a.result.now ≡ get_or array c.args.i 0 = get_or_read array c.args.i c.index-a.result.now i c.index-a.ensures 0 in
    let b : c.index-b.result.now ≡ get_or array c.args.j 0 = get_or_read array c.args.j c.index-b.result.now j c.index-b.ensures 0 in
    rw (a, b, length-set, length-set) (IsHeap-exchanged (length places - 1) _ array places c.self.inside.scores.items c.args.i c.args.j c.self.invariant i j)

pub returns : goal.returns
returns c =
    let array = c.self.inside.array.items in
    let places = c.self.inside.places.items in
    let i = rw (← c.self.view_is) at c.requires.i in
    let j = rw (← c.self.view_is) at c.requires.j in
    let a : c.index-a.result.now ≡ get_or array c.args.i 0 = get_or_read array c.args.i c.index-a.result.now i c.index-a.ensures 0 in
    let b : c.index-b.result.now ≡ get_or array c.args.j 0 = get_or_read array c.args.j c.index-b.result.now j c.index-b.ensures 0 in
    rw (← c.self.view_is, a, b) record {
      vars = ap (λ n. n - 1) (length-set (set places (get_or array c.args.j 0) c.args.i) (get_or array c.args.i 0) c.args.j
          ∙ length-set places (get_or array c.args.j 0) c.args.i);
      long = length-exchanged array c.args.i c.args.j;
      same = λ v. same_exchanged array c.args.i c.args.j v i j;
    }
