use Rattle.std.proofs.Common.{◌≡◌, suc, ◌+◌, ◌<◌, ◌-◌, length, get_or, sym, ◌∙◌, arith}
use Rattle.std.proofs.lemmas.List.{get_or_read, take_more, take_all}
use Rattle.decision_heap.proofs.Heaping.{IsHeap-take, last_out}
use Rattle.decision_heap.proofs.heaps.Heap.take_last.Goals as goal

pub invariant_of-self : goal.invariant_of-self
invariant_of-self c = rw (c.truncate.ensures.items, c.truncate.ensures.capacity)
    (IsHeap-take (length c.self.inside.places.items - 1) _ (c.len-last.result - 1) c.self.inside.array.items c.self.inside.places.items
    c.self.inside.scores.items c.self.invariant)

pub returns-clause-last : goal.returns-clause-last
returns-clause-last c =
    let array = c.self.inside.array.items in
    let some : 0 < length array = rw (← c.self.view_is) at c.requires in
    let n : (c.len-last.result - 1) + 1 ≡ length array = omega (arith, some, c.len-last.ensures, c.self.inside.array.ok.0) in
    let read : c.index-var.result.now ≡ get_or array (c.len-last.result - 1) 0 = get_or_read array (c.len-last.result - 1) c.index-var.result.now
    (omega (arith, n)) c.index-var.ensures 0 in
    rw (← c.self.view_is, c.truncate.ensures.items, read) (sym (sym (take_more array (c.len-last.result - 1) 0 (omega (arith, n)))
    ∙ take_all ((c.len-last.result - 1) + 1) array (omega (arith, n))))

pub returns-clause-out : goal.returns-clause-out
returns-clause-out c =
    let array = c.self.inside.array.items in
    let some : 0 < length array = rw (← c.self.view_is) at c.requires in
    let n : suc (c.len-last.result - 1) ≡ length array = omega (arith, some, c.len-last.ensures, c.self.inside.array.ok.0) in
    let read : c.index-var.result.now ≡ get_or array (c.len-last.result - 1) 0 = get_or_read array (c.len-last.result - 1) c.index-var.result.now
    (omega (arith, n)) c.index-var.ensures 0 in
    rw c.truncate.ensures.items (last_out (length c.self.inside.places.items - 1) _ array c.self.inside.places.items c.self.inside.scores.items
    (c.len-last.result - 1) c.index-var.result.now c.self.invariant n read)
