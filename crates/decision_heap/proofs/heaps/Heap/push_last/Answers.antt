use Rattle.std.proofs.Common.{◌≡◌, ◌+◌, ◌<◌, ◌-◌, length, arith}
use Rattle.std.proofs.lemmas.List.{length-set}
use Rattle.decision_heap.proofs.Heaping.{IsHeap-push, room_left}
use Rattle.decision_heap.proofs.heaps.Heap.push_last.Goals as goal

pub push_reserved-requires : goal.push_reserved-requires
push_reserved-requires c =
    let array = c.self.inside.array.items in
    let places = c.self.inside.places.items in
    let low : c.args.var < length places - 1 + 1 = omega (arith, c.self.invariant.long, rw (← c.self.view_is) at c.requires.within) in
    let room = room_left (length places - 1) _ array places c.self.inside.scores.items c.args.var c.self.invariant low
    (rw (← c.self.view_is) at c.requires.out) in
    omega (arith, room, c.self.inside.array.ok.0)

pub invariant_of-self : goal.invariant_of-self
invariant_of-self c =
    let array = c.self.inside.array.items in
    let places = c.self.inside.places.items in
    let low : c.args.var < length places - 1 + 1 = omega (arith, c.self.invariant.long, rw (← c.self.view_is) at c.requires.within) in
    let last : c.len.result ≡ length array = omega (arith, c.len.ensures, c.self.inside.array.ok.0) in
    rw (length-set, c.push_reserved.ensures.items, c.push_reserved.ensures.capacity, last)
    (IsHeap-push (length places - 1) _ array places c.self.inside.scores.items c.args.var c.self.invariant c.requires.some low
    (rw (← c.self.view_is) at c.requires.out))
