use Rattle.std.proofs.Common.{◌≡◌, ◌<◌, ◌≤◌, ◌-◌, length, get_or, sym, ◌∙◌, arith}
use Rattle.std.proofs.lemmas.List.{get_or_read}
use Rattle.std.proofs.lemmas.Bool.{false_from_ne_true, ltb-true}
use Rattle.decision_heap.proofs.Heaping.{contains_in, contains_out}
use Rattle.decision_heap.proofs.heaps.Heap.contains.Goals as goal

pub returns-then-place-len : goal.returns-then-place-len
returns-then-place-len c =
    let array = c.self.inside.array.items in
    let places = c.self.inside.places.items in
    let here : c.args.var < length places = omega (arith, c.self.invariant.long, rw (← c.self.view_is) at c.requires) in
    let place : c.index-place.result.now ≡ get_or places c.args.var 0 = get_or_read places c.args.var c.index-place.result.now here c.index-place.ensures 0 in
    let low : c.index-place.result.now < length array = omega (arith, c.if-place-len.true, c.len.ensures, c.self.inside.array.ok.0) in
    let read : c.index.result.now ≡ get_or array c.index-place.result.now 0 = get_or_read array c.index-place.result.now c.index.result.now low
    c.index.ensures 0 in
    rw (← c.self.view_is, read) (contains_in (length places - 1) _ array places c.self.inside.scores.items c.args.var c.index-place.result.now
    c.self.invariant place low)

pub returns-else-place-len : goal.returns-else-place-len
returns-else-place-len c =
    let array = c.self.inside.array.items in
    let places = c.self.inside.places.items in
    let here : c.args.var < length places = omega (arith, c.self.invariant.long, rw (← c.self.view_is) at c.requires) in
    let place : c.index-place.result.now ≡ get_or places c.args.var 0 = get_or_read places c.args.var c.index-place.result.now here c.index-place.ensures 0 in
    let high : length array ≤ c.index-place.result.now = omega (arith, c.if-place-len.false, c.len.ensures, c.self.inside.array.ok.0) in
    let none = contains_out (length places - 1) _ array places c.self.inside.scores.items c.args.var c.index-place.result.now c.self.invariant place high in
    rw (← c.self.view_is) (false_from_ne_true _ (λ t. let lt = ltb-true c.index-place.result.now c.len.result t in
    absurd (omega (arith, lt, c.if-place-len.false))) ∙ sym none)
