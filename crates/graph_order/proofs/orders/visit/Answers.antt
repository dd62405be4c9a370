use Rattle.std.proofs.Common.{◌≡◌, ◌<◌, suc, true, false, [], length, arith, ap, sym, ◌∙◌, get_or, get_or-set_same}
use Rattle.std.proofs.lemmas.Option.{get_or_from_slice_get, slice_get_within}
use Rattle.graph_order.proofs.Marked.{fewer}
use Rattle.graph_order.proofs.Visiting.{visit_push, step_within, step_loop, step_push, step_pop, popped, grows_more}
use Rattle.graph_order.proofs.Resumed.{room_begin, room_push, gives_begin, gives_loop, gives_push, gives_pop, gives_end}
use Rattle.graph_order.specs.Orders.{visited}
use Rattle.graph_order.proofs.orders.visit.Goals as goal

pub first_waiting-requires-clause-within : goal.first_waiting-requires-clause-within
first_waiting-requires-clause-within c =
    step_within c.args.needs.now c.loop-place.stack c.loop-place.seen c.loop-place.done c.loop-place.order c.in-Some.place
    c.loop-place.invariant.visiting c.in-Some.ensures.some

pub returns-then-at-clause-err : goal.returns-then-at-clause-err
returns-then-at-clause-err c =
    step_loop c.args.needs.now c.in-Some.place c.in-Some-first_waiting.need c.loop-place.stack c.loop-place.seen c.loop-place.done c.loop-place.order
    c.loop-place.invariant.visiting c.in-Some.ensures.some c.in-Some-first_waiting.ensures.some
    (get_or_from_slice_get c.loop-place.seen c.in-Some-first_waiting.need c.at.result false c.at.ensures ∙ c.if-at.true)

pub loop-place-smaller-in-Some-first_waiting : goal.loop-place-smaller-in-Some-first_waiting
loop-place-smaller-in-Some-first_waiting c =
    let fresh : get_or c.loop-place.seen c.in-Some-first_waiting.need false ≡ false =
    get_or_from_slice_get c.loop-place.seen c.in-Some-first_waiting.need c.at.result false c.at.ensures ∙ c.if-at.false in
    let within : c.in-Some-first_waiting.need < length c.loop-place.seen = slice_get_within c.loop-place.seen c.in-Some-first_waiting.need c.at.result
    c.at.ensures in
    let less = fewer c.loop-place.seen c.in-Some-first_waiting.need within fresh in
    rw (c.put-in-Some-first_waiting.ensures, c.in_ok-push-in-Some-first_waiting.ensures.ok) (omega arith)

pub loop-place-preserved-in-Some-first_waiting : goal.loop-place-preserved-in-Some-first_waiting
loop-place-preserved-in-Some-first_waiting c =
    let fresh : get_or c.loop-place.seen c.in-Some-first_waiting.need false ≡ false =
    get_or_from_slice_get c.loop-place.seen c.in-Some-first_waiting.need c.at.result false c.at.ensures ∙ c.if-at.false in
    rw (c.put-in-Some-first_waiting.ensures, c.in_ok-push-in-Some-first_waiting.ensures.ok) (record {
      visiting = step_push c.args.needs.now c.in-Some.place c.in-Some-first_waiting.need c.loop-place.stack c.loop-place.seen c.loop-place.done
          c.loop-place.order c.loop-place.invariant.visiting c.in-Some.ensures.some c.in-Some-first_waiting.ensures.some fresh;
      room = room_push c.loop-place.seen c.in-Some-first_waiting.need (length c.loop-place.stack) (length c.args.needs.now)
          (slice_get_within c.loop-place.seen c.in-Some-first_waiting.need c.at.result c.at.ensures) fresh c.loop-place.invariant.room;
      still = gives_push c.args.needs.now c.in-Some.place c.in-Some-first_waiting.need c.loop-place.stack c.loop-place.seen c.loop-place.done
          c.loop-place.order (visited (suc (length c.args.needs.now)) c.args.needs.now [] c.args.order.now c.args.root) c.loop-place.invariant.visiting
          c.in-Some.ensures.some c.in-Some-first_waiting.ensures.some fresh (sym c.in-Some-first_waiting.ensures.first)
          (omega (arith, c.loop-place.invariant.room)) c.loop-place.invariant.still;
      root = grows_more c.loop-place.seen c.in-Some-first_waiting.need c.args.root fresh c.loop-place.invariant.root;
      grows = λ k hit. grows_more c.loop-place.seen c.in-Some-first_waiting.need k fresh (c.loop-place.invariant.grows k hit);
    })

pub put-requires-in-None : goal.put-requires-in-None
put-requires-in-None c =
    let within = step_within c.args.needs.now c.loop-place.stack c.loop-place.seen c.loop-place.done c.loop-place.order c.in-Some.place
    c.loop-place.invariant.visiting c.in-Some.ensures.some in
    omega (arith, c.loop-place.invariant.visiting.done_len)

pub loop-place-preserved : goal.loop-place-preserved
loop-place-preserved c =
    let same = popped c.loop-place.stack c.pop-top.new.self c.pop-top.result c.in-Some.place c.pop-top.ensures.some c.pop-top.ensures.none
    c.in-Some.ensures.some in
    rw (c.put-in-None.ensures, c.in_ok-push-in-None.ensures.ok) (record {
      visiting = step_pop c.args.needs.now c.in-Some.place c.loop-place.stack c.pop-top.new.self c.loop-place.seen c.loop-place.done
          c.loop-place.order c.loop-place.invariant.visiting same c.in-None.ensures.none;
      room = omega (arith, c.loop-place.invariant.room, ap length same);
      still = gives_pop c.args.needs.now c.in-Some.place c.loop-place.stack c.pop-top.new.self c.loop-place.seen c.loop-place.done
          c.loop-place.order (visited (suc (length c.args.needs.now)) c.args.needs.now [] c.args.order.now c.args.root) c.loop-place.invariant.visiting
          same c.in-None.ensures.none c.loop-place.invariant.still;
      root = c.loop-place.invariant.root;
      grows = c.loop-place.invariant.grows;
    })

pub returns-then-at-clause-told : goal.returns-then-at-clause-told
returns-then-at-clause-told c =
    gives_loop c.args.needs.now c.in-Some.place c.in-Some-first_waiting.need c.loop-place.stack c.loop-place.seen c.loop-place.done c.loop-place.order
    (visited (suc (length c.args.needs.now)) c.args.needs.now [] c.args.order.now c.args.root) c.loop-place.invariant.visiting
    c.in-Some.ensures.some c.in-Some-first_waiting.ensures.some
    (get_or_from_slice_get c.loop-place.seen c.in-Some-first_waiting.need c.at.result false c.at.ensures ∙ c.if-at.true)
    (sym c.in-Some-first_waiting.ensures.first) (omega (arith, c.loop-place.invariant.room)) c.loop-place.invariant.still

pub returns-clause-is : goal.returns-clause-is
returns-clause-is c =
    gives_end c.args.needs.now c.loop-place.stack c.loop-place.order
    (visited (suc (length c.args.needs.now)) c.args.needs.now [] c.args.order.now c.args.root) c.in_default.ensures.none c.loop-place.invariant.still

pub loop-place-init : goal.loop-place-init
loop-place-init c = rw (c.put.ensures, c.in_ok-push.ensures.ok, c.new-stack.ensures) (record {
  visiting = visit_push c.args.needs.now [] c.args.seen.now c.args.done.now c.args.order.now c.args.root c.requires.visiting c.requires.within
      c.requires.fresh (λ j has. absurd (omega (arith, has.1)));
  room = room_begin c.args.needs.now c.args.seen.now c.args.root c.requires.visiting.seen_len c.requires.within c.requires.fresh;
  still = gives_begin c.args.needs.now c.args.seen.now c.args.done.now c.args.order.now c.args.root c.requires.visiting c.requires.within c.requires.fresh;
  root = get_or-set_same c.args.seen.now c.args.root true false (omega (arith, c.requires.visiting.seen_len));
  grows = λ k hit. grows_more c.args.seen.now c.args.root k c.requires.fresh hit;
})
