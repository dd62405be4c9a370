use Rattle.std.proofs.Common.{◌≡◌, true, false, arith, below_more, ◌∙◌}
use Rattle.std.specs.Prelude.{slice_index_or}
use Rattle.std.proofs.lemmas.Result.{err_from_is_err_and}
use Rattle.std.proofs.lemmas.Option.{get_or_from_slice_get}
use Rattle.graph_order.proofs.Visiting.{visit_none, visit_all}
use Rattle.graph_order.proofs.Acyclic.{no_cycle}
use Rattle.graph_order.proofs.Rooted.{roots_begin, roots_more, roots_tell, roots_end, root_met}
use Rattle.graph_order.specs.Orders.{order_of}
use Rattle.graph_order.proofs.orders.order_of.Goals as goal
use Rattle.graph_order.proofs.orders.order_of.Goals.{then-not-at+in_ok-visit, else-not-at}

pub returns-clause-ok : goal.returns-clause-ok
returns-clause-ok c =
    visit_all c.args.needs.now c.loop-root.seen c.loop-root.done c.loop-root.order c.loop-root.invariant.visiting
    (λ k lt. c.loop-root.invariant.met k (omega arith))

pub returns-clause-none : goal.returns-clause-none
returns-clause-none c = λ place on.
    no_cycle c.args.needs.now c.loop-root.order place (visit_all c.args.needs.now c.loop-root.seen c.loop-root.done c.loop-root.order
    c.loop-root.invariant.visiting (λ k lt. c.loop-root.invariant.met k (omega arith))) on

pub loop-root-preserved : goal.loop-root-preserved
loop-root-preserved c =
    elim c.if-not-at.branch [
      | then-not-at+in_ok-visit w ↦ rw (w.seen-is, w.done-is, w.order-is) (record {
        visiting = w.in_ok-visit.ensures.visiting;
        still = roots_more c.args.needs.now c.loop-root.order c.loop-root.root (order_of c.args.needs.now) c.loop-root.invariant.still
            w.visit.new.order (omega arith) w.in_ok-visit.ensures.is;
        met = below_more (λ k. slice_index_or w.visit.new.seen k false ≡ true) c.loop-root.root
            (λ k lt. w.in_ok-visit.ensures.grows k (c.loop-root.invariant.met k lt)) w.in_ok-visit.ensures.root;
      })
      | else-not-at w ↦ rw (w.seen-is, w.done-is, w.order-is) (record {
        visiting = c.loop-root.invariant.visiting;
        still = roots_more c.args.needs.now c.loop-root.order c.loop-root.root (order_of c.args.needs.now) c.loop-root.invariant.still
            c.loop-root.order (omega arith) (root_met c.args.needs.now c.loop-root.seen c.loop-root.done c.loop-root.order c.loop-root.root
            c.loop-root.invariant.visiting (omega arith)
            (get_or_from_slice_get c.loop-root.seen c.loop-root.root c.at.result false c.at.ensures ∙ w.if-not-at.false));
        met = below_more (λ k. slice_index_or c.loop-root.seen k false ≡ true) c.loop-root.root c.loop-root.invariant.met
            (get_or_from_slice_get c.loop-root.seen c.loop-root.root c.at.result false c.at.ensures ∙ w.if-not-at.false);
      })
    ]

pub returns-clause-is : goal.returns-clause-is
returns-clause-is c = roots_end c.args.needs.now c.loop-root.order c.loop-root.root (order_of c.args.needs.now) c.loop-root.invariant.still (omega arith)

pub returns-in_err-visit-clause-told : goal.returns-in_err-visit-clause-told
returns-in_err-visit-clause-told c =
    let p = err_from_is_err_and c.from_residual-in_err-visit.result c.from_residual-in_err-visit.ensures.1 in
    rw (p.1, p.2) (roots_tell c.args.needs.now c.loop-root.order c.loop-root.root (order_of c.args.needs.now) c.loop-root.invariant.still
    c.in_err-visit.field-0.0 (omega arith) c.in_err-visit.ensures.told)

pub loop-root-init : goal.loop-root-init
loop-root-init c = rw c.new-order.ensures (record {
  visiting = visit_none c.args.needs.now c.in_ok-seen.seen c.in_ok-done.done c.in_ok-seen.ensures.len
      c.in_ok-done.ensures.len c.in_ok-seen.ensures.each c.in_ok-done.ensures.each;
  still = roots_begin c.args.needs.now;
  met = λ k lt. absurd (omega arith);
})

pub visit-requires-clause-fresh : goal.visit-requires-clause-fresh
visit-requires-clause-fresh c = get_or_from_slice_get c.loop-root.seen c.loop-root.root c.at.result false c.at.ensures ∙ c.if-not-at.true
