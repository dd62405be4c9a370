use Rattle.std.proofs.Common.{◌≡◌, ◌∙◌, ℕ, List, [], ap, sym, map, get_or, arith, subst, length}
use Rattle.std.proofs.lemmas.List.{get_or-map, length-map, length_push}
use Rattle.cnf_encode.specs.Placed.{IsInOrder}
use Rattle.cnf_encode.proofs.Pushing.{ordered_more}
use Rattle.cnf_encode.proofs.point_rows.all_in_order.Goals as goal

pub loop-row-preserved : goal.loop-row-preserved
loop-row-preserved c =
    let n = c.loop-row.row-index in
    let there : get_or (map (λ row. row.items) c.args.found.now) n [] ≡ c.row-item.result.items =
    get_or-map (λ row. row.items) c.args.found.now n c.row-item.result [] c.loop-row-test.true ∙ ap (λ row. row.items) (sym c.row-item.is) in
    let next = c.in_ok-in_order.field-0 in
    let order : IsInOrder (get_or (map (λ row. row.items) c.args.found.now) n []) next = subst (λ (ns : List ℕ). IsInOrder ns next)
    (c.deref.ensures.value ∙ sym there) c.in_ok-in_order.ensures in
    rw c.in_ok-push.ensures.ok (record {
      count = length_push c.loop-row.rows next ∙ omega (arith, c.loop-row.invariant.count);
      each = ordered_more (map (λ row. row.items) c.args.found.now) c.loop-row.rows n next c.loop-row.invariant.count order c.loop-row.invariant.each;
    })

pub returns : goal.returns
returns c =
    let all : length (map (λ row. row.items) c.args.found.now) ≡ c.loop-row.row-index = length-map c.args.found.now (λ row. row.items)
    ∙ omega (arith, c.loop-row-test.false, c.loop-row.auto.row-index-end) in
    record {
      count = c.loop-row.invariant.count ∙ sym all;
      each = λ n lt. c.loop-row.invariant.each n (omega (arith, lt, all));
    }
