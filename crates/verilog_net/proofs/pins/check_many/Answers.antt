use Rattle.std.proofs.Common.{◌∙◌, map}
use Rattle.std.proofs.lemmas.Result.{err_from_is_err_and}
use Rattle.verilog_scope.specs.Decls.{with_new}
use Rattle.verilog_scope.proofs.FailLemmas.{fails_through}
use Rattle.verilog_scope.proofs.FoldLemmas.{fold_map_more, fold_map_bad, fold_map_end}
use Rattle.verilog_net.proofs.PinLemmas.{all_new}
use Rattle.verilog_net.proofs.pins.check_many.Goals as goal

pub returns-in_err-add_one : goal.returns-in_err-add_one
returns-in_err-add_one g c =
    let p = err_from_is_err_and c.from_residual.result c.from_residual.ensures.1 in
    rw (p.1, p.2) (fails_through c.in_err-add_one.field-0.0 _ _ c.in_err-add_one.ensures
    (λ why bad. c.loop-conn.invariant ∙ fold_map_bad with_new g.T.Pinned.pin c.loop-conn.names c.args.list.now c.loop-conn.conn-index
    c.conn-item.result why c.loop-conn-test.true c.conn-item.is (rw c.pin.ensures at bad)))

pub loop-conn-preserved : goal.loop-conn-preserved
loop-conn-preserved g c =
    c.loop-conn.invariant ∙ fold_map_more with_new g.T.Pinned.pin c.loop-conn.names c.add_one.new.names c.args.list.now c.loop-conn.conn-index
    c.conn-item.result c.loop-conn-test.true c.conn-item.is (rw c.pin.ensures at c.in_ok-add_one.ensures)

pub returns : goal.returns
returns g c = all_new (map g.T.Pinned.pin c.args.list.now) c.loop-conn.names
    (c.loop-conn.invariant ∙ fold_map_end with_new g.T.Pinned.pin c.loop-conn.names c.args.list.now c.loop-conn.conn-index c.loop-conn-test.false)
