use Rattle.std.proofs.Common.{◌∙◌, refl, map, take}
use Rattle.std.proofs.lemmas.List.{take_all}
use Rattle.std.proofs.lemmas.Result.{err_from_is_err_and}
use Rattle.verilog_scope.specs.Decls.{with_new}
use Rattle.verilog_scope.proofs.FailLemmas.{fails_through}
use Rattle.verilog_scope.proofs.FoldLemmas.{fold_map_more, fold_map_bad, fold_map_end}
use Rattle.verilog_net.proofs.PinLemmas.{pins_more}
use Rattle.verilog_net.proofs.pins.check_few.Goals as goal

pub returns-in_err-check_pin : goal.returns-in_err-check_pin
returns-in_err-check_pin g c =
    let cs = c.args.list.now in
    let i = c.loop-place.place in
    let p = err_from_is_err_and c.from_residual.result c.from_residual.ensures.1 in
    rw (p.1, p.2) (fails_through c.in_err-check_pin.field-0.0 _ _ c.in_err-check_pin.ensures
    (λ why bad. c.loop-place.invariant ∙ fold_map_bad with_new g.T.Pinned.pin (map g.T.Pinned.pin (take i cs)) cs i c.index-list-place.result why
    c.loop-place-test.true c.index-list-place.is (rw c.pin.ensures at bad)))

pub loop-place-preserved : goal.loop-place-preserved
loop-place-preserved g c =
    let cs = c.args.list.now in
    let i = c.loop-place.place in
    let conn = c.index-list-place.result in
    let more = pins_more g.T.Pinned.pin cs i conn c.loop-place-test.true c.index-list-place.is in
    rw more (c.loop-place.invariant ∙ fold_map_more with_new g.T.Pinned.pin (map g.T.Pinned.pin (take i cs)) _ cs i conn
    c.loop-place-test.true c.index-list-place.is (rw c.pin.ensures at c.in_ok-check_pin.ensures))

pub returns : goal.returns
returns g c =
    let cs = c.args.list.now in
    let i = c.loop-place.place in
    c.loop-place.invariant ∙ fold_map_end with_new g.T.Pinned.pin (map g.T.Pinned.pin (take i cs)) cs i c.loop-place-test.false
    ∙ rw (take_all i cs c.loop-place-test.false) refl
