use Rattle.std.proofs.Common.{◌++◌, arith, ◌≤◌, length, ◌≡◌, ◌+◌}
use Rattle.std.proofs.lemmas.Result.{on_ok_weaker}
use Rattle.vcd_text.specs.Scopes.{leave}
use Rattle.vcd_text.proofs.Vars.{vars_next, vars_end}
use Rattle.vcd_text.proofs.declarations.push_vars.Goals as goal

pub loop-place-preserved : goal.loop-place-preserved
loop-place-preserved c =
    vars_next c.args.signals.now c.item-signal.result.now c.loop-place.place c.args.first c.in_ok-plus.field-0 c.loop-place.entered.now c.as_slice-scopes.result.now
    _ c.loop-place.text.items c.push_moves.new.text.items c.push_var.new.text.items c.item-signal.ensures c.in_ok-plus.ensures c.as_slice-scopes.ensures
    c.loop-place.invariant c.in_ok-push_moves.ensures c.in_ok-push_var.ensures

pub returns : goal.returns
returns c =
    let past : length c.args.signals.now ≤ c.loop-place.place = omega (arith, c.loop-place-test.false, c.len-place-end.ensures) in
    on_ok_weaker c.push_leave.result
    (λ (told : c.push_leave.new.text.items ≡ c.loop-place.text.items ++ leave c.loop-place.entered.now).
    vars_end c.args.signals.now c.loop-place.place (c.args.first + c.loop-place.place) c.loop-place.entered.now _ c.loop-place.text.items
    c.push_leave.new.text.items past c.loop-place.invariant told)
    c.push_leave.ensures
