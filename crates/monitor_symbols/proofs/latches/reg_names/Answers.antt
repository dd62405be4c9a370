use Rattle.std.proofs.Common.{◌∙◌, ◌++◌, [], ◌∷◌, ap}
use Rattle.monitor_symbols.specs.Latches.{reg_name}
use Rattle.monitor_symbols.proofs.Naming.{numbers_more}
use Rattle.monitor_symbols.proofs.Placed.{is_named}
use Rattle.monitor_symbols.proofs.latches.reg_names.Goals as goal

pub loop-reg-preserved : goal.loop-reg-preserved
loop-reg-preserved c =
    let cells = c.args.cells.now in
    let reg = c.loop-reg.reg in
    let named = is_named cells c.in_ok-places.places c.args.count reg c.at.result c.in_ok-places.ensures c.loop-reg-test.true c.at.ensures in
    numbers_more (reg_name cells) [] c.loop-reg.names c.push.new.self reg c.loop-reg.invariant
    (c.in_ok-push.ensures.ok ∙ ap (λ name. c.loop-reg.names ++ name ∷ []) (c.in_ok-name.ensures ∙ named))
