use Rattle.std.proofs.Common.{◌∙◌, ◌++◌, [], ◌∷◌, ap}
use Rattle.monitor_symbols.specs.Latches.{numbered}
use Rattle.monitor_symbols.proofs.Naming.{numbers_more}
use Rattle.monitor_symbols.proofs.latches.add_numbered.Goals as goal

pub loop-number-preserved : goal.loop-number-preserved
loop-number-preserved c =
    numbers_more (numbered c.args.word.now) c.args.names.now c.loop-number.names c.push.new.self c.loop-number.number c.loop-number.invariant
    (c.in_ok-push.ensures.ok ∙ ap (λ name. c.loop-number.names ++ name ∷ []) c.in_ok-name.ensures)
