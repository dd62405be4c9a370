use Rattle.std.proofs.Common.{[]}
use Rattle.list_laws.proofs.Joining.{added}
use Rattle.monitor_symbols.specs.Symbols.{symbol}
use Rattle.monitor_symbols.proofs.symbols.lines_of.Goals as goal

pub loop-number-preserved : goal.loop-number-preserved
loop-number-preserved c =
    added symbol c.args.latches.now [] c.loop-number.text.items c.push_symbol.new.text.items c.loop-number.number c.item.result.now c.item.ensures
    c.loop-number.invariant c.in_ok-push_symbol.ensures
