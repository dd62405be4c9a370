use Rattle.std.proofs.Common.{[]}
use Rattle.wave_signals.specs.Numbered.{numbered}
use Rattle.wave_signals.proofs.Adding.{numbered_added}
use Rattle.shown_runs.specs.Rows.{input_digit}
use Rattle.shown_runs.proofs.rows.input_cell.Goals as goal

pub loop-place-init : goal.loop-place-init
unfolding numbered
loop-place-init c = c.new-text.ensures.items

pub loop-place-preserved : goal.loop-place-preserved
loop-place-preserved c =
    numbered_added (input_digit c.args.marks.now c.args.cycle) c.args.input c.loop-place.place c.in_ok-number.number c.args.signal.now.values
    c.item-values.result.now [] c.loop-place.text.items c.push_digit.new.text.items c.item-values.ensures c.in_ok-number.ensures c.loop-place.invariant
    c.in_ok-push_digit.ensures
