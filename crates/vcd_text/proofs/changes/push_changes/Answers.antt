use Rattle.std.proofs.Common.{append-nil, sym}
use Rattle.wave_signals.specs.Numbered.{numbered}
use Rattle.wave_signals.proofs.Adding.{numbered_added}
use Rattle.vcd_text.specs.Changes.{change_line}
use Rattle.vcd_text.proofs.changes.push_changes.Goals as goal

pub loop-place-init : goal.loop-place-init
unfolding numbered
loop-place-init c = sym (append-nil c.args.text.now.items)

pub loop-place-preserved : goal.loop-place-preserved
loop-place-preserved c =
    numbered_added (change_line c.args.cycle) c.args.first c.loop-place.place c.in_ok-plus.field-0 c.args.signals.now c.item-signal.result.now
    c.args.text.now.items c.loop-place.text.items c.push_change.new.text.items c.item-signal.ensures c.in_ok-plus.ensures c.loop-place.invariant
    c.in_ok-push_change.ensures
