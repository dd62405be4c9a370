use Rattle.std.proofs.Common.{append-nil, sym}
use Rattle.wave_signals.specs.Numbered.{numbered}
use Rattle.wave_signals.proofs.Adding.{numbered_added}
use Rattle.vcd_text.specs.Declarations.{var_line}
use Rattle.vcd_text.proofs.declarations.push_marks.Goals as goal

pub loop-place-init : goal.loop-place-init
unfolding numbered
loop-place-init c = sym (append-nil c.args.text.now.items)

pub loop-place-preserved : goal.loop-place-preserved
loop-place-preserved c =
    numbered_added var_line 1 c.loop-place.place c.in_ok-plus.field-0 c.args.marks.now c.item-mark.result.now c.args.text.now.items c.loop-place.text.items
    c.push_var.new.text.items c.item-mark.ensures c.in_ok-plus.ensures c.loop-place.invariant c.in_ok-push_var.ensures
