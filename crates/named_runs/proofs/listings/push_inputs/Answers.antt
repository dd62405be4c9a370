use Rattle.std.proofs.Common.{append-nil, sym, arith}
use Rattle.wave_signals.specs.Numbered.{numbered}
use Rattle.wave_signals.proofs.Adding.{numbered_added}
use Rattle.linked_types.specs.Inputs.{input_names}
use Rattle.named_runs.specs.BitTexts as spec
use Rattle.named_runs.proofs.listings.push_inputs.Goals as goal

pub loop-place-init : goal.loop-place-init
unfolding numbered
loop-place-init c = sym (append-nil c.args.text.now.items)

pub loop-place-preserved : goal.loop-place-preserved
loop-place-preserved c =
    numbered_added spec.input_row 0 c.loop-place.place c.loop-place.place (input_names c.args.names.now)
    c.input.result.now c.args.text.now.items c.loop-place.text.items
    c.push_row.new.text.items c.input.ensures (omega arith) c.loop-place.invariant c.in_ok-push_row.ensures
