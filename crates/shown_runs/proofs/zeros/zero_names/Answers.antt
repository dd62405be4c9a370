use Rattle.std.proofs.Common.{[], refl, arith}
use Rattle.shown_runs.specs.Rows.{zero_name, walked}
use Rattle.shown_runs.proofs.InputRows.{bits_taken, walked_added}
use Rattle.shown_runs.proofs.zeros.zero_names.Goals as goal

pub loop-signal-init : goal.loop-signal-init
unfolding walked
loop-signal-init c = record { names = c.new-names.ensures; input = refl }

pub loop-signal-preserved : goal.loop-signal-preserved
loop-signal-preserved c =
    let shown = c.args.shown.now in
    let signals = c.as_slice-signal-items.result.now in
    let k = c.loop-signal.signal-index in
    let signal = c.signal-item.result in
    let bits = bits_taken signals k c.loop-signal.input signal (omega arith) c.signal-item.is c.loop-signal.invariant.input in
    record {
      names = walked_added (zero_name shown.dont_cares shown.cycles) signals k c.loop-signal.input signal [] c.loop-signal.names c.add_zero.new.names
          (omega arith) c.signal-item.is c.loop-signal.invariant.input c.loop-signal.invariant.names c.in_ok-add_zero.ensures;
      input = omega (arith, c.in_ok-input.ensures, c.len.ensures, bits);
    }
