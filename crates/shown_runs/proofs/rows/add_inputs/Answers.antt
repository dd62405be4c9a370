use Rattle.std.proofs.Common.{sym, refl, append-nil, arith}
use Rattle.shown_runs.specs.Rows.{input_row, walked}
use Rattle.shown_runs.proofs.InputRows.{bits_taken, walked_added}
use Rattle.shown_runs.proofs.rows.add_inputs.Goals as goal

pub loop-signal-init : goal.loop-signal-init
unfolding walked
loop-signal-init c = record { rows = sym (append-nil c.args.rows.now); input = refl }

pub loop-signal-preserved : goal.loop-signal-preserved
loop-signal-preserved c =
    let signals = c.args.signals.now in
    let k = c.loop-signal.signal-index in
    let signal = c.signal-item.result in
    let bits = bits_taken signals k c.loop-signal.input signal (omega arith) c.signal-item.is c.loop-signal.invariant.input in
    record {
      rows = walked_added (input_row c.args.marks.now c.args.cycles) signals k c.loop-signal.input signal c.args.rows.now c.loop-signal.rows
          c.add_input.new.rows (omega arith) c.signal-item.is c.loop-signal.invariant.input c.loop-signal.invariant.rows c.in_ok-add_input.ensures;
      input = omega (arith, c.in_ok-input.ensures, c.len.ensures, bits);
    }
