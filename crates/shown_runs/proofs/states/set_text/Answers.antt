use Rattle.std.specs.Prelude.{codes}
use Rattle.wave_signals.specs.Labels.{digits}
use Rattle.shown_runs.specs.Lines.{set_text}
use Rattle.shown_runs.specs.Rows.{name_text}
use Rattle.shown_runs.specs.Values.{value_text}
use Rattle.shown_runs.proofs.Hexed.{joined}
use Rattle.shown_runs.proofs.states.set_text.Goals as goal

pub returns : goal.returns
unfolding set_text
returns c =
    let signal = c.args.signal.now in
    rw (
      c.from_vec.ensures,
      c.in_ok-extend_from_slice-3.ensures.items,
      c.in_ok-extend_from_slice-2.ensures.items,
      c.as_bytes-2.ensures,
      c.in_ok-push.ensures.items,
      c.in_ok-extend_from_slice.ensures.items,
      c.as_bytes.ensures.value,
      c.in_ok-text.ensures.items,
      c.in_ok-label.ensures,
      c.in_ok-value.ensures,
    )
    (joined (codes "register ") (name_text signal) (codes "=") (value_text (digits signal 0)) (codes " in cycle 0"))
