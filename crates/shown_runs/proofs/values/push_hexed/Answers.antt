use Rattle.std.proofs.Common.{◌≡◌, ◌+◌, ◌-◌, ◌++◌, length, arith}
use Rattle.shown_runs.specs.Values.{hexed}
use Rattle.shown_runs.proofs.Hexed.{hexed_added, hexed_done}
use Rattle.shown_runs.proofs.values.push_hexed.Goals as goal

pub loop-digit-preserved : goal.loop-digit-preserved
loop-digit-preserved c =
    let digits = c.args.digits.now in
    let k = c.loop-digit.digit-index in
    let left : c.saturating_sub-left.result ≡ length digits - (k + 1) = omega (arith, c.saturating_sub-left.ensures, c.loop-digit.invariant.left) in
    record {
      left = left;
      text = hexed_added digits k 0 c.loop-digit.four c.next_four-four.result c.saturating_sub-left.result (c.args.text.now.items ++ hexed 0 digits)
          c.loop-digit.text.items c.push_four.new.text.items (omega arith) c.next_four-four.ensures left c.loop-digit.invariant.text
          c.in_ok-push_four.ensures;
    }

pub returns : goal.returns
returns c =
    let digits = c.args.digits.now in
    hexed_done digits c.loop-digit.digit-index c.loop-digit.four (c.args.text.now.items ++ hexed 0 digits) c.loop-digit.text.items (omega arith)
    c.loop-digit.invariant.text
