use Rattle.std.proofs.Common.{◌≡◌, ◌+◌, ◌*◌, ◌++◌, [], suc, arith, append-nil, append_assoc, sym, ap}
use Rattle.and_graphs.specs.Texts.{input_rows, row}
use Rattle.and_graphs.proofs.texts.push_inputs.Goals as goal

pub loop-k-init : goal.loop-k-init
unfolding input_rows
loop-k-init c = sym (append-nil c.args.text.now.items)

pub loop-k-preserved : goal.loop-k-preserved
unfolding input_rows
loop-k-preserved c =
    let e : c.loop-k.k + 1 ≡ suc c.loop-k.k = omega arith in
    let more : input_rows (c.loop-k.k + 1) ≡ input_rows c.loop-k.k ++ row (2 * (c.loop-k.k + 1)) [] = ap input_rows e in
    let pushed = c.in_ok-push_row.ensures in
    rw (pushed, c.in_ok-twice.ensures, c.loop-k.invariant, more) (append_assoc c.args.text.now.items (input_rows c.loop-k.k) (row (2 * (c.loop-k.k + 1)) []))
