use Rattle.std.proofs.Common.{append-nil, sym, ap, ◌∙◌, ◌++◌, ℕ}
use Rattle.and_graphs.specs.Texts.{rows_from, latch_row}
use Rattle.and_graphs.proofs.Rows.{rows_next}
use Rattle.and_graphs.proofs.texts.push_latches.Goals as goal

pub loop-k-init : goal.loop-k-init
unfolding rows_from
loop-k-init c = sym (append-nil c.args.text.now.items)

pub loop-k-preserved : goal.loop-k-preserved
loop-k-preserved c =
    rows_next latch_row c.args.first c.loop-k.k c.args.latches.now c.at-latch.result c.args.text.now.items c.loop-k.text.items c.push_latch.new.text.items
    c.at-latch.ensures c.loop-k.invariant
    (c.in_ok-push_latch.ensures ∙ ap (λ (v : ℕ). c.loop-k.text.items ++ latch_row v c.at-latch.result) c.in_ok-plus.ensures)
