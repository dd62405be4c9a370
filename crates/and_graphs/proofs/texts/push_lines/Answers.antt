use Rattle.std.proofs.Common.{append-nil, sym, ap, ◌∙◌, ◌++◌, ℕ}
use Rattle.and_graphs.specs.Texts.{rows_from, line_row}
use Rattle.and_graphs.proofs.Rows.{rows_next}
use Rattle.and_graphs.proofs.texts.push_lines.Goals as goal

pub loop-k-init : goal.loop-k-init
unfolding rows_from
loop-k-init c = sym (append-nil c.args.text.now.items)

pub loop-k-preserved : goal.loop-k-preserved
loop-k-preserved c =
    rows_next line_row c.args.first c.loop-k.k c.args.lines.now c.at-line.result c.args.text.now.items c.loop-k.text.items c.push_line.new.text.items
    c.at-line.ensures c.loop-k.invariant
    (c.in_ok-push_line.ensures ∙ ap (λ (v : ℕ). c.loop-k.text.items ++ line_row v c.at-line.result) c.in_ok-plus.ensures)
