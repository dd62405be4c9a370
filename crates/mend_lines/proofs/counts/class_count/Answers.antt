use Rattle.std.proofs.Common.{◌∙◌, sym, ap}
use Rattle.mend_lines.proofs.Counting.{class_counted, one_if}
use Rattle.mend_lines.proofs.counts.class_count.Goals as goal

pub returns-then-has_line-clause-count : goal.returns-then-has_line-clause-count
returns-then-has_line-clause-count c =
    sym (class_counted c.args.group.now c.args.class ∙ ap one_if (sym c.has_line.ensures ∙ c.if-has_line.true))

pub returns-else-has_line-clause-count : goal.returns-else-has_line-clause-count
returns-else-has_line-clause-count c =
    sym (class_counted c.args.group.now c.args.class ∙ ap one_if (sym c.has_line.ensures ∙ c.if-has_line.false))
