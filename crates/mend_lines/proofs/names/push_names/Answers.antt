use Rattle.std.proofs.Common.{◌∙◌, ◌++◌, ◌==◌, List, ℕ, ap, codes}
use Rattle.mend_lines.specs.Lines.{name_text, next_text}
use Rattle.mend_lines.proofs.Joined.{joined_added, joined_none}
use Rattle.mend_lines.proofs.names.push_names.Goals as goal

pub loop-place-init : goal.loop-place-init
loop-place-init c = joined_none (codes " ") c.args.text.now.items

pub loop-place-preserved : goal.loop-place-preserved
loop-place-preserved c =
    let k = c.loop-place.place in
    joined_added (codes " ") (name_text c.args.ends c.args.pairs.now) c.args.rows.now k c.at.result c.args.text.now.items c.loop-place.text.items
    c.push_next.new.text.items c.at.ensures c.loop-place.invariant
    (c.in_ok-push_next.ensures ∙ ap (λ (s : List ℕ). c.loop-place.text.items ++ next_text (codes " ") (k == 0) s) c.name_of.ensures)
