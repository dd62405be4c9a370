use Rattle.std.proofs.Common.{◌∙◌, ◌+◌, ◌++◌, ◌==◌, List, ℕ, take, ap}
use Rattle.list_laws.proofs.Joining.{pushed}
use Rattle.mend_lines.specs.Bodies.{newline}
use Rattle.mend_lines.specs.Lines.{joined_by, next_text}
use Rattle.mend_lines.proofs.Joined.{joined_more, joined_none}
use Rattle.mend_lines.proofs.joins.push_lines.Goals as goal

pub loop-place-init : goal.loop-place-init
loop-place-init c = joined_none newline c.args.text.now.items

pub loop-place-preserved : goal.loop-place-preserved
loop-place-preserved c =
    let xs = c.args.lines.now in
    let k = c.loop-place.place in
    let x = c.item.result.now in
    pushed c.args.text.now.items c.loop-place.text.items c.push_next.new.text.items (next_text newline (k == 0) x)
    (joined_by newline (take (k + 1) xs)) (joined_by newline (take k xs)) c.loop-place.invariant
    (c.in_ok-push_next.ensures ∙ ap (λ (s : List ℕ). c.loop-place.text.items ++ next_text newline (k == 0) s) c.as_bytes.ensures)
    (joined_more newline xs k x c.item.ensures)
