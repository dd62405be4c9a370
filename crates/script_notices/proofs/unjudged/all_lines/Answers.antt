use Rattle.std.proofs.Common.{◌∙◌, ◌++◌, ap, sym}
use Rattle.list_laws.proofs.Joining.{flat_next}
use Rattle.script_notices.specs.Notices.{unjudged_line}
use Rattle.script_notices.proofs.unjudged.all_lines.Goals as goal

pub loop-k-preserved : goal.loop-k-preserved
loop-k-preserved c =
    let scope = c.args.scope.now in
    let line = unjudged_line scope.top.now scope.hold scope.script.now scope.selected.now in
    c.in_ok-push_line.ensures ∙ ap (λ l. l ++ line c.item.result.now) c.loop-k.invariant
    ∙ sym (flat_next line scope.script.now.commands c.loop-k.k c.item.result.now c.item.ensures)
