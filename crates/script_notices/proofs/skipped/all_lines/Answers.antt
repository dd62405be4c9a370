use Rattle.std.proofs.Common.{◌∙◌, ◌++◌, ap, sym}
use Rattle.list_laws.proofs.Joining.{flat_next}
use Rattle.script_notices.specs.Notices.{skipped_line}
use Rattle.script_notices.proofs.skipped.all_lines.Goals as goal

pub loop-k-preserved : goal.loop-k-preserved
loop-k-preserved c =
    let line = skipped_line c.args.script.now in
    c.in_ok-push_line.ensures ∙ ap (λ l. l ++ line c.item.result.now) c.loop-k.invariant
    ∙ sym (flat_next line c.args.names.now c.loop-k.k c.item.result.now c.item.ensures)
