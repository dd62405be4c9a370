use Rattle.claim_monitor.proofs.Badness.{late_nonempty}
use Rattle.claim_monitor.proofs.bads.has_late.Goals as goal

pub returns-in-Multi : goal.returns-in-Multi
returns-in-Multi c = rw c.in-Multi.is (late_nonempty c.in-Multi.field-0 c.args.claim.now.through c.is_empty.result c.is_empty.ensures)
