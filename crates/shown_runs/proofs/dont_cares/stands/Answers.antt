use Rattle.std.proofs.Common.{arith}
use Rattle.shown_runs.proofs.Toggles.{firm_stands}
use Rattle.shown_runs.proofs.dont_cares.stands.Goals as goal

pub returns : goal.returns
returns c = firm_stands c.in_ok-firm.ensures (omega arith) (omega arith) (omega arith)
