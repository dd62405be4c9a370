use Rattle.std.proofs.Common.{◌∙◌}
use Rattle.drawn_runs.proofs.Drawing.{after-zero}
use Rattle.drawn_runs.proofs.draws.first_draw.Goals as goal

pub returns : goal.returns
returns c = c.seed_from_u64.ensures ∙ after-zero
