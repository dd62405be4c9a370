use Rattle.std.proofs.Common.{◌<◌}
use Rattle.inv_candidates.specs.Leading.{ShowsMark}
use Rattle.inv_candidates.specs.Levels.{IsGrown}
use Rattle.inv_candidates.proofs.levels.add_marked.Given as goal

abbrev pub invariant-loop-reg : goal.invariant-loop-reg
invariant-loop-reg l = IsGrown (λ r. (r < l.reg) × ShowsMark l.design l.marks r) l.fn.group l.group
