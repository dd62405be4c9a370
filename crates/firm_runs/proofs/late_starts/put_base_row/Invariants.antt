use Rattle.firm_runs.proofs.TernRows.{BaseDone3}
use Rattle.firm_runs.proofs.late_starts.put_base_row.Given as goal

abbrev pub invariant-loop-n : goal.invariant-loop-n
invariant-loop-n l = BaseDone3 l.sets l.layer l.base l.initial.rows l.rows l.n
