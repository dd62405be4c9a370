use Rattle.mend_groups.proofs.Exact.{groups_exact}
use Rattle.mend_groups.proofs.laws.groups_are_exact.Goals as goal

pub returns : goal.returns
returns c = λ ports script hold s verdicts. groups_exact ports s verdicts script hold
