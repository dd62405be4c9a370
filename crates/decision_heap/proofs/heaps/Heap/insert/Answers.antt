use Rattle.std.proofs.Common.{ap, ◌∙◌}
use Rattle.proof_log.specs.Clauses.{is_set}
use Rattle.proof_log.proofs.Members.{is_set-push}
use Rattle.decision_heap.proofs.heaps.Heap.insert.Goals as goal

pub returns-then-not-contains-clause-inside : goal.returns-then-not-contains-clause-inside
returns-then-not-contains-clause-inside c = λ v. c.up.ensures.same v
    ∙ (ap (λ xs. is_set xs v) c.push_last.ensures.inside ∙ is_set-push c.args.self.now.inside c.args.var v)
