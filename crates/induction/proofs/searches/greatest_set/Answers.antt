use Rattle.std.proofs.Common.{inl, inr}
use Rattle.induction.proofs.Ending.{empty_kept, empty_in_form}
use Rattle.induction.proofs.searches.greatest_set.Goals as goal
use Rattle.induction.proofs.searches.greatest_set.Goals.{then-depth-eq0-via-then-depth-eq0, then-depth-eq0-via-else-depth-eq0+then-is_empty}

pub returns-then-depth-eq0-clause-kept : goal.returns-then-depth-eq0-clause-kept
returns-then-depth-eq0-clause-kept c =
    empty_kept c.args.design.now c.args.depth c.args.budget c.args.candidates.now c.empty_set.result
    (elim c.then-depth-eq0.branch [
      | then-depth-eq0-via-then-depth-eq0 w ↦ inl w.if-depth-eq0.true
      | then-depth-eq0-via-else-depth-eq0+then-is_empty w ↦ inr (w.is_empty.ensures.0 w.if-is_empty.true)
    ])
    c.empty_set.ensures

pub returns-then-depth-eq0-clause-in_form : goal.returns-then-depth-eq0-clause-in_form
returns-then-depth-eq0-clause-in_form c all = empty_in_form c.args.depth c.empty_set.result c.requires.few c.empty_set.ensures
