use Rattle.std.proofs.lemmas.Bool.{both_ways}
use Rattle.verdicts.proofs.HeldInputs.{held_where_reset, reset_where_held}
use Rattle.verdicts.proofs.judged.is_held_start.Goals as goal

pub returns-else-is_set : goal.returns-else-is_set
returns-else-is_set c = (
  λ yes. held_where_reset c.args.design.now c.args.start.now c.in-Input.input c.in-Input.is (c.is_set-else-is_set.ensures.0 yes),
  λ held. c.is_set-else-is_set.ensures.1
      (reset_where_held c.args.design.now c.args.start.now c.in-Input.input c.in-Input.is
      (λ fixed. both_ways c.is_set.result c.if-is_set.false (c.is_set.ensures.1 fixed)) held),
)
