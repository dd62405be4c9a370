use Rattle.std.proofs.Common.{arith, take, ap, sym, ◌∙◌}
use Rattle.std.proofs.lemmas.List.{get_or_read}
use Rattle.proof_log.specs.Literals.{negated}
use Rattle.proof_log.specs.Clauses.{is_set}
use Rattle.proof_log.proofs.Members.{is_set-at}
use Rattle.sat_solver.proofs.Analyzing.{OthersFalse-none, OthersFalse-more}
use Rattle.sat_solver.proofs.learning.second_watch.Goals as goal

pub is_open_other-requires : goal.is_open_other-requires
is_open_other-requires c = λ ne.
    c.requires.falsified c.l-item.result
    (ap (is_set c.args.lits.now) (get_or_read c.args.lits.now c.loop-l.l-index c.l-item.result (omega arith) c.l-item.is 0)
    ∙ is_set-at c.args.lits.now c.loop-l.l-index (omega arith)) ne

pub loop-l-init : goal.loop-l-init
loop-l-init c = OthersFalse-none (take c.floor_of-floor.result c.args.trail.now.lits) c.args.learnt.now.unit

pub loop-l-preserved : goal.loop-l-preserved
loop-l-preserved c =
    OthersFalse-more (take c.floor_of-floor.result c.args.trail.now.lits) c.args.lits.now c.args.learnt.now.unit c.loop-l.l-index c.l-item.result (omega arith)
    (get_or_read c.args.lits.now c.loop-l.l-index c.l-item.result (omega arith) c.l-item.is 0) c.loop-l.invariant c.if-is_open_other.ensures

pub returns-then-is_open_other : goal.returns-then-is_open_other
returns-then-is_open_other c = (
  ap (is_set c.args.lits.now) (get_or_read c.args.lits.now c.loop-l.l-index c.l-item.result (omega arith) c.l-item.is 0)
      ∙ is_set-at c.args.lits.now c.loop-l.l-index (omega arith),
  c.if-is_open_other.ensures.0,
  ap (λ n. is_set (take n c.args.trail.now.lits) (negated c.l-item.result)) (sym c.floor_of-floor.ensures) ∙ c.if-is_open_other.ensures.1,
)
