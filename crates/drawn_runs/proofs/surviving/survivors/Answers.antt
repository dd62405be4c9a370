use Rattle.std.proofs.Common.{◌≡◌, ◌+◌, ℕ, List, arith, subst, sym}
use Rattle.net_model.specs.declared.invariants.InvClause.{InvClause}
use Rattle.drawn_runs.specs.Drawn.{HoldsBelow, FailsDrawn}
use Rattle.drawn_runs.specs.Survivors.{IsSifted, No_more, AreSurvivors}
use Rattle.drawn_runs.proofs.Sifting.{sifted_none, sifted_next, survivors_are}
use Rattle.drawn_runs.proofs.surviving.survivors.Goals as goal

pub returns-then-is_empty : goal.returns-then-is_empty
returns-then-is_empty c = subst (λ (left : List InvClause). AreSurvivors c.args.design.now left left) (sym (c.is_empty.ensures.0 c.if-is_empty.true)) No_more

pub loop-t-init : goal.loop-t-init
loop-t-init c =
    let d = c.args.design.now in
    record {
      at = c.in_ok-sim.ensures;
      sifted =
          subst (λ (left : List InvClause). IsSifted (HoldsBelow d 0) (FailsDrawn d) c.args.clauses left) (sym c.clauses.view_is)
          (sifted_none d c.args.clauses);
    }

pub loop-t-preserved : goal.loop-t-preserved
loop-t-preserved c =
    let d = c.args.design.now in
    let t = c.loop-t.t in
    record {
      at = c.in_ok-step.ensures t c.settle.ensures;
      sifted =
          sifted_next d t c.settle.new.self c.args.clauses c.loop-t.left c.sift_live-left.result (omega arith) c.sift_live-left.ensures.live
          c.sift_live-left.ensures.before c.settle.ensures c.loop-t.invariant.sifted;
    }

pub returns : goal.returns
returns c =
    let d = c.args.design.now in
    let clauses = c.args.clauses in
    let all : c.loop-t.t ≡ d.reset_len + 64 = omega arith in
    survivors_are d clauses c.loop-t.left
    (subst (λ (n : ℕ). IsSifted (HoldsBelow d n) (FailsDrawn d) clauses c.loop-t.left) all c.loop-t.invariant.sifted)
