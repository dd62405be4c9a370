use Rattle.std.proofs.Common.{◌∙◌, ap, arith, length, List, ℕ, Bool}
use Rattle.net_model.specs.Cycles.{bit_at, capture}
use Rattle.net_model.specs.LaneBits.{lane_row, lane_cycle}
use Rattle.net_model.specs.declared.claims.End.TheVariants.{Reg}
use Rattle.net_model.specs.declared.lane_words.Lanes.{Lanes}
use Rattle.net_sim.proofs.LaneSettling.{length-lane_row}
use Rattle.drawn_runs.proofs.Stepping.{lanes_pushed, length_pushed}
use Rattle.drawn_runs.proofs.lane_steps.step64.Goals as goal

pub loop-r-preserved : goal.loop-r-preserved
loop-r-preserved c =
    let d = c.args.design.now in
    let r = c.loop-r.r in
    let pushed = c.in_ok-push.ensures.ok in
    record {
      count = ap length pushed ∙ omega (arith, length_pushed c.loop-r.next c.capture64.result, c.loop-r.invariant.count);
      each = λ i lt ins q low.
          let f : ℕ → Bool = λ p. capture d (Reg p) (lane_cycle i c.args.bits.now ins c.args.nets.now) in
          ap (λ (words : List Lanes). bit_at (lane_row i words) q) pushed
          ∙ lanes_pushed i c.loop-r.next c.capture64.result f r c.loop-r.invariant.count (c.capture64.ensures i lt ins)
          (λ p before. c.loop-r.invariant.each i lt ins p before) q low;
    }

pub returns-clause-len : goal.returns-clause-len
returns-clause-len c = omega (arith, c.loop-r.invariant.count)

pub returns-clause-captures : goal.returns-clause-captures
returns-clause-captures c =
    λ i lt ins.
    record {
      count = omega (arith, length-lane_row i c.loop-r.next, c.loop-r.invariant.count);
      each = λ q low. c.loop-r.invariant.each i lt ins q (omega arith);
    }
