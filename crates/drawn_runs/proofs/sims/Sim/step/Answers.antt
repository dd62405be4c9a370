use Rattle.std.proofs.Common.{[], ◌∷◌, ◌++◌, refl}
use Rattle.net_model.specs.LaneBits.{lane_row}
use Rattle.drawn_runs.specs.Sims.{cycle_of}
use Rattle.drawn_runs.proofs.Running.{run_more, bits_next}
use Rattle.drawn_runs.proofs.sims.Sim.step.Goals as goal

pub returns : goal.returns
returns c =
    λ t at.
    let d = c.args.design.now in
    let sim = c.args.self.now in
    let next = c.in_ok-self.field-0 in
    record {
      bits = c.in_ok-self.ensures.len;
      ins = at.ins;
      nets = at.nets;
      drawn = at.drawn;
      ran = λ i lt.
          let ran = at.ran i lt in (
            ran.0 ++ cycle_of i sim ∷ [],
            run_more d i t (lane_row i sim.bits) (lane_row i next) ran.0 (cycle_of i sim) (at.each i lt) refl
                (c.in_ok-self.ensures.captures i lt sim.ins) ran.1,
          );
      only = λ i lt. bits_next d i t (cycle_of i sim) (lane_row i next) (at.only i lt) (c.in_ok-self.ensures.captures i lt sim.ins);
    }
