use Rattle.std.proofs.Common.{◌∙◌, ap}
use Rattle.drawn_runs.specs.Draws.{after}
use Rattle.drawn_runs.specs.Drawn.{words_before}
use Rattle.drawn_runs.proofs.Running.{words_more, cycle_first}
use Rattle.drawn_runs.proofs.sims.Sim.settle.Goals as goal

pub returns : goal.returns
returns c =
    let d = c.args.design.now in
    let t = c.args.t in
    let at = c.requires.at in
    let base = words_before d t in
    record {
      bits = at.bits;
      ins = c.fill_inputs.ensures.len;
      nets = c.settle64.ensures.len;
      drawn = c.fill_inputs.ensures.next base at.drawn ∙ ap after (words_more d t);
      ran = at.ran;
      each = λ i lt. record {
        settled = c.settle64.ensures.settled i lt;
        lawful = c.fill_inputs.ensures.lawful i lt;
        free = c.fill_inputs.ensures.free base at.drawn i lt;
      };
      only = λ i lt.
          cycle_first d i t c.args.self.now.bits c.fill_inputs.new.ins c.settle64.new.nets (at.only i lt) (c.fill_inputs.ensures.lawful i lt)
          (c.fill_inputs.ensures.free base at.drawn i lt) (c.settle64.ensures.only i lt);
    }
