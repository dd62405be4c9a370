use Rattle.std.proofs.Common.{[], ◌∙◌, ap, arith, sym}
use Rattle.net_model.specs.LaneBits.{lane_row}
use Rattle.drawn_runs.specs.Draws.{after}
use Rattle.drawn_runs.proofs.Running.{words_none, run_none, bits_first}
use Rattle.drawn_runs.proofs.sims.Sim.begin.Goals as goal

pub returns : goal.returns
returns c =
    let d = c.args.design.now in
    let bits = c.in_ok-bits.bits in
    let first = c.in_ok-bits.ensures.bits in
    record {
      bits = first.count;
      ins = omega (arith, c.in_ok-ins.ensures.len, c.len.ensures);
      nets = c.in_ok-nets.ensures.len;
      drawn = c.in_ok-bits.ensures.next ∙ ap after (sym (words_none d));
      ran = λ i lt. ([], run_none d i (lane_row i bits) (first.each i lt));
      only = λ i lt. bits_first d i bits lt first;
    }
