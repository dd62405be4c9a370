use Rattle.std.proofs.Common.{List, ap, ◌∙◌}
use Rattle.net_model.specs.LaneBits.{lane, lane_row}
use Rattle.net_model.specs.declared.lane_words.Lanes.{Lanes}
use Rattle.drawn_runs.specs.Stretches.{cycle_in}
use Rattle.drawn_runs.proofs.Stretching.{ran_more, all_hold}
use Rattle.drawn_runs.proofs.stretches.Stretches.step.Goals as goal

pub returns : goal.returns
returns c =
    λ t at.
    let d = c.args.design.now in
    let set = c.args.clauses.now in
    let before = c.args.self.now in
    let settled = c.settle.new.self in
    let ready = c.settle.ensures.ready in
    let next = c.in_ok-self.field-0 in
    record {
      ready = record { bits = c.in_ok-self.ensures.len; ins = ready.ins; nets = ready.nets; marks = ready.marks };
      ran = λ i lt.
          let same = ap (λ (words : List Lanes). lane_row i words) c.settle.ensures.bits in
          ran_more d set t (lane_row i before.bits) (lane_row i next) (cycle_in i settled) (lane before.met i) (lane c.all64.result i)
          (lane settled.met i) (c.settle.ensures.cycles i lt) same (c.in_ok-self.ensures.captures i lt settled.ins)
          (ap (λ (w : Lanes). lane w i) c.settle.ensures.met ∙ c.both-self.ensures i lt)
          (all_hold set (cycle_in i settled) i before.bits (lane c.all64.result i) same (c.all64.ensures i lt)) (at.ran i lt);
    }
