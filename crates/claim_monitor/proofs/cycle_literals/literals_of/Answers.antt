use Rattle.std.proofs.Common.{◌∙◌, Bool, List, ap, arith}
use Rattle.net_model.specs.Cycles.{bit_at}
use Rattle.claim_monitor.proofs.Showing.{AreIn-kept, shown_kept, input_literals_kept, inputs_count}
use Rattle.claim_monitor.proofs.cycle_literals.literals_of.Goals as goal

pub net_literals-requires-clause-ins : goal.net_literals-requires-clause-ins
net_literals-requires-clause-ins c = inputs_count c.args.graph.now c.args.design.now c.args.sizes.now c.in_ok-ins.ins c.in_ok-ins.ensures

pub returns-clause-literals : goal.returns-clause-literals
returns-clause-literals c =
    let old = c.args.graph.now in
    let g = c.net_literals.new.graph in
    let keeps = c.in_ok-nets.ensures.keeps in
    let bits = c.in_ok-bits.bits in
    record {
      in_bits = AreIn-kept old g bits keeps c.in_ok-bits.ensures.in_;
      regs = λ x r len low.
          let same = shown_kept old g x bits keeps c.in_ok-bits.ensures.in_ len in
          let count = c.requires.sizes.regs in
          ap (λ (row : List Bool). bit_at row r) same ∙ c.in_ok-bits.ensures.shown x r (len ∙ keeps.front) (omega arith);
      ins = input_literals_kept old g c.args.design.now c.args.sizes.now c.in_ok-ins.ins keeps c.in_ok-ins.ensures;
      nets = c.in_ok-nets.ensures.nets;
    }
