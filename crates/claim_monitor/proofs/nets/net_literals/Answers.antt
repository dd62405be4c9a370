use Rattle.std.proofs.Common.{◌∙◌}
use Rattle.net_model.proofs.Unique.{settled_made}
use Rattle.claim_monitor.specs.Shown.{shown_row}
use Rattle.claim_monitor.proofs.Showing.{length-shown_row, AreIn-kept}
use Rattle.claim_monitor.proofs.nets.net_literals.Goals as goal

pub returns-clause-nets : goal.returns-clause-nets
returns-clause-nets c =
    let d = c.args.design.now in
    let bits = c.args.bits.now in
    let ins = c.args.ins.now in
    let old = c.args.graph.now in
    let g = c.settle.new.graph in
    let nets = c.settle.new.nets in
    let of_bits = AreIn-kept old g bits c.in_ok-settle.ensures.keeps c.requires.in_bits in
    record {
      in_ = c.in_ok-settle.ensures.in_;
      settled = λ x len.
          settled_made d (shown_row g x bits) (shown_row g x ins) (shown_row g x c.put_inputs.new.nets) (shown_row g x c.put_regs.new.nets) (shown_row g x nets)
          (length-shown_row g x bits ∙ c.requires.bits) (length-shown_row g x ins ∙ c.requires.ins) (length-shown_row g x nets ∙ c.in_ok-settle.ensures.len)
          (λ i low. c.put_inputs.ensures.shown g x i low) (λ n has. c.put_regs.ensures.kept g x n of_bits len has)
          (λ r reg at. c.put_regs.ensures.shown g x of_bits len r reg at) (λ n has. c.in_ok-settle.ensures.sources x n len has)
          (c.in_ok-settle.ensures.gates x len);
    }
