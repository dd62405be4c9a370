use Rattle.std.proofs.Common.{◌≡◌, ◌∙◌, ℕ, false, ap, sym, arith}
use Rattle.std.proofs.lemmas.Option.{get_or_from_slice_get}
use Rattle.net_model.specs.Cycles.{bit_at}
use Rattle.firm_runs.specs.Frees.{known_bit}
use Rattle.firm_runs.proofs.Lists3.{length_pushed, each_more}
use Rattle.firm_runs.proofs.known_inputs.known_inputs.Goals as goal

pub loop-input-preserved : goal.loop-input-preserved
loop-input-preserved c =
    let known = c.loop-input.known in
    let i = c.loop-input.input in
    let bit : bit_at c.args.ins.now i ≡ c.at.result = get_or_from_slice_get c.args.ins.now i c.at.result false c.at.ensures in
    let value : c.known_bit.result ≡ known_bit c.args.design.now c.args.free.now c.args.t i (bit_at c.args.ins.now i) =
    c.known_bit.ensures ∙ ap (known_bit c.args.design.now c.args.free.now c.args.t i) (sym bit) in
    rw c.in_ok-push.ensures.ok (record {
      count = length_pushed known c.known_bit.result ∙ omega (arith, c.loop-input.invariant.count);
      each = each_more (λ (n : ℕ). known_bit c.args.design.now c.args.free.now c.args.t n (bit_at c.args.ins.now n)) known c.known_bit.result i
          c.loop-input.invariant.count value c.loop-input.invariant.each;
    })
