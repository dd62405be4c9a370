use Rattle.std.proofs.Common.{◌∙◌, ap, arith, length, List, ℕ, Bool}
use Rattle.net_model.specs.Cycles.{bit_at}
use Rattle.net_model.specs.LaneBits.{lane, lane_row}
use Rattle.net_model.specs.declared.lane_words.Lanes.{Lanes}
use Rattle.drawn_runs.specs.Draws.{word}
use Rattle.drawn_runs.proofs.Stepping.{lanes_pushed, length_pushed}
use Rattle.drawn_runs.proofs.sims.first_bits.Goals as goal

pub draws-preserved : goal.draws-preserved
draws-preserved c =
    let k = c.draws.counter in
    let pushed = c.in_ok-push.ensures.ok in
    record {
      count = ap length pushed ∙ omega (arith, length_pushed c.draws.bits c.draw.result, c.draws.invariant.count);
      next = c.draw.ensures.next k c.draws.invariant.next;
      each = λ i lt r low.
          let f : ℕ → Bool = λ p. lane (word p) i in
          ap (λ (words : List Lanes). bit_at (lane_row i words) r) pushed
          ∙ lanes_pushed i c.draws.bits c.draw.result f k c.draws.invariant.count
          (ap (λ (w : Lanes). lane w i) (c.draw.ensures.word k c.draws.invariant.next)) (λ p before. c.draws.invariant.each i lt p before) r low;
    }
