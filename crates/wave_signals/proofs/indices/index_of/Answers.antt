use Rattle.std.proofs.Common.{◌≡◌, ◌+◌, ◌<◌, length, get_or, refl, sym, ◌∙◌, arith, length-take, get_or-take}
use Rattle.std.specs.Prelude.{slice_range}
use Rattle.wave_signals.proofs.Splitting.{around_index}
use Rattle.wave_signals.proofs.indices.index_of.Goals as goal

pub returns-in-Some-2 : goal.returns-in-Some-2
returns-in-Some-2 c =
    let text = c.args.text.now in
    let close = c.in-Some.close in
    let begin = c.in-Some-last_place.open in
    let within : close < length text = c.in-Some.ensures.0 in
    let taken = c.in-Some-last_place.ensures.0 in
    let order : begin < close = omega (arith, length-take close text) in
    let opens : get_or text begin 0 ≡ 91 = sym (get_or-take close text begin 0 order) ∙ c.in-Some-last_place.ensures.1 in
    record {
      before = omega arith;
      after = omega arith;
      is = around_index text (slice_range text (begin + 1) close) begin close c.in-Some-2.number order within opens c.in-Some.ensures.1 refl
          (rw c.in-Some-2.is at c.in_ok-written_number.ensures);
    }
