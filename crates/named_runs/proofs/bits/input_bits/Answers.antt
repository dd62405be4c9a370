use Rattle.std.proofs.Common.{arith, [], ◌∷◌, ◌++◌, ◌∙◌, ap}
use Rattle.wave_signals.specs.Numbered.{numbered}
use Rattle.wave_signals.proofs.Adding.{numbered_added}
use Rattle.wave_signals.specs.declared.bits.NamedBit.{NamedBit}
use Rattle.linked_types.specs.Inputs.{input_names}
use Rattle.named_runs.specs.NamedBits as spec
use Rattle.named_runs.proofs.bits.input_bits.Goals as goal

pub loop-place-init : goal.loop-place-init
unfolding numbered
loop-place-init c = c.new-bits.ensures.items

pub loop-place-preserved : goal.loop-place-preserved
loop-place-preserved c =
    numbered_added (spec.input_bit c.args.run.now) 0 c.loop-place.place c.loop-place.place (input_names c.args.names.now)
    c.input.result.now [] c.loop-place.bits.items
    c.push.new.self.items c.input.ensures (omega arith) c.loop-place.invariant
    (c.in_ok-push.ensures.items ∙ ap (λ (b : NamedBit). c.loop-place.bits.items ++ b ∷ []) c.in_ok-named_bit.ensures)
