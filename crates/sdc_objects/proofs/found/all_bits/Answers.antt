use Rattle.std.proofs.Common.{refl, arith, ◌<◌, length, ap, ◌∙◌, [], ◌∷◌, ◌++◌}
use Rattle.linked_types.specs.declared.names.PortName.{PortName}
use Rattle.sdc_objects.specs.Things.{bit_of}
use Rattle.sdc_objects.specs.declared.things.Thing.{Thing}
use Rattle.list_laws.proofs.Joining.{added_any}
use Rattle.sdc_objects.proofs.found.all_bits.Goals as goal

pub loop-place-preserved : goal.loop-place-preserved
loop-place-preserved c =
    let low : c.loop-place.place < length c.args.ports.now = omega (arith, c.loop-place-test.true, c.len-place-end.ensures, c.loop-place.auto.place-end) in
    added_any (λ place (p : PortName). bit_of c.args.side place ∷ []) c.args.ports.now [] c.loop-place.found c.push.new.self
    (bit_of c.args.side c.loop-place.place ∷ []) c.loop-place.place low (λ x. refl) c.loop-place.invariant
    (c.in_ok-push.ensures.ok ∙ ap (λ (t : Thing). c.loop-place.found ++ t ∷ []) c.bit_of.ensures)
