use Rattle.std.proofs.Common.{ℕ, arith, ◌<◌, length, refl, [], ◌∷◌}
use Rattle.net_model.specs.declared.claims.Start.TheVariants.{Input as InputStart}
use Rattle.list_laws.proofs.Joining.{added_any}
use Rattle.exception_expand.proofs.points.push_inputs.Goals as goal

pub loop-input-preserved : goal.loop-input-preserved
loop-input-preserved c =
    let low : c.loop-input.input < length c.args.design.now.inputs = omega
    (arith, c.loop-input-test.true, c.len-input-end.ensures, c.loop-input.auto.input-end) in
    added_any (λ i (net : ℕ). InputStart i ∷ []) c.args.design.now.inputs c.args.starts.now c.loop-input.starts c.push.new.self
    (InputStart c.loop-input.input ∷ [])
    c.loop-input.input low (λ x. refl) c.loop-input.invariant c.in_ok-push.ensures.ok
