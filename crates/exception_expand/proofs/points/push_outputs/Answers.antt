use Rattle.std.proofs.Common.{ℕ, arith, ◌<◌, length, refl, [], ◌∷◌}
use Rattle.net_model.specs.declared.claims.End.TheVariants.{Output as OutputEnd}
use Rattle.list_laws.proofs.Joining.{added_any}
use Rattle.exception_expand.proofs.points.push_outputs.Goals as goal

pub loop-output-preserved : goal.loop-output-preserved
loop-output-preserved c =
    let low : c.loop-output.output < length c.args.design.now.outputs = omega
    (arith, c.loop-output-test.true, c.len-output-end.ensures, c.loop-output.auto.output-end) in
    added_any (λ o (net : ℕ). OutputEnd o ∷ []) c.args.design.now.outputs c.args.ends.now c.loop-output.ends c.push.new.self
    (OutputEnd c.loop-output.output ∷ [])
    c.loop-output.output low (λ x. refl) c.loop-output.invariant c.in_ok-push.ensures.ok
