use Rattle.std.proofs.Common.{ℕ, ◌≡◌, ◌++◌, ◌∷◌, [], take}
use Rattle.net_model.specs.declared.claims.End.TheVariants.{Output as OutputEnd}
use Rattle.sdcv_base.specs.Seqs.{each_at}
use Rattle.exception_expand.proofs.points.push_outputs.Given as goal

abbrev pub invariant-loop-output : goal.invariant-loop-output
invariant-loop-output l = l.ends ≡ l.fn.ends ++ each_at (λ o (net : ℕ). OutputEnd o ∷ []) 0 (take l.output l.design.outputs)
