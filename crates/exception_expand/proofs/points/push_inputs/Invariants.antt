use Rattle.std.proofs.Common.{ℕ, ◌≡◌, ◌++◌, ◌∷◌, [], take}
use Rattle.net_model.specs.declared.claims.Start.TheVariants.{Input as InputStart}
use Rattle.sdcv_base.specs.Seqs.{each_at}
use Rattle.exception_expand.proofs.points.push_inputs.Given as goal

abbrev pub invariant-loop-input : goal.invariant-loop-input
invariant-loop-input l = l.starts ≡ l.fn.starts ++ each_at (λ i (net : ℕ). InputStart i ∷ []) 0 (take l.input l.design.inputs)
