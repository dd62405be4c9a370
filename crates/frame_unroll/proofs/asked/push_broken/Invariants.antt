use Rattle.std.proofs.Common.{◌≡◌, ◌++◌, ◌∷◌, [], map, take}
use Rattle.query_model.specs.Keys.{opposite}
use Rattle.frame_unroll.proofs.asked.push_broken.Given as goal

abbrev pub invariant-loop-lit : goal.invariant-loop-lit
invariant-loop-lit l = l.asked ≡ l.initial.asked ++ map (λ l. opposite l ∷ []) (take l.lit-index l.lits)
