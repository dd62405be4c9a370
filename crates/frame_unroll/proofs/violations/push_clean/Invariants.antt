use Rattle.std.proofs.Common.{◌≡◌, ◌++◌, ◌∷◌, List, false, map, take}
use Rattle.query_model.specs.Keys.{lit, opposite}
use Rattle.query_model.specs.Defined.{toggle_key}
use Rattle.query_model.specs.declared.keys.KeyLit.{KeyLit}
use Rattle.frame_unroll.proofs.violations.push_clean.Given as goal

abbrev pub invariant-loop-conditions : goal.invariant-loop-conditions
invariant-loop-conditions l =
    l.asked ≡ l.initial.asked ++ map (λ (conditions : List KeyLit). lit false (toggle_key l.design l.cycle) ∷ map opposite conditions)
    (take l.conditions-index l.conditions-items)
