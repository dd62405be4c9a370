-- What a clause does under the literals that are set.
use Rattle.std.specs.Prelude.{ℕ, if◌then◌else◌, List, [], ◌∷◌}
use Rattle.proof_log.specs.Clauses.{is_set, open_literals}
use Rattle.proof_log.specs.declared.effects.Effect.{Effect}
use Rattle.proof_log.specs.declared.effects.Effect.TheVariants.{Falsified, Sets, Neither}

-- what a clause does whose literals that are not false are these
abbrev pub effect_of_open : List ℕ → List ℕ → Effect
effect_of_open set [] = Falsified
effect_of_open set (u ∷ []) = if is_set set u then Neither else Sets u
effect_of_open set (u ∷ (w ∷ more)) = Neither

abbrev pub effect_of : List ℕ → List ℕ → Effect
effect_of set clause = effect_of_open set (open_literals set clause)
