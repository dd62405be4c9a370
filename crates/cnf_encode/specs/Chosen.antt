-- Literals chosen by what a cube fixes.
use Rattle.std.specs.Prelude.{List, [], ◌∷◌}
use Rattle.net_model.specs.declared.terns.Tern.{Tern}
use Rattle.net_model.specs.declared.terns.Tern.TheVariants.{Zero, One, Unknown}

-- of each place that is fixed, the item for 0 or the one for 1
abbrev pub chosen : {X : Type 0} → List X → List X → List Tern → List X
chosen (z ∷ zs) (o ∷ os) (Zero ∷ ts) = z ∷ chosen zs os ts
chosen (z ∷ zs) (o ∷ os) (One ∷ ts) = o ∷ chosen zs os ts
chosen (z ∷ zs) (o ∷ os) (Unknown ∷ ts) = chosen zs os ts
chosen _ _ _ = []
