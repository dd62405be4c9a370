-- The pairs of a selection, each with its claim and its verdict.
use Rattle.std.specs.Prelude.{◌≡◌, ℕ, ◌+◌, List, [], ◌∷◌, ◌++◌, length}
use Rattle.net_model.specs.declared.claims.Claim.{Claim}
use Rattle.selected_types.specs.declared.selections.PairLine.{PairLine}
use Rattle.selected_types.specs.declared.selections.Selected.{Selected}
use Rattle.verdict_types.specs.declared.outcomes.Verdict.{Verdict}

-- each pair has one claim and one verdict
pub record HasRows (selected : Selected) (verdicts : List Verdict) : Type 0 where
  pub claims : length selected.claims ≡ length selected.pairs
  pub found : length verdicts ≡ length selected.pairs

-- what a function gives for each pair, its number, its claim and its verdict, joined in order; the numbers begin with this one
abbrev pub each_pair : {B : Type 0} → (ℕ → PairLine → Claim → Verdict → List B) → ℕ → List PairLine → List Claim → List Verdict → List B
each_pair f number [] claims verdicts = []
each_pair f number (p ∷ pairs) [] verdicts = []
each_pair f number (p ∷ pairs) (c ∷ claims) [] = []
each_pair f number (p ∷ pairs) (c ∷ claims) (v ∷ verdicts) = f number p c v ++ each_pair f (number + 1) pairs claims verdicts
