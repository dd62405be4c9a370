-- Which multiplier of a pair is found.
use Rattle.std.proofs.Common.{false, List, Some, None, refl, arith}
use Rattle.net_model.specs.declared.netlist.Design.{Design}
use Rattle.net_model.specs.declared.claims.Claim.{Claim}
use Rattle.net_model.specs.declared.invariants.InvClause.{InvClause}
use Rattle.verdict_types.specs.declared.outcomes.Cause.{Cause}
use Rattle.verdict_types.specs.declared.outcomes.Proof.{Proof}
use Rattle.verdict_types.specs.declared.outcomes.Verdict.{Verdict}
use Rattle.verdict_types.specs.declared.outcomes.Verdict.TheVariants.{Justified, Undecided}
use Rattle.mcp_detect.specs.declared.options.DetectOptions.{DetectOptions}
use Rattle.mcp_detect.specs.Detections.{IsJustified, IsStop}
use Rattle.mcp_detect.specs.Options.{AreInRange}

-- an undecided claim is not justified
undecided_claim_is_not_justified : (cause : Cause) → ¬ IsJustified (Undecided cause)
undecided_claim_is_not_justified cause (proof, same) = cc

-- a justified one is
justified_claim_is_justified : (proof : Proof) → IsJustified (Justified proof)
justified_claim_is_justified proof = (proof, refl)

-- multipliers up to 4 are tried
abbrev options : DetectOptions
options = record { bound = 4; depth = 2; budget = 100; inv_depth = 1; hazard = false }

-- at the bound no verdict on a next multiplier is told, since none is tried
multiplier_past_the_bound_is_not_tried : (d : Design) (kept : List InvClause) (claim : Claim) (verdict : Verdict)
    → ¬ IsStop d options kept claim 4 (Some verdict)
multiplier_past_the_bound_is_not_tried d kept claim verdict stop = omega (arith, stop.0)

-- below it the search ends with a verdict on the next one
search_that_ends_below_the_bound_tells_why : (d : Design) (kept : List InvClause) (claim : Claim) → ¬ IsStop d options kept claim 1 None
search_that_ends_below_the_bound_tells_why d kept claim stop = omega (arith, stop)

-- at the bound it ends without
search_ends_at_the_bound : (d : Design) (kept : List InvClause) (claim : Claim) → IsStop d options kept claim 4 None
search_ends_at_the_bound d kept claim = refl

-- a bound of 1 claims nothing
bound_of_1_is_refused : ¬ AreInRange (record options { bound = 1 })
bound_of_1_is_refused range = omega (arith, range.some)
