-- What is asked of runs from reset and of stretches.
use Rattle.std.proofs.Common.{◌≡◌, Bool, true, false, [], ◌∷◌, refl, ap, arith}
use Rattle.sdcv_base.specs.declared.kinds.Kind.TheVariants.{Multi}
use Rattle.sdcv_base.specs.declared.kinds.Edge.TheVariants.{Any}
use Rattle.net_model.specs.declared.netlist.Design.{Design}
use Rattle.net_model.specs.declared.claims.Claim.{Claim}
use Rattle.net_model.specs.declared.claims.Start.TheVariants.{Reg as RegStart}
use Rattle.net_model.specs.declared.claims.End.TheVariants.{Reg as RegEnd}
use Rattle.net_model.specs.declared.cycles.Cycle.{Cycle}
use Rattle.net_model.specs.declared.invariants.InvClause.{InvClause}
use Rattle.net_model.specs.declared.queries.Phase.TheVariants.{Base, Step}
use Rattle.net_model.specs.Queries.{Query, Violates, claim_query, clause_query, clause_holds}

-- a design with three reset cycles
abbrev design : Design
design = record { nets = 0; gates = []; regs = []; inputs = []; outputs = []; fixed = []; resets = []; reset_len = 3 }

-- a multicycle claim, of which one capture is judged
abbrev claim : Claim
claim = record { kind = Multi 2; edge = Any; lag = 0; hazard = false; early = false; start = RegStart 0; end = RegEnd 0; through = [] }

-- register 0 is 1, or register 1 is 0
abbrev clause : InvClause
clause = record { lits = (record { reg = 0; value = true }) ∷ (record { reg = 1; value = false }) ∷ [] }

-- a cycle with these bits of the two registers
abbrev cycle : Bool → Bool → Cycle
cycle a b = record { bits = a ∷ b ∷ []; ins = []; nets = [] }

-- at depth 2 a step query is about four cycles, up to the capture that is judged
step_query_at_depth_2_has_four_cycles : (claim_query design claim Step 2 []).cycles ≡ 4
step_query_at_depth_2_has_four_cycles = refl

-- and asks for a violation at offset 2, where there is none at 0 and 1
step_query_asks_for_the_first_violation_at_its_depth : (claim_query design claim Step 2 []).question ≡ Violates claim 2 2
step_query_asks_for_the_first_violation_at_its_depth = refl

-- so it is another one than that at half the depth
step_query_at_half_the_depth_is_another : ¬ (claim_query design claim Step 2 [] ≡ claim_query design claim Step 1 [])
step_query_at_half_the_depth_is_another same = omega (arith, ap (λ (q : Query). q.cycles) same)

-- a base query begins with the reset cycles
base_query_begins_with_the_reset : (claim_query design claim Base 2 []).live ≡ 3
base_query_begins_with_the_reset = refl

-- so it has three cycles more than the step query
base_query_at_depth_2_has_seven_cycles : (claim_query design claim Base 2 []).cycles ≡ 7
base_query_at_depth_2_has_seven_cycles = refl

-- and knows of no violation before, nor of a kept clause
base_query_knows_nothing_of_earlier_offsets : (claim_query design claim Base 2 []).question ≡ Violates claim 2 0
base_query_knows_nothing_of_earlier_offsets = refl

-- no kept clause is taken for granted from reset
base_query_assumes_no_clause : (claim_query design claim Base 2 (clause ∷ [])).kept_below ≡ 0
base_query_assumes_no_clause = refl

-- a step query of a claim has the kept clauses in every cycle
step_query_assumes_the_clauses_in_every_cycle : (claim_query design claim Step 2 (clause ∷ [])).kept_below ≡ 4
step_query_assumes_the_clauses_in_every_cycle = refl

-- and that of a clause in every cycle but the last
step_query_of_a_clause_does_not_assume_it_in_its_last_cycle : (clause_query design (clause ∷ []) clause Step 2).kept_below ≡ 2
step_query_of_a_clause_does_not_assume_it_in_its_last_cycle = refl

-- a clause holds where one literal is true
clause_holds_where_a_literal_is_true : clause_holds (cycle false false) clause ≡ true
clause_holds_where_a_literal_is_true = refl

-- where none is true it fails
clause_fails_where_no_literal_is_true : clause_holds (cycle false true) clause ≡ false
clause_fails_where_no_literal_is_true = refl

-- a clause without literals is never true
empty_clause_never_holds : clause_holds (cycle true true) (record { lits = [] }) ≡ false
empty_clause_never_holds = refl
