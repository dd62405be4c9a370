-- What is told of a refutation, worked out by hand: of a design whose second input is free.
use Rattle.std.proofs.Common.{◌≡◌, ℕ, refl, arith, inl, inr}
use Rattle.net_model.specs.declared.cycles.Stimulus.{Stimulus}
use Rattle.firm_runs.specs.Frees.{LeavesOpen}
use Rattle.firm_runs.proofs.Worked.{wires, second_free, path, both_rise, port_to_output_is_firm, free_input_to_output_is_not_firm}
use Rattle.verdict_types.specs.declared.outcomes.Cause.TheVariants.{Free}
use Rattle.verdict_types.specs.declared.outcomes.Verdict.TheVariants.{Refuted, Undecided}
use Rattle.told_verdicts.specs.Tolds.{Stands, IsToldOf}

something_is_open : LeavesOpen (wires 1) second_free
something_is_open = inl (omega arith)

does_not_stand : ¬ Stands (wires 1) second_free path 0 both_rise
does_not_stand (inl closed) = closed something_is_open
does_not_stand (inr shown) = free_input_to_output_is_not_firm shown

refuted_apart : (offset : ℕ) (s : Stimulus) → Refuted offset s ≡ Undecided (Free offset s) → ⊥
refuted_apart offset s e = cc

-- by the free input alone: it is told undecided
by_a_free_input_is_undecided : IsToldOf (wires 1) second_free path (Refuted 0 both_rise) (Undecided (Free 0 both_rise))
by_a_free_input_is_undecided = inr (does_not_stand, refl)

-- and not told refuted without asking
by_a_free_input_is_not_refuted : ¬ IsToldOf (wires 1) second_free path (Refuted 0 both_rise) (Refuted 0 both_rise)
by_a_free_input_is_not_refuted (inl stands) = does_not_stand stands.0
by_a_free_input_is_not_refuted (inr falls) = refuted_apart 0 both_rise falls.1

-- by the port: it stays refuted, though an input is free
by_a_port_is_refuted : IsToldOf (wires 0) second_free path (Refuted 0 both_rise) (Refuted 0 both_rise)
by_a_port_is_refuted = inl (inr port_to_output_is_firm, refl)

undecided_apart : (offset : ℕ) (s : Stimulus) → Undecided (Free offset s) ≡ Refuted offset s → ⊥
undecided_apart offset s e = cc

-- and is not told undecided
by_a_port_is_not_undecided : ¬ IsToldOf (wires 0) second_free path (Refuted 0 both_rise) (Undecided (Free 0 both_rise))
by_a_port_is_not_undecided (inl stands) = undecided_apart 0 both_rise stands.1
by_a_port_is_not_undecided (inr falls) = falls.0 (inr port_to_output_is_firm)
