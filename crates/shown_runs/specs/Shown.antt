-- What is shown of a run that violates a claim.
use Rattle.std.specs.Prelude.{◌≡◌, ℕ, ◌-◌, Bool, true, false, List, length, flat_map, Option, Some, None, slice_get, IsPermutation}
use Rattle.net_model.specs.declared.netlist.Design.{Design}
use Rattle.net_model.specs.declared.cycles.Cycle.{Cycle}
use Rattle.net_model.specs.declared.cycles.Stimulus.{Stimulus}
use Rattle.net_model.specs.declared.claims.Claim.{Claim}
use Rattle.net_model.specs.declared.claims.End.{End}
use Rattle.net_model.specs.declared.claims.End.TheVariants.{Reg as RegEnd, Output as OutputEnd}
use Rattle.linked_types.specs.declared.names.Linked.{Linked}
use Rattle.wave_signals.specs.Signals.{bits_of}
use Rattle.linked_types.specs.Inputs.{input_names}
use Rattle.named_runs.specs.NamedBits.{input_bits, reg_bits}
use Rattle.run_views.specs.declared.outcomes.Violation.{Violation}
use Rattle.shown_runs.specs.Watches.{watched_bits}
use Rattle.shown_runs.specs.Lates.{IsLateIn}
use Rattle.shown_runs.specs.DontCares.{AreDontCares}
use Rattle.shown_runs.specs.declared.watches.Watched.TheVariants.{Start, State, Capture}
use Rattle.shown_runs.specs.declared.lates.Late.{Late}
use Rattle.shown_runs.specs.declared.runs.ShownRun.{ShownRun}

-- the states of an end that is a register, and none of an output
abbrev pub AreEndStates : Design → List Cycle → End → Option (List Bool) → Type 0
AreEndStates d run (RegEnd r) states = states ≡ Some (watched_bits d (State r) run)
AreEndStates d run (OutputEnd o) states = states ≡ None

-- the cycle whose bit of the start the judged one is tried with: the cycle before the toggle, or on the early side the toggle's
abbrev pub cycle_across : Bool → ℕ → ℕ
cycle_across false toggle = toggle - 1
cycle_across true toggle = toggle

-- that cycle, and the judged one with what is late in it
pub record IsLateShown (l : Linked) (claim : Claim) (v : Violation) (t : Late) : Type 0 where
  pub across : Cycle
  pub now : Cycle
  pub across_at : slice_get v.run (cycle_across claim.early v.toggle) ≡ Some across
  pub now_at : slice_get v.run v.judged ≡ Some now
  pub is_late : IsLateIn l claim across now t

-- all that is shown is what the run of the stimulus has: its cycles, the side, the toggle and the judged cycle; the inputs in port order,
-- and which of their bits are don't-cares; the bits of the start, of the end and of the captures; each register once; and what is late
pub record IsShown (l : Linked) (claim : Claim) (stimulus : Stimulus) (v : Violation) (s : ShownRun) : Type 0 where
  pub count : s.cycles ≡ length v.run
  pub side_is : s.early ≡ claim.early
  pub toggle_is : s.toggle ≡ v.toggle
  pub judged_is : s.judged ≡ v.judged
  pub ins : flat_map bits_of s.inputs ≡ input_bits (input_names l.names) v.run
  pub dont_cares : AreDontCares l claim stimulus v.toggle s.dont_cares
  pub starts : s.start ≡ watched_bits l.design (Start claim.start) v.run
  pub ends : AreEndStates l.design v.run claim.end s.end
  pub captures : s.captured ≡ watched_bits l.design (Capture claim.end) v.run
  pub registers : IsPermutation (reg_bits l.names.cells v.run) (flat_map bits_of s.regs)
  pub lates : IsLateShown l claim v s.late
