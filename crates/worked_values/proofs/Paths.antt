-- Paths, and the through sets that they meet.
use Rattle.std.proofs.Common.{◌≡◌, zero, suc, ◌≤◌, [], ◌∷◌, Some, None, refl, sym, subst, arith}
use Rattle.std.specs.Prelude.{Contains}
use Rattle.net_model.specs.Form.{PinForm}
use Rattle.net_model.specs.declared.claims.PinRef.TheVariants.{Net, GateIn, RegIn, OutPort}
use Rattle.net_model.specs.declared.claims.Start.TheVariants.{Reg as RegStart}
use Rattle.net_model.specs.declared.claims.End.TheVariants.{Reg as RegEnd, Output as OutputEnd}
use Rattle.net_model.specs.Paths.{LeadsTo, HasPath, Meets, To_gate, Through_gate, To_reg, To_output}
use Rattle.net_paths.specs.Levels.{advanced, MeetsAllAt}
use Rattle.worked_values.specs.Designs.{flop, buffer, looped, in_order}

-- the buffer's pin meets the first set, and not the second
first_set_is_met_before_the_second : advanced in_order 0 (GateIn 0 0) ≡ 1
unfolding advanced
first_set_is_met_before_the_second = refl

-- a pin of the last set alone meets none
last_set_is_not_met_first : advanced in_order 0 (Net 2) ≡ 0
unfolding advanced
last_set_is_not_met_first = refl

-- and after the first set it meets that one
last_set_is_met_after_the_first : advanced in_order 1 (Net 2) ≡ 2
unfolding advanced
last_set_is_met_after_the_first = refl

-- one pin may meet several sets
one_pin_meets_two_sets : advanced ((Net 2 ∷ []) ∷ (Net 1 ∷ Net 2 ∷ []) ∷ []) 0 (Net 2) ≡ 2
unfolding advanced
one_pin_meets_two_sets = refl

-- where the last of two sets was not met before the end's pin, and doesn't have it, not all are met
path_that_misses_the_last_set_meets_not_all : ¬ MeetsAllAt in_order (None ∷ None ∷ Some 1 ∷ []) (RegIn 0 0) 2
unfolding advanced
path_that_misses_the_last_set_meets_not_all (before, level, enough) =
    let same : 1 ≡ before = cc in omega (arith, subst (λ n. 2 ≤ advanced in_order n (RegIn 0 0)) (sym same) enough)

-- and where the end's pin is in the last set, they are
path_that_meets_the_last_set_at_its_end_meets_all : MeetsAllAt ((Net 2 ∷ []) ∷ (RegIn 0 0 ∷ []) ∷ []) (None ∷ None ∷ Some 1 ∷ []) (RegIn 0 0) 2
unfolding advanced
path_that_meets_the_last_set_at_its_end_meets_all = (1, refl, omega arith)

-- the register's net leads through the buffer's pin to its output
through_the_buffer : LeadsTo looped (Net 1) (GateIn 0 0) × LeadsTo looped (GateIn 0 0) (Net 2)
through_the_buffer = (To_gate 0 (buffer 1 2) 0 refl (omega arith), Through_gate 0 (buffer 1 2) 0 refl (omega arith))

-- a path leads from the register through the buffer to itself, and meets both sets in their order
pub register_has_a_path_to_itself : HasPath looped (RegStart 0) (RegEnd 0) in_order
register_has_a_path_to_itself = (
  Net 1 ∷ GateIn 0 0 ∷ Net 2 ∷ RegIn 0 0 ∷ [],
  ((1, (0, omega arith, refl), refl), (through_the_buffer.0, (through_the_buffer.1, (To_reg 0 (flop (PinForm 0) (2 ∷ []) 1) 0 refl (omega arith), (0, refl))))),
  (1, (GateIn 0 0, refl, (0, omega arith, refl)), (1, (Net 2, refl, (0, omega arith, refl)), tt)),
)

-- and one to the output port
output_port_ends_a_path : HasPath looped (RegStart 0) (OutputEnd 0) []
output_port_ends_a_path = (
  Net 1 ∷ GateIn 0 0 ∷ Net 2 ∷ OutPort 0 ∷ [],
  ((1, (0, omega arith, refl), refl), (through_the_buffer.0, (through_the_buffer.1, (To_output 0 (omega arith), refl)))),
  tt,
)

-- the buffer's output is none of its input pins
output_is_no_input_pin : ¬ Contains (GateIn 0 0 ∷ []) (Net 2)
output_is_no_input_pin (zero, below, is) = cc
output_is_no_input_pin (suc k, below, is) = omega (arith, below)

-- nor is the input pin the output
input_pin_is_no_output : ¬ Contains (Net 2 ∷ []) (GateIn 0 0)
input_pin_is_no_output (zero, below, is) = cc
input_pin_is_no_output (suc k, below, is) = omega (arith, below)

-- after the output no pin of the path meets the first set
set_is_not_met_after_its_pin : ¬ Meets ((GateIn 0 0 ∷ []) ∷ []) (Net 2 ∷ [])
set_is_not_met_after_its_pin (zero, (pin, at, is), rest) =
    let same : Net 2 ≡ pin = cc in output_is_no_input_pin (subst (λ p. Contains (GateIn 0 0 ∷ []) p) (sym same) is)
set_is_not_met_after_its_pin (suc place, (pin, at, is), rest) = cc

-- so on a path of these pins the sets are not met in the other order
sets_are_not_met_in_the_other_order : ¬ Meets ((Net 2 ∷ []) ∷ (GateIn 0 0 ∷ []) ∷ []) (GateIn 0 0 ∷ Net 2 ∷ [])
sets_are_not_met_in_the_other_order (zero, (pin, at, is), rest) =
    let same : GateIn 0 0 ≡ pin = cc in input_pin_is_no_output (subst (λ p. Contains (Net 2 ∷ []) p) (sym same) is)
sets_are_not_met_in_the_other_order (suc zero, chosen, rest) = set_is_not_met_after_its_pin rest
sets_are_not_met_in_the_other_order (suc (suc place), (pin, at, is), rest) = cc
