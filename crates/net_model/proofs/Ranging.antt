-- Numbers of ports that are out of range.
use Rattle.std.proofs.Common.{ℕ, suc, List, [], ◌∷◌, ◌++◌, length, ◌<◌, arith}
use Rattle.std.specs.Prelude.{Option, Some, None, MatchOption, All}
use Rattle.std.specs.Option.{option_or}
use Rattle.std.proofs.lemmas.List.Elements.{All-append, Contains-append_left, Contains-append_right}
use Rattle.net_model.specs.Netlist.{AllBelow, setting_inputs}
use Rattle.net_model.specs.Faults.{IsBeyond, IsOutOfRange, OfInputs, OfOutputs, OfHeld, ArePortsInRange}
use Rattle.net_model.specs.declared.netlist.Design.{Design}

-- what holds of all of two lists holds of all of the second
pub all_right : {X : Type 0} (P : X → Type 0) (xs ys : List X) → All P (xs ++ ys) → All P ys
all_right P [] ys all = all
all_right P (x ∷ rest) ys all = all_right P rest ys (λ k d lt. all (suc k) d (omega arith))

-- the first of four searches that finds a number
pub ports : (d : Design) (inputs outputs fixed resets : Option ℕ) → MatchOption inputs (AllBelow d.nets d.inputs) (IsBeyond d.nets d.inputs)
    → MatchOption outputs (AllBelow d.nets d.outputs) (IsBeyond d.nets d.outputs)
    → MatchOption fixed (AllBelow (length d.inputs) (setting_inputs d.fixed)) (IsBeyond (length d.inputs) (setting_inputs d.fixed))
    → MatchOption resets (AllBelow (length d.inputs) (setting_inputs d.resets)) (IsBeyond (length d.inputs) (setting_inputs d.resets))
    → MatchOption (option_or (option_or (option_or inputs outputs) fixed) resets) (ArePortsInRange d) (IsOutOfRange d)
ports d (Some n) outputs fixed resets i o f r = OfInputs i
ports d None (Some n) fixed resets i o f r = OfOutputs o
ports d None None (Some n) resets i o f r =
    OfHeld (record { listed = Contains-append_left (setting_inputs d.fixed) (setting_inputs d.resets) n f.listed; beyond = f.beyond })
ports d None None None (Some n) i o f r =
    OfHeld (record { listed = Contains-append_right (setting_inputs d.fixed) (setting_inputs d.resets) n r.listed; beyond = r.beyond })
ports d None None None None i o f r =
    record { inputs = i; outputs = o; held = All-append (λ n. n < length d.inputs) (setting_inputs d.fixed) (setting_inputs d.resets) f r }
