-- A data input whose net a place is.
use Rattle.std.proofs.Common.{arith, ◌≡◌, ◌≢◌, ℕ, Bool, List, [], ◌∷◌, flat_map, get_or, refl}
use Rattle.std.specs.Prelude.{Option, Some, None, All}
use Rattle.std.proofs.lemmas.List.Elements.{All-append, All-map}
use Rattle.net_model.specs.declared.netlist.Design.{Design}
use Rattle.linked_types.specs.declared.names.Linked.{Linked}
use Rattle.script_types.specs.declared.objects.Object.{Object}
use Rattle.script_types.specs.declared.scripts.What.{What}
use Rattle.script_types.specs.declared.scripts.What.TheVariants.{Clock, Case, Claiming, Hold, Aside, Passed, Unjudged, Scope, Generated, Delay}
use Rattle.script_types.specs.declared.scripts.Command.{Command}
use Rattle.script_types.specs.declared.scripts.Script.{Script}
use Rattle.case_objects.specs.declared.values.CaseValue.{CaseValue}
use Rattle.case_objects.specs.Values.{number_of, input_of_net, sole_net, object_values, values_by, command_values, case_values}
use Rattle.case_objects.specs.Values.{value_on, place_of}
use Rattle.case_objects.specs.CaseObjects.{resets_input}
use Rattle.case_objects.specs.Spots.{spots}
use Rattle.case_objects.specs.Stages.{IsInputOf}
use Rattle.case_objects.proofs.Numbering.{number_within}

number_of_input : (d : Design) (net : ℕ) (o : Option ℕ) → number_of net d.inputs ≡ o → IsInputOf d o
number_of_input d net None is = tt
number_of_input d net (Some i) is = number_within net d.inputs i is

net_of_input : (d : Design) (o : Option ℕ) → IsInputOf d (input_of_net d o)
net_of_input d None = tt
net_of_input d (Some net) = number_of_input d net (number_of net d.inputs) refl

abbrev Fits : Linked → CaseValue → Type 0
Fits l v = IsInputOf l.design v.input

objects_fit : (l : Linked) (line : ℕ) (value : Bool) (os : List Object) → All (Fits l) (flat_map (object_values l line value) os)
objects_fit l line value [] = λ i d low. absurd (omega (arith, low))
objects_fit l line value (o ∷ os) =
    All-append (Fits l) (object_values l line value o) (flat_map (object_values l line value) os)
    (All-map (Fits l) (value_on l line value) (spots l.names o) (λ i s low.
    net_of_input l.design (sole_net (place_of l (get_or (spots l.names o) i s))))) (objects_fit l line value os)

what_fits : (l : Linked) (line : ℕ) (what : What) → All (Fits l) (values_by l line what)
what_fits l line (Case value objects) = objects_fit l line value objects
what_fits l line (Clock name source) = λ i d low. absurd (omega (arith, low))
what_fits l line (Claiming e) = λ i d low. absurd (omega (arith, low))
what_fits l line (Hold h) = λ i d low. absurd (omega (arith, low))
what_fits l line (Aside option) = λ i d low. absurd (omega (arith, low))
what_fits l line Passed = λ i d low. absurd (omega (arith, low))
what_fits l line (Unjudged name) = λ i d low. absurd (omega (arith, low))
what_fits l line (Scope name) = λ i d low. absurd (omega (arith, low))
what_fits l line (Generated name objects) = λ i d low. absurd (omega (arith, low))
what_fits l line (Delay output clocks objects) = λ i d low. absurd (omega (arith, low))

commands_fit : (l : Linked) (cs : List Command) → All (Fits l) (flat_map (command_values l) cs)
commands_fit l [] = λ i d low. absurd (omega (arith, low))
commands_fit l (c ∷ cs) =
    All-append (Fits l) (command_values l c) (flat_map (command_values l) cs) (what_fits l c.line c.what) (commands_fit l cs)

-- each value that fixes an input fixes one of the design
pub inputs_of : (l : Linked) (script : Script) → All (λ (v : CaseValue). IsInputOf l.design v.input) (case_values l script)
unfolding case_values
inputs_of l script = commands_fit l script.commands

-- where no input is fixed, no reset is
pub no_input_resets : (d : Design) (o : Option ℕ) → ((i : ℕ) → o ≢ Some i) → resets_input d o → ⊥
no_input_resets d None none resets = resets
no_input_resets d (Some i) none resets = none i refl
