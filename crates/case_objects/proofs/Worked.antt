-- Case analyses on ports, pins and nets, worked out by hand.
use Rattle.std.proofs.Common.{arith, ◌≡◌, ℕ, Bool, true, false, List, [], ◌∷◌, Some, None, flat_map, refl}
use Rattle.std.specs.Prelude.{codes}
use Rattle.glob.specs.Match.{matches_whole, star}
use Rattle.net_model.specs.Form.{PinForm, AndForm}
use Rattle.net_model.specs.Paths.{To_gate}
use Rattle.net_model.specs.declared.netlist.Design.{Design}
use Rattle.net_model.specs.declared.claims.PinRef.{PinRef}
use Rattle.net_model.specs.declared.claims.PinRef.TheVariants.{Net, GateIn, RegIn, OutPort}
use Rattle.linked_types.specs.declared.names.Linked.{Linked}
use Rattle.linked_types.specs.declared.names.CellName.{CellName}
use Rattle.linked_types.specs.declared.names.PinRole.TheVariants.{Clock as ClockRole, Load, Drive, Source, Sink}
use Rattle.script_types.specs.declared.objects.Class.{Class}
use Rattle.script_types.specs.declared.objects.Class.TheVariants as class
use Rattle.script_types.specs.declared.objects.Object.{Object}
use Rattle.script_types.specs.declared.objects.Object.TheVariants.{Named, AllInputs, AllOutputs, AllRegisters}
use Rattle.script_types.specs.declared.scripts.Command.{Command}
use Rattle.script_types.specs.declared.scripts.Script.{Script}
use Rattle.script_types.specs.declared.scripts.What.TheVariants.{Case, Passed}
use Rattle.selected_types.specs.declared.faults.ExpandFault.TheVariants.{CaseTwice, CaseOnReset, CaseOnPin}
use Rattle.sdc_objects.specs.declared.things.Thing.TheVariants.{ClockPort}
use Rattle.case_inputs.specs.Assumed.{assumed_design}
use Rattle.case_objects.specs.declared.values.CaseValue.{CaseValue}
use Rattle.case_objects.specs.declared.spots.Spot.{Spot}
use Rattle.case_objects.specs.declared.subjects.Subject.TheVariants.{Input as InputSubject, Load as LoadSubject}
use Rattle.case_objects.specs.Spots.{is_port_object}
use Rattle.case_objects.specs.Values.{HasPlaces, case_values}
use Rattle.case_objects.specs.CaseObjects.{assumed_of, names_of, told_of, more_fixed}
use Rattle.case_objects.specs.Causes.{IsCaseCause}

-- module top (input clk, d, a, output y); wire q, w, n; AND2 g (.A(q), .B(w), .Y(n)); DFF s (.D(n), .CK(clk), .Q(q)); RAM m (.I(a), .O(w));
-- assign y = q; endmodule, where m is cut out, so that w is a free input, and a is a reset
abbrev design : Design
design = record {
  nets = 5;
  gates = record { func = AndForm (PinForm 0) (PinForm 1); ins = 4 ∷ 2 ∷ []; out = 3 } ∷ [];
  regs = record {
    next = PinForm 0;
    clear = None;
    preset = None;
    both = false;
    ins = 3 ∷ [];
    outs = record { net = 4; inverted = false } ∷ [];
  } ∷ [];
  inputs = 0 ∷ 1 ∷ 2 ∷ [];
  outputs = 4 ∷ 1 ∷ [];
  fixed = [];
  resets = record { input = 1; value = true } ∷ [];
  reset_len = 1;
}

abbrev cell_g : CellName
cell_g = record {
  name = codes "g";
  reg = None;
  outs = 3 ∷ [];
  pins = record { name = codes "A"; role = Load (GateIn 0 0 ∷ []) } ∷ record { name = codes "B"; role = Load (GateIn 0 1 ∷ []) }
      ∷ record { name = codes "Y"; role = Drive 3 } ∷ [];
}

abbrev cell_s : CellName
cell_s = record {
  name = codes "s";
  reg = Some 0;
  outs = 4 ∷ [];
  pins = record { name = codes "D"; role = Load (RegIn 0 0 ∷ []) } ∷ record { name = codes "CK"; role = ClockRole }
      ∷ record { name = codes "Q"; role = Drive 4 } ∷ [];
}

abbrev cell_m : CellName
cell_m = record {
  name = codes "m";
  reg = None;
  outs = 2 ∷ [];
  pins = record { name = codes "I"; role = Sink 1 } ∷ record { name = codes "O"; role = Source 2 } ∷ record { name = codes "X"; role = Load [] } ∷ [];
}

-- a net has the name of a pin
abbrev l : Linked
l = record {
  design = design;
  names = record {
    cells = cell_g ∷ cell_s ∷ cell_m ∷ [];
    ins = record { name = codes "d"; bus = None } ∷ record { name = codes "a"; bus = None } ∷ [];
    outs = record { name = codes "y"; bus = None } ∷ [];
    nets = record { name = codes "d"; net = 0 } ∷ record { name = codes "a"; net = 1 } ∷ record { name = codes "q"; net = 4 }
        ∷ record { name = codes "w"; net = 2 } ∷ record { name = codes "n"; net = 3 } ∷ record { name = codes "g/A"; net = 3 } ∷ [];
    clock = Some (record { name = codes "clk"; bus = None });
    free = codes "m/O" ∷ [];
    sinks = codes "m/I" ∷ [];
    cuts = record { cell = codes "RAM"; count = 1; «open» = false } ∷ [];
    assumed = [];
  };
}

abbrev of : Class → List ℕ → Object
of c pattern = Named (record { class = c; hier = false; pattern = pattern })

abbrev any : List ℕ → Object
any pattern = of class.Any pattern

abbrev pins : List ℕ → Object
pins pattern = of class.Pins pattern

abbrev nets : List ℕ → Object
nets pattern = of class.Nets pattern

-- a command on a line
abbrev on : ℕ → Bool → Object → Command
on line value o = record { line = line; what = Case value (o ∷ []) }

-- case analyses on lines 2 and 3
abbrev one : Bool → Object → Script
one value o = record { commands = record { line = 1; what = Passed } ∷ on 2 value o ∷ [] }

abbrev two : Bool → Object → Bool → Object → Script
two value o other more = record { commands = on 2 value o ∷ on 3 other more ∷ [] }

abbrev assumption : ℕ → List ℕ → Bool → List PinRef → CaseValue
assumption line name value place = record { line = line; name = name; value = value; place = place; input = None }

abbrev fixing : ℕ → List ℕ → Bool → ℕ → ℕ → CaseValue
fixing line name value net input = record { line = line; name = name; value = value; place = Net net ∷ []; input = Some input }

-- port objects: all_inputs, what get_ports gives, and a pattern outside a get_ command that matches an input port bit
all_inputs_are_ports : is_port_object l.names AllInputs ≡ true
all_inputs_are_ports = refl

get_ports_are_ports : is_port_object l.names (of class.Ports (codes "q")) ≡ true
get_ports_are_ports = refl

pattern_of_ports : is_port_object l.names (any (codes "d")) ≡ true
unfolding matches_whole star
pattern_of_ports = refl

-- the clock's among them
pattern_of_the_clock : is_port_object l.names (any (codes "cl*")) ≡ true
unfolding matches_whole star
pattern_of_the_clock = refl

-- inner objects: a pattern that matches an output port alone, one of a pin or a net, and other lists
output_is_inner : is_port_object l.names (any (codes "y")) ≡ false
unfolding matches_whole star
output_is_inner = refl

get_nets_are_inner : is_port_object l.names (nets (codes "d")) ≡ false
get_nets_are_inner = refl

all_outputs_are_inner : is_port_object l.names AllOutputs ≡ false
all_outputs_are_inner = refl

-- an output pin stands for its net
output_pin_is_assumed : case_values l (one false (pins (codes "s/Q"))) ≡ assumption 2 (codes "s/Q") false (Net 4 ∷ []) ∷ []
unfolding case_values matches_whole star
output_pin_is_assumed = refl

-- an input pin for the pins that read with it
input_pin_is_assumed : case_values l (one true (pins (codes "s/D"))) ≡ assumption 2 (codes "s/D") true (RegIn 0 0 ∷ []) ∷ []
unfolding case_values matches_whole star
input_pin_is_assumed = refl

-- an input pin of a cut cell for the output that it reads for
sink_is_assumed : case_values l (one true (pins (codes "m/I"))) ≡ assumption 2 (codes "m/I") true (OutPort 1 ∷ []) ∷ []
unfolding case_values matches_whole star
sink_is_assumed = refl

net_is_assumed : case_values l (one true (nets (codes "n"))) ≡ assumption 2 (codes "n") true (Net 3 ∷ []) ∷ []
unfolding case_values matches_whole star
net_is_assumed = refl

-- outside a get_ command a pin comes before a net of its name
pin_before_net : case_values l (one true (any (codes "g/A"))) ≡ assumption 2 (codes "g/A") true (GateIn 0 0 ∷ []) ∷ []
unfolding case_values matches_whole star
pin_before_net = refl

net_of_its_name : case_values l (one true (nets (codes "g/A"))) ≡ assumption 2 (codes "g/A") true (Net 3 ∷ []) ∷ []
unfolding case_values matches_whole star
net_of_its_name = refl

net_after_pins : case_values l (one true (any (codes "n"))) ≡ assumption 2 (codes "n") true (Net 3 ∷ []) ∷ []
unfolding case_values matches_whole star
net_after_pins = refl

-- in the order of the script, and then of the table of names
in_their_order : case_values l (two false (nets (codes "n")) true (pins (codes "g/?")))
    ≡ assumption 2 (codes "n") false (Net 3 ∷ []) ∷ assumption 3 (codes "g/A") true (GateIn 0 0 ∷ [])
    ∷ assumption 3 (codes "g/B") true (GateIn 0 1 ∷ []) ∷ assumption 3 (codes "g/Y") true (Net 3 ∷ []) ∷ []
unfolding case_values matches_whole star
in_their_order = refl

-- a net of a data input fixes it, as its port does
net_fixes_input : case_values l (one true (nets (codes "d"))) ≡ fixing 2 (codes "d") true 0 0 ∷ []
unfolding case_values matches_whole star
net_fixes_input = refl

port_fixes_input : case_values l (one true (any (codes "d"))) ≡ fixing 2 (codes "d") true 0 0 ∷ []
unfolding case_values matches_whole star
port_fixes_input = refl

all_inputs_fix : case_values l (one true AllInputs) ≡ fixing 2 (codes "d") true 0 0 ∷ fixing 2 (codes "a") true 1 1 ∷ []
unfolding case_values matches_whole star
all_inputs_fix = refl

-- and so does the net of a free input, or the pin that drives it
free_net_fixes_input : case_values l (one true (nets (codes "w"))) ≡ fixing 2 (codes "w") true 2 2 ∷ []
unfolding case_values matches_whole star
free_net_fixes_input = refl

source_fixes_input : case_values l (one true (pins (codes "m/O"))) ≡ fixing 2 (codes "m/O") true 2 2 ∷ []
unfolding case_values matches_whole star
source_fixes_input = refl

-- of a port on line 2, a free input and a pin on line 3, and the port again
abbrev mixed : List CaseValue
mixed = fixing 2 (codes "d") true 0 0 ∷ fixing 3 (codes "m/O") false 2 2 ∷ assumption 3 (codes "s/D") true (RegIn 0 0 ∷ [])
    ∷ fixing 4 (codes "d") true 0 0 ∷ []

-- the pin alone is assumed
pin_alone_is_assumed : flat_map assumed_of mixed ≡ record { pins = RegIn 0 0 ∷ []; value = true } ∷ []
pin_alone_is_assumed = refl

its_name_alone : flat_map names_of mixed ≡ codes "s/D" ∷ []
its_name_alone = refl

-- both inputs are fixed, each once
each_is_fixed_once : more_fixed [] mixed ≡ record { input = 0; value = true } ∷ record { input = 2; value = false } ∷ []
each_is_fixed_once = refl

-- one that the design has fixed is not fixed again
fixed_already : more_fixed (record { input = 0; value = true } ∷ []) mixed ≡ record { input = 2; value = false } ∷ []
fixed_already = refl

-- what is told: the pin, and the free input, but not the port
pin_and_free_input_are_told : flat_map (told_of 2) mixed
    ≡ record { line = 3; name = codes "m/O"; value = false } ∷ record { line = 3; name = codes "s/D"; value = true } ∷ []
pin_and_free_input_are_told = refl

abbrev nowhere : Spot
nowhere = record { name = []; thing = ClockPort }

dropped : true ≡ false → ⊥
dropped same = grind (arith, same)

abbrev refused : Object → Type 0
refused o = ¬ HasPlaces l o

-- a name of nothing, a clock pin, an input pin of a cut cell that reads nothing of the design, a cell and a list are refused
nothing_is_refused : refused (pins (codes "zz"))
unfolding matches_whole star
nothing_is_refused = λ has. absurd (has.some refl)

clock_pin_is_refused : refused (pins (codes "s/CK"))
unfolding matches_whole star
clock_pin_is_refused = λ has. absurd (dropped (has.placed 0 nowhere (omega arith)))

-- with a pin that has a place, too
some_clock_pin_is_refused : refused (pins (codes "s/*"))
unfolding matches_whole star
some_clock_pin_is_refused = λ has. absurd (dropped (has.placed 1 nowhere (omega arith)))

cut_pin_is_refused : refused (pins (codes "m/X"))
unfolding matches_whole star
cut_pin_is_refused = λ has. absurd (dropped (has.placed 0 nowhere (omega arith)))

cell_is_refused : refused (of class.Cells (codes "s"))
cell_is_refused = λ has. absurd (has.some refl)

registers_are_refused : refused AllRegisters
registers_are_refused = λ has. absurd (has.some refl)

-- by the line of the command and the pattern
clock_pin_is_told : IsCaseCause l (one false (pins (codes "s/CK"))) (CaseOnPin 2 (codes "s/CK"))
clock_pin_is_told = (
  on 2 false (pins (codes "s/CK")),
  (1, omega arith, refl),
  (refl, (pins (codes "s/CK"), (0, omega arith, refl), refl, clock_pin_is_refused)),
)

-- a reset that a net fixes
net_of_a_reset_is_told : IsCaseCause l (one false (nets (codes "a"))) (CaseOnReset 2 (codes "a"))
unfolding case_values matches_whole star
net_of_a_reset_is_told = record {
  value = fixing 2 (codes "a") false 1 1;
  input = 1;
  is_value = (0, omega arith, refl);
  fixes = refl;
  is_reset = (0, omega arith, refl);
  has_name = refl;
  on_line = refl;
}

-- two values of one input, by a port and by its net
port_and_net_are_told : IsCaseCause l (two false (any (codes "d")) true (nets (codes "d"))) (CaseTwice 2 3)
unfolding case_values matches_whole star
port_and_net_are_told = (
  InputSubject 0,
  omega arith,
  record {
    place = 0;
    after = 1;
    once = fixing 2 (codes "d") false 0 0;
    again = fixing 3 (codes "d") true 0 0;
    in_order = omega arith;
    at_first = refl;
    at_later = refl;
    of_it = refl;
    of_it_too = refl;
    differ = λ same. cc;
    none_before = λ i d low. absurd (omega (arith, low));
    first_line = refl;
    later_line = refl;
  },
)

-- two values of one load pin, by a pin that drives its net and by the pin itself
two_of_a_load_are_told : IsCaseCause l (two false (pins (codes "s/Q")) true (pins (codes "g/A"))) (CaseTwice 2 3)
unfolding case_values matches_whole star
two_of_a_load_are_told = (
  LoadSubject (GateIn 0 0) 4,
  To_gate 0 (record { func = AndForm (PinForm 0) (PinForm 1); ins = 4 ∷ 2 ∷ []; out = 3 }) 0 refl (omega arith),
  record {
    place = 0;
    after = 1;
    once = assumption 2 (codes "s/Q") false (Net 4 ∷ []);
    again = assumption 3 (codes "g/A") true (GateIn 0 0 ∷ []);
    in_order = omega arith;
    at_first = refl;
    at_later = refl;
    of_it = refl;
    of_it_too = refl;
    differ = λ same. cc;
    none_before = λ i d low. absurd (omega (arith, low));
    first_line = refl;
    later_line = refl;
  },
)

-- with one value both are assumed, and the later one is left out for the pin: it reads the first one's net, 5, and the output
-- that reads q the second one's
abbrev same_value : List CaseValue
same_value = assumption 2 (codes "g/A") true (GateIn 0 0 ∷ []) ∷ assumption 3 (codes "s/Q") true (Net 4 ∷ []) ∷ []

pin_reads_the_first : (assumed_design design [] (flat_map assumed_of same_value)).gates
    ≡ record { func = AndForm (PinForm 0) (PinForm 1); ins = 5 ∷ 2 ∷ []; out = 3 } ∷ []
unfolding assumed_design
pin_reads_the_first = refl

output_reads_the_second : (assumed_design design [] (flat_map assumed_of same_value)).outputs ≡ 6 ∷ 1 ∷ []
unfolding assumed_design
output_reads_the_second = refl
