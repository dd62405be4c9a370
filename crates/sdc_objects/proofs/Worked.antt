-- What lists mean, in a strict run and with cells that are cut out, at values worked by hand.
use Rattle.std.proofs.Common.{◌≡◌, ℕ, true, false, List, [], ◌∷◌, Some, None, map, refl}
use Rattle.std.specs.Prelude.{codes}
use Rattle.glob.specs.Match.{matches_whole, star}
use Rattle.net_model.specs.Form.{PinForm}
use Rattle.net_model.specs.declared.netlist.Design.{Design}
use Rattle.net_model.specs.declared.claims.Start.TheVariants.{Reg as RegStart, Input as InputStart}
use Rattle.net_model.specs.declared.claims.End.TheVariants.{Reg as RegEnd, Output as OutputEnd}
use Rattle.net_model.specs.declared.claims.PinRef.TheVariants.{RegIn, Net as NetPin, OutPort}
use Rattle.linked_types.specs.declared.names.Linked.{Linked}
use Rattle.linked_types.specs.declared.names.Names.{Names}
use Rattle.linked_types.specs.declared.names.CellName.{CellName}
use Rattle.linked_types.specs.declared.names.PinRole.TheVariants.{Clock as ClockRole, Load, Drive, Source, Sink}
use Rattle.linked_types.specs.Inputs.{whole_names}
use Rattle.script_types.specs.declared.objects.Class.{Class}
use Rattle.script_types.specs.declared.objects.Class.TheVariants as class
use Rattle.script_types.specs.declared.objects.Object.{Object}
use Rattle.script_types.specs.declared.objects.Object.TheVariants.{Named, AllInputs, AllOutputs, AllRegisters, AllClocks}
use Rattle.script_types.specs.declared.scripts.What.{What}
use Rattle.script_types.specs.declared.scripts.What.TheVariants.{Clock, Delay}
use Rattle.script_types.specs.declared.scripts.Command.{Command}
use Rattle.script_types.specs.declared.scripts.Script.{Script}
use Rattle.sdcv_base.specs.declared.kinds.Edge.TheVariants.{Any, Rise, Fall}
use Rattle.selected_types.specs.declared.warnings.Warning.TheVariants.{Dropped, Several}
use Rattle.sdc_objects.specs.declared.things.Place.TheVariants.{From, To, Through}
use Rattle.sdc_objects.specs.Standing.{starts_of, ends_of, pins_of, warnings, from_column, to_column, through_column}
use Rattle.sdc_settings.specs.Inputs.{named_places}
use Rattle.sdc_settings.specs.Sources.{source_bit}
use Rattle.sdc_objects.specs.Cuts.{is_cut}

-- the register s reads the input d, and the register a the input a; s/QN shows the complement of its bit
abbrev design : Design
design = record {
  nets = 5;
  gates = [];
  regs =
      record {
        next = PinForm 0;
        clear = None;
        preset = None;
        both = false;
        ins = 0 ∷ [];
        outs = record { net = 2; inverted = false } ∷ record { net = 3; inverted = true } ∷ [];
      }
      ∷ record { next = PinForm 0; clear = None; preset = None; both = false; ins = 1 ∷ []; outs = record { net = 4; inverted = false } ∷ [] } ∷ [];
  inputs = 0 ∷ 1 ∷ [];
  outputs = 4 ∷ [];
  fixed = [];
  resets = [];
  reset_len = 0;
}

abbrev cell_s : CellName
cell_s = record {
  name = codes "s";
  reg = Some 0;
  outs = 2 ∷ 3 ∷ [];
  pins = record { name = codes "D"; role = Load (RegIn 0 0 ∷ []) } ∷ record { name = codes "CK"; role = ClockRole }
      ∷ record { name = codes "Q"; role = Drive 2 } ∷ record { name = codes "QN"; role = Drive 3 } ∷ [];
}

abbrev cell_a : CellName
cell_a = record { name = codes "a"; reg = Some 1; outs = 4 ∷ []; pins = record { name = codes "CK"; role = ClockRole } ∷ [] }

abbrev l : Linked
l = record {
  design = design;
  names = whole_names (cell_s ∷ cell_a ∷ []) (record { name = codes "d"; bus = None } ∷ record { name = codes "a"; bus = None } ∷ [])
      (record { name = codes "y"; bus = None } ∷ []) (record { name = codes "d"; net = 0 } ∷ record { name = codes "a"; net = 1 } ∷ []) (Some (record { name = codes "clk"; bus = None }));
}

abbrev object : Class → List ℕ → Object
object c pattern = Named (record { class = c; hier = false; pattern = pattern })

abbrev command : What → Command
command what = record { line = 1; what = what }

-- the clock ck at the clock port, and vio without a source; d has an input delay of ck, and a one of vio; the outputs have an
-- output delay of all clocks, and the inputs a delay of none
abbrev script : Script
script = record {
  commands = command (Clock (Some (codes "ck")) (object class.Ports (codes "clk") ∷ [])) ∷ command (Clock (Some (codes "vio")) [])
      ∷ command (Delay false (Some (object class.Clocks (codes "ck") ∷ [])) (object class.Ports (codes "d") ∷ []))
      ∷ command (Delay false (Some (object class.Clocks (codes "vio") ∷ [])) (object class.Ports (codes "a") ∷ []))
      ∷ command (Delay true (Some (AllClocks ∷ [])) (AllOutputs ∷ [])) ∷ command (Delay false None (AllInputs ∷ [])) ∷ [];
}

abbrev of : Class → List ℕ → List Object
of c pattern = object c pattern ∷ []

-- a clock stands for the registers and for the port with an input delay of it
clock_has_its_inputs : starts_of l script true Any (of class.Clocks (codes "ck")) ≡ RegStart 0 ∷ RegStart 1 ∷ InputStart 0 ∷ []
unfolding source_bit named_places matches_whole star
clock_has_its_inputs = refl

-- as before without the word
clock_has_registers_alone : starts_of l script false Any (of class.Clocks (codes "ck")) ≡ RegStart 0 ∷ RegStart 1 ∷ []
unfolding source_bit named_places matches_whole star
clock_has_registers_alone = refl

-- a virtual clock stands for its ports, and without the word for nothing
virtual_clock_has_its_inputs : starts_of l script true Any (of class.Any (codes "vio")) ≡ InputStart 1 ∷ []
unfolding source_bit named_places matches_whole star
virtual_clock_has_its_inputs = refl

virtual_clock_has_nothing : starts_of l script false Any (of class.Any (codes "vio")) ≡ []
unfolding source_bit named_places matches_whole star
virtual_clock_has_nothing = refl

-- after -to for the outputs with an output delay of it
clock_has_its_outputs : ends_of l script true (of class.Clocks (codes "vio")) ≡ OutputEnd 0 ∷ []
unfolding source_bit named_places matches_whole star
clock_has_its_outputs = refl

clocks_have_registers_and_outputs : ends_of l script true (of class.Clocks (codes "ck")) ≡ RegEnd 0 ∷ RegEnd 1 ∷ OutputEnd 0 ∷ []
unfolding source_bit named_places matches_whole star
clocks_have_registers_and_outputs = refl

-- after -rise_from it is dropped, its ports too
clock_has_no_edge : starts_of l script true Rise (of class.Clocks (codes "vio")) ≡ []
unfolding source_bit named_places matches_whole star
clock_has_no_edge = refl

clock_is_dropped : warnings (from_column l script true Rise) l script true From (of class.Clocks (codes "vio")) ≡ Dropped (codes "vio") 1 ∷ []
unfolding source_bit named_places matches_whole star
clock_is_dropped = refl

-- after -rise_from a clock pin stands for its register, and an inverted output for nothing
clock_pin_rises : starts_of l script true Rise (of class.Pins (codes "s/*")) ≡ RegStart 0 ∷ RegStart 0 ∷ []
unfolding matches_whole star
clock_pin_rises = refl

output_pin_rises : starts_of l script false Rise (of class.Pins (codes "s/*")) ≡ RegStart 0 ∷ []
unfolding matches_whole star
output_pin_rises = refl

-- after -fall_from a register is dropped, and a port is not
register_falls_nowhere : starts_of l script true Fall (of class.Cells (codes "s")) ≡ []
unfolding matches_whole star
register_falls_nowhere = refl

falling_register_is_dropped : warnings (from_column l script true Fall) l script true From (of class.Any (codes "s")) ≡ Dropped (codes "s") 1 ∷ []
unfolding matches_whole star
falling_register_is_dropped = refl

port_falls : starts_of l script true Fall (of class.Ports (codes "d")) ≡ InputStart 0 ∷ []
unfolding matches_whole star
port_falls = refl

-- a is a port and a cell, and stands for the port
two_classes_are_told : warnings (from_column l script true Any) l script true From (of class.Any (codes "a")) ≡ Several (codes "a") ∷ []
unfolding matches_whole star
two_classes_are_told = refl

one_class_is_asked : warnings (from_column l script true Any) l script true From (of class.Ports (codes "a")) ≡ []
unfolding matches_whole star
one_class_is_asked = refl

two_classes_are_not_told : warnings (from_column l script false Any) l script false From (of class.Any (codes "a")) ≡ []
unfolding matches_whole star
two_classes_are_not_told = refl

-- in through d is a port and its net, which are of one kind, and a is a cell too
port_and_net_are_one : warnings (through_column l) l script true Through (of class.Any (codes "d")) ≡ []
unfolding matches_whole star
port_and_net_are_one = refl

cell_and_net_are_two : warnings (through_column l) l script true Through (of class.Any (codes "a")) ≡ Several (codes "a") ∷ []
unfolding matches_whole star
cell_and_net_are_two = refl

-- ck at the clock's port, ck2 at the port d, and a clock without a name at the clock's port; a has an input delay of ck2
abbrev two_clocks : Script
two_clocks = record {
  commands = command (Clock (Some (codes "ck")) (object class.Ports (codes "clk") ∷ []))
      ∷ command (Clock (Some (codes "ck2")) (object class.Ports (codes "d") ∷ [])) ∷ command (Clock None (object class.Ports (codes "clk") ∷ []))
      ∷ command (Delay false (Some (object class.Clocks (codes "ck2") ∷ [])) (object class.Ports (codes "a") ∷ [])) ∷ [];
}

-- a clock that is not judged stands for no register, and is dropped
other_clock_has_no_registers : starts_of l two_clocks false Any (of class.Clocks (codes "ck2")) ≡ []
unfolding source_bit named_places matches_whole star
other_clock_has_no_registers = refl

other_clock_is_dropped : warnings (from_column l two_clocks false Any) l two_clocks false From (of class.Clocks (codes "ck2")) ≡ Dropped (codes "ck2") 1 ∷ []
unfolding source_bit named_places matches_whole star
other_clock_is_dropped = refl

-- in a strict run it stands for its ports, and is told as dropped
other_clock_has_its_inputs : starts_of l two_clocks true Any (of class.Clocks (codes "ck2")) ≡ InputStart 1 ∷ []
unfolding source_bit named_places matches_whole star
other_clock_has_its_inputs = refl

other_clock_is_told : warnings (from_column l two_clocks true Any) l two_clocks true From (of class.Clocks (codes "ck2")) ≡ Dropped (codes "ck2") 1 ∷ []
unfolding source_bit named_places matches_whole star
other_clock_is_told = refl

-- after -rise_from it is dropped, its ports too
other_clock_has_no_edge : starts_of l two_clocks true Rise (of class.Clocks (codes "ck2")) ≡ []
unfolding source_bit named_places matches_whole star
other_clock_has_no_edge = refl

other_clock_is_told_once : warnings (from_column l two_clocks true Rise) l two_clocks true From (of class.Clocks (codes "ck2")) ≡ Dropped (codes "ck2") 1 ∷ []
unfolding source_bit named_places matches_whole star
other_clock_is_told_once = refl

-- a clock at the clock's port is the judged one, whatever its name; without one it goes by the port
clock_at_the_port_is_judged : starts_of l two_clocks false Any (of class.Clocks (codes "clk")) ≡ RegStart 0 ∷ RegStart 1 ∷ []
unfolding source_bit named_places matches_whole star
clock_at_the_port_is_judged = refl

other_clocks_are_counted : warnings (to_column l two_clocks false) l two_clocks false To (AllClocks ∷ []) ≡ Dropped (codes "all_clocks") 1 ∷ []
unfolding source_bit named_places matches_whole star
other_clocks_are_counted = refl

-- a design of the register a, which reads the port d, and three cells that are cut out: the memory m with the judged clock, whose
-- pin A is a sink and whose pin Q is the source of an input; the latch h without it; and f, of which no pin is connected
abbrev cell_m : CellName
cell_m = record {
  name = codes "m";
  reg = None;
  outs = 2 ∷ 3 ∷ [];
  pins = record { name = codes "A"; role = Sink 1 } ∷ record { name = codes "CLK"; role = Load [] } ∷ record { name = codes "Q"; role = Source 1 }
      ∷ record { name = codes "B"; role = Drive 3 } ∷ [];
}

abbrev cell_h : CellName
cell_h = record {
  name = codes "h";
  reg = None;
  outs = 3 ∷ [];
  pins = record { name = codes "D"; role = Load [] } ∷ record { name = codes "Q"; role = Drive 3 } ∷ [];
}

abbrev cell_f : CellName
cell_f = record { name = codes "f"; reg = None; outs = []; pins = [] }

-- a modelled cell with an input pin that nothing of the design reads with, and a buffer of the clock tree
abbrev cell_n : CellName
cell_n = record { name = codes "n"; reg = None; outs = []; pins = record { name = codes "A"; role = Load [] } ∷ [] }

abbrev cell_b : CellName
cell_b = record { name = codes "b"; reg = None; outs = []; pins = record { name = codes "A"; role = ClockRole } ∷ [] }

abbrev cut_design : Design
cut_design = record {
  nets = 4;
  gates = [];
  regs = record { next = PinForm 0; clear = None; preset = None; both = false; ins = 0 ∷ []; outs = record { net = 1; inverted = false } ∷ [] } ∷ [];
  inputs = 0 ∷ 2 ∷ 3 ∷ [];
  outputs = 1 ∷ 1 ∷ [];
  fixed = [];
  resets = [];
  reset_len = 0;
}

abbrev cut_names : Names
cut_names = record {
  cells = record { name = codes "a"; reg = Some 0; outs = 1 ∷ []; pins = record { name = codes "Q"; role = Drive 1 } ∷ [] }
      ∷ cell_n ∷ cell_b ∷ cell_m ∷ cell_h ∷ cell_f ∷ [];
  ins = record { name = codes "d"; bus = None } ∷ [];
  outs = record { name = codes "y"; bus = None } ∷ [];
  nets = [];
  clock = Some (record { name = codes "clk"; bus = None });
  free = codes "m/Q" ∷ codes "m/B" ∷ [];
  sinks = codes "m/A" ∷ [];
  cuts = record { cell = codes "RAM"; count = 1; «open» = false } ∷ record { cell = codes "X"; count = 2; «open» = false } ∷ [];
  assumed = [];
}

abbrev cut : Linked
cut = record { design = cut_design; names = cut_names }

abbrev clock_script : Script
clock_script = record { commands = command (Clock (Some (codes "ck")) (object class.Ports (codes "clk") ∷ [])) ∷ [] }

-- the cells that are cut out are the last three
last_cells_are_cut : map (is_cut cut_names) (0 ∷ 1 ∷ 2 ∷ 3 ∷ 4 ∷ 5 ∷ []) ≡ false ∷ false ∷ false ∷ true ∷ true ∷ true ∷ []
last_cells_are_cut = refl

-- a clocked cell stands for its source in from, for its sink in to, and in through for the nets that it may drive
clocked_cell_starts : starts_of cut clock_script false Any (of class.Cells (codes "m")) ≡ InputStart 1 ∷ []
unfolding matches_whole star
clocked_cell_starts = refl

clocked_cell_ends : ends_of cut clock_script false (of class.Cells (codes "m")) ≡ OutputEnd 1 ∷ []
unfolding matches_whole star
clocked_cell_ends = refl

clocked_cell_drives : pins_of cut clock_script (of class.Cells (codes "m")) ≡ NetPin 2 ∷ NetPin 3 ∷ []
unfolding matches_whole star
clocked_cell_drives = refl

-- a latch has no edge of the judged clock: it is dropped in from and in to
latch_is_no_start : warnings (from_column cut clock_script false Any) cut clock_script false From (of class.Cells (codes "h")) ≡ Dropped (codes "h") 1 ∷ []
unfolding matches_whole star
latch_is_no_start = refl

latch_is_no_end : warnings (to_column cut clock_script false) cut clock_script false To (of class.Cells (codes "h")) ≡ Dropped (codes "h") 1 ∷ []
unfolding matches_whole star
latch_is_no_end = refl

latch_drives : pins_of cut clock_script (of class.Cells (codes "h")) ≡ NetPin 3 ∷ []
unfolding matches_whole star
latch_drives = refl

-- a pin that is the source of an input is that input, a sink that output; a pin on a net that another cell owns is its net in
-- through alone, and any other pin nothing
pins_of_cut_start : starts_of cut clock_script false Any (of class.Pins (codes "m/*")) ≡ InputStart 1 ∷ []
unfolding matches_whole star
pins_of_cut_start = refl

pins_of_cut_end : ends_of cut clock_script false (of class.Pins (codes "m/*")) ≡ OutputEnd 1 ∷ []
unfolding matches_whole star
pins_of_cut_end = refl

pins_of_cut_pass : pins_of cut clock_script (of class.Pins (codes "m/*")) ≡ OutPort 1 ∷ NetPin 2 ∷ NetPin 3 ∷ []
unfolding matches_whole star
pins_of_cut_pass = refl

other_pin_is_dropped : warnings (through_column cut) cut clock_script false Through (of class.Pins (codes "m/CLK")) ≡ Dropped (codes "m/CLK") 1 ∷ []
unfolding matches_whole star
other_pin_is_dropped = refl

-- as no pin of a modelled cell is that nothing reads with
modelled_pin_is_kept : warnings (through_column cut) cut clock_script false Through (of class.Pins (codes "n/A")) ≡ []
unfolding matches_whole star
modelled_pin_is_kept = refl

-- a buffer of the clock tree is dropped in through, a cell that is cut out never
tree_buffer_is_dropped : warnings (through_column cut) cut clock_script false Through (of class.Cells (codes "b")) ≡ Dropped (codes "b") 1 ∷ []
unfolding matches_whole star
tree_buffer_is_dropped = refl

filler_is_kept : warnings (through_column cut) cut clock_script false Through (of class.Cells (codes "f")) ≡ []
unfolding matches_whole star
filler_is_kept = refl

-- all_registers are the modelled ones; in a strict run the clocked cells that are cut out too, and the others are told
registers_alone : starts_of cut clock_script false Any (AllRegisters ∷ []) ≡ RegStart 0 ∷ []
registers_alone = refl

registers_and_sources : starts_of cut clock_script true Any (AllRegisters ∷ []) ≡ RegStart 0 ∷ InputStart 1 ∷ []
registers_and_sources = refl

registers_and_sinks : ends_of cut clock_script true (AllRegisters ∷ []) ≡ RegEnd 0 ∷ OutputEnd 1 ∷ []
registers_and_sinks = refl

unclocked_cells_are_told : warnings (from_column cut clock_script true Any) cut clock_script true From (AllRegisters ∷ []) ≡
    Dropped (codes "all_registers") 2 ∷ []
unclocked_cells_are_told = refl

-- so it is with the clock
unclocked_cells_are_told_of_a_clock : warnings (from_column cut clock_script true Any) cut clock_script true From (of class.Clocks (codes "ck")) ≡
    Dropped (codes "ck") 2 ∷ []
unfolding source_bit named_places matches_whole star
unclocked_cells_are_told_of_a_clock = refl

clock_has_registers : starts_of cut clock_script false Any (of class.Clocks (codes "ck")) ≡ RegStart 0 ∷ []
unfolding source_bit named_places matches_whole star
clock_has_registers = refl

clock_has_sources : starts_of cut clock_script true Any (of class.Clocks (codes "ck")) ≡ RegStart 0 ∷ InputStart 1 ∷ []
unfolding source_bit named_places matches_whole star
clock_has_sources = refl

clock_has_sinks : ends_of cut clock_script true (of class.Clocks (codes "ck")) ≡ RegEnd 0 ∷ OutputEnd 1 ∷ []
unfolding source_bit named_places matches_whole star
clock_has_sinks = refl

-- the input of a source toggles at the rise of the clock that its cell has: in a strict run after -rise_from it is a start, and after
-- -fall_from dropped
source_rises : starts_of cut clock_script true Rise (of class.Pins (codes "m/Q")) ≡ InputStart 1 ∷ []
unfolding matches_whole star
source_rises = refl

source_falls_nowhere : warnings (from_column cut clock_script true Fall) cut clock_script true From (of class.Pins (codes "m/Q")) ≡ Dropped (codes "m/Q") 1 ∷ []
unfolding matches_whole star
source_falls_nowhere = refl

-- the inputs and outputs are those of the ports
all_inputs_are_ports : starts_of cut clock_script false Any (AllInputs ∷ []) ≡ InputStart 0 ∷ []
all_inputs_are_ports = refl

all_outputs_are_ports : ends_of cut clock_script false (AllOutputs ∷ []) ≡ OutputEnd 0 ∷ []
all_outputs_are_ports = refl
