-- Sides that exceptions claim, and edges of claims, at values worked by hand.
use Rattle.std.proofs.Common.{◌≡◌, true, false, [], ◌∷◌, refl}
use Rattle.std.specs.Prelude.{Some, None, codes}
use Rattle.sdcv_base.specs.declared.kinds.Kind.TheVariants.{False, Multi}
use Rattle.sdcv_base.specs.declared.kinds.Edge.TheVariants.{Any, Rise, Fall}
use Rattle.script_types.specs.declared.scripts.Checks.TheVariants.{Unsaid, Setup, Both as BothChecks}
use Rattle.script_types.specs.declared.scripts.Held.{Held}
use Rattle.script_types.specs.declared.scripts.What.TheVariants.{Hold}
use Rattle.selected_types.specs.declared.selections.Listing.TheVariants.{Claiming as ListsClaims, HoldSide as ListsHoldSide}
use Rattle.net_model.specs.declared.claims.Start.TheVariants.{Reg as RegStart, Input as InputStart}
use Rattle.net_model.specs.declared.claims.End.TheVariants.{Reg as RegEnd, Output as OutputEnd}
use Rattle.net_model.specs.Form.{PinForm}
use Rattle.net_model.specs.declared.netlist.Design.{Design}
use Rattle.linked_types.specs.declared.names.Linked.{Linked}
use Rattle.linked_types.specs.declared.names.Names.{Names}
use Rattle.linked_types.specs.declared.names.CellName.{CellName}
use Rattle.linked_types.specs.declared.names.PinRole.TheVariants.{Load, Drive, Source, Sink}
use Rattle.linked_types.specs.Inputs.{whole_names}
use Rattle.exception_expand.specs.Naming.{start_name, end_name}
use Rattle.exception_expand.specs.Points.{start_points, all_starts, all_ends}
use Rattle.run_options.specs.declared.judging.Judging.{Judging}
use Rattle.run_options.specs.Judging.{judging_by}
use Rattle.exception_expand.specs.declared.pairs.Pair.{Pair}
use Rattle.exception_expand.specs.declared.sides.Sides.TheVariants.{Late, Early, Both}
use Rattle.exception_expand.specs.Sides.{side, sides_by, most_pairs}
use Rattle.exception_expand.specs.Pairs.{pair, lag_for, edge_of, claim_for}
use Rattle.exception_expand.specs.Asking.{sides_of, asked, held, listing_by}

-- a false path takes both checks off, said or not
unsaid_takes_hold_off : sides_of true False Unsaid ≡ Both
unsaid_takes_hold_off = refl

setup_and_hold_take_hold_off : sides_of true False BothChecks ≡ Both
setup_and_hold_take_hold_off = refl

-- with `-setup` alone the hold check stays
setup_alone_keeps_hold : sides_of true False Setup ≡ Late
setup_alone_keeps_hold = refl

-- without the word the early side is claimed of nothing
late_alone_without_the_word : sides_of false False Unsaid ≡ Late
late_alone_without_the_word = refl

-- a multicycle path has no early side
multicycle_is_late : sides_of true (Multi 2) BothChecks ≡ Late
multicycle_is_late = refl

-- `set_false_path -hold`, and a hold multicycle path
abbrev false_hold : Held
false_hold = record { number = None; edge = Rise; from = None; through = []; to = None }

abbrev multi_hold : Held
multi_hold = record { number = Some (49 ∷ []); edge = Any; from = None; through = []; to = None }

hold_claims_with_the_word : asked true (Hold false_hold) ≡ Some (record { exception = held false_hold; sides = Early })
hold_claims_with_the_word = refl

hold_claims_nothing_without_the_word : asked false (Hold false_hold) ≡ None
hold_claims_nothing_without_the_word = refl

multicycle_hold_claims_nothing : asked true (Hold multi_hold) ≡ None
multicycle_hold_claims_nothing = refl

-- it is listed as what it is, at the changes of its edge
hold_is_listed : listing_by Early (held false_hold) 4 ≡ ListsHoldSide Rise 4
hold_is_listed = refl

both_are_listed : listing_by Both (held false_hold) 16 ≡ ListsClaims False Rise 16
both_are_listed = refl

-- the late side of a false path has the lag, the early one none
late_lags : lag_for false False 2 ≡ 2
late_lags = refl

early_has_no_lag : lag_for true False 2 ≡ 0
early_has_no_lag = refl

-- the late side comes first
abbrev one_pair : Pair
one_pair = pair (RegStart 0) (RegEnd 1)

late_before_early : sides_by Both one_pair ≡ side false one_pair ∷ side true one_pair ∷ []
late_before_early = refl

-- room for seven claims is room for both sides of three pairs
both_need_twice_the_room : most_pairs Both 7 ≡ 3
both_need_twice_the_room = refl

-- a strict run that judges hold sides too
abbrev strict_judging : Judging
strict_judging = record { hazard = false; lag = 0; hold = true; strict = true }

-- in a strict run -rise_from of a register claims both changes of its bit; a port keeps the edge
register_claims_both_changes : (claim_for 1 False Rise strict_judging [] (side false one_pair)).edge ≡ Any
register_claims_both_changes = refl

port_claims_its_edge : (claim_for 1 False Rise strict_judging [] (side false (pair (InputStart 0) (RegEnd 1)))).edge ≡ Rise
port_claims_its_edge = refl

port_claims_its_fall : edge_of 1 true Fall (InputStart 0) ≡ Fall
port_claims_its_fall = refl

-- an input after the ports is that of a cell that is cut out, which has a clock as a register has
cut_cell_claims_both_changes : edge_of 1 true Rise (InputStart 1) ≡ Any
cut_cell_claims_both_changes = refl

-- and without the word each claims its edge
register_claims_its_edge : (claim_for 1 False Rise (judging_by false 0) [] (side false one_pair)).edge ≡ Rise
register_claims_its_edge = refl

cut_cell_claims_its_edge : edge_of 1 false Rise (InputStart 1) ≡ Rise
cut_cell_claims_its_edge = refl

-- a design with the register a, which the input port d feeds, and the memory m, which is cut out: m/Q is the source of an input,
-- m/A a sink, and m/CLK neither; the input of w is driven by a cell without the judged clock
abbrev memory_design : Design
memory_design = record {
  nets = 4;
  gates = [];
  regs = record { next = PinForm 0; clear = None; preset = None; both = false; ins = 0 ∷ []; outs = record { net = 3; inverted = false } ∷ [] } ∷ [];
  inputs = 0 ∷ 1 ∷ 2 ∷ [];
  outputs = 3 ∷ 3 ∷ [];
  fixed = [];
  resets = [];
  reset_len = 0;
}

abbrev memory : CellName
memory = record {
  name = codes "m";
  reg = None;
  outs = 2 ∷ [];
  pins = record { name = codes "A"; role = Sink 1 } ∷ record { name = codes "CLK"; role = Load [] } ∷ record { name = codes "Q"; role = Source 2 } ∷ [];
}

abbrev latch : CellName
latch = record { name = codes "w"; reg = None; outs = 1 ∷ []; pins = record { name = codes "Q"; role = Drive 1 } ∷ [] }

abbrev memory_names : Names
memory_names = record {
  cells = record { name = codes "a"; reg = Some 0; outs = 3 ∷ []; pins = [] } ∷ latch ∷ memory ∷ [];
  ins = record { name = codes "d"; bus = None } ∷ [];
  outs = record { name = codes "y"; bus = None } ∷ [];
  nets = [];
  clock = Some (record { name = codes "clk"; bus = None });
  free = codes "w/Q" ∷ codes "m/Q" ∷ [];
  sinks = codes "m/A" ∷ [];
  cuts = record { cell = codes "LAT"; count = 1; «open» = false } ∷ record { cell = codes "RAM"; count = 1; «open» = false } ∷ [];
  assumed = [];
}

abbrev memory_linked : Linked
memory_linked = record { design = memory_design; names = memory_names }

-- the starts are the register, the port and the source, and not the latch's input
starts_of_memory : all_starts memory_linked ≡ RegStart 0 ∷ InputStart 0 ∷ InputStart 2 ∷ []
starts_of_memory = refl

-- the ends are the register, the port and the sink
ends_of_memory : all_ends memory_design ≡ RegEnd 0 ∷ OutputEnd 0 ∷ OutputEnd 1 ∷ []
ends_of_memory = refl

-- they go by their pins
source_goes_by_its_pin : start_name memory_linked (InputStart 2) ≡ codes "m/Q"
source_goes_by_its_pin = refl

sink_goes_by_its_pin : end_name memory_linked (OutputEnd 1) ≡ codes "m/A"
sink_goes_by_its_pin = refl

-- without cells that are cut out the starts are all registers and inputs, as of the register and the one port here
abbrev whole_design : Design
whole_design = record memory_design { inputs = 0 ∷ [] }

abbrev whole_linked : Linked
whole_linked = record {
  design = whole_design;
  names = whole_names (record { name = codes "a"; reg = Some 0; outs = 3 ∷ []; pins = [] } ∷ []) (record { name = codes "d"; bus = None } ∷ [])
      (record { name = codes "y"; bus = None } ∷ []) [] (Some (record { name = codes "clk"; bus = None }));
}

all_begin : all_starts whole_linked ≡ start_points whole_design
all_begin = refl
