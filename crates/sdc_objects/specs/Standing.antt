-- What each thing stands for in each place of an exception.
use Rattle.std.specs.Prelude.{ℕ, Bool, true, false, not, ◌&&◌, ◌||◌, ◌==◌, if◌then◌else◌, List, [], ◌∷◌, ◌++◌, map, flat_map, length}
use Rattle.std.specs.Prelude.{Option, Some, None, slice_get, slice_index, count_by}
use Rattle.std.specs.List.{list_all, list_any}
use Rattle.std.specs.Option.{is_some}
use Rattle.sdcv_base.specs.declared.kinds.Edge.{Edge}
use Rattle.sdcv_base.specs.declared.kinds.Edge.TheVariants as edges
use Rattle.net_model.specs.declared.netlist.Design.{Design}
use Rattle.net_model.specs.declared.netlist.Reg.{Reg}
use Rattle.net_model.specs.declared.netlist.RegOut.{RegOut}
use Rattle.net_model.specs.declared.claims.Start.{Start}
use Rattle.net_model.specs.declared.claims.Start.TheVariants.{Reg as RegStart, Input as InputStart}
use Rattle.net_model.specs.declared.claims.End.{End}
use Rattle.net_model.specs.declared.claims.End.TheVariants.{Reg as RegEnd, Output as OutputEnd}
use Rattle.net_model.specs.declared.claims.PinRef.{PinRef}
use Rattle.net_model.specs.declared.claims.PinRef.TheVariants.{Net as NetPin, OutPort}
use Rattle.linked_types.specs.declared.names.Linked.{Linked}
use Rattle.linked_types.specs.declared.names.Names.{Names}
use Rattle.linked_types.specs.declared.names.CellName.{CellName}
use Rattle.linked_types.specs.declared.names.PinName.{PinName}
use Rattle.linked_types.specs.declared.names.PinRole.{PinRole}
use Rattle.linked_types.specs.declared.names.PinRole.TheVariants.{Clock as ClockRole, Load, Drive, Source, Sink}
use Rattle.script_types.specs.declared.objects.Object.{Object}
use Rattle.script_types.specs.declared.objects.Object.TheVariants.{Named, AllRegisters}
use Rattle.script_types.specs.declared.scripts.Script.{Script}
use Rattle.sdc_settings.specs.Inputs.{object_text}
use Rattle.sdc_objects.specs.declared.things.Thing.{Thing}
use Rattle.sdc_objects.specs.declared.things.Thing.TheVariants as thing
use Rattle.sdc_objects.specs.declared.things.ClockKind.{ClockKind}
use Rattle.sdc_objects.specs.declared.things.ClockKind.TheVariants.{Judged, Other, Virtual}
use Rattle.sdc_objects.specs.declared.things.Place.{Place}
use Rattle.sdc_objects.specs.declared.things.Place.TheVariants.{From, To, Through}
use Rattle.sdc_objects.specs.declared.things.Side.TheVariants.{In, Out}
use Rattle.selected_types.specs.declared.warnings.Warning.{Warning}
use Rattle.selected_types.specs.declared.warnings.Warning.TheVariants.{Nothing, Dropped, Several}
use Rattle.sdcv_base.specs.Seqs.{each_at, where_true}
use Rattle.sdc_objects.specs.Things.{things_of, is_several}
use Rattle.sdc_objects.specs.Cuts.{is_cut, is_clocked, source_starts, sink_ends, all_sources, all_sinks}
use Rattle.sdc_objects.specs.Delays.{delayed_at}

-- a row of the table: what a thing stands for in each place; None where it is dropped there
pub record Stands : Type 0 where
  pub from : Option (List Start)
  pub to : Option (List End)
  pub through : Option (List PinRef)

abbrev pub row : Option (List Start) → Option (List End) → Option (List PinRef) → Stands
row from to through = record { from = from; to = to; through = through }

abbrev pub dropped : {A : Type 0} → Option (List A)
dropped = None

abbrev pub one : {A : Type 0} → A → Option (List A)
one x = Some (x ∷ [])

-- a register as a start and as an end
abbrev pub reg_start : Option ℕ → Option (List Start)
reg_start None = dropped
reg_start (Some r) = one (RegStart r)

abbrev pub reg_end : Option ℕ → Option (List End)
reg_end None = dropped
reg_end (Some r) = one (RegEnd r)

-- all registers
abbrev pub all_reg_starts : Design → List Start
all_reg_starts d = each_at (λ r (reg : Reg). RegStart r ∷ []) 0 d.regs

abbrev pub all_reg_ends : Design → List End
all_reg_ends d = each_at (λ r (reg : Reg). RegEnd r ∷ []) 0 d.regs

abbrev pub is_clock_role : PinRole → Bool
is_clock_role ClockRole = true
is_clock_role (Load pins) = false
is_clock_role (Drive net) = false
is_clock_role (Source input) = false
is_clock_role (Sink output) = false

-- it has no output net and no pin but clock pins: where it is no register, a buffer of the clock tree
abbrev pub is_on_tree : CellName → Bool
is_on_tree c = length c.outs == 0 && list_all (λ (p : PinName). is_clock_role p.role) c.pins

-- a cell as a start and as an end: its register, or the sources and the sinks of a clocked cell that is cut out
abbrev pub cell_starts : List PinName → Option ℕ → Option (List Start)
cell_starts pins (Some r) = reg_start (Some r)
cell_starts pins None = if is_clocked pins then Some (source_starts pins) else dropped

abbrev pub cell_ends : List PinName → Option ℕ → Option (List End)
cell_ends pins (Some r) = reg_end (Some r)
cell_ends pins None = if is_clocked pins then Some (sink_ends pins) else dropped

-- the output nets of a cell; of one that is cut out, the nets that it may drive
abbrev pub cell_outs : Bool → CellName → Option ℕ → Option (List PinRef)
cell_outs cut c (Some r) = Some (map NetPin c.outs)
cell_outs cut c None = if not cut && is_on_tree c then dropped else Some (map NetPin c.outs)

-- the three columns: in from, in to, in through
abbrev pub cell_row : Bool → CellName → Stands
cell_row cut c = row (cell_starts c.pins c.reg) (cell_ends c.pins c.reg) (cell_outs cut c c.reg)

-- a source stands for the input that it drives, a sink for the output that it reads for; no other pin of a cell that is cut out
-- reads anything of the design
abbrev pub pin_row : Design → Bool → Option ℕ → PinRole → Stands
pin_row d cut reg ClockRole = row (reg_start reg) dropped dropped
pin_row d cut reg (Drive net) = row (reg_start reg) dropped (one (NetPin net))
pin_row d cut reg (Load pins) = row dropped (reg_end reg) (if cut then dropped else Some pins)
pin_row d cut reg (Source input) = row (one (InputStart input)) dropped (one (NetPin (slice_index d.inputs input)))
pin_row d cut reg (Sink output) = row dropped (one (OutputEnd output)) (one (OutPort output))

abbrev pub cell_at_row : Bool → Option CellName → Stands
cell_at_row cut None = row dropped dropped dropped
cell_at_row cut (Some c) = cell_row cut c

abbrev pub role_row : Design → Bool → Option ℕ → Option PinName → Stands
role_row d cut reg None = row dropped dropped dropped
role_row d cut reg (Some p) = pin_row d cut reg p.role

abbrev pub pin_at_row : Design → Bool → Option CellName → ℕ → Stands
pin_at_row d cut None place = row dropped dropped dropped
pin_at_row d cut (Some c) place = role_row d cut c.reg (slice_get c.pins place)

-- the judged clock stands for all registers, and a virtual one for nothing; what another one clocks is no register of the design
abbrev pub clock_row : Design → ClockKind → Stands
clock_row d Judged = row (Some (all_reg_starts d)) (Some (all_reg_ends d)) dropped
clock_row d Other = row dropped dropped dropped
clock_row d Virtual = row (Some []) (Some []) (Some [])

abbrev pub stands : Linked → Thing → Stands
stands l (thing.Cell k) = cell_at_row (is_cut l.names k) (slice_get l.names.cells k)
stands l (thing.Pin k place) = pin_at_row l.design (is_cut l.names k) (slice_get l.names.cells k) place
stands l (thing.In i) = row (one (InputStart i)) dropped (one (NetPin (slice_index l.design.inputs i)))
stands l (thing.Out o) = row dropped (one (OutputEnd o)) (one (OutPort o))
stands l thing.ClockPort = row dropped dropped dropped
stands l (thing.Net n) = row dropped dropped (one (NetPin n))
stands l (thing.Clock place kind) = clock_row l.design kind
stands l (thing.Delayed place) = row (Some []) (Some []) (Some [])

-- one of a register's outputs shows the complement of the register's bit on the net
abbrev pub has_inverted : List RegOut → ℕ → Bool
has_inverted outs net = list_any (λ (o : RegOut). o.net == net && o.inverted) outs

-- the register shows the complement of its bit on the net
abbrev pub inverts : Option Reg → ℕ → Bool
inverts None net = false
inverts (Some reg) net = has_inverted reg.outs net

abbrev pub is_inverted : Design → Option ℕ → ℕ → Bool
is_inverted d None net = false
is_inverted d (Some r) net = inverts (slice_get d.regs r) net

-- an edge is that of the register's own bit (SDC 2.1, -rise_from and -fall_from): after these options a pin that is the
-- register's clock or shows its complement is dropped
abbrev pub edge_pin : Design → Option ℕ → PinRole → Option (List Start)
edge_pin d reg ClockRole = dropped
edge_pin d reg (Drive net) = if is_inverted d reg net then dropped else reg_start reg
edge_pin d reg (Load pins) = dropped
edge_pin d reg (Source input) = one (InputStart input)
edge_pin d reg (Sink output) = dropped

-- by the role of the pin at a place, and the register of its cell
abbrev pub by_role : (Option ℕ → PinRole → Option (List Start)) → Option ℕ → Option PinName → Option (List Start)
by_role of reg None = dropped
by_role of reg (Some p) = of reg p.role

abbrev pub pin_by : (Option ℕ → PinRole → Option (List Start)) → Option CellName → ℕ → Option (List Start)
pin_by of None place = dropped
pin_by of (Some c) place = by_role of c.reg (slice_get c.pins place)

-- what a thing stands for after them: the judged clock is dropped too, and all else is as after -from
abbrev pub edge_column : Linked → Thing → Option (List Start)
edge_column l (thing.Pin k place) = pin_by (edge_pin l.design) (slice_get l.names.cells k) place
edge_column l (thing.Clock place Judged) = dropped
edge_column l t = (stands l t).from

-- a timing analyser begins a path from a register at its clock pin, whose rise makes both changes of the bit: in a strict run
-- a clock pin stands for its register after -rise_from too
abbrev pub rise_pin : Design → Option ℕ → PinRole → Option (List Start)
rise_pin d reg ClockRole = reg_start reg
rise_pin d reg role = edge_pin d reg role

-- and each clock is dropped
abbrev pub rise_column : Linked → Thing → Option (List Start)
rise_column l (thing.Pin k place) = pin_by (rise_pin l.design) (slice_get l.names.cells k) place
rise_column l (thing.Clock place sourced) = dropped
rise_column l t = (stands l t).from

-- its fall makes no change: after -fall_from a port alone stands for something
abbrev pub fall_column : Thing → Option (List Start)
fall_column (thing.In input) = one (InputStart input)
fall_column (thing.Delayed place) = Some []
fall_column _ = dropped

-- what a thing gives in a column
abbrev pub meant_by : {A : Type 0} → Option (List A) → List A
meant_by None = []
meant_by (Some xs) = xs

abbrev pub is_dropped : {A : Type 0} → Option (List A) → Bool
is_dropped None = true
is_dropped (Some xs) = false

-- the input that a thing is, and the output
abbrev pub input_of : Thing → List Start
input_of (thing.In input) = InputStart input ∷ []
input_of _ = []

abbrev pub output_of : Thing → List End
output_of (thing.Out output) = OutputEnd output ∷ []
output_of _ = []

-- in a strict run the judged clock stands also for the clocked cells that are cut out, at their sources and sinks; and the ports of
-- each clock are the inputs with an input delay of it, and the outputs with an output delay
abbrev pub clock_starts : Linked → Script → Thing → Option (List Start)
clock_starts l script (thing.Clock place Judged) = Some (all_reg_starts l.design ++ all_sources l.names.cells)
clock_starts l script (thing.Delayed place) = Some (flat_map input_of (delayed_at l script In place))
clock_starts l script t = (stands l t).from

abbrev pub clock_ends : Linked → Script → Thing → Option (List End)
clock_ends l script (thing.Clock place Judged) = Some (all_reg_ends l.design ++ all_sinks l.names.cells)
clock_ends l script (thing.Delayed place) = Some (flat_map output_of (delayed_at l script Out place))
clock_ends l script t = (stands l t).to

-- the three columns by their places, in a run that is strict or not; that of the starts by the edge of its option
abbrev pub from_column : Linked → Script → Bool → Edge → Thing → Option (List Start)
from_column l script false edges.Any t = (stands l t).from
from_column l script false edges.Rise t = edge_column l t
from_column l script false edges.Fall t = edge_column l t
from_column l script true edges.Any t = clock_starts l script t
from_column l script true edges.Rise t = rise_column l t
from_column l script true edges.Fall t = fall_column t

abbrev pub to_column : Linked → Script → Bool → Thing → Option (List End)
to_column l script false t = (stands l t).to
to_column l script true t = clock_ends l script t

abbrev pub through_column : Linked → Thing → Option (List PinRef)
through_column l t = (stands l t).through

-- what the things that an object names stand for in a column
abbrev pub meant_of : {A : Type 0} → (Thing → Option (List A)) → List Thing → List A
meant_of column things = flat_map (λ t. meant_by (column t)) things

-- how many of them are dropped there
abbrev pub dropped_of : {A : Type 0} → (Thing → Option (List A)) → List Thing → ℕ
dropped_of column things = count_by (λ t. is_dropped (column t)) things

-- all registers and all cells that are cut out
abbrev pub registers_and_cuts : Names → List Thing
registers_and_cuts n = each_at (λ k (c : CellName). where_true (is_some c.reg || is_cut n k) (thing.Cell k)) 0 n.cells

-- the cells that are cut out and do not have the judged clock
abbrev pub unclocked : Names → List Thing
unclocked n = each_at (λ k (c : CellName). where_true (is_cut n k && not (is_clocked c.pins)) (thing.Cell k)) 0 n.cells

abbrev pub is_judged_clock : Thing → Bool
is_judged_clock (thing.Clock place Judged) = true
is_judged_clock _ = false

-- what is named, and where the judged clock is named, these cells
abbrev pub with_unclocked : Names → List Thing → List Thing
with_unclocked n things = things ++ (if list_any is_judged_clock things then unclocked n else [])

-- with a clock its ports are named
abbrev pub with_ports : Thing → List Thing
with_ports (thing.Clock place kind) = thing.Clock place kind ∷ thing.Delayed place ∷ []
with_ports t = t ∷ []

-- in a strict run a clock names its ports too, and `all_registers` and the judged clock name cells that are cut out, so that those
-- without the judged clock are told as dropped
abbrev pub strict_named : Linked → Script → Place → Object → List Thing
strict_named l script place AllRegisters = registers_and_cuts l.names
strict_named l script place o = with_unclocked l.names (flat_map with_ports (things_of l script place o))

abbrev pub point_named : Linked → Script → Bool → Place → Object → List Thing
point_named l script false place o = things_of l script place o
point_named l script true place o = strict_named l script place o

-- all that an object names in a place of an exception, in a run that is strict or not
abbrev pub named : Linked → Script → Bool → Place → Object → List Thing
named l script strict From = point_named l script strict From
named l script strict To = point_named l script strict To
named l script strict Through = things_of l script Through

-- what the objects of a list stand for in one place
abbrev pub meant : {A : Type 0} → (Thing → Option (List A)) → Linked → Script → Bool → Place → List Object → List A
meant column l script strict place objects = flat_map (λ o. meant_of column (named l script strict place o)) objects

-- nothing is named, or so many of the things that are named are dropped
abbrev pub warning : List ℕ → List Thing → ℕ → List Warning
warning text [] count = Nothing text ∷ []
warning text (t ∷ ts) count = if count == 0 then [] else Dropped text count ∷ []

-- a pattern outside a `get_` command names things of several classes
abbrev pub several : Linked → Script → Place → Object → List Warning
several l script place (Named q) = where_true (is_several l script place q) (Several q.pattern)
several l script place _ = []

-- the warnings of an object, in a run that is strict or not, and those of a list of objects
abbrev pub warnings_of : {A : Type 0} → (Thing → Option (List A)) → Linked → Script → Bool → Place → Object → List Warning
warnings_of column l script false place o =
    warning (object_text o) (named l script false place o) (dropped_of column (named l script false place o))
warnings_of column l script true place o =
    warning (object_text o) (named l script true place o) (dropped_of column (named l script true place o)) ++ several l script place o

abbrev pub warnings : {A : Type 0} → (Thing → Option (List A)) → Linked → Script → Bool → Place → List Object → List Warning
warnings column l script strict place objects = flat_map (warnings_of column l script strict place) objects

-- the starts, the ends and the through pins that the objects of a list stand for
abbrev pub starts_of : Linked → Script → Bool → Edge → List Object → List Start
starts_of l script strict edge = meant (from_column l script strict edge) l script strict From

abbrev pub ends_of : Linked → Script → Bool → List Object → List End
ends_of l script strict = meant (to_column l script strict) l script strict To

abbrev pub pins_of : Linked → Script → List Object → List PinRef
pins_of l script = meant (through_column l) l script false Through

-- the list of what there is, and dropped where there is nothing
abbrev pub one_of : {A : Type 0} → Option A → Option (List A)
one_of None = dropped
one_of (Some x) = one x

-- the register of a cell
abbrev pub reg_of : Option CellName → Option ℕ
reg_of None = None
reg_of (Some c) = c.reg
