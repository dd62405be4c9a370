-- The cells that are cut out of a design, and what their pins stand for.
use Rattle.std.specs.Prelude.{ℕ, ◌-◌, nat_lt, Bool, true, false, not, if◌then◌else◌, List, [], ◌∷◌, length, flat_map, sum_by, Option, None, Some}
use Rattle.std.specs.List.{list_any}
use Rattle.net_model.specs.declared.claims.Start.{Start}
use Rattle.net_model.specs.declared.claims.Start.TheVariants.{Input as InputStart}
use Rattle.net_model.specs.declared.claims.End.{End}
use Rattle.net_model.specs.declared.claims.End.TheVariants.{Output as OutputEnd}
use Rattle.linked_types.specs.declared.names.Names.{Names}
use Rattle.linked_types.specs.declared.names.CutName.{CutName}
use Rattle.linked_types.specs.declared.names.CellName.{CellName}
use Rattle.linked_types.specs.declared.names.PinName.{PinName}
use Rattle.linked_types.specs.declared.names.PinRole.{PinRole}
use Rattle.linked_types.specs.declared.names.PinRole.TheVariants.{Source, Sink}

-- they stand after all other cells, so many of each reference: at this place the first of them
abbrev pub first_cut : Names → ℕ
first_cut n = length n.cells - sum_by (λ (c : CutName). c.count) n.cuts

-- the cell at a place is cut out
abbrev pub is_cut : Names → ℕ → Bool
is_cut n k = not (nat_lt k (first_cut n))

-- a source is a start, by the input that it drives
abbrev pub source_start : PinRole → List Start
source_start (Source input) = InputStart input ∷ []
source_start _ = []

-- a sink is an end, by the output that it reads for
abbrev pub sink_end : PinRole → List End
sink_end (Sink output) = OutputEnd output ∷ []
sink_end _ = []

-- the pin is a source or a sink, and its cell has the judged clock
abbrev pub is_side : PinRole → Bool
is_side (Source input) = true
is_side (Sink output) = true
is_side _ = false

-- a cell that is cut out and has the judged clock: paths begin or end at it
abbrev pub is_clocked : List PinName → Bool
is_clocked pins = list_any (λ (p : PinName). is_side p.role) pins

-- the starts at the pins of a cell, and the ends
abbrev pub source_starts : List PinName → List Start
source_starts pins = flat_map (λ (p : PinName). source_start p.role) pins

abbrev pub sink_ends : List PinName → List End
sink_ends pins = flat_map (λ (p : PinName). sink_end p.role) pins

-- those at the pins of all cells
abbrev pub all_sources : List CellName → List Start
all_sources cells = flat_map (λ (c : CellName). source_starts c.pins) cells

abbrev pub all_sinks : List CellName → List End
all_sinks cells = flat_map (λ (c : CellName). sink_ends c.pins) cells
