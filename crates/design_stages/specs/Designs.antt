-- What is found of texts that were read: their design, and the pairs that are selected in it.
use Rattle.std.specs.Prelude.{◌≡◌, ℕ, List, [], ◌∷◌, length, map, All, Option, None, Some, is_some, Result, Ok, Err}
use Rattle.net_model.specs.Netlist.{IsSound}
use Rattle.net_model.specs.Fits.{Fits}
use Rattle.sdcv_base.specs.declared.settings.Setting.{Setting}
use Rattle.netlist_types.specs.declared.sources.Source.{Source}
use Rattle.netlist_types.specs.declared.sources.Module.{Module}
use Rattle.netlist_types.specs.Lawful.{IsLawful}
use Rattle.cell_types.specs.declared.libraries.Library.{Library}
use Rattle.cell_types.specs.Libraries.{IsLawful as IsLawfulLibrary}
use Rattle.linked_types.specs.declared.names.Linked.{Linked}
use Rattle.linked_types.specs.declared.names.CutName.{CutName}
use Rattle.linked_types.specs.declared.names.Names.{Names}
use Rattle.linked_types.specs.declared.names.PortName.{PortName}
use Rattle.link_defs.specs.declared.cuts.CutSource.{CutSource}
use Rattle.linked_types.specs.declared.options.LinkOptions.{LinkOptions}
use Rattle.linked_types.specs.declared.faults.LinkFault.{LinkFault}
use Rattle.link_defs.specs.Circuits.{input_bits}
use Rattle.link_defs.specs.Faults.{IsCause, IsFaultless}
use Rattle.link_defs.specs.Hierarchy.{tops}
use Rattle.link_defs.specs.Links.{IsLinked, ports_of}
use Rattle.linked_types.specs.Usable.{IsUsable}
use Rattle.link_tops.specs.Tops.{IsTopCause}
use Rattle.cut_source.specs.Sources.{IsCutOf, IsCutCause}
use Rattle.script_types.specs.declared.scripts.Script.{Script}
use Rattle.sdc_settings.specs.declared.values.Settings.{Settings}
use Rattle.selected_types.specs.declared.faults.ExpandFault.{ExpandFault}
use Rattle.sdc_settings.specs.Settings.{AreSettings}
use Rattle.sdc_settings.specs.Causes.{IsSettingsCause}
use Rattle.run_options.specs.declared.judging.Judging.{Judging}
use Rattle.run_options.specs.declared.netlists.NetlistForm.{NetlistForm}
use Rattle.run_options.specs.declared.netlists.NetlistForm.TheVariants.{Narrow, Wide}
use Rattle.selected_types.specs.declared.selections.Selected.{Selected}
use Rattle.exception_expand.specs.Selections.{IsSelectionOf, HasMultipliers}
use Rattle.exception_expand.specs.Causes.{IsExpandCause}
use Rattle.selected_types.specs.declared.notices.CutCells.{CutCells}
use Rattle.selected_types.specs.declared.notices.Notices.{Notices}
use Rattle.script_notices.specs.Notices.{notices_of, skipped_of}
use Rattle.fault_lines.specs.Designs.{link_line, expand_line}
use Rattle.design_stages.specs.declared.designs.ReadTexts.{ReadTexts}
use Rattle.run_options.specs.declared.resets.Reset.{Reset}
use Rattle.design_stages.specs.declared.designs.Designed.{Designed}
use Rattle.design_stages.specs.declared.designs.Settled.{Settled}
use Rattle.design_stages.specs.Stages.{Found, Staged, ◌>>=◌}
use Rattle.design_stages.specs.Texts.{is_wide}

-- what its readers promise of texts
pub record AreLawful (t : ReadTexts) : Type 0 where
  pub source : IsLawful t.source
  pub library : IsLawfulLibrary t.library.cells
  pub script : HasMultipliers t.script

-- a source of which nothing is cut out
abbrev pub whole : Source → CutSource
whole s = record { source = s; items = [] }

-- the netlist below its top module without the cells that are cut out of it, or there is no such module; one that is read by the rules of
-- each run is left as it is
abbrev pub HasCuts : NetlistForm → Source → Library → Result CutSource LinkFault → Type 0
HasCuts Narrow s lib found = found ≡ Ok (whole s)
HasCuts (Wide cutting) s lib (Ok cut) = IsCutOf s lib cutting cut
HasCuts (Wide cutting) s lib (Err fault) = IsCutCause s cutting.top fault

-- the input bits of the only module that none instantiates, or there is no such module
abbrev pub HasInputs : Source → Result (List PortName) LinkFault → Type 0
HasInputs s (Ok ports) = (top : Module) × (tops s ≡ top ∷ []) × (ports ≡ ports_of (input_bits top))
HasInputs s (Err fault) = IsTopCause s fault

-- the settings of a script among these inputs, where the clock of this name is judged, if one is named; or why it has none
abbrev pub HasSettings : Script → List PortName → List Setting → Option (List ℕ) → Result Settings ExpandFault → Type 0
HasSettings script inputs resets clock (Ok s) = AreSettings script inputs resets clock s
HasSettings script inputs resets clock (Err fault) = IsSettingsCause script inputs resets clock fault

-- the design of a netlist and its cells, which then have no fault; or a fault of theirs
abbrev pub Links : CutSource → Library → LinkOptions → Result Linked LinkFault → Type 0
Links s lib o (Ok l) = IsLinked s lib o l × IsUsable l × IsFaultless s lib o
Links s lib o (Err fault) = IsCause s lib o fault

-- the pairs that a script selects, or why it selects none
abbrev pub Selects : Linked → Script → Judging → Result Selected ExpandFault → Type 0
Selects l script judging (Ok s) = IsSelectionOf l script judging s
Selects l script judging (Err fault) = IsExpandCause l script judging fault

-- the names of the top module and of the clock, where they are asked for
abbrev pub asked_top : NetlistForm → Option (List ℕ)
asked_top Narrow = None
asked_top (Wide cutting) = cutting.top

abbrev pub asked_clock : NetlistForm → Option (List ℕ)
asked_clock Narrow = None
asked_clock (Wide cutting) = cutting.clock

-- what is set from outside; where a clock is asked for, what is not on it is cut out
abbrev pub options_of : NetlistForm → Settings → Reset → LinkOptions
options_of form s reset = record {
  clock = s.clock;
  fixed = s.fixed;
  resets = reset.ports;
  reset_len = reset.len;
  wide = is_wide form;
  cut_clocks = is_some (asked_clock form);
}

-- the netlist without what is cut out of it, or the line of the fault of its top module
abbrev pub Cuts : ReadTexts → Found CutSource → Type 0
Cuts t = Staged (HasCuts t.forms.netlist t.source t.library) link_line

-- the input bits of the top module and what a script sets of them, or the line of the first fault
unfoldable pub SettlesIn : ReadTexts → Source → List Setting → Found Settled → Type 0
SettlesIn t source resets = do
  inputs ← Staged (HasInputs source) link_line
  settings ← Staged (HasSettings t.script inputs resets (asked_clock t.forms.netlist)) expand_line
  λ found. found ≡ Ok (record { inputs = inputs; settings = settings })

-- those of what is left of the netlist
unfoldable pub Settles : ReadTexts → List Setting → Found Settled → Type 0
Settles t resets = do
  cut ← Cuts t
  SettlesIn t cut.source resets

-- the design of what is left with its names, or the line of the first fault
unfoldable pub LinksIn : ReadTexts → CutSource → Reset → Found Linked → Type 0
LinksIn t cut reset = do
  inputs ← Staged (HasInputs cut.source) link_line
  settings ← Staged (HasSettings t.script inputs reset.ports (asked_clock t.forms.netlist)) expand_line
  Staged (Links cut t.library (options_of t.forms.netlist settings reset)) link_line

-- the design with its names, or the line of the first fault
unfoldable pub LinksTo : ReadTexts → Reset → Found Linked → Type 0
LinksTo t reset = do
  cut ← Cuts t
  LinksIn t cut reset

-- the name of the first of these modules
abbrev pub first_name : List Module → List ℕ
first_name [] = []
first_name (m ∷ rest) = m.name

-- the name of the top module
unfoldable pub top_name : Source → List ℕ
top_name s = first_name (tops s)

-- what is told of the cells of a reference that are cut out
abbrev pub told_cut : CutName → CutCells
told_cut c = record { cell = c.cell; count = c.count; «open» = c.«open» }

-- with what is told of the netlist too
abbrev pub with_netlist : NetlistForm → Names → Notices → Notices
with_netlist form names n = record n { top = asked_top form; clock = asked_clock form; cuts = map told_cut names.cuts }

-- how many nets are free behind what is cut out, where cells may be cut out
abbrev pub free_count : NetlistForm → Names → Option ℕ
free_count Narrow names = None
free_count (Wide cutting) names = Some (length names.free)

-- what is told of constraints of which nothing is judged: the commands that are passed over by their names
abbrev pub skipped_alone : ReadTexts → Notices
skipped_alone t = record { top = None; clock = None; cuts = []; skipped = skipped_of t.forms.script t.script; unjudged = []; hold_commands = 0 }

-- with what is told of their netlist too, whose design has these names
abbrev pub told_alone : ReadTexts → Names → Notices
told_alone t names = with_netlist t.forms.netlist names (skipped_alone t)

-- a design with the pairs that a script selects in it, and what is told of the netlist and of the script beside them
abbrev pub designed_by : ReadTexts → Judging → CutSource → Linked → Selected → Designed
designed_by t judging cut linked selected = record {
  linked = linked;
  selected = selected;
  notices = with_netlist t.forms.netlist linked.names (notices_of t.forms.script judging (top_name cut.source) t.script selected);
  free = free_count t.forms.netlist linked.names;
}

-- the design with its names, the selected pairs and what is told beside them, or the line of the first fault
unfoldable pub DesignsIn : ReadTexts → CutSource → Reset → Judging → Found Designed → Type 0
DesignsIn t cut reset judging = do
  linked ← LinksIn t cut reset
  selected ← Staged (Selects linked t.script judging) expand_line
  λ found. found ≡ Ok (designed_by t judging cut linked selected)

-- those of what is left of the netlist
unfoldable pub Designs : ReadTexts → Reset → Judging → Found Designed → Type 0
Designs t reset judging = do
  cut ← Cuts t
  DesignsIn t cut reset judging

-- what those rely on who judge the pairs of a design: it is sound, its names are of its places, each pair has a claim, and each
-- claim fits
pub record CanBeJudged (d : Designed) : Type 0 where
  pub sound : IsSound d.linked.design
  pub usable : IsUsable d.linked
  pub each : length d.selected.claims ≡ length d.selected.pairs
  pub fit : All (Fits d.linked.design) d.selected.claims
