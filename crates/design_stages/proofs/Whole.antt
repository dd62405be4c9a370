-- What is found of a netlist of which nothing is cut out.
use Rattle.std.proofs.Common.{◌≡◌, ◌∙◌, ◌↔◌, ℕ, Bool, true, false, List, [], ◌∷◌, map, None, Result, Ok, Err, refl, sym}
use Rattle.std.proofs.Common.{ap, subst, inl, inr}
use Rattle.std.specs.Prelude.{is_some}
use Rattle.cell_types.specs.declared.libraries.Library.{Library}
use Rattle.linked_types.specs.declared.faults.LinkFault.{LinkFault}
use Rattle.linked_types.specs.declared.names.Linked.{Linked}
use Rattle.linked_types.specs.declared.names.Names.{Names}
use Rattle.linked_types.specs.declared.options.LinkOptions.{LinkOptions}
use Rattle.linked_types.specs.Narrow.{IsWhole}
use Rattle.netlist_types.specs.declared.sources.Source.{Source}
use Rattle.link_defs.specs.declared.cuts.CutCell.{CutCell}
use Rattle.link_defs.specs.declared.cuts.CutSource.{CutSource}
use Rattle.link_defs.specs.Cuts.{cut_cells, cut_names, free_pins, pin_name, sink_pins}
use Rattle.link_defs.specs.Flatten.{Scope, flat_of}
use Rattle.link_defs.specs.Judged.{FlatNetlist, IsJudged, netlist_of}
use Rattle.link_defs.specs.Links.{IsLinked}
use Rattle.run_options.specs.declared.judging.Judging.{Judging}
use Rattle.run_options.specs.declared.netlists.NetlistForm.{NetlistForm}
use Rattle.run_options.specs.declared.netlists.NetlistForm.TheVariants.{Narrow}
use Rattle.run_options.specs.declared.resets.Reset.{Reset}
use Rattle.script_notices.specs.Notices.{notices_of}
use Rattle.selected_types.specs.declared.notices.Notices.{Notices}
use Rattle.design_stages.specs.declared.designs.Designed.{Designed}
use Rattle.design_stages.specs.declared.designs.ReadTexts.{ReadTexts}
use Rattle.design_stages.specs.Designs.{Cuts, DesignsIn, HasCuts, LinksIn, asked_clock, designed_by, free_count, told_cut, top_name, whole}
use Rattle.design_stages.specs.Designs.{options_of, with_netlist}
use Rattle.design_stages.specs.Stages.{Found, Then}
use Rattle.design_stages.proofs.Cutting.{left_whole}

-- what is left is the whole netlist
only_whole : (t : ReadTexts) (cut : CutSource) → t.forms.netlist ≡ Narrow → Cuts t (Ok cut) → cut ≡ whole t.source
only_whole t cut is left =
    let moved : (let r : Result CutSource LinkFault = Ok cut in r) ≡ Ok (whole t.source) =
    subst (λ (form : NetlistForm). HasCuts form t.source t.library (Ok cut)) is left in
    let same : cut ≡ whole t.source = cc in same

-- and no run is refused before
never_refused : (t : ReadTexts) (line : List ℕ) → t.forms.netlist ≡ Narrow → Cuts t (Err line) → ⊥
never_refused t line is (fault, refused, told) =
    let moved : (let r : Result CutSource LinkFault = Err fault in r) ≡ Ok (whole t.source) =
    subst (λ (form : NetlistForm). HasCuts form t.source t.library (Err fault)) is refused in
    absurd cc

-- so what follows is found of the whole netlist
of_whole : {B : Type 0} (t : ReadTexts) (Next : CutSource → Found B → Type 0) (found : Found B) → t.forms.netlist ≡ Narrow → Then (Cuts t) Next found
    → Next (whole t.source) found
unfolding Then
of_whole t Next (Ok value) is (cut, left, rest) = subst (λ (c : CutSource). Next c (Ok value)) (only_whole t cut is left) rest
of_whole t Next (Err line) is (inl refused) = absurd (never_refused t line is refused)
of_whole t Next (Err line) is (inr (cut, left, rest)) = subst (λ (c : CutSource). Next c (Err line)) (only_whole t cut is left) rest

-- and what is found of the whole netlist follows
to_whole : {B : Type 0} (t : ReadTexts) (Next : CutSource → Found B → Type 0) (found : Found B) → t.forms.netlist ≡ Narrow → Next (whole t.source) found
    → Then (Cuts t) Next found
unfolding Then
to_whole t Next (Ok value) is rest = (whole t.source, left_whole t is, rest)
to_whole t Next (Err line) is rest = inr (whole t.source, left_whole t is, rest)

pub then_whole : {B : Type 0} (t : ReadTexts) (Next : CutSource → Found B → Type 0) (found : Found B) → t.forms.netlist ≡ Narrow
    → Then (Cuts t) Next found ↔ Next (whole t.source) found
then_whole t Next found is = (of_whole t Next found is, to_whole t Next found is)

-- no cell is cut out where no instance is
no_cells : (scopes : List Scope) → cut_cells [] scopes ≡ []
no_cells [] = refl
no_cells (scope ∷ scopes) = no_cells scopes

-- without one clock of several the netlist itself is judged
judged_cells : (one_clock : Bool) (n j : FlatNetlist) → one_clock ≡ false → IsJudged one_clock n j → j.cells ≡ n.cells
judged_cells true n j alone judged = absurd cc
judged_cells false n j alone judged = ap (λ (x : FlatNetlist). x.cells) judged.is

-- so no name is that of a cut cell
whole_names : (s : Source) (lib : Library) (o : LinkOptions) (l : Linked) → o.cut_clocks ≡ false → IsLinked (whole s) lib o l → IsWhole l.names
whole_names s lib o l alone is =
    let c = is.judged.circuit in
    let none = judged_cells o.cut_clocks (netlist_of (whole s) lib is.top o.clock) is.judged alone is.judged_is
    ∙ no_cells (flat_of s lib is.top).scopes in
    record {
      free = is.names.free ∙ ap (λ (cells : List CutCell). map pin_name (free_pins c cells)) none;
      sinks = is.names.sinks ∙ ap (λ (cells : List CutCell). map pin_name (sink_pins c is.cut.tree cells)) none;
      cuts = is.names.cuts ∙ ap cut_names none;
      assumed = is.names.assumed;
    }

-- the names of what is linked below the whole netlist
linked_names : (t : ReadTexts) (reset : Reset) (l : Linked) → t.forms.netlist ≡ Narrow → LinksIn t (whole t.source) reset (Ok l) → IsWhole l.names
unfolding LinksIn Then
linked_names t reset l narrow (inputs, has, (settings, set, links)) =
    let o = options_of t.forms.netlist settings reset in
    whole_names t.source t.library o l (ap (λ (form : NetlistForm). is_some (asked_clock form)) narrow) links.0

-- what is told where nothing is cut out
told_whole : (form : NetlistForm) (names : Names) (n : Notices) → form ≡ Narrow → names.cuts ≡ [] → n.top ≡ None → n.clock ≡ None → n.cuts ≡ []
    → with_netlist form names n ≡ n
told_whole form names n is none untold unnamed uncut =
    let top = ap (λ (f : NetlistForm). (with_netlist f names n).top) is ∙ sym untold in
    let clock = ap (λ (f : NetlistForm). (with_netlist f names n).clock) is ∙ sym unnamed in
    let cuts = ap (λ cs. map told_cut cs) none ∙ sym uncut in
    λ i. record { top = top i; clock = clock i; cuts = cuts i; skipped = n.skipped; unjudged = n.unjudged; hold_commands = n.hold_commands }

-- a design that is found of the whole netlist is told as such
pub told_of_whole : (t : ReadTexts) (reset : Reset) (judging : Judging) (d : Designed) → t.forms.netlist ≡ Narrow
    → DesignsIn t (whole t.source) reset judging (Ok d)
    → IsWhole d.linked.names × (d.free ≡ None) × (d.notices ≡ notices_of t.forms.script judging (top_name t.source) t.script d.selected)
unfolding DesignsIn Then
told_of_whole t reset judging d narrow (linked, links, (selected, selects, is)) =
    let made : d ≡ designed_by t judging (whole t.source) linked selected = cc in
    let names = linked_names t reset linked narrow links in
    let told = notices_of t.forms.script judging (top_name t.source) t.script selected in
    let free = ap (λ (x : NetlistForm). free_count x linked.names) narrow in
    subst (λ (x : Designed). IsWhole x.linked.names × (x.free ≡ None)
    × (x.notices ≡ notices_of t.forms.script judging (top_name t.source) t.script x.selected)) (sym made)
    (names, free, told_whole t.forms.netlist linked.names told narrow names.cuts refl refl refl)
