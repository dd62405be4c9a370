-- What is cut out of a netlist, before what follows.
use Rattle.std.proofs.Common.{◌≡◌, List, [], Result, Ok, Err, refl, sym, subst}
use Rattle.std.specs.Prelude.{All}
use Rattle.std.proofs.lemmas.List.Elements.{All-nil}
use Rattle.netlist_types.specs.declared.sources.Source.{Source}
use Rattle.netlist_types.specs.Lawful.{IsLawful}
use Rattle.link_defs.specs.declared.cuts.CutItem.{CutItem}
use Rattle.link_defs.specs.declared.cuts.CutSource.{CutSource}
use Rattle.link_defs.specs.Cuts.{IsFitItem, IsLawfulCut}
use Rattle.run_options.specs.declared.netlists.Cutting.{Cutting}
use Rattle.run_options.specs.declared.netlists.NetlistForm.{NetlistForm}
use Rattle.run_options.specs.declared.netlists.NetlistForm.TheVariants.{Narrow, Wide}
use Rattle.fault_lines.specs.Designs.{link_line}
use Rattle.design_stages.specs.declared.designs.ReadTexts.{ReadTexts}
use Rattle.design_stages.specs.declared.refusals.Refusal.{Refusal}
use Rattle.design_stages.specs.Designs.{Cuts, HasCuts, whole}
use Rattle.design_stages.specs.Stages.{Found, Finds, Staged, Then}
use Rattle.design_stages.proofs.Staging.{then_goes, then_stops}

-- a source of which nothing is cut out can be linked where it is lawful
pub whole_lawful : (s : Source) (items : List CutItem) → IsLawful s → items ≡ [] → IsLawfulCut (record { source = s; items = items })
whole_lawful s items lawful none = record { source = lawful; items = subst (λ (xs : List CutItem). All (IsFitItem s) xs) (sym none) (All-nil (IsFitItem s)) }

-- a netlist that is read by the rules of each run is left whole
pub left_whole : (t : ReadTexts) → t.forms.netlist ≡ Narrow → Cuts t (Ok (whole t.source))
left_whole t is = subst (λ (form : NetlistForm). Staged (HasCuts form t.source t.library) link_line (Ok (whole t.source))) (sym is) refl

-- so what follows is found of the whole netlist
pub whole_goes : {B : Type 0} (t : ReadTexts) (Next : CutSource → Found B → Type 0) (items : List CutItem) (result : Result B Refusal)
    → t.forms.netlist ≡ Narrow → items ≡ [] → Finds (Next (record { source = t.source; items = items })) result → Finds (Then (Cuts t) Next) result
whole_goes t Next items result is none found =
    then_goes (Cuts t) Next (whole t.source) result (left_whole t is)
    (subst (λ (xs : List CutItem). Finds (Next (record { source = t.source; items = xs })) result) none found)

-- what is cut out of one that is read wide is what its form says
cuts_by : (t : ReadTexts) (cutting : Cutting) (result : Result CutSource Refusal) → t.forms.netlist ≡ Wide cutting
    → Finds (Staged (HasCuts (Wide cutting) t.source t.library) link_line) result → Finds (Cuts t) result
cuts_by t cutting result is found =
    subst (λ (form : NetlistForm). Finds (Staged (HasCuts form t.source t.library) link_line) result) (sym is) found

-- so what follows is found of what is left
pub cut_goes : {B : Type 0} (t : ReadTexts) (cutting : Cutting) (Next : CutSource → Found B → Type 0) (cut : CutSource) (result : Result B Refusal)
    → t.forms.netlist ≡ Wide cutting → Staged (HasCuts (Wide cutting) t.source t.library) link_line (Ok cut) → Finds (Next cut) result
    → Finds (Then (Cuts t) Next) result
cut_goes t cutting Next cut result is left found = then_goes (Cuts t) Next cut result (cuts_by t cutting (Ok cut) is left) found

-- or the run is refused before
pub cut_stops : {B : Type 0} (t : ReadTexts) (cutting : Cutting) (Next : CutSource → Found B → Type 0) (why : Refusal)
    → t.forms.netlist ≡ Wide cutting → Finds (Staged (HasCuts (Wide cutting) t.source t.library) link_line) (Err why)
    → Finds (Then (Cuts t) Next) (Err why)
cut_stops t cutting Next why is refused = then_stops (Cuts t) Next why (cuts_by t cutting (Err why) is refused)
