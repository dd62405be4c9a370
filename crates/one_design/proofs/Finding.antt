-- What stages find is one, stage by stage.
use Rattle.std.proofs.Common.{◌≡◌, ◌∙◌, ℕ, List, [], ◌∷◌, Option, Some, None, Result, Ok, Err, refl, sym, ap, subst, inl, inr}
use Rattle.netlist_types.specs.declared.sources.Source.{Source}
use Rattle.netlist_types.specs.declared.sources.Module.{Module}
use Rattle.cell_types.specs.declared.libraries.Library.{Library}
use Rattle.linked_types.specs.declared.faults.LinkFault.{LinkFault}
use Rattle.linked_types.specs.declared.faults.LinkFault.TheVariants as link
use Rattle.linked_types.specs.declared.names.PortName.{PortName}
use Rattle.linked_types.specs.declared.options.LinkOptions.{LinkOptions}
use Rattle.link_defs.specs.declared.cuts.CutSource.{CutSource}
use Rattle.link_defs.specs.Circuits.{input_bits}
use Rattle.link_defs.specs.Links.{ports_of}
use Rattle.link_tops.specs.Tops.{IsTopCause}
use Rattle.selected_types.specs.declared.faults.ExpandFault.TheVariants as expand
use Rattle.run_options.specs.declared.judging.Judging.{Judging}
use Rattle.fault_lines.specs.Designs.{link_line, expand_line}
use Rattle.design_stages.specs.declared.designs.Designed.{Designed}
use Rattle.design_stages.specs.declared.designs.ReadTexts.{ReadTexts}
use Rattle.run_options.specs.declared.resets.Reset.{Reset}
use Rattle.design_stages.specs.Designs.{HasCuts, HasInputs, HasSettings, Links, Selects, Cuts, LinksIn, LinksTo, DesignsIn, Designs, asked_clock, designed_by}
use Rattle.design_stages.specs.Designs.{options_of}
use Rattle.design_stages.specs.Stages.{Found, Staged, Then}
use Rattle.one_design.specs.Answers.{IsOneAnswer}
use Rattle.one_design.specs.Designs.{FindsOne}
use Rattle.one_design.proofs.Fixing.{one_settings}
use Rattle.one_design.proofs.Leaving.{one_cut, top_only}
use Rattle.one_design.proofs.Linking.{one_linked}
use Rattle.one_design.proofs.Selecting.{one_selection}

-- what answers a call, by its value or its fault
abbrev pub HasOne : {A E : Type 0} → (Result A E → Type 0) → E → Type 0
HasOne Answers memory = IsOneAnswer (λ value. Answers (Ok value)) (λ fault. Answers (Err fault)) memory

-- a stage that answers with one value, and refuses with a line of no fault but that of memory, finds one
pub staged_one : {A E : Type 0} (Answers : Result A E → Type 0) (line : E → Option (List ℕ)) (memory : E) → line memory ≡ None → HasOne Answers memory
    → FindsOne (Staged Answers line)
staged_one {A} Answers line memory none one value (Ok other) is also = ap (λ (a : A). Ok a) (one.same value other is also)
staged_one {A} {E} Answers line memory none one value (Err text) is (fault, refused, told) =
    let same : fault ≡ memory = one.only value fault is refused in
    let wrong : None ≡ Some text = sym none ∙ ap line (sym same) ∙ told in
    absurd cc

-- the value that was found
abbrev value_of : {A : Type 0} → A → Found A → A
value_of other (Ok value) = value
value_of other (Err line) = other

-- a found value is no other one
pub found_same : {A : Type 0} (x y : A) → (let r : Found A = Ok y in r) ≡ Ok x → y ≡ x
found_same x y same = ap (value_of y) same

-- and a refusal is none
pub never_both : {A : Type 0} (x : A) (line : List ℕ) → ¬ ((let r : Found A = Err line in r) ≡ Ok x)
never_both x line same = cc

-- two stages that find one value each, one after the other, find one
pub then_one : {A B : Type 0} (First : Found A → Type 0) (Next : A → Found B → Type 0) → FindsOne First → ((a : A) → FindsOne (Next a))
    → FindsOne (Then First Next)
unfolding Then
then_one {A} {B} First Next first next value (Ok other) (a, found, is) (b, again, also) =
    let same : b ≡ a = found_same a b (first a (Ok b) found again) in
    next a value (Ok other) is (subst (λ (x : A). Next x (Ok other)) same also)
then_one First Next first next value (Err line) (a, found, is) (inl refused) = absurd (never_both a line (first a (Err line) found refused))
then_one {A} {B} First Next first next value (Err line) (a, found, is) (inr (b, again, refused)) =
    let same : b ≡ a = found_same a b (first a (Ok b) found again) in
    next a value (Err line) is (subst (λ (x : A). Next x (Err line)) same refused)

-- the input bits of a netlist are one list
inputs_same : (s : Source) (x y : List PortName) → HasInputs s (Ok x) → HasInputs s (Ok y) → y ≡ x
inputs_same s x y (top, one, is) (other, too, also) =
    let both : other ∷ [] ≡ top ∷ [] = sym too ∙ one in
    let same : other ≡ top = cc in
    also ∙ ap (λ (m : Module). ports_of (input_bits m)) same ∙ sym is

-- a netlist with one top module is refused for want of memory alone
inputs_only : (s : Source) (x : List PortName) (e : LinkFault) → HasInputs s (Ok x) → IsTopCause s e → e ≡ link.Memory
inputs_only s x e (top, one, is) cause = top_only s top e one cause

pub one_inputs : (s : Source) → HasOne (HasInputs s) link.Memory
one_inputs s = record { same = inputs_same s; only = inputs_only s }

-- a netlist with its cells has one answer
links_once : (s : CutSource) (lib : Library) (o : LinkOptions) → HasOne (Links s lib o) link.Memory
links_once s lib o =
    let one = one_linked s lib o in
    record { same = λ a b first second. one.same a b (first.0, first.2) (second.0, second.2); only = λ l e is cause. one.only l e (is.0, is.2) cause }

-- what is left of a netlist is one
pub cuts_one : (t : ReadTexts) → FindsOne (Cuts t)
cuts_one t = staged_one (HasCuts t.forms.netlist t.source t.library) link_line link.Memory refl (one_cut t.forms.netlist t.source t.library)

-- and so is its design
left_one : (t : ReadTexts) (cut : CutSource) (reset : Reset) → FindsOne (LinksIn t cut reset)
unfolding LinksIn
left_one t cut reset =
    then_one (Staged (HasInputs cut.source) link_line) _ (staged_one (HasInputs cut.source) link_line link.Memory refl (one_inputs cut.source))
    (λ inputs. then_one (Staged (HasSettings t.script inputs reset.ports (asked_clock t.forms.netlist)) expand_line) _
    (staged_one (HasSettings t.script inputs reset.ports (asked_clock t.forms.netlist)) expand_line expand.Memory refl
    (one_settings t.script inputs reset.ports (asked_clock t.forms.netlist)))
    (λ settings. staged_one (Links cut t.library (options_of t.forms.netlist settings reset)) link_line link.Memory refl
    (links_once cut t.library (options_of t.forms.netlist settings reset))))

-- texts have one design
pub links_one : (t : ReadTexts) (reset : Reset) → FindsOne (LinksTo t reset)
unfolding LinksTo
links_one t reset = then_one (Cuts t) _ (cuts_one t) (λ cut. left_one t cut reset)

-- a design with these pairs is one
made_one : (d : Designed) → FindsOne (λ (found : Found Designed). found ≡ Ok d)
made_one d value found is also = also ∙ sym is

-- what is left has one design with its pairs
pairs_one : (t : ReadTexts) (cut : CutSource) (reset : Reset) (judging : Judging) → FindsOne (DesignsIn t cut reset judging)
unfolding DesignsIn
pairs_one t cut reset judging =
    then_one (LinksIn t cut reset) _ (left_one t cut reset)
    (λ linked. then_one (Staged (Selects linked t.script judging) expand_line) _
    (staged_one (Selects linked t.script judging) expand_line expand.Memory refl (one_selection linked t.script judging))
    (λ selected. made_one (designed_by t judging cut linked selected)))

-- and so have texts
pub designs_one : (t : ReadTexts) (reset : Reset) (judging : Judging) → FindsOne (Designs t reset judging)
unfolding Designs
designs_one t reset judging = then_one (Cuts t) _ (cuts_one t) (λ cut. pairs_one t cut reset judging)
