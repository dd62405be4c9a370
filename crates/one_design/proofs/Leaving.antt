-- What is left of a netlist where cells are cut out of it is one.
use Rattle.std.proofs.Common.{◌≡◌, ◌∙◌, ℕ, Bool, cond, List, [], ◌∷◌, map, length, Option, Some, None, Result, Ok, Err, refl, sym, ap, subst, arith}
use Rattle.std.specs.Prelude.{Contains, filter, flat_map}
use Rattle.std.proofs.lemmas.Bool.Decides.{same_from_decides}
use Rattle.std.proofs.lemmas.List.Elements.{Contains-append_right}
use Rattle.std.proofs.lemmas.Option.{none-some, same_Some}
use Rattle.texts.specs.Names.{is_among}
use Rattle.netlist_types.specs.declared.sources.Source.{Source}
use Rattle.netlist_types.specs.declared.sources.Module.{Module}
use Rattle.netlist_types.specs.Lawful.{module_of}
use Rattle.cell_types.specs.declared.libraries.Library.{Library}
use Rattle.linked_types.specs.declared.faults.LinkFault.{LinkFault}
use Rattle.linked_types.specs.declared.faults.LinkFault.TheVariants as link
use Rattle.link_defs.specs.declared.cuts.CutSource.{CutSource}
use Rattle.link_defs.specs.Hierarchy.{tops}
use Rattle.link_tops.specs.Tops.{IsTopCause}
use Rattle.run_options.specs.declared.netlists.Cutting.{Cutting}
use Rattle.run_options.specs.declared.netlists.NetlistForm.{NetlistForm}
use Rattle.run_options.specs.declared.netlists.NetlistForm.TheVariants.{Narrow, Wide}
use Rattle.cut_source.specs.Cuttable.{Plan, plan, module_left}
use Rattle.cut_source.specs.Items.{items_cut}
use Rattle.cut_source.specs.Sources.{AreNamesBelow, IsCutCause, IsCutOf, IsTopOf, named_modules}
use Rattle.design_stages.specs.Designs.{HasCuts}
use Rattle.one_design.specs.Answers.{IsOneAnswer}

-- tests that agree on what a list has keep the same of it
same_kept : {A : Type 0} (p q : A → Bool) (xs : List A) → ((x : A) → Contains xs x → p x ≡ q x) → filter p xs ≡ filter q xs
same_kept p q [] same = refl
same_kept p q (x ∷ xs) same =
    let here = same x (0, omega arith, refl) in
    let rest = same_kept p q xs (λ y has. same y (Contains-append_right (x ∷ []) xs y has)) in
    λ i. cond (here i) (x ∷ rest i) (rest i)

-- a netlist with one top module is refused for want of memory alone
pub top_only : (s : Source) (top : Module) (e : LinkFault) → tops s ≡ top ∷ [] → IsTopCause s e → e ≡ link.Memory
top_only s top (link.NoTop number) one (count, wrong) = absurd (wrong (sym count ∙ ap length one))
top_only s top link.Memory one cause = refl
top_only s top (link.UnknownCell name) one cause = absurd cause
top_only s top (link.UnsupportedCell name) one cause = absurd cause
top_only s top (link.UnknownPin name) one cause = absurd cause
top_only s top (link.OpenInput name) one cause = absurd cause
top_only s top (link.Undriven name) one cause = absurd cause
top_only s top (link.ManyDrivers name) one cause = absurd cause
top_only s top (link.Loop name) one cause = absurd cause
top_only s top (link.NotTheClock name) one cause = absurd cause
top_only s top (link.ClockAsData name) one cause = absurd cause
top_only s top (link.Recursive name) one cause = absurd cause
top_only s top (link.NameClash name) one cause = absurd cause
top_only s top (link.Limit what number) one cause = absurd cause
top_only s top (link.BadSetting name) one cause = absurd cause

-- so is one with a module of the name that is given
named_only : (s : Source) (name : List ℕ) (top : Module) (e : LinkFault) → module_of s name ≡ Some top → IsCutCause s (Some name) e → e ≡ link.Memory
named_only s name top (link.BadSetting bad) there (same, none) = absurd (none-some top (sym none ∙ there))
named_only s name top link.Memory there cause = refl
named_only s name top (link.NoTop number) there cause = absurd cause
named_only s name top (link.UnknownCell cell) there cause = absurd cause
named_only s name top (link.UnsupportedCell cell) there cause = absurd cause
named_only s name top (link.UnknownPin pin) there cause = absurd cause
named_only s name top (link.OpenInput pin) there cause = absurd cause
named_only s name top (link.Undriven net) there cause = absurd cause
named_only s name top (link.ManyDrivers net) there cause = absurd cause
named_only s name top (link.Loop net) there cause = absurd cause
named_only s name top (link.NotTheClock cell) there cause = absurd cause
named_only s name top (link.ClockAsData net) there cause = absurd cause
named_only s name top (link.Recursive inner) there cause = absurd cause
named_only s name top (link.NameClash clash) there cause = absurd cause
named_only s name top (link.Limit what number) there cause = absurd cause

cut_only : (s : Source) (asked : Option (List ℕ)) (top : Module) (e : LinkFault) → IsTopOf s asked top → IsCutCause s asked e → e ≡ link.Memory
cut_only s None top e one cause = top_only s top e one cause
cut_only s (Some name) top e there cause = named_only s name top e there cause

-- the top module is one
top_same : (s : Source) (asked : Option (List ℕ)) (x y : Module) → IsTopOf s asked x → IsTopOf s asked y → y ≡ x
top_same s None x y first second =
    let both : y ∷ [] ≡ x ∷ [] = sym second ∙ first in
    let same : y ≡ x = cc in same
top_same s (Some name) x y first second = same_Some y x (sym second ∙ first)

-- and so are the modules below it
below_same : (p : Plan) (top : Module) (names others : List (List ℕ)) → AreNamesBelow p top names → AreNamesBelow p top others
    → named_modules p.source others ≡ named_modules p.source names
below_same p top names others first second =
    same_kept (λ (m : Module). is_among m.name others) (λ (m : Module). is_among m.name names) p.source.modules
    (λ m has. same_from_decides (is_among m.name others) (is_among m.name names) (second m has) (first m has))

-- so what is left of a netlist is one
cut_same : (s : Source) (lib : Library) (cutting : Cutting) (x y : CutSource) → IsCutOf s lib cutting x → IsCutOf s lib cutting y → y ≡ x
cut_same s lib cutting x y first second =
    let p = plan s lib cutting.free in
    let top = top_same s cutting.top first.top second.top first.top_is second.top_is in
    let below : AreNamesBelow p first.top second.names = subst (λ (m : Module). AreNamesBelow p m second.names) top second.below in
    let same = below_same p first.top first.names second.names first.below below in
    let modules = second.modules ∙ ap (λ (ms : List Module). map (module_left p) ms) same ∙ sym first.modules in
    let items = second.items ∙ ap (λ (ms : List Module). flat_map (items_cut p) ms) same ∙ sym first.items in
    λ i. record { source = record { modules = modules i }; items = items i }

-- and nothing but want of memory refuses it beside
pub one_cut : (form : NetlistForm) (s : Source) (lib : Library)
    → IsOneAnswer (λ cut. HasCuts form s lib (Ok cut)) (λ fault. HasCuts form s lib (Err fault)) link.Memory
one_cut Narrow s lib = record {
  same = λ x y first second.
      let both : (let r : Result CutSource LinkFault = Ok y in r) ≡ Ok x = second ∙ sym first in
      let same : y ≡ x = cc in same;
  only = λ x e is refused. absurd cc;
}
one_cut (Wide cutting) s lib = record {
  same = λ x y first second. cut_same s lib cutting x y first second;
  only = λ x e is refused. cut_only s cutting.top is.top e is.top_is refused;
}
