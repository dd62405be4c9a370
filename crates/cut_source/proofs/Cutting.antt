-- What is cut out of a source, and what is left of it.
use Rattle.std.proofs.Common.{◌≡◌, ◌≢◌, ℕ, false, List, [], ◌∷◌, length, All, None, Some, refl, ap, sym, ◌∙◌, subst}
use Rattle.std.specs.Prelude.{Option}
use Rattle.netlist_types.specs.declared.sources.Source.{Source}
use Rattle.netlist_types.specs.declared.sources.Module.{Module}
use Rattle.netlist_types.specs.Lawful.{IsLawful}
use Rattle.cell_types.specs.declared.libraries.Library.{Library}
use Rattle.linked_types.specs.declared.faults.LinkFault.{LinkFault}
use Rattle.linked_types.specs.declared.faults.LinkFault.TheVariants as fault
use Rattle.link_defs.specs.declared.cuts.CutItem.{CutItem}
use Rattle.link_defs.specs.declared.cuts.CutSource.{CutSource}
use Rattle.link_defs.specs.Cuts.{IsFitItem, IsLawfulCut}
use Rattle.link_defs.specs.Hierarchy.{is_used, tops}
use Rattle.run_options.specs.declared.netlists.Cutting.{Cutting}
use Rattle.cut_source.specs.Cuttable.{plan, module_left}
use Rattle.cut_source.specs.Sources.{IsTopOf, IsCutOf, IsCutCause, HasTop}
use Rattle.cut_source.proofs.Lawfully.{left_source, left_lawful}
use Rattle.cut_source.proofs.Fitting.{left_fit}
use Rattle.cut_source.proofs.Topping.{left_tops, top_there, same_top}

-- the source is what the modules below the top module leave
source_is : (s : Source) (lib : Library) (cutting : Cutting) (c : CutSource) (is : IsCutOf s lib cutting c)
    → c.source ≡ left_source (plan s lib cutting.free) is.names
source_is s lib cutting c is = ap (λ (ms : List Module). let r : Source = record { modules = ms } in r) is.modules

-- it can be linked, and what is cut out can be placed in it
pub cut_lawful : (s : Source) (lib : Library) (cutting : Cutting) (c : CutSource) → IsLawful s → IsCutOf s lib cutting c → IsLawfulCut c
cut_lawful s lib cutting c lawful is =
    let p = plan s lib cutting.free in
    let same = source_is s lib cutting c is in
    let fit = subst (λ (xs : List CutItem). All (IsFitItem (left_source p is.names)) xs) (sym is.items) (left_fit p is.names lawful) in record {
      source = subst (λ (x : Source). IsLawful x) (sym same) (left_lawful p is.top is.names lawful is.below);
      items = subst (λ (x : Source). All (IsFitItem x) c.items) (sym same) fit;
    }

-- the module that was the top module is the new one
pub cut_top : (s : Source) (lib : Library) (cutting : Cutting) (c : CutSource) → IsLawful s → IsCutOf s lib cutting c → HasTop s lib cutting c
cut_top s lib cutting c lawful is = λ top top_is unused.
    let p = plan s lib cutting.free in
    let same = source_is s lib cutting c is in
    let one : top ≡ is.top = same_top s cutting.top top is.top top_is is.top_is in
    let free : is_used (left_source p is.names) is.top.name ≡ false =
    sym (ap (λ (x : Source). is_used x is.top.name) same) ∙ sym (ap (λ (m : Module). is_used c.source m.name) one) ∙ unused in
    ap (λ (x : Source). tops x) same ∙ left_tops p is.top is.names lawful (top_there s cutting.top is.top is.top_is) is.below free
    ∙ ap (λ (m : Module). module_left p m ∷ []) (sym one)

-- with a top module there is no cause to refuse the source
pub no_cause : (s : Source) (name : Option (List ℕ)) (top : Module) → IsTopOf s name top → (f : LinkFault) → f ≢ fault.Memory → IsCutCause s name f → ⊥
no_cause s None top is (fault.NoTop number) other cause = cause.1 (sym cause.0 ∙ ap (λ (ms : List Module). length ms) is)
no_cause s None top is fault.Memory other cause = other refl
no_cause s None top is f other cause = cause
no_cause s (Some n) top is (fault.BadSetting bad) other cause = let e : Some top ≡ None = sym is ∙ cause.1 in cc
no_cause s (Some n) top is fault.Memory other cause = other refl
no_cause s (Some n) top is f other cause = cause

-- what was cut out of the same source and library
pub cut_of_same : (s t : Source) (lib mib : Library) (cutting : Cutting) (c : CutSource) → t ≡ s → mib ≡ lib → IsCutOf t mib cutting c
    → IsCutOf s lib cutting c
cut_of_same s t lib mib cutting c same also is =
    subst (λ (x : Source). IsCutOf x lib cutting c) same (subst (λ (y : Library). IsCutOf t y cutting c) also is)
