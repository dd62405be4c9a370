-- What each stage of linking knows of the source.
use Rattle.std.proofs.Common.{◌≡◌, ℕ, ◌<◌, List, [], ◌∷◌, ◌++◌, length, map, Some, ap, subst, sym, ◌∙◌, inl, inr}
use Rattle.std.specs.Prelude.{Option, slice_get, flat_map}
use Rattle.std.specs.List.{IsDistinct}
use Rattle.std.specs.Str.{bytes_eq}
use Rattle.net_model.proofs.Members.{In, In-from_Contains}
use Rattle.netlist_types.specs.declared.sources.Source.{Source}
use Rattle.netlist_types.specs.declared.sources.Module.{Module}
use Rattle.netlist_types.specs.Lawful.{IsLawful, IsLawfulModule}
use Rattle.cell_types.specs.declared.libraries.Library.{Library}
use Rattle.cell_types.specs.Libraries.{IsLawful as IsLawfulLibrary}
use Rattle.link_design.specs.Faults.{IsFaultless as IsFaultlessCircuit}
use Rattle.link_design.specs.Lawful.{IsLawfulCircuit}
use Rattle.link_circuit.proofs.Circuited.{circuit_lawful}
use Rattle.link_circuit.specs.declared.circuits.FlatCircuit.{FlatCircuit}
use Rattle.link_tops.specs.Clashes.{leaf_names, IsApart}
use Rattle.link_defs.specs.declared.cuts.CutCell.{CutCell}
use Rattle.link_defs.specs.declared.cuts.CutSource.{CutSource}
use Rattle.link_defs.specs.Cuts.{IsCut}
use Rattle.link_defs.specs.Judged.{FlatNetlist}
use Rattle.link_defs.specs.declared.circuits.Circuit.{Circuit}
use Rattle.link_defs.specs.declared.circuits.Part.{Part}
use Rattle.linked_types.specs.declared.options.LinkOptions.{LinkOptions}
use Rattle.link_defs.specs.CellNames.{Leaf, leaves}
use Rattle.link_defs.specs.Circuits.{circuit_of, input_bits, output_bits}
use Rattle.link_defs.specs.Faults.{bit_names, IsBadSetting, IsFaultless}
use Rattle.link_defs.specs.Flatten.{Scope, flat_of, full_names, scope_names}
use Rattle.link_defs.specs.Hierarchy.{tops}
use Rattle.link_circuit.specs.declared.flats.Flattened.{Flattened}
use Rattle.link_circuit.specs.Flats.{AreFine, AreScopes, IsFlattened, IsUnrecursive}
use Rattle.link_items.specs.declared.made.Instance.{Instance}
use Rattle.link_items.specs.declared.made.LeafPlace.{LeafPlace}
use Rattle.link_items.specs.Items.{module_at, scope_of, AreLeavesAt}
use Rattle.link_items.proofs.Naming.{some_at}
use Rattle.link_items.proofs.Pinned.{lawful_at}
use Rattle.link_circuit.proofs.Finding.{module_is}
use Rattle.link_circuit.specs.Names.{IsLeftBelow}
use Rattle.link_tops.specs.Tops.{IsTop}
use Rattle.net_link.specs.Nets.{IsOfTwoNets, names_in}
use Rattle.net_link.specs.declared.left.LeftCircuit.{LeftCircuit}
use Rattle.net_link.specs.Left.{IsLeft}
use Rattle.net_link.specs.Stages.{IsFlatCircuit}
use Rattle.net_link.proofs.Remaining.{as_cut}
use Rattle.net_link.proofs.Causing.{names_of_leaves, faultless_is}
use Rattle.net_link.proofs.Linking.{parts_below}
use Rattle.net_link.proofs.Rooms.{IsRoomy}
use Rattle.net_link.proofs.Tabling.{names_same}

-- the circuit of a flat netlist, with its instances and leaves
pub flat_circuit_is : (s : Source) (lib : Library) (top : Module) (clock : Option (List ℕ)) (f : Flattened) (c : FlatCircuit)
    → IsFlattened s lib (flat_of s lib top) f → AreFine s lib (flat_of s lib top) → c.circuit ≡ circuit_of s lib top clock → c.scopes ≡ f.scopes
    → c.leaves ≡ f.made.leaves → IsDistinct bytes_eq (leaf_names f.made.leaves) → IsApart (leaf_names f.made.leaves) → IsFlatCircuit s lib top clock c
flat_circuit_is s lib top clock f c is fine circuit scopes places differ apart =
    let parts : f.made.parts ≡ c.circuit.parts = is.parts ∙ sym (parts_below s lib top clock c.circuit circuit) in
    let names = names_of_leaves lib f.made.parts f.made.leaves (leaves s lib (flat_of s lib top)) is.leaves in
    record {
      below = record {
        circuit = circuit;
        scopes = ap (λ (gs : List Instance). map (scope_of s) gs) scopes ∙ is.scopes;
        are_scopes = subst (λ (gs : List Instance). AreScopes s gs) (sym scopes) is.are_scopes;
        leaves = subst (λ (ps : List Part). AreLeavesAt lib ps c.leaves (leaves s lib (flat_of s lib top))) parts
            (subst (λ (xs : List LeafPlace). AreLeavesAt lib f.made.parts xs (leaves s lib (flat_of s lib top))) (sym places) is.leaves);
      };
      fine = fine;
      differ = subst (λ (xs : List LeafPlace). IsDistinct bytes_eq (leaf_names xs)) (sym places) differ;
      apart = subst (λ (ns : List (List ℕ)). IsApart ns) names apart;
    }

-- the top module of a lawful source is lawful
pub top_lawful : (s : Source) (place : ℕ) → IsLawful s → place < length s.modules → IsLawfulModule s (module_at s place)
top_lawful s place lawful lt =
    let (m, at) = some_at s.modules place lt in subst (λ (t : Module). IsLawfulModule s t) (module_is s place m at) (lawful_at s lawful place m at)

-- a design can be made of the circuit below it
pub lawful_below : (s : Source) (lib : Library) (place : ℕ) (clock : Option (List ℕ)) (c : FlatCircuit) → IsLawful s → IsLawfulLibrary lib.cells
    → place < length s.modules → IsFlatCircuit s lib (module_at s place) clock c → IsLawfulCircuit c.circuit
lawful_below s lib place clock c lawful cells lt is =
    subst (λ (k : Circuit). IsLawfulCircuit k) (sym is.below.circuit)
    (circuit_lawful s lib (module_at s place) lawful cells (top_lawful s place lawful lt) is.fine clock)

-- the only top module is the module at its place
pub top_is : (s : Source) (place : ℕ) → IsTop s place → tops s ≡ module_at s place ∷ []
top_is s place (top, at, one) = one ∙ ap (λ (m : Module). m ∷ []) (module_is s place top at)

-- the full names below a module are those of the circuit's instances
pub names_below : (s : CutSource) (lib : Library) (top : Module) (o : LinkOptions) (j : FlatNetlist) (c : FlatCircuit) → IsLeftBelow s lib top o j c
    → full_names (flat_of s.source lib top) ≡ names_in s.source c.scopes
names_below s lib top o j c below = ap (λ (xs : List Scope). flat_map scope_names xs) (sym below.scopes) ∙ names_same s.source c.scopes

-- each leaf has its part among those of the circuit
leaf_part : (lib : Library) (parts : List Part) (places : List LeafPlace) (ls : List Leaf) (l : Leaf) → AreLeavesAt lib parts places ls → In l ls
    → (place : ℕ) × (slice_get parts place ≡ Some l.part)
leaf_part lib parts [] [] l all has = absurd has
leaf_part lib parts [] (y ∷ ys) l all has = absurd all
leaf_part lib parts (x ∷ xs) [] l all has = absurd all
leaf_part lib parts (x ∷ xs) (y ∷ ys) l all (inl same) = (x.part, subst (λ (z : Leaf). slice_get parts x.part ≡ Some z.part) same all.0.part)
leaf_part lib parts (x ∷ xs) (y ∷ ys) l all (inr later) = leaf_part lib parts xs ys l all.1 later

-- no refusal of the source has its cause, where no stage refused it
pub free_below : (s : CutSource) (lib : Library) (o : LinkOptions) (top : Module) (j : FlatNetlist) (l : LeftCircuit) → tops s.source ≡ top ∷ []
    → IsLeft s lib top o j l → IsUnrecursive s.source → IsFaultlessCircuit l.flat.circuit → IsRoomy l.flat.circuit
    → IsApart (bit_names (input_bits top ++ output_bits top))
    → ((name : List ℕ) → IsOfTwoNets (names_in s.source l.flat.scopes) l.flat.circuit name → ⊥) → ((name : List ℕ) → IsBadSetting top o name → ⊥)
    → IsFaultless s lib o
free_below s lib o top j l one is ordered circuit room ports nets settings =
    let k = l.flat.circuit in
    faultless_is s lib o top j k one (record {
      judged = is.below.judged;
      flat = record {
        fine = is.fine;
        unrecursive = ordered;
        circuit = circuit;
        room = room;
        places = λ x has. leaf_part lib k.parts l.flat.leaves j.found x is.below.leaves (In-from_Contains j.found x has);
        cells = is.apart;
        ports = ports;
        nets = subst (λ (ps : List (List ℕ × ℕ)). (name : List ℕ) → IsOfTwoNets ps k name → ⊥)
            (sym (names_below s lib top o j l.flat is.below)) nets;
        settings = settings;
        few = is.few;
      };
      cut = subst (λ (cells : List CutCell). IsCut j.circuit cells k) is.cells (as_cut j.circuit l.cut k is.cut);
      none = is.none;
    })
