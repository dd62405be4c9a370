-- Lists of pins and cells, one more at a time.
use Rattle.std.proofs.Common.{◌≡◌, ℕ, zero, suc, ◌+◌, ◌-◌, ◌≤◌, Bool, false, List, [], ◌∷◌, ◌++◌, length, map, drop, Some, refl, ap, subst, sym, ◌∙◌, arith, append_assoc}
use Rattle.std.specs.Prelude.{Option, slice_get, zip}
use Rattle.net_model.specs.declared.netlist.Gate.{Gate}
use Rattle.icg_rewrite.specs.Rewritten.{rewritten}
use Rattle.link_defs.specs.declared.circuits.Part.{Part}
use Rattle.linked_types.specs.declared.names.CellName.{CellName}
use Rattle.linked_types.specs.declared.names.PinName.{PinName}
use Rattle.link_defs.specs.CellNames.{Leaf, output_role, cell_name, cell_names}
use Rattle.link_defs.specs.declared.circuits.Circuit.{Circuit}
use Rattle.link_defs.specs.Circuits.{part_regs}
use Rattle.link_defs.specs.Designs.{number_by}
use Rattle.link_defs.specs.GatedDesigns.{enabled_drivers}
use Rattle.link_defs.specs.Links.{source_count}
use Rattle.cell_types.specs.declared.libraries.Library.{Library}
use Rattle.net_link.specs.declared.designs.GatedDesign.{GatedDesign}
use Rattle.link_design.specs.Lawful.{IsLawfulCircuit}
use Rattle.net_link.specs.Made.{IsGatedDesign}
use Rattle.net_link.proofs.ClockParts.{are_clocked}
use Rattle.link_design.proofs.Leading.{map_at}
use Rattle.link_items.specs.declared.made.LeafPlace.{LeafPlace}
use Rattle.link_items.specs.Items.{AreLeavesAt}
use Rattle.link_tops.specs.Clashes.{leaf_names}
use Rattle.link_items.proofs.Listing.{drop_next, drop_past, with_none}
use Rattle.link_defs.specs.declared.circuits.Part.TheVariants as part
use Rattle.std.proofs.lemmas.List.{length-map}
use Rattle.std.proofs.lemmas.Option.{get_or_from_slice_get}
use Rattle.net_link.specs.Numbers.{number_in}
use Rattle.net_link.specs.Places.{drive_role, leaf_of, leaf_at, AreLeavesOf, ArePlacesOf}
use Rattle.net_link.proofs.Driving.{design_nets}
use Rattle.net_link.proofs.Enabled.{IsKnown, numbered}
use Rattle.net_link.proofs.Leafing.{leaves_are, leaf_parts, same_regs}
use Rattle.net_link.proofs.Counting.{places_good, own_names}

-- what is left begins with the next, which is pushed
pub left_next : {X : Type 0} (whole list list2 rest : List X) (x : X) → whole ≡ list ++ x ∷ rest → list2 ≡ list ++ x ∷ [] → whole ≡ list2 ++ rest
left_next whole list list2 rest x is made = is ∙ sym (append_assoc list (x ∷ []) rest) ∙ ap (λ xs. xs ++ rest) (sym made)

-- nothing is left
pub left_none : {X : Type 0} (whole list rest : List X) → whole ≡ list ++ rest → rest ≡ [] → list ≡ whole
left_none whole list rest is none = sym (is ∙ ap (λ xs. list ++ xs) none ∙ with_none list)

-- the cells of leaves, one leaf on
pub cells_next : (number : ℕ → ℕ) (sources : ℕ) (tree : List Bool) (before : ℕ) (ls : List Leaf) (k : ℕ) (l : Leaf) → slice_get ls k ≡ Some l
    → cell_names number sources tree before (drop k ls)
    ≡ cell_name number sources tree before l ∷ cell_names number sources tree (before + length (part_regs l.part)) (drop (k + 1) ls)
unfolding cell_names
cells_next number sources tree before ls k l at = ap (λ xs. cell_names number sources tree before xs) (drop_next ls k l at)

pub cells_none : (number : ℕ → ℕ) (sources : ℕ) (tree : List Bool) (before : ℕ) (ls : List Leaf) (k : ℕ) → length ls ≤ k
    → cell_names number sources tree before (drop k ls) ≡ []
unfolding cell_names
cells_none number sources tree before ls k past = ap (λ xs. cell_names number sources tree before xs) (drop_past ls k past)

-- what stands at a place of two lists
pub zip_at : {X Y : Type 0} (xs : List X) (ys : List Y) (k : ℕ) (x : X) (y : Y) → slice_get xs k ≡ Some x → slice_get ys k ≡ Some y
    → slice_get (zip xs ys) k ≡ Some (x, y)
zip_at [] ys k x y at_x at_y = cc
zip_at (a ∷ xs) [] k x y at_x at_y = cc
zip_at (a ∷ xs) (b ∷ ys) zero x y at_x at_y =
    let first : a ≡ x = cc in let second : b ≡ y = cc in ap (λ z. Some (z, b)) first ∙ ap (λ z. Some (x, z)) second
zip_at (a ∷ xs) (b ∷ ys) (suc k) x y at_x at_y = zip_at xs ys k x y at_x at_y

-- two lists are as long as the shorter
pub zip_short : {X Y : Type 0} (xs : List X) (ys : List Y) → (length (zip xs ys) ≤ length xs) × (length (zip xs ys) ≤ length ys)
zip_short [] ys = (omega arith, omega arith)
zip_short (x ∷ xs) [] = (omega arith, omega arith)
zip_short (x ∷ xs) (y ∷ ys) = let (left, right) = zip_short xs ys in (omega (arith, left), omega (arith, right))

-- output pins by the numbers of their nets
pub drives_are : (number : ℕ → ℕ) (pins : List (List ℕ)) (outs : List ℕ)
    → map drive_role (zip pins (map number outs)) ≡ map (output_role number) (zip pins outs)
drives_are number [] outs = refl
drives_are number (pin ∷ pins) [] = refl
drives_are number (pin ∷ pins) (out ∷ outs) = ap (λ ps. output_role number (pin, out) ∷ ps) (drives_are number pins outs)

-- one leaf more
pub names_next : (number : ℕ → ℕ) (sources : ℕ) (tree : List Bool) (reg reg2 : ℕ) (lib : Library) (parts : List Part) (places : List LeafPlace) (k : ℕ)
    (x : LeafPlace) (p : Part) (whole list list2 : List CellName) (cell : CellName) → slice_get places k ≡ Some x → slice_get parts x.part ≡ Some p
    → whole ≡ list ++ cell_names number sources tree reg (drop k (map (leaf_at lib parts) places))
    → cell ≡ cell_name number sources tree reg (leaf_of lib x p) → list2 ≡ list ++ cell ∷ [] → reg2 ≡ reg + length (part_regs p)
    → whole ≡ list2 ++ cell_names number sources tree reg2 (drop (k + 1) (map (leaf_at lib parts) places))
names_next number sources tree reg reg2 lib parts places k x p whole list list2 cell at there so_far is made next =
    let l = leaf_of lib x p in
    let ls = map (leaf_at lib parts) places in
    let here : slice_get ls k ≡ Some l = map_at (leaf_at lib parts) places k x at
    ∙ ap (λ (q : Part). Some (leaf_of lib x q)) (get_or_from_slice_get parts x.part p (part.Comb false [] []) there) in
    let rest = λ (r : ℕ). cell_names number sources tree r (drop (k + 1) ls) in
    left_next whole list list2 (rest reg2) (cell_name number sources tree reg l)
    (so_far ∙ ap (λ (xs : List CellName). list ++ xs) (cells_next number sources tree reg ls k l here)
    ∙ ap (λ (r : ℕ). list ++ cell_name number sources tree reg l ∷ rest r) (sym next)) (made ∙ ap (λ (c : CellName). list ++ c ∷ []) is)

-- no leaf is left
pub names_all : (number : ℕ → ℕ) (sources : ℕ) (tree : List Bool) (reg : ℕ) (lib : Library) (parts : List Part) (places : List LeafPlace) (k : ℕ)
    (whole list : List CellName) → length places ≤ k
    → whole ≡ list ++ cell_names number sources tree reg (drop k (map (leaf_at lib parts) places)) → list ≡ whole
names_all number sources tree reg lib parts places k whole list past so_far =
    left_none whole list (cell_names number sources tree reg (drop k (map (leaf_at lib parts) places))) so_far
    (cells_none number sources tree reg (map (leaf_at lib parts) places) k (omega (arith, past, length-map places (leaf_at lib parts))))

places_named : (lib : Library) (parts : List Part) (places : List LeafPlace) → map (λ (l : Leaf). l.name) (map (leaf_at lib parts) places) ≡ leaf_names places
places_named lib parts [] = refl
places_named lib parts (x ∷ xs) = ap (λ (ns : List (List ℕ)). x.name ∷ ns) (places_named lib parts xs)

-- the cells have the names of the leaves
pub names_kept : (number : ℕ → ℕ) (sources : ℕ) (tree : List Bool) (lib : Library) (parts : List Part) (places : List LeafPlace) (list : List CellName)
    → list ≡ cell_names number sources tree 0 (map (leaf_at lib parts) places) → map (λ (c : CellName). c.name) list ≡ leaf_names places
names_kept number sources tree lib parts places list is =
    ap (λ (cs : List CellName). map (λ (c : CellName). c.name) cs) is ∙ own_names number sources tree 0 (map (leaf_at lib parts) places)
    ∙ places_named lib parts places

-- what is known of a circuit by its design with clock gates
known_of : (c : Circuit) (order : List Gate) (made : GatedDesign) → IsLawfulCircuit c → (m : IsGatedDesign c order made)
    → IsKnown c made.tree order m.gates made.gated
known_of c order made lawful m = record {
  lawful = lawful;
  once = m.once;
  clocked = are_clocked c m.clocked;
  gated_is = m.gated_is;
  gated = m.lawful;
}

-- the cells by the row of a rewritten design are those by its drivers
pub names_agree : (c : Circuit) (order : List Gate) (made : GatedDesign) (m : IsGatedDesign c order made) (nets sources : ℕ) (lib : Library)
    (places : List LeafPlace) (found : List Leaf) → nets ≡ made.gated.design.nets + length made.gated.gates
    → sources ≡ made.gated.design.nets - length made.gated.design.gates → IsLawfulCircuit c → AreLeavesAt lib c.parts places found
    → cell_names (number_in made.numbers nets) sources made.tree 0 (map (leaf_at lib c.parts) places)
    ≡ cell_names (number_by (enabled_drivers c order m.gates)) (source_count c) made.tree 0 found
names_agree c order made m nets sources lib places found all less lawful at =
    let d = made.gated.design in
    let by_row = number_in made.numbers nets in
    let by_drivers : ℕ → ℕ = number_by (enabled_drivers c order m.gates) in
    let same : by_row ≡ by_drivers = λ i net. numbered c made.tree order m.gates made.gated made.numbers nets lawful m.gated_is m.numbers all net i in
    ap (λ (ls : List Leaf). cell_names by_row sources made.tree 0 ls) (leaves_are lib c.parts places found at)
    ∙ ap (λ (f : ℕ → ℕ). cell_names f sources made.tree 0 found) same
    ∙ ap (λ (n : ℕ). cell_names by_drivers n made.tree 0 found) (omega (arith, less, design_nets c made.tree order d m.gated_is.design))

-- every place of them is one of the rewritten design
pub places_are : (c : Circuit) (order : List Gate) (made : GatedDesign) (m : IsGatedDesign c order made) (lib : Library) (places : List LeafPlace)
    (found : List Leaf) (list : List CellName) → IsLawfulCircuit c → AreLeavesOf c.parts found → AreLeavesAt lib c.parts places found
    → list ≡ cell_names (number_by (enabled_drivers c order m.gates)) (source_count c) made.tree 0 found → ArePlacesOf (rewritten made.gated) list
places_are c order made m lib places found list lawful own at is =
    subst (λ (cs : List CellName). ArePlacesOf (rewritten made.gated) cs) (sym is)
    (places_good c made.tree order m.gates made.gated found (known_of c order made lawful m) (leaf_parts lib c.parts places found at) own.shaped
    (same_regs c.parts found own))

-- numbers of the nets of items
pub map_map : {X : Type 0} (f : ℕ → ℕ) (g : X → ℕ) (xs : List X) → map f (map g xs) ≡ map (λ x. f (g x)) xs
map_map f g [] = refl
map_map f g (x ∷ xs) = ap (λ ns. f (g x) ∷ ns) (map_map f g xs)

-- a cell by its four parts
pub same_cell : (n n2 : List ℕ) (r r2 : Option ℕ) (os os2 : List ℕ) (ps ps2 : List PinName) → n ≡ n2 → r ≡ r2 → os ≡ os2 → ps ≡ ps2
    → ◌≡◌ {A = CellName} (record { name = n; reg = r; outs = os; pins = ps }) (record { name = n2; reg = r2; outs = os2; pins = ps2 })
same_cell n n2 r r2 os os2 ps ps2 names regs outs pins =
    let build = λ (n : List ℕ) (r : Option ℕ) (os : List ℕ) (ps : List PinName).
    let x : CellName = record { name = n; reg = r; outs = os; pins = ps } in x in
    ap (λ (n : List ℕ). build n r os ps) names ∙ ap (λ (r : Option ℕ). build n2 r os ps) regs ∙ ap (λ (os : List ℕ). build n2 r2 os ps) outs
    ∙ ap (λ (ps : List PinName). build n2 r2 os2 ps) pins
