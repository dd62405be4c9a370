-- The gates that are kept by their nets are those whose parts are none of the clock tree.
use Rattle.std.proofs.Common.{◌≡◌, ℕ, zero, suc, ◌<◌, Bool, true, false, ◌&&◌, List, [], ◌∷◌, ◌++◌, map, length}
use Rattle.std.proofs.Common.{refl, ap, sym, ◌∙◌, arith, inl, inr, length-append}
use Rattle.std.specs.Prelude.{filter, flat_map, not, slice_get, Some}
use Rattle.std.specs.List.{list_any}
use Rattle.std.specs.List.Sorted.{IsPermutation}
use Rattle.sdcv_base.specs.Seqs.{is_marked}
use Rattle.net_model.proofs.Members.{In}
use Rattle.net_model.specs.declared.netlist.Gate.{Gate}
use Rattle.link_defs.specs.declared.circuits.Circuit.{Circuit}
use Rattle.link_defs.specs.declared.circuits.Part.{Part}
use Rattle.link_defs.specs.declared.circuits.Part.TheVariants as part
use Rattle.link_defs.specs.Circuits.{part_gates, all_gates}
use Rattle.link_defs.specs.Designs.{equations, gate_at, tree_marks, gates_at}
use Rattle.link_defs.proofs.Permuting.{filter_hit, filter_miss, places_permute}
use Rattle.link_design.specs.Kept.{is_kept, kept_in}
use Rattle.link_design.specs.Lawful.{IsLawfulCircuit, IsLawfulPart, IsLawfulGate}
use Rattle.link_design.specs.Lists.{part_marks, all_marks}
use Rattle.link_design.specs.Orders.{IsGateOrder}
use Rattle.link_design.specs.Trees.{is_tree_gate}
use Rattle.link_design.proofs.Parted.{all_in}

-- for each gate whether it is one of the tree, by its own nets
on_tree : List Bool → List Gate → List Bool → List Bool
on_tree tree [] marks = []
on_tree tree (g ∷ gates) [] = []
on_tree tree (g ∷ gates) (m ∷ marks) = is_tree_gate tree m g ∷ on_tree tree gates marks

on_tree_at : (tree : List Bool) (gates : List Gate) (marks : List Bool) (k : ℕ) → length marks ≡ length gates → k < length gates
    → is_marked (on_tree tree gates marks) k ≡ is_tree_gate tree (is_marked marks k) (gate_at gates k)
unfolding on_tree
on_tree_at tree [] marks k len lt = absurd (omega arith)
on_tree_at tree (g ∷ gates) [] k len lt = absurd (omega arith)
on_tree_at tree (g ∷ gates) (m ∷ marks) zero len lt = refl
on_tree_at tree (g ∷ gates) (m ∷ marks) (suc k) len lt = on_tree_at tree gates marks k (omega arith) (omega arith)

on_tree-append : (tree : List Bool) (gs hs : List Gate) (ms ns : List Bool) → length ms ≡ length gs
    → on_tree tree (gs ++ hs) (ms ++ ns) ≡ on_tree tree gs ms ++ on_tree tree hs ns
unfolding on_tree
on_tree-append tree [] hs [] ns len = refl
on_tree-append tree [] hs (m ∷ ms) ns len = absurd (omega arith)
on_tree-append tree (g ∷ gs) hs [] ns len = absurd (omega arith)
on_tree-append tree (g ∷ gs) hs (m ∷ ms) ns len = ap (λ (bs : List Bool). is_tree_gate tree m g ∷ bs) (on_tree-append tree gs hs ms ns (omega arith))

-- all gates of a part are on the tree, or none
part_on_tree : (tree : List Bool) (b : Bool) (ins : List ℕ) (gates : List Gate) → ((g : Gate) → In g gates → g.ins ≡ ins)
    → on_tree tree gates (map (λ (_ : Gate). b) gates) ≡ map (λ (_ : Gate). b && list_any (is_marked tree) ins) gates
unfolding on_tree
part_on_tree tree b ins [] reads = refl
part_on_tree tree b ins (g ∷ gates) reads =
    ap (λ (ns : List ℕ). (b && list_any (is_marked tree) ns) ∷ on_tree tree gates (map (λ (_ : Gate). b) gates)) (reads g (inl refl))
    ∙ ap (λ (bs : List Bool). (b && list_any (is_marked tree) ins) ∷ bs) (part_on_tree tree b ins gates (λ h has. reads h (inr has)))

marks_len : (b : Bool) (gates : List Gate) → length (map (λ (_ : Gate). b) gates) ≡ length gates
marks_len b [] = refl
marks_len b (g ∷ gates) = ap suc (marks_len b gates)

-- by their own nets the gates are on the tree just as their parts are
parts_on_tree : (tree : List Bool) (nets : ℕ) (parts : List Part) → ((p : Part) → In p parts → IsLawfulPart nets p)
    → on_tree tree (flat_map part_gates parts) (flat_map part_marks parts) ≡ flat_map (tree_marks tree) parts
unfolding on_tree
parts_on_tree tree nets [] lawful = refl
parts_on_tree tree nets (part.Comb b ins gates ∷ parts) lawful =
    let own = lawful (part.Comb b ins gates) (inl refl) in
    on_tree-append tree gates (flat_map part_gates parts) (map (λ (_ : Gate). b) gates) (flat_map part_marks parts) (marks_len b gates)
    ∙ ap (λ (bs : List Bool). bs ++ on_tree tree (flat_map part_gates parts) (flat_map part_marks parts))
    (part_on_tree tree b ins gates (λ g has. (all_in (IsLawfulGate nets ins) gates own.drives g has).reads))
    ∙ ap (λ (bs : List Bool). tree_marks tree (part.Comb b ins gates) ++ bs) (parts_on_tree tree nets parts (λ p has. lawful p (inr has)))
parts_on_tree tree nets (part.Flop clock reg ∷ parts) lawful = parts_on_tree tree nets parts (λ p has. lawful p (inr has))
parts_on_tree tree nets (part.Gate clock enables out ∷ parts) lawful = parts_on_tree tree nets parts (λ p has. lawful p (inr has))

all_marks_len : (parts : List Part) → length (flat_map part_marks parts) ≡ length (flat_map part_gates parts)
all_marks_len [] = refl
all_marks_len (part.Comb b ins gates ∷ parts) =
    omega (
      arith,
      length-append (map (λ (_ : Gate). b) gates) (flat_map part_marks parts),
      length-append gates (flat_map part_gates parts),
      marks_len b gates,
      all_marks_len parts,
    )
all_marks_len (part.Flop clock reg ∷ parts) = all_marks_len parts
all_marks_len (part.Gate clock enables out ∷ parts) = all_marks_len parts

-- tests that agree on the places of a list choose the same
filter_or : (p q : ℕ → Bool) (x : ℕ) (xs : List ℕ) (b : Bool) → p x ≡ b → q x ≡ b → filter p xs ≡ filter q xs → filter p (x ∷ xs) ≡ filter q (x ∷ xs)
filter_or p q x xs true here there same = filter_hit p x xs here ∙ ap (λ (ys : List ℕ). x ∷ ys) same ∙ sym (filter_hit q x xs there)
filter_or p q x xs false here there same = filter_miss p x xs here ∙ same ∙ sym (filter_miss q x xs there)

filter_same : (p q : ℕ → Bool) (xs : List ℕ) → ((i k : ℕ) → slice_get xs i ≡ Some k → p k ≡ q k) → filter p xs ≡ filter q xs
filter_same p q [] each = refl
filter_same p q (x ∷ xs) each = filter_or p q x xs (p x) refl (sym (each 0 x refl)) (filter_same p q xs (λ i k at. each (suc i) k at))

-- the gates that are kept are those of the definition
pub kept_is : (c : Circuit) (tree : List Bool) (order : List ℕ) → IsLawfulCircuit c → IsGateOrder (all_gates c) order
    → kept_in tree (all_gates c) (all_marks c) order ≡ gates_at tree c order
kept_is c tree order lawful right =
    let marks : List Bool = flat_map (tree_marks tree) c.parts in
    let row = parts_on_tree tree c.nets c.parts (λ p has. all_in (IsLawfulPart c.nets) c.parts lawful.parts p has) in
    ap (map (gate_at (all_gates c))) (filter_same (is_kept tree (all_gates c) (all_marks c)) (λ (k : ℕ). not (is_marked marks k)) order (λ i k at.
    ap not (sym (on_tree_at tree (all_gates c) (all_marks c) k (all_marks_len c.parts) (right.in_range i k at))
    ∙ ap (λ (bs : List Bool). is_marked bs k) row)))

-- in a right order of the gates those of the design are the equations, in another order
pub kept_permutes : (c : Circuit) (tree : List Bool) (order : List ℕ) → IsLawfulCircuit c → IsGateOrder (all_gates c) order
    → IsPermutation (equations tree c) (kept_in tree (all_gates c) (all_marks c) order)
kept_permutes c tree order lawful right = rw (kept_is c tree order lawful right) (places_permute c tree order right.each_once right.in_range)
