-- The cells of leaves one by one: each is of the design, and each register is that of one.
use Rattle.std.proofs.Common.{◌≡◌, ℕ, ◌+◌, ◌<◌, ◌≤◌, Bool, true, false, cond, List, [], ◌∷◌, ◌++◌, length, map, All, Some, refl}
use Rattle.std.proofs.Common.{ap, subst, sym, ◌∙◌, arith, inl, inr, length-append, append_assoc, eq-eqb}
use Rattle.std.specs.Prelude.{Option, slice_get, count_by, flat_map}
use Rattle.std.proofs.lemmas.Bool.{cases_lt, eqb-true}
use Rattle.std.proofs.lemmas.List.{length-map}
use Rattle.std.proofs.lemmas.List.Elements.{All-cons, All-head, All-tail}
use Rattle.std.proofs.lemmas.List.Sums.{sum_by-cons}
use Rattle.net_model.specs.declared.netlist.Gate.{Gate}
use Rattle.net_model.specs.declared.netlist.Reg.{Reg}
use Rattle.icg_rewrite.specs.declared.clock_gates.Gated.{Gated}
use Rattle.icg_rewrite.specs.Rewritten.{rewritten}
use Rattle.cell_types.specs.declared.libraries.Cell.{Cell}
use Rattle.link_defs.specs.declared.circuits.Circuit.{Circuit}
use Rattle.link_defs.specs.declared.circuits.Part.{Part}
use Rattle.link_defs.specs.declared.circuits.Part.TheVariants as part
use Rattle.linked_types.specs.declared.names.CellName.{CellName}
use Rattle.link_defs.specs.CellNames.{Leaf, cell_name, cell_names}
use Rattle.link_defs.specs.Circuits.{regs_of, part_regs}
use Rattle.link_defs.specs.Designs.{number_by, drivers_by, moved_reg}
use Rattle.link_defs.specs.GateOrders.{ClockPart}
use Rattle.link_defs.specs.GatedDesigns.{enabled_drivers}
use Rattle.link_defs.specs.Links.{source_count}
use Rattle.linked_types.specs.Usable.{IsCellOf, is_reg}
use Rattle.link_circuit.proofs.Lawfully.{all_none}
use Rattle.net_link.specs.Places.{ArePlacesOf, IsShaped}
use Rattle.net_link.proofs.Leafing.{leaf_regs, HasPart}
use Rattle.net_link.proofs.Enabled.{IsKnown, regs_many}
use Rattle.net_link.proofs.Roles.{leaf_good}

-- the cells have the names of the leaves
pub own_names : (number : ℕ → ℕ) (sources : ℕ) (tree : List Bool) (before : ℕ) (ls : List Leaf)
    → map (λ (c : CellName). c.name) (cell_names number sources tree before ls) ≡ map (λ (l : Leaf). l.name) ls
unfolding cell_names
own_names number sources tree before [] = refl
own_names number sources tree before (l ∷ ls) =
    ap (λ (ns : List (List ℕ)). l.name ∷ ns) (own_names number sources tree (before + length (part_regs l.part)) ls)

count_first : (p : CellName → Bool) (x : CellName) (xs : List CellName) → count_by p (x ∷ xs) ≡ cond (p x) 1 0 + count_by p xs
count_first p x xs = sum_by-cons (λ c. cond (p c) 1 0) x xs

-- whether the cell of a leaf has the register, of so many before it
is_own : (number : ℕ → ℕ) (sources : ℕ) (tree : List Bool) (before r : ℕ) (name : List ℕ) (cell : Option Cell) (p : Part)
    → (is_reg r (cell_name number sources tree before (record { name = name; cell = cell; part = p })) ≡ true → (before ≡ r) × (length (part_regs p) ≡ 1))
    × (before ≡ r → length (part_regs p) ≡ 1 → is_reg r (cell_name number sources tree before (record { name = name; cell = cell; part = p })) ≡ true)
is_own number sources tree before r name cell (part.Comb buffer ins gates) = (λ hit. cc, λ same one. absurd (omega (arith, one)))
is_own number sources tree before r name cell (part.Flop clock reg) = (λ hit. (eqb-true before r hit, refl), λ same one. eq-eqb before r same)
is_own number sources tree before r name cell (part.Gate clock enables out) = (λ hit. cc, λ same one. absurd (omega (arith, one)))

-- a part is one register or none
pub one_or_none : (p : Part) → length (part_regs p) ≤ 1
one_or_none (part.Comb buffer ins gates) = omega arith
one_or_none (part.Flop clock reg) = omega arith
one_or_none (part.Gate clock enables out) = omega arith

count_bit : (b : Bool) → (b ≡ true → ⊥) → ◌≡◌ {A = ℕ} (cond b 1 0) 0
count_bit true never = absurd (never refl)
count_bit false never = refl

count_hit : (b : Bool) → b ≡ true → ◌≡◌ {A = ℕ} (cond b 1 0) 1
count_hit true e = refl
count_hit false e = cc

-- a register before these is none of theirs
none_before : (number : ℕ → ℕ) (sources : ℕ) (tree : List Bool) (before r : ℕ) (ls : List Leaf) → r < before
    → count_by (is_reg r) (cell_names number sources tree before ls) ≡ 0
unfolding cell_names
none_before number sources tree before r [] lt = refl
none_before number sources tree before r (l ∷ ls) lt =
    let next = before + length (part_regs l.part) in
    let rest = none_before number sources tree next r ls (omega (arith, lt)) in
    let (own, back) = is_own number sources tree before r l.name l.cell l.part in
    let miss = count_bit (is_reg r (cell_name number sources tree before l)) (λ hit. absurd (omega (arith, lt, (own hit).0))) in
    omega (arith, count_first (is_reg r) (cell_name number sources tree before l) (cell_names number sources tree next ls), miss, rest)

-- and each of theirs is that of one
one_each : (number : ℕ → ℕ) (sources : ℕ) (tree : List Bool) (before r : ℕ) (ls : List Leaf) → before ≤ r → r < before + length (flat_map leaf_regs ls)
    → count_by (is_reg r) (cell_names number sources tree before ls) ≡ 1
unfolding cell_names
one_each number sources tree before r [] le lt = absurd (omega (arith, le, lt))
one_each number sources tree before r (l ∷ ls) le lt =
    let next = before + length (part_regs l.part) in
    let split = count_first (is_reg r) (cell_name number sources tree before l) (cell_names number sources tree next ls) in
    let parts = length-append (part_regs l.part) (flat_map leaf_regs ls) in
    let most = one_or_none l.part in
    let (own, back) = is_own number sources tree before r l.name l.cell l.part in
    elim (cases_lt r next) [
      | inl here ↦
          let hit = count_hit (is_reg r (cell_name number sources tree before l)) (back (omega (arith, le, here, most)) (omega (arith, le, here, most))) in
          omega (arith, split, hit, none_before number sources tree next r ls here)
      | inr later ↦
          let miss = count_bit (is_reg r (cell_name number sources tree before l)) (λ hit. let (same, one) = own hit in absurd (omega (arith, same, one, later))) in
          omega (arith, split, miss, one_each number sources tree next r ls later (omega (arith, lt, parts)))
    ]

first_at : (before : List Reg) (reg : Reg) (rest : List Reg) → slice_get (before ++ reg ∷ rest) (length before) ≡ Some reg
first_at [] reg rest = refl
first_at (x ∷ xs) reg rest = first_at xs reg rest

reg_at : (before : List Reg) (p : Part) (rest : List Reg) (clock : ℕ) (reg : Reg) → p ≡ part.Flop clock reg
    → slice_get (before ++ (part_regs p ++ rest)) (length before) ≡ Some reg
reg_at before p rest clock reg is =
    ap (λ (q : Part). slice_get (before ++ (part_regs q ++ rest)) (length before)) is ∙ first_at before reg rest

-- the cells of leaves, where so many registers come before them
cells_good : (c : Circuit) (tree : List Bool) (order : List Gate) (gates : List ClockPart) (g : Gated) (before : List Reg) (ls : List Leaf)
    → IsKnown c tree order gates g → All (HasPart c.parts) ls → All IsShaped ls → regs_of c ≡ before ++ flat_map leaf_regs ls
    → All (IsCellOf (rewritten g)) (cell_names (number_by (enabled_drivers c order gates)) (source_count c) tree (length before) ls)
unfolding cell_names
cells_good c tree order gates g before [] known parts shaped regs = all_none (IsCellOf (rewritten g))
cells_good c tree order gates g before (l ∷ ls) known parts shaped regs =
    let number : ℕ → ℕ = number_by (enabled_drivers c order gates) in
    let rest = flat_map leaf_regs ls in
    let further = cells_good c tree order gates g (before ++ part_regs l.part) ls known (All-tail (HasPart c.parts) l ls parts)
    (All-tail IsShaped l ls shaped) (regs ∙ sym (append_assoc before (part_regs l.part) rest)) in
    let count : length (before ++ part_regs l.part) ≡ length before + length (part_regs l.part) = length-append before (part_regs l.part) in
    All-cons (IsCellOf (rewritten g)) (cell_name number (source_count c) tree (length before) l)
    (cell_names number (source_count c) tree (length before + length (part_regs l.part)) ls)
    (leaf_good c tree order gates g (length before) l.name l.cell l.part known (All-head (HasPart c.parts) l ls parts) (All-head IsShaped l ls shaped)
    (λ clock reg is. ap (λ (rs : List Reg). slice_get rs (length before)) regs ∙ reg_at before l.part rest clock reg is))
    (subst (λ (n : ℕ). All (IsCellOf (rewritten g)) (cell_names number (source_count c) tree n ls)) count further)

-- every place of the cells of all leaves is one of the rewritten design
pub places_good : (c : Circuit) (tree : List Bool) (order : List Gate) (gates : List ClockPart) (g : Gated) (ls : List Leaf) → IsKnown c tree order gates g
    → All (HasPart c.parts) ls → All IsShaped ls → regs_of c ≡ flat_map leaf_regs ls
    → ArePlacesOf (rewritten g) (cell_names (number_by (enabled_drivers c order gates)) (source_count c) tree 0 ls)
places_good c tree order gates g ls known parts shaped regs =
    let move : Reg → Reg = moved_reg (number_by (drivers_by c order)) in
    let count : length g.design.regs ≡ length (flat_map leaf_regs ls) =
    ap length known.gated_is.design.regs ∙ length-map (regs_of c) move ∙ ap length regs in
    record {
      cells = cells_good c tree order gates g [] ls known parts shaped regs;
      each_reg = λ r lt. one_each (number_by (enabled_drivers c order gates)) (source_count c) tree 0 r ls (omega arith)
          (omega (arith, lt, count, regs_many g known.gated));
    }
