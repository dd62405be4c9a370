-- The nets below the clock: what brings them there, that each is on one branch, and which are the clock tree.
use Rattle.std.proofs.Common.{◌≡◌, ◌≢◌, ℕ, ◌+◌, ◌≤◌, ◌==◌, Bool, true, false, ◌||◌, List, [], ◌∷◌, ◌++◌, length}
use Rattle.std.proofs.Common.{refl, ap, subst, sym, ◌∙◌, arith, inl, inr}
use Rattle.std.specs.Prelude.{Contains, Option, Some, slice_get, count_by, flat_map, ◌⊎◌}
use Rattle.std.specs.List.{list_any}
use Rattle.std.proofs.lemmas.Bool.{cases_eq}
use Rattle.std.proofs.lemmas.Option.{get_or_from_slice_get}
use Rattle.sdcv_base.specs.Seqs.{is_marked}
use Rattle.net_model.specs.Form.{xor}
use Rattle.net_model.specs.Netlist.{gate_nets}
use Rattle.net_model.proofs.Members.{In, In-from_Contains, Contains-from_In}
use Rattle.net_model.specs.declared.netlist.Gate.{Gate}
use Rattle.graph_order.proofs.Marked.{at_contains, count_append}
use Rattle.graph_order.proofs.Acyclic.{one_place}
use Rattle.link_defs.specs.declared.circuits.Circuit.{Circuit}
use Rattle.link_defs.specs.declared.circuits.Part.TheVariants as part
use Rattle.link_defs.specs.Circuits.{part_gated, all_gates, all_drivers, OnTree, Root, Buffered, Gated}
use Rattle.link_defs.specs.Parts.{inverts}
use Rattle.link_defs.specs.Above.{Under, Root as UnderRoot, Buffered as UnderBuffered, Behind}
use Rattle.link_design.specs.declared.branches.Branch.{Branch}
use Rattle.link_design.specs.Branches.{root_branch, past_buffer, past_gate, OnBranch, Rooted, AfterBuffer, AfterGate}
use Rattle.link_design.specs.Lawful.{IsLawfulCircuit, IsLawfulPart, IsLawfulGate}
use Rattle.link_design.specs.Lists.{all_marks, data_sources}
use Rattle.link_design.proofs.DriverPlaces.{counted_at}
use Rattle.link_design.proofs.Leading.{map_at}
use Rattle.link_design.proofs.Parted.{drivers_are, marked_gate, gate_place, gated_place, part_gate_clock, all_in}

-- a bit, or nothing more
pub or_none : (b : Bool) → (b || false) ≡ b
or_none true = refl
or_none false = refl

-- tests that agree on a list find the same in it
pub any_same : (p q : ℕ → Bool) (xs : List ℕ) → ((n : ℕ) → In n xs → p n ≡ q n) → list_any p xs ≡ list_any q xs
any_same p q [] same = refl
any_same p q (x ∷ xs) same =
    ap (λ (b : Bool). b || list_any p xs) (same x (inl refl)) ∙ ap (λ (b : Bool). q x || b) (any_same p q xs (λ n has. same n (inr has)))

-- where neither of two bits is set each is not
neither : (a b : Bool) → (a || b) ≡ false → (a ≡ false) × (b ≡ false)
neither false false e = (refl, refl)
neither false true e = cc
neither true b e = cc

-- what a place has is one thing
pub some_same : {X : Type 0} (o : Option X) (x y : X) → o ≡ Some x → o ≡ Some y → x ≡ y
some_same o x y a b = cc

-- how often the clock, gates and clock gates drive a net together
driven_once : (c : Circuit) → ((net : ℕ) → count_by (λ m. m == net) (all_drivers c) ≤ 1) → (net : ℕ)
    → count_by (λ m. m == net) c.clocks + count_by (λ m. m == net) (gate_nets (all_gates c)) + count_by (λ m. m == net) (flat_map part_gated c.parts) ≤ 1
driven_once c once net =
    let whole = count_append (λ m. m == net) ((c.clocks ++ data_sources c) ++ gate_nets (all_gates c)) (flat_map part_gated c.parts) in
    let split = count_append (λ m. m == net) (c.clocks ++ data_sources c) (gate_nets (all_gates c)) in
    let front = count_append (λ m. m == net) c.clocks (data_sources c) in
    let most : count_by (λ m. m == net) ((c.clocks ++ data_sources c) ++ gate_nets (all_gates c) ++ flat_map part_gated c.parts) ≤ 1 =
    subst (λ (ns : List ℕ). count_by (λ m. m == net) ns ≤ 1) (sym (drivers_are c)) (once net) in
    omega (arith, whole, split, front, most)

-- no net is driven by the clock and a gate
clock_apart : (c : Circuit) → ((net : ℕ) → count_by (λ m. m == net) (all_drivers c) ≤ 1) → (k : ℕ) (g : Gate) → slice_get (all_gates c) k ≡ Some g
    → Contains c.clocks g.out → ⊥
clock_apart c once k g at has =
    let (i, at_i) = at_contains c.clocks g.out has in
    let one = counted_at c.clocks g.out i at_i in
    let two = counted_at (gate_nets (all_gates c)) g.out k (map_at (λ (g : Gate). g.out) (all_gates c) k g at) in
    absurd (omega (arith, one, two, driven_once c once g.out))

-- nor by the clock and a clock gate
clock_gated_apart : (c : Circuit) → ((net : ℕ) → count_by (λ m. m == net) (all_drivers c) ≤ 1) → (k net : ℕ)
    → slice_get (flat_map part_gated c.parts) k ≡ Some net → Contains c.clocks net → ⊥
clock_gated_apart c once k net at has =
    let (i, at_i) = at_contains c.clocks net has in
    let one = counted_at c.clocks net i at_i in
    let two = counted_at (flat_map part_gated c.parts) net k at in
    absurd (omega (arith, one, two, driven_once c once net))

-- nor by a gate and a clock gate
gate_gated_apart : (c : Circuit) → ((net : ℕ) → count_by (λ m. m == net) (all_drivers c) ≤ 1) → (k j net : ℕ) (g : Gate)
    → slice_get (all_gates c) k ≡ Some g → slice_get (flat_map part_gated c.parts) j ≡ Some net → g.out ≡ net → ⊥
gate_gated_apart c once k j net g at at_j same =
    let here : slice_get (gate_nets (all_gates c)) k ≡ Some net = map_at (λ (g : Gate). g.out) (all_gates c) k g at ∙ ap (λ (n : ℕ). Some n) same in
    let one = counted_at (gate_nets (all_gates c)) net k here in
    let two = counted_at (flat_map part_gated c.parts) net j at_j in
    absurd (omega (arith, one, two, driven_once c once net))

-- nor by two gates
gates_apart : (c : Circuit) → ((net : ℕ) → count_by (λ m. m == net) (all_drivers c) ≤ 1) → (k j : ℕ) (g h : Gate) → slice_get (all_gates c) k ≡ Some g
    → slice_get (all_gates c) j ≡ Some h → k ≢ j → g.out ≡ h.out → ⊥
gates_apart c once k j g h at_g at_h apart same =
    let here = map_at (λ (g : Gate). g.out) (all_gates c) k g at_g in
    let there : slice_get (gate_nets (all_gates c)) j ≡ Some g.out = map_at (λ (g : Gate). g.out) (all_gates c) j h at_h ∙ ap (λ (n : ℕ). Some n) (sym same) in
    apart (one_place g.out (gate_nets (all_gates c)) k j (omega (arith, driven_once c once g.out)) here there)

-- two clock gates that drive one net have one clock
gated_clocks : (c : Circuit) → ((net : ℕ) → count_by (λ m. m == net) (all_drivers c) ≤ 1) → (net a b : ℕ) (es fs : List ℕ)
    → Contains c.parts (part.Gate a es net) → Contains c.parts (part.Gate b fs net) → a ≡ b
gated_clocks c once net a b es fs stands_a stands_b =
    let (k, at, is) = gated_place c.parts a es net (In-from_Contains c.parts (part.Gate a es net) stands_a) in
    let (j, at_j, is_j) = gated_place c.parts b fs net (In-from_Contains c.parts (part.Gate b fs net) stands_b) in
    let same = one_place net (flat_map part_gated c.parts) k j (omega (arith, driven_once c once net)) at at_j in
    some_same (slice_get (flat_map part_gate_clock c.parts) k) a b is
    (subst (λ (i : ℕ). slice_get (flat_map part_gate_clock c.parts) i ≡ Some b) (sym same) is_j)

-- a gate of a buffer or inverter reads one net, and a net of the tree that it reads brings its output onto the tree
pub record IsBuffer (c : Circuit) (g : Gate) : Type 0 where
  pub from : ℕ
  pub reads : g.ins ≡ from ∷ []
  pub brings : (odd : Bool) → OnTree c from odd → OnTree c g.out (xor odd (inverts g.func))

pub one_item : (xs : List ℕ) → length xs ≡ 1 → (x : ℕ) × (xs ≡ x ∷ [])
one_item [] len = absurd (omega arith)
one_item (x ∷ []) len = (x, refl)
one_item (x ∷ y ∷ xs) len = absurd (omega arith)

pub buffer_is : (c : Circuit) → IsLawfulCircuit c → (k : ℕ) (g : Gate) → slice_get (all_gates c) k ≡ Some g → is_marked (all_marks c) k ≡ true → IsBuffer c g
buffer_is c lawful k g at marked =
    let (mark, is, of) = marked_gate c.parts k g at in
    let bit : true ≡ mark = sym marked ∙ get_or_from_slice_get (all_marks c) k mark false is in
    let comb = all_in (IsLawfulPart c.nets) c.parts lawful.parts (part.Comb mark of.ins of.gates) of.stands in
    let own = all_in (IsLawfulGate c.nets of.ins) of.gates comb.drives g of.there in
    let (from, ins) = one_item of.ins (comb.one (sym bit)) in
    let stands : Contains c.parts (part.Comb true (from ∷ []) of.gates) =
    subst (λ (xs : List ℕ). Contains c.parts (part.Comb true xs of.gates)) ins
    (subst (λ (b : Bool). Contains c.parts (part.Comb b of.ins of.gates)) (sym bit)
    (Contains-from_In c.parts (part.Comb mark of.ins of.gates) of.stands)) in
    record {
      from = from;
      reads = own.reads ∙ ins;
      brings = λ odd before. Buffered from of.gates g odd stands (Contains-from_In of.gates g of.there) before;
    }

-- a net of a branch that is not lost has its parity on the tree
pub tree_of_branch : (c : Circuit) (net : ℕ) (b : Branch) → OnBranch c net b → b.lost ≡ false → OnTree c net b.odd
tree_of_branch c net b (Rooted root has) kept = Root root has
tree_of_branch c net b (AfterBuffer from gates g before stands there on) kept =
    Buffered from gates g before.odd stands there (tree_of_branch c from before on kept)
tree_of_branch c net b (AfterGate clock enables out before stands on) kept =
    let (before_kept, even) = neither before.lost before.odd kept in
    let here : OnTree c clock false = subst (OnTree c clock) even (tree_of_branch c clock before on before_kept) in
    subst (OnTree c out) (sym even) (Gated clock enables out stands here)

-- each net of the tree is on a branch with its parity that is not lost
pub branch_of_tree : (c : Circuit) (net : ℕ) (odd : Bool) → OnTree c net odd → (b : Branch) × OnBranch c net b × (b.odd ≡ odd) × (b.lost ≡ false)
branch_of_tree c net odd (Root root has) = (root_branch, Rooted root has, refl, refl)
branch_of_tree c net odd (Buffered from gates g before stands there on) =
    let (b, by, same, kept) = branch_of_tree c from before on in
    (past_buffer b g.func, AfterBuffer from gates g b stands there by, ap (λ (x : Bool). xor x (inverts g.func)) same, kept)
branch_of_tree c net odd (Gated clock enables out stands on) =
    let (b, by, even, kept) = branch_of_tree c clock false on in
    (past_gate b out, AfterGate clock enables out b stands by, even, ap (λ (x : Bool). x || b.odd) kept ∙ even)

-- a clock gate that is on a branch after an odd number of inversions
pub record IsOnOdd (c : Circuit) : Type 0 where
  pub clock : ℕ
  pub enables : List ℕ
  pub out : ℕ
  pub before : Branch
  pub stands : Contains c.parts (part.Gate clock enables out)
  pub on : OnBranch c clock before
  pub odd : before.odd ≡ true

lost_or : (c : Circuit) (clock : ℕ) (enables : List ℕ) (out : ℕ) (before : Branch) (lost : Bool) → before.lost ≡ lost → (lost || before.odd) ≡ true
    → Contains c.parts (part.Gate clock enables out) → OnBranch c clock before → (before.lost ≡ true → IsOnOdd c) → IsOnOdd c
lost_or c clock enables out before true is hit stands on earlier = earlier is
lost_or c clock enables out before false is hit stands on earlier =
    record { clock = clock; enables = enables; out = out; before = before; stands = stands; on = on; odd = hit }

-- such a one lost each net that is lost
pub lost_by : (c : Circuit) (net : ℕ) (b : Branch) → OnBranch c net b → b.lost ≡ true → IsOnOdd c
lost_by c net b (Rooted root has) lost = cc
lost_by c net b (AfterBuffer from gates g before stands there on) lost = lost_by c from before on lost
lost_by c net b (AfterGate clock enables out before stands on) lost =
    lost_or c clock enables out before before.lost refl lost stands on (λ is. lost_by c clock before on is)

-- each net below a clock gate, or below none, is on a branch with that
pub branch_of_under : (c : Circuit) (net : ℕ) (up : Option ℕ) → Under c net up → (b : Branch) × OnBranch c net b × (b.above ≡ up)
branch_of_under c net up (UnderRoot root has) = (root_branch, Rooted root has, refl)
branch_of_under c net up (UnderBuffered from gates g before stands there on) =
    let (b, by, same) = branch_of_under c from before on in (past_buffer b g.func, AfterBuffer from gates g b stands there by, same)
branch_of_under c net up (Behind clock enables out before stands on) =
    let (b, by, same) = branch_of_under c clock before on in (past_gate b out, AfterGate clock enables out b stands by, refl)

-- a buffer or inverter that brings a net onto a branch from another net
record IsBrought (c : Circuit) (net : ℕ) (b : Branch) : Type 0 where
  pub from : ℕ
  pub gates : List Gate
  pub g : Gate
  pub before : Branch
  pub stands : Contains c.parts (part.Comb true (from ∷ []) gates)
  pub there : Contains gates g
  pub on : OnBranch c from before
  pub out : g.out ≡ net
  pub is : past_buffer before g.func ≡ b

-- a clock gate that does
record IsGated (c : Circuit) (net : ℕ) (b : Branch) : Type 0 where
  pub clock : ℕ
  pub enables : List ℕ
  pub before : Branch
  pub stands : Contains c.parts (part.Gate clock enables net)
  pub on : OnBranch c clock before
  pub is : past_gate before net ≡ b

brought_or : (c : Circuit) (net : ℕ) (b : Branch) → OnBranch c net b → (Contains c.clocks net × (b ≡ root_branch)) ⊎ (IsBrought c net b ⊎ IsGated c net b)
brought_or c net b (Rooted root has) = inl (has, refl)
brought_or c net b (AfterBuffer from gates g before stands there on) = inr (inl (record {
  from = from;
  gates = gates;
  g = g;
  before = before;
  stands = stands;
  there = there;
  on = on;
  out = refl;
  is = refl;
}))
brought_or c net b (AfterGate clock enables out before stands on) = inr (inr (record {
  clock = clock;
  enables = enables;
  before = before;
  stands = stands;
  on = on;
  is = refl;
}))

-- a gate of a buffer has a place among all gates, and reads the buffer's one net
placed : (c : Circuit) → IsLawfulCircuit c → (from : ℕ) (gates : List Gate) (g : Gate) → Contains c.parts (part.Comb true (from ∷ []) gates)
    → Contains gates g → (k : ℕ) × (slice_get (all_gates c) k ≡ Some g) × (g.ins ≡ from ∷ [])
placed c lawful from gates g stands there =
    let here = In-from_Contains c.parts (part.Comb true (from ∷ []) gates) stands in
    let (k, at, mark) = gate_place c.parts true (from ∷ []) gates g here (In-from_Contains gates g there) in
    let comb = all_in (IsLawfulPart c.nets) c.parts lawful.parts (part.Comb true (from ∷ []) gates) here in
    (k, at, (all_in (IsLawfulGate c.nets (from ∷ [])) gates comb.drives g (In-from_Contains gates g there)).reads)

-- and a clock gate has one among the clock gates
gated_at : (c : Circuit) (clock : ℕ) (enables : List ℕ) (out : ℕ) → Contains c.parts (part.Gate clock enables out) → (k : ℕ)
    × (slice_get (flat_map part_gated c.parts) k ≡ Some out)
gated_at c clock enables out stands =
    let (k, at, is) = gated_place c.parts clock enables out (In-from_Contains c.parts (part.Gate clock enables out) stands) in (k, at)

first_same : (x y : ℕ) → (x ∷ []) ≡ (y ∷ []) → x ≡ y
first_same x y same = cc

-- a net is on one branch, as it has one driver
pub one_branch : (c : Circuit) → IsLawfulCircuit c → ((net : ℕ) → count_by (λ m. m == net) (all_drivers c) ≤ 1)
    → (net : ℕ) (a b : Branch) → OnBranch c net a → OnBranch c net b → a ≡ b
one_branch c lawful once net a b (Rooted root has) other = elim (brought_or c root b other) [
  | inl clock ↦ sym clock.1
  | inr brought ↦ elim brought [
    | inl by ↦
        let (k, at, reads) = placed c lawful by.from by.gates by.g by.stands by.there in
        absurd (clock_apart c once k by.g at (subst (λ (n : ℕ). Contains c.clocks n) (sym by.out) has))
    | inr gated ↦ let (k, at) = gated_at c gated.clock gated.enables root gated.stands in absurd (clock_gated_apart c once k root at has)
  ]
]
one_branch c lawful once net a b (AfterBuffer from gates g before stands there on) other =
    let (k, at, reads) = placed c lawful from gates g stands there in
    elim (brought_or c g.out b other) [
      | inl clock ↦ absurd (clock_apart c once k g at clock.0)
      | inr brought ↦ elim brought [
        | inl by ↦
            let (j, at_j, reads_j) = placed c lawful by.from by.gates by.g by.stands by.there in
            elim (cases_eq k j) [
              | inl same ↦
                  let here : slice_get (all_gates c) k ≡ Some by.g = subst (λ (i : ℕ). slice_get (all_gates c) i ≡ Some by.g) (sym same) at_j in
                  let one : g ≡ by.g = some_same (slice_get (all_gates c) k) g by.g at here in
                  let net_same : by.from ≡ from = first_same by.from from (sym reads_j ∙ ap (λ (h : Gate). h.ins) (sym one) ∙ reads) in
                  let branch = one_branch c lawful once from before by.before on (subst (λ (n : ℕ). OnBranch c n by.before) net_same by.on) in
                  ap (λ (x : Branch). past_buffer x g.func) branch ∙ ap (λ (h : Gate). past_buffer by.before h.func) one ∙ by.is
              | inr apart ↦ absurd (gates_apart c once k j g by.g at at_j apart (sym by.out))
            ]
        | inr gated ↦
            let (j, at_j) = gated_at c gated.clock gated.enables g.out gated.stands in absurd (gate_gated_apart c once k j g.out g at at_j refl)
      ]
    ]
one_branch c lawful once net a b (AfterGate clock enables out before stands on) other =
    let (k, at) = gated_at c clock enables out stands in
    elim (brought_or c out b other) [
      | inl root ↦ absurd (clock_gated_apart c once k out at root.0)
      | inr brought ↦ elim brought [
        | inl by ↦
            let (j, at_j, reads) = placed c lawful by.from by.gates by.g by.stands by.there in
            absurd (gate_gated_apart c once j k out by.g at_j at by.out)
        | inr gated ↦
            let same = gated_clocks c once out gated.clock clock gated.enables enables gated.stands stands in
            let branch = one_branch c lawful once clock before gated.before on (subst (λ (n : ℕ). OnBranch c n gated.before) same gated.on) in
            ap (λ (x : Branch). past_gate x out) branch ∙ gated.is
      ]
    ]
