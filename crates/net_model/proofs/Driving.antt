-- The drivers of nets, counted by marks.
use Rattle.std.proofs.Common.{◌≡◌, ℕ, ◌+◌, ◌<◌, Bool, true, false, List, [], ◌∷◌, length, take, map, set, get_or, Some, refl, ◌∙◌, arith, below_more}
use Rattle.std.proofs.Common.{append_assoc, length-set}
use Rattle.std.specs.Prelude.{slice_get, ◌==◌, Contains, All}
use Rattle.std.proofs.lemmas.List.{map_more}
use Rattle.std.proofs.lemmas.Option.{slice_get_within, get_or_from_slice_get, slice_get-get_or}
use Rattle.net_model.specs.Netlist.{AllBelow, source_nets, gate_nets, driver_count, driven_nets}
use Rattle.sdcv_base.specs.Seqs.{is_marked}
use Rattle.net_model.specs.Markings.{mark_of, IsMarkedTwice, AreMarked}
use Rattle.net_model.specs.Faults.{IsOutOfOrder}
use Rattle.net_model.proofs.Order.{before, count_append, count_taken, counted}
use Rattle.net_model.proofs.Marking.{marked_one, marked_contains, unmarked_not_contains, counted_marked, counted_unmarked}
use Rattle.net_model.specs.declared.netlist.Design.{Design}
use Rattle.net_model.specs.declared.netlist.Gate.{Gate}

-- what holds of each that stands at a place holds of all
pub all_from_places : {X : Type 0} (P : X → Type 0) (xs : List X) → ((k : ℕ) → k < length xs → (x : X) → slice_get xs k ≡ Some x → P x) → All P xs
all_from_places P xs each k d lt = each k lt (get_or xs k d) (slice_get-get_or xs k d lt)

-- what inputs and registers have twice has two drivers
pub source_twice : (d : Design) (marks : List Bool) (n : ℕ) → length marks ≡ d.nets → ((m : ℕ) → is_marked marks m ≡ false)
    → IsMarkedTwice (source_nets d) marks n → (n < d.nets) × (1 < driver_count d n)
source_twice d marks n len free twice =
    let none : mark_of marks n ≡ 0 = rw (free n) in
    let sum = count_append (λ m. m == n) (source_nets d) (gate_nets d.gates) in
    let two = twice.twice in
    let within = twice.within in
    (omega arith, omega arith)

-- the nets of sources and of the first k gates are marked, and these read such nets alone
pub record GatesMarked (d : Design) (marks : List Bool) (k : ℕ) : Type 0 where
  pub len : length marks ≡ d.nets
  pub marked : AreMarked (before d k) marks
  pub order : (j : ℕ) → j < k → (g : Gate) → slice_get d.gates j ≡ Some g → All (Contains (before d j)) g.ins

abbrev pub out_of : Gate → ℕ
out_of g = g.out

pub gates_marked_more : (d : Design) (marks : List Bool) (k : ℕ) (g : Gate) → slice_get d.gates k ≡ Some g → AllBelow d.nets g.ins → g.out < d.nets
    → All (λ n. is_marked marks n ≡ true) g.ins → is_marked marks g.out ≡ false → GatesMarked d marks k → GatesMarked d (set marks g.out true) (k + 1)
gates_marked_more d marks k g at ins out reads free done =
    let inside = slice_get_within d.gates k g at in
    let last : get_or d.gates k g ≡ g = get_or_from_slice_get d.gates k g g at in
    let within : g.out < length marks = rw done.len out in
    record {
      len = length-set marks g.out true ∙ done.len;
      marked =
          rw (map_more out_of d.gates k g inside, last, ← append_assoc (source_nets d) (map out_of (take k d.gates)) (g.out ∷ []))
          (marked_one (before d k) marks g.out within free done.marked);
      order =
          below_more (λ j. (h : Gate) → slice_get d.gates j ≡ Some h → All (Contains (before d j)) h.ins) k done.order
          (λ h there. let same : h ≡ g = cc in rw same (λ i e lt. marked_contains (before d k) marks (get_or g.ins i e) (rw done.len (ins i e lt))
          (reads i e lt) done.marked));
    }

pub out_of_order : (d : Design) (marks : List Bool) (k : ℕ) (g : Gate) (n : ℕ) → slice_get d.gates k ≡ Some g → Contains g.ins n → n < d.nets
    → is_marked marks n ≡ false → GatesMarked d marks k → IsOutOfOrder d k
out_of_order d marks k g n at reads low free done =
    record {
      gate = g;
      at = at;
      net = n;
      reads = reads;
      early = unmarked_not_contains (before d k) marks n (rw done.len low) free done.marked;
    }

pub driven_twice : (d : Design) (marks : List Bool) (k : ℕ) (g : Gate) → slice_get d.gates k ≡ Some g → g.out < d.nets → is_marked marks g.out ≡ true
    → GatesMarked d marks k → (g.out < d.nets) × (1 < driver_count d g.out)
driven_twice d marks k g at low marked done =
    let inside : g.out < length marks = rw done.len low in
    let one = counted_marked (before d k) marks g.out inside marked done.marked in
    let all = count_append (λ m. m == g.out) (source_nets d) (gate_nets d.gates) in
    let some = count_append (λ m. m == g.out) (source_nets d) (gate_nets (take k d.gates)) in
    let more = count_taken (λ m. m == g.out) d.gates k g at in
    let hit = counted g.out g.out refl in
    (low, omega arith)

-- where all nets are marked, each has one driver
pub one_driver : (d : Design) (marks : List Bool) → length marks ≡ d.nets → AreMarked (driven_nets d) marks
    → ((n : ℕ) → n < length marks → is_marked marks n ≡ true) → (net : ℕ) → net < d.nets → driver_count d net ≡ 1
one_driver d marks len marked all net low =
    let inside : net < length marks = rw len low in
    counted_marked (driven_nets d) marks net inside (all net inside) marked

pub no_driver : (d : Design) (marks : List Bool) (net : ℕ) → length marks ≡ d.nets → AreMarked (driven_nets d) marks → net < length marks
    → is_marked marks net ≡ false → (net < d.nets) × (driver_count d net ≡ 0)
no_driver d marks net len marked inside free =
    (rw (← len) inside, counted_unmarked (driven_nets d) marks net inside free marked)
