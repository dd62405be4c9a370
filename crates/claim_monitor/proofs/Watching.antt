-- A monitor watches its claim: at each step the bits in front show the run.
use Rattle.std.proofs.Common.{◌≡◌, ℕ, zero, suc, ◌<◌, ◌+◌, ◌-◌, Bool, true, false, List, ◌++◌, length, replicate, Some, ap, sym, ◌∙◌, subst, arith}
use Rattle.std.specs.Prelude.{◌↔◌, slice_get}
use Rattle.std.proofs.lemmas.List.{length-append, get_or-append-add}
use Rattle.std.proofs.lemmas.Option.{slice_get_within, slice_get-get_or}
use Rattle.net_model.specs.Netlist.{IsSound}
use Rattle.net_model.specs.Fits.{Fits}
use Rattle.net_model.specs.Cycles.{bit_at, IsSettled, IsRun}
use Rattle.net_model.specs.declared.netlist.Design.{Design}
use Rattle.net_model.specs.declared.cycles.Cycle.{Cycle}
use Rattle.net_model.specs.declared.claims.Claim.{Claim}
use Rattle.net_model.proofs.Existence.{item_at}
use Rattle.net_model.proofs.Settling.{All-at}
use Rattle.and_graphs.specs.Graphs.{bit_of, literal_bit, all_bits}
use Rattle.and_graphs.specs.Runs.{latches_at, bad_at}
use Rattle.and_graphs.specs.declared.graphs.AndLine.{AndLine}
use Rattle.and_graphs.specs.declared.graphs.AndGraph.{AndGraph}
use Rattle.and_graphs.specs.declared.aigs.Aig.{Aig}
use Rattle.claim_monitor.specs.Fronts.{sizes_of, latch_count, reg_place, IsFront}
use Rattle.claim_monitor.specs.Shown.{shown_row, shown_cycle}
use Rattle.claim_monitor.specs.Tells.{IsCaughtNow, IsFirstFront, IsNextFront}
use Rattle.claim_monitor.specs.Watches.{IsCaughtAt, AreOfRun}
use Rattle.claim_monitor.specs.Monitors.{IsMonitor, IsAigOf}
use Rattle.claim_monitor.specs.declared.cycle_literals.Literals.{Literals}
use Rattle.claim_monitor.proofs.Catching.{Shows, caught_tells, caught_told}
use Rattle.claim_monitor.proofs.Fronting.{front_begun, front_goes_on}
use Rattle.claim_monitor.proofs.FrontRows.{IsOver, first_given, first_front, free_bits_before, latches_first, latches_next}
use Rattle.claim_monitor.proofs.SameCycle.{shown_is}

-- a monitor
pub record Monitor (d : Design) (claim : Claim) (a : Aig) : Type 0 where
  pub graph : AndGraph
  pub literals : Literals
  pub nexts : List ℕ
  pub bad : ℕ
  pub sound : IsSound d
  pub is : IsMonitor graph d claim literals nexts bad
  pub made : IsAigOf graph d claim nexts bad a

-- a run beside which it runs
pub record Beside (d : Design) (run : List Cycle) (any : List Bool) (ins : ℕ → List Bool) : Type 0 where
  pub is : IsRun d run
  pub bits : AreOfRun d run any ins

-- the bits in front at a step
abbrev pub front_at : Aig → List Bool → (ℕ → List Bool) → ℕ → List Bool
front_at a any ins t = ins t ++ latches_at a any ins t

over : (d : Design) (claim : Claim) (a : Aig) (m : Monitor d claim a) → IsOver m.graph m.nexts a
over d claim a m = record { next = m.made.next; lines = m.made.lines }

-- at the first step they show the first cycle
shows_first : (d : Design) (claim : Claim) (a : Aig) (run : List Cycle) (any : List Bool) (ins : ℕ → List Bool) (c : Cycle) → Monitor d claim a
    → Beside d run any ins → slice_get run 0 ≡ Some c → IsFront d claim run 0 c (front_at a any ins 0)
shows_first d claim a run any ins c m b at =
    let rest = latch_count (sizes_of d claim) - length d.regs in
    let bits : any ≡ c.bits = b.bits.first c at in
    let regs : length any ≡ length d.regs = ap length bits ∙ (All-at (IsSettled d) run 0 c at b.is.linked.settled).shape.bits in
    let flags = m.made.is_any ∙ ap (λ (n : ℕ). replicate n true ++ replicate rest false) (sym regs) in
    let latches : latches_at a any ins 0 ≡ any ++ replicate rest false = latches_first a any ins ∙ first_given a.latches any rest flags in
    let x = ins 0 ++ (any ++ replicate rest false) in
    let first : IsFirstFront d (sizes_of d claim) c x = first_front d claim c (ins 0) any (b.bits.count 0) regs bits (b.bits.inputs 0 c at) in
    front_begun d claim run c (front_at a any ins 0) at
    (subst (λ (row : List Bool). IsFirstFront d (sizes_of d claim) c (ins 0 ++ row)) (sym latches) first)

-- at a next step they show the next cycle
shows_next : (d : Design) (claim : Claim) (a : Aig) (run : List Cycle) (any : List Bool) (ins : ℕ → List Bool) (t : ℕ) (c next : Cycle)
    → Monitor d claim a → Beside d run any ins → IsFront d claim run t c (front_at a any ins t) → slice_get run (suc t) ≡ Some next
    → IsFront d claim run (suc t) next (front_at a any ins (suc t))
shows_next d claim a run any ins t c next m b front at =
    let s = sizes_of d claim in
    let g = m.graph in
    let x = front_at a any ins t in
    let y = front_at a any ins (suc t) in
    let up : suc t ≡ t + 1 = omega arith in
    let len : length x ≡ g.front = front.count ∙ sym m.is.front in
    let shown : shown_cycle g x m.literals ≡ c = shown_is g d claim m.literals run t c x m.sound m.is.literals len b.is front in
    let row = shown_row g x m.nexts in
    let free = free_bits_before d next (ins (suc t)) row (b.bits.count (suc t)) (b.bits.inputs (suc t) next at) in
    let takes : IsNextFront d claim s x (shown_cycle g x m.literals) next (ins (suc t) ++ row) =
    m.is.nexts.takes x (ins (suc t)) next len (b.bits.count (suc t)) free in
    let on : IsNextFront d claim s x c next (ins (suc t) ++ row) =
    subst (λ (z : Cycle). IsNextFront d claim s x z next (ins (suc t) ++ row)) shown takes in
    let of_y : IsNextFront d claim s x c next y =
    subst (λ (latches : List Bool). IsNextFront d claim s x c next (ins (suc t) ++ latches))
    (sym (latches_next g m.nexts a any ins t (over d claim a m))) on in
    subst (λ (n : ℕ). IsFront d claim run n next y) (sym up)
    (front_goes_on d claim run t c next x y b.is front (ap (slice_get run) (sym up) ∙ at) of_y)

-- so they show the run at each step
pub shows_each : (d : Design) (claim : Claim) (a : Aig) (run : List Cycle) (any : List Bool) (ins : ℕ → List Bool) (t : ℕ) (c : Cycle)
    → Monitor d claim a → Beside d run any ins → slice_get run t ≡ Some c → IsFront d claim run t c (front_at a any ins t)
shows_each d claim a run any ins zero c m b at = shows_first d claim a run any ins c m b at
shows_each d claim a run any ins (suc t) next m b at =
    let within = slice_get_within run (suc t) next at in
    let c = item_at run t (omega arith) in
    shows_next d claim a run any ins t c.0 next m b (shows_each d claim a run any ins t c.0 m b c.1) at

-- the first latches have the bits of the registers
pub registers_shown : (d : Design) (claim : Claim) (a : Aig) (run : List Cycle) (any : List Bool) (ins : ℕ → List Bool) (t r : ℕ) (c : Cycle)
    → Monitor d claim a → Beside d run any ins → slice_get run t ≡ Some c → r < length d.regs
    → slice_get (latches_at a any ins t) r ≡ slice_get c.bits r
registers_shown d claim a run any ins t r c m b at low =
    let latches = latches_at a any ins t in
    let front : IsFront d claim run t c (front_at a any ins t) = shows_each d claim a run any ins t c m b at in
    let place : reg_place (sizes_of d claim) r ≡ length (ins t) + r = omega (arith, b.bits.count t) in
    let bit : bit_at latches r ≡ bit_at c.bits r =
    sym (ap (bit_at (ins t ++ latches)) place ∙ get_or-append-add (ins t) latches r false) ∙ front.regs r low in
    let many : r < length latches = omega (arith, length-append (ins t) latches, front.count, b.bits.count t, low) in
    let regs = (All-at (IsSettled d) run t c at b.is.linked.settled).shape.bits in
    slice_get-get_or latches r false many ∙ (ap Some bit ∙ sym (slice_get-get_or c.bits r false (omega (arith, regs, low))))

-- the bad literal of the graph with latches is that of the graph
bad_is : (d : Design) (claim : Claim) (a : Aig) (any : List Bool) (ins : ℕ → List Bool) (t : ℕ) (m : Monitor d claim a)
    → bad_at a any ins t ≡ bit_of m.graph (front_at a any ins t) m.bad
bad_is d claim a any ins t m =
    let x = front_at a any ins t in
    ap (λ (lines : List AndLine). literal_bit (all_bits lines x) a.bad) m.made.lines ∙ ap (bit_of m.graph x) m.made.bad

-- so the bad literal is 1 in exactly the steps in which the run is caught
pub monitor_watches : (d : Design) (claim : Claim) (a : Aig) (run : List Cycle) (any : List Bool) (ins : ℕ → List Bool) (t : ℕ) → Fits d claim
    → claim.hazard ≡ false → Monitor d claim a → Beside d run any ins → t < length run → (bad_at a any ins t ≡ true) ↔ IsCaughtAt d claim run t
monitor_watches d claim a run any ins t fits plain m b within =
    let g = m.graph in
    let x = front_at a any ins t in
    let item = item_at run t within in
    let c = item.0 in
    let front : IsFront d claim run t c x = shows_each d claim a run any ins t c m b item.1 in
    let len : length x ≡ g.front = front.count ∙ sym m.is.front in
    let shown : shown_cycle g x m.literals ≡ c = shown_is g d claim m.literals run t c x m.sound m.is.literals len b.is front in
    let shows : Shows d claim run t c x = record { sound = m.sound; fits = fits; plain = plain; of_run = b.is; front = front } in
    let tells = m.is.bad.tells x len in
    let same = bad_is d claim a any ins t m in
    let now : Cycle → Type 0 = λ (z : Cycle). IsCaughtNow d (sizes_of d claim) claim x z in (
      λ up. caught_tells d claim run t c x shows (subst now shown (tells.0 (sym same ∙ up))),
      λ caught. same ∙ tells.1 (subst now (sym shown) (caught_told d claim run t c x shows caught)),
    )
