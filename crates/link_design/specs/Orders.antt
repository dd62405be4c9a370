-- The order in which gates are settled.
use Rattle.std.specs.Prelude.{◌≡◌, ℕ, ◌<◌, ◌≤◌, ◌-◌, ◌==◌, nat_lt, if◌then◌else◌, List, ◌++◌, length, map, take, All, Contains, Some, slice_get}
use Rattle.std.specs.Prelude.{slice_index_or, count_by}
use Rattle.net_model.specs.Netlist.{AllBelow, gate_nets}
use Rattle.net_model.specs.declared.netlist.Gate.{Gate}
use Rattle.link_defs.specs.Circuits.{IsOnCycle}
use Rattle.link_design.specs.declared.faults.CircuitFault.{CircuitFault}
use Rattle.link_design.specs.declared.faults.CircuitFault.TheVariants as fault
use Rattle.link_design.specs.Rows.{IsDriverRow}

-- gates read nets below a number
abbrev pub AreReadsBelow : List Gate → ℕ → Type 0
AreReadsBelow gates nets = All (λ (g : Gate). AllBelow nets g.ins) gates

-- sources and gates are the drivers of the nets, each net of one at most
pub record IsWired (gates : List Gate) (sources row : List ℕ) : Type 0 where
  pub row_is : IsDriverRow (sources ++ gate_nets gates) (length row) row
  pub once : (net : ℕ) → count_by (λ m. m == net) (sources ++ gate_nets gates) ≤ 1
  pub ins : AreReadsBelow gates (length row)
  pub outs : AllBelow (length row) (gate_nets gates)

-- the places of all gates, each once, each after those of the gates that drive what it reads
pub record IsGateOrder (gates : List Gate) (order : List ℕ) : Type 0 where
  pub each_once : (k : ℕ) → k < length gates → count_by (λ m. m == k) order ≡ 1
  pub in_range : (i k : ℕ) → slice_get order i ≡ Some k → k < length gates
  pub earlier : (i k j : ℕ) (g h : Gate) → slice_get order i ≡ Some k → slice_get gates k ≡ Some g → slice_get gates j ≡ Some h → Contains g.ins h.out
      → Contains (take i order) j

-- the net is on a cycle
abbrev pub IsLoop : List Gate → CircuitFault → Type 0
IsLoop gates (fault.Loop net) = IsOnCycle gates net
IsLoop gates fault.Memory = Unit {0}
IsLoop gates f = ⊥

-- the place of the gate that drives a net; the number of the gates where none does
unfoldable pub need_by : ℕ → ℕ → List ℕ → ℕ → ℕ
need_by count sources row net = let driver = slice_index_or row net 0 in if nat_lt driver sources then count else driver - sources

-- what each gate needs, by the row
abbrev pub row_needs : List Gate → ℕ → List ℕ → List (List ℕ)
row_needs gates sources row = map (λ (g : Gate). map (need_by (length gates) sources row) g.ins) gates
