-- What the keys of a query are about: inputs, gates and register bits, listed cycle by cycle.
use Rattle.std.specs.Prelude.{◌≡◌, ℕ, ◌+◌, ◌<◌, ◌==◌, ◌&&◌, Bool, true, List, [], map, length, All, Contains, Option, Some, None, slice_get, slice_index_or}
use Rattle.std.specs.List.{list_any}
use Rattle.std.specs.List.Sorted.{IsStrictlyIncreasing}
use Rattle.net_model.specs.Netlist.{IsSound}
use Rattle.net_model.specs.declared.netlist.Design.{Design}
use Rattle.net_model.specs.declared.netlist.Gate.{Gate}
use Rattle.net_model.specs.declared.netlist.Fixed.{Fixed}
use Rattle.query_model.specs.Keys.{below}
use Rattle.query_model.specs.Defined.{set_in}
use Rattle.query_model.specs.declared.keys.Coding.{Coding}
use Rattle.query_model.specs.declared.keys.Key.{Key}
use Rattle.frame_unroll.specs.Drivers.{AreDrivers}
use Rattle.cnf_encode.specs.Cells.{AreCells}
use Rattle.cnf_encode.specs.declared.cones.Cone.{Cone}

-- one of the keys is about this point in this cycle, in whatever layer and on whatever rail
abbrev pub has_point : List Key → ℕ → ℕ → Bool
has_point keys c p = list_any (λ (k : Key). (k.cycle == c) && (k.point == p)) keys

-- places in this list of points, ascending, and among them each whose point one of the keys is about in the cycle
pub record Covers (keys : List Key) (c : ℕ) (points : List ℕ) (places : List ℕ) : Type 0 where
  pub ascending : IsStrictlyIncreasing places
  pub below : All (λ k. k < length points) places
  pub all : (k p : ℕ) → slice_get points k ≡ Some p → has_point keys c p ≡ true → Contains places k

-- a row of such places for each of these cycles
pub record AreRows (keys : List Key) (points : List ℕ) (cycles : ℕ) (rows : List (List ℕ)) : Type 0 where
  pub count : length rows ≡ cycles
  pub each : (c : ℕ) → c < cycles → Covers keys c points (slice_index_or rows c [])

-- the nets that gates drive
abbrev pub gate_points : Design → List ℕ
gate_points d = map (λ (g : Gate). g.out) d.gates

-- the points of register bits
abbrev pub bit_points : Design → List ℕ
bit_points d = map (λ r. d.nets + r) (below (length d.regs))

-- for each input the value of its setting among these, if it has one
pub record AreValuesOf (settings : List Fixed) (inputs : ℕ) (values : List (Option Bool)) : Type 0 where
  pub len : length values ≡ inputs
  pub each : (i : ℕ) → i < inputs → slice_index_or values i None ≡ set_in settings i

-- of a sound design: what drives its nets, the cubes of its functions, the settings of its inputs, and what the keys are about in the cycles up to this one
pub record IsConeOf (keys : List Key) (cycles : ℕ) (cone : Cone) : Type 0 where
  pub sound : IsSound cone.design.now
  pub drivers : AreDrivers cone.design.now cone.drivers.now
  pub cells : AreCells cone.design.now cone.cells.now
  pub fixed : AreValuesOf cone.design.now.fixed (length cone.design.now.inputs) cone.fixed.now
  pub resets : AreValuesOf cone.design.now.resets (length cone.design.now.inputs) cone.resets.now
  pub inputs : AreRows keys cone.design.now.inputs (cycles + 1) cone.inputs
  pub gates : AreRows keys (gate_points cone.design.now) (cycles + 1) cone.gates
  pub bits : AreRows keys (bit_points cone.design.now) (cycles + 1) cone.bits

-- a cone of keys of more cycles than this one's number
pub record IsConeFor (keys : List Key) (c : ℕ) (cone : Cone) : Type 0 where
  pub cycles : ℕ
  pub of : IsConeOf keys cycles cone
  pub lt : c < cycles

-- what a definition says of the coding of its cubes and of its design
abbrev pub of_cone : {A : Type 0} → (Coding → Design → A) → Cone → A
of_cone f cone = f cone.cells.now.list.coding cone.design.now
