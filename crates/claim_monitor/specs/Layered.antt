-- Literals in the layers of a cycle.
use Rattle.std.specs.Prelude.{◌≡◌, ℕ, ◌-◌, ◌<◌, ◌≤◌, Bool, true, false, if◌then◌else◌, List, map, length, All, Contains, slice_index}
use Rattle.net_model.specs.Args.{arg_at}
use Rattle.net_model.specs.Form.{value}
use Rattle.net_model.specs.Cycles.{shown}
use Rattle.net_model.specs.Netlist.{source_nets}
use Rattle.net_model.specs.Pins.{is_in, start_outs, start_nets}
use Rattle.net_model.specs.Layers.{row_at, net_at, held_set, layer_pins, pin_reads, AreLayerGates}
use Rattle.net_model.specs.declared.arguments.Args.{Args}
use Rattle.net_model.specs.declared.netlist.Design.{Design}
use Rattle.net_model.specs.declared.claims.PinRef.{PinRef}
use Rattle.net_model.specs.declared.claims.PinRef.TheVariants.{Net, RegIn}
use Rattle.net_model.specs.declared.claims.Start.{Start}
use Rattle.net_model.specs.declared.netlist.RegOut.{RegOut}
use Rattle.and_graphs.specs.Graphs.{bit_of}
use Rattle.and_graphs.specs.declared.graphs.AndGraph.{AndGraph}
use Rattle.claim_monitor.specs.Shown.{AreIn, shown_row}

-- the bits of rows of literals
abbrev pub shown_rows : AndGraph → List Bool → List (List ℕ) → List (List Bool)
shown_rows g x rows = map (shown_row g x) rows

-- rows of literals of the graph, one for each layer up to a last one, with a literal for each net
pub record AreRowsFor (g : AndGraph) (nets last : ℕ) (rows : List (List ℕ)) : Type 0 where
  pub count : last < length rows
  pub lens : (m : ℕ) → m ≤ last → length (row_at rows m) ≡ nets
  pub in_ : All (AreIn g) rows

-- what the pins of gate k read in a layer; the places after them have the constant 0
pub record AreLayerLiterals (sets : List (List PinRef)) (rows : List (List ℕ)) (layer k : ℕ) (ins : List ℕ) (args : Args ℕ) : Type 0 where
  pub pins : (i : ℕ) → i < length ins → arg_at args i ≡ layer_pins 0 sets rows layer k ins i
  pub rest : (i : ℕ) → length ins ≤ i → i < 7 → arg_at args i ≡ 0

-- what the pins of an end register read in the last layer; the places after them have its own bit
pub record AreLateLiterals (sets : List (List PinRef)) (rows : List (List ℕ)) (r : ℕ) (ins : List ℕ) (bit : ℕ) (args : Args ℕ) : Type 0 where
  pub pins : (i : ℕ) → i < length ins → arg_at args i ≡ pin_reads 0 sets rows (length sets)
      (RegIn r i) (slice_index ins i)
  pub rest : (i : ℕ) → length ins ≤ i → i < 7 → arg_at args i ≡ bit

-- the gates of a layer are settled, and its sources and the nets of its set show what they showed
pub record IsLayerSettled (d : Design) (sets : List (List PinRef)) (l : ℕ) (before now : List (List Bool)) : Type 0 where
  pub sources : (n : ℕ) → Contains (source_nets d) n → net_at false now l n ≡ net_at false before l n
  pub held : (n : ℕ) → is_in (Net n) (held_set sets l) ≡ true → net_at false now l n ≡ net_at false before l n
  pub gates : AreLayerGates value false d sets now l

-- the literal that a net has in a layer before gates are settled: in the layer's set that of the layer before, else that of the cycle
abbrev pub base_literal : List (List PinRef) → List (List ℕ) → ℕ → List ℕ → ℕ → ℕ
base_literal sets rows l base n = if is_in (Net n) (held_set sets l) then net_at 0 rows (l - 1) n else slice_index base n

-- in the first layer the nets of a start show a late literal, inverted ones its complement, and all other nets are as before
pub record ShowsLate (g : AndGraph) (d : Design) (start : Start) (literal : ℕ) (before now : List (List ℕ)) : Type 0 where
  pub in_ : All (AreIn g) before → All (AreIn g) now
  pub late : (x : List Bool) → length x ≡ g.front
      → All (λ (o : RegOut). net_at false (shown_rows g x now) 0 o.net ≡ shown o (bit_of g x literal)) (start_outs d start)
  pub others : (x : List Bool) (n : ℕ) → length x ≡ g.front → ¬ Contains (start_nets d start) n
      → net_at false (shown_rows g x now) 0 n ≡ net_at false (shown_rows g x before) 0 n
