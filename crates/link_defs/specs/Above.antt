-- Which clock gate stands above each net of the clock tree, and whether the clock comes through to it.
use Rattle.std.specs.Prelude.{◌≡◌, ℕ, Bool, true, List, [], ◌∷◌, Contains, Option, Some, None, slice_get}
use Rattle.std.specs.List.{list_any}
use Rattle.net_model.specs.declared.netlist.Gate.{Gate}
use Rattle.link_defs.specs.declared.circuits.Part.TheVariants as part
use Rattle.link_defs.specs.declared.circuits.Circuit.{Circuit}

-- the net stands below this clock gate, with buffers and inverters alone between them, or below none; a clock gate is told by the net
-- that it drives
pub data Under (c : Circuit) : ℕ → Option ℕ → Type 0 where
  Root : (net : ℕ) → Contains c.clocks net → Under c net None
  Buffered : (from : ℕ) (gates : List Gate) (g : Gate) (up : Option ℕ)
      → Contains c.parts (part.Comb true (from ∷ []) gates) → Contains gates g → Under c from up → Under c g.out up
  Behind : (clock : ℕ) (enables : List ℕ) (out : ℕ) (up : Option ℕ) → Contains c.parts (part.Gate clock enables out) → Under c clock up
      → Under c out (Some out)

-- the clock comes through this clock gate and all above it, where nets have these bits: of each an enable is 1
pub data Passes (c : Circuit) (v : ℕ → Bool) : Option ℕ → Type 0 where
  Ungated : Passes c v None
  Open : (clock : ℕ) (enables : List ℕ) (out : ℕ) (up : Option ℕ) → Contains c.parts (part.Gate clock enables out) → list_any v enables ≡ true
      → Under c clock up → Passes c v up → Passes c v (Some out)

-- a row that has for each net of the clock tree the clock gate above it
abbrev pub IsAboveRow : Circuit → List (Option ℕ) → Type 0
IsAboveRow c row = (net : ℕ) (up : Option ℕ) → Under c net up → slice_get row net ≡ Some up
