-- The input bits that are drawn in a cycle.
use Rattle.std.specs.Prelude.{◌≡◌, ℕ, ◌+◌, ◌<◌, Bool, false, List, length, slice_index_or}
use Rattle.rand_pcg.specs.Lcg.{Lcg}
use Rattle.net_model.specs.Cycles.{bit_at}
use Rattle.net_model.specs.LaneBits.{in_each_lane}
use Rattle.net_model.specs.declared.netlist.Design.{Design}
use Rattle.net_model.specs.declared.lane_words.Lanes.{Lanes}
use Rattle.drawn_runs.specs.Draws.{after, word}
use Rattle.net_model.specs.Held.{is_held, free_below}

-- for each input whether it is fixed or reset
pub record AreHeldMarks (d : Design) (marks : List Bool) : Type 0 where
  pub count : length marks ≡ length d.inputs
  pub each : (k : ℕ) → k < length d.inputs → bit_at marks k ≡ is_held d k

-- the free inputs below a number have a word each, from `base` on, and the generator is past these
pub record AreDrawnTo (d : Design) (base : ℕ) (ins : List Lanes) (k : ℕ) (rng : Lcg) : Type 0 where
  pub next : rng ≡ after (base + free_below d k)
  pub put : (j : ℕ) → j < k → is_held d j ≡ false → slice_index_or ins j (in_each_lane false) ≡ word (base + free_below d j)
