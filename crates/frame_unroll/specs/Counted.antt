-- Which places of a design's gates and registers count.
use Rattle.std.specs.Prelude.{◌≡◌, ℕ, ◌+◌, Bool, List, map, length, if◌then◌else◌}
use Rattle.net_model.specs.Form.{value}
use Rattle.net_model.specs.Cycles.{reg_capture}
use Rattle.net_model.specs.Mentions.{reads_own}
use Rattle.net_model.specs.declared.netlist.Design.{Design}
use Rattle.net_model.specs.declared.netlist.Gate.{Gate}
use Rattle.net_model.specs.declared.netlist.Reg.{Reg}
use Rattle.query_model.specs.declared.keys.Coding.{Coding}
use Rattle.frame_unroll.specs.Counting.{marks}
use Rattle.frame_unroll.specs.declared.counted_places.CountedPlaces.{CountedPlaces}

-- the marks of a gate's pins
abbrev pub gate_marks : Coding → Gate → List Bool
gate_marks coding g = marks coding (value g.func) (length g.ins)

-- how many places a register's capture has: its pins, and its own bit where one of its functions mentions it
abbrev pub capture_places : Reg → ℕ
capture_places reg = length reg.ins + (if reads_own reg then 1 else 0)

-- their marks
abbrev pub reg_marks : Coding → Reg → List Bool
reg_marks coding reg = marks coding (reg_capture reg) (capture_places reg)

-- the marks of each gate and of each register
pub record AreCounted (coding : Coding) (d : Design) (c : CountedPlaces) : Type 0 where
  pub gates : c.gates ≡ map (gate_marks coding) d.gates
  pub regs : c.regs ≡ map (reg_marks coding) d.regs
