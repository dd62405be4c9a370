-- The text of a wave (IEEE 1364-2005, clause 18).
use Rattle.std.specs.Prelude.{ℕ, ◌*◌, List, ◌++◌}
use Rattle.vcd_text.specs.declared.waves.Wave.{Wave}
use Rattle.vcd_text.specs.Lines.{stamp}
use Rattle.vcd_text.specs.Declarations.{declarations}
use Rattle.vcd_text.specs.Changes.{cycles_text}

-- declarations, cycles, and the end of the last one
abbrev pub vcd_text : Wave → List ℕ
vcd_text w = declarations w ++ (cycles_text w w.cycles ++ stamp (10 * w.cycles))
