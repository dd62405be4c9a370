-- The wave of a run that violates a claim.
use Rattle.std.specs.Prelude.{◌≡◌, ℕ, List, [], ◌∷◌, length, flat_map, IsPermutation, Option, Some, None, codes}
use Rattle.linked_types.specs.declared.names.Linked.{Linked}
use Rattle.linked_types.specs.declared.names.PortName.{PortName}
use Rattle.wave_signals.specs.Signals.{bits_of}
use Rattle.wave_signals.specs.declared.signals.Signal.{Signal}
use Rattle.named_runs.specs.NamedBits.{named_bits}
use Rattle.vcd_text.specs.Marks.{mark}
use Rattle.vcd_text.specs.Waves.{vcd_text}
use Rattle.vcd_text.specs.declared.waves.Wave.{Wave}
use Rattle.run_views.specs.declared.outcomes.Violation.{Violation}

-- the clock is shown by its own name, and by `clock` where the design has none
abbrev pub clock_name : Option PortName → List ℕ
clock_name None = codes "clock"
clock_name (Some port) = port.name

-- the cycle of the toggle, and the judged cycle
abbrev pub marks : Violation → List Signal
marks v = mark (codes "toggled") v.toggle (length v.run) ∷ mark (codes "judged") v.judged (length v.run) ∷ []

-- these signals over all cycles of the run, below the name of the top module
abbrev pub wave_of : List ℕ → Linked → Violation → List Signal → Wave
wave_of name l v list = record {
  clock = clock_name l.names.clock;
  top = name;
  marks = marks v;
  signals = list;
  cycles = length v.run;
}

-- the text shows, each once, all full names of nets and all registers, with their bits in the run
pub record IsWave (top : List ℕ) (l : Linked) (v : Violation) (text : List ℕ) : Type 0 where
  pub signals : List Signal
  pub each : IsPermutation (named_bits l v.run) (flat_map bits_of signals)
  pub is : text ≡ vcd_text (wave_of top l v signals)
