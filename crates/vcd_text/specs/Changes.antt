-- The values of a wave, cycle by cycle (IEEE 1364-2005, 18.2.2, 18.2.3, $dumpvars).
use Rattle.std.specs.Prelude.{ℕ, zero, suc, ◌+◌, ◌-◌, ◌*◌, ◌==◌, Bool, not, ◌||◌, if◌then◌else◌, List, [], ◌++◌, length, codes}
use Rattle.std.specs.List.{list_any}
use Rattle.std.specs.Fmt.{decimal}
use Rattle.wave_signals.specs.declared.signals.Signal.{Signal}
use Rattle.wave_signals.specs.Labels.{digit_at, digits}
use Rattle.vcd_text.specs.declared.waves.Wave.{Wave}
use Rattle.wave_signals.specs.Numbered.{numbered}
use Rattle.vcd_text.specs.Lines.{line, stamp}

-- a bit of the signal has another value in one cycle than in another
abbrev pub differs : ℕ → ℕ → Signal → Bool
differs cycle other s = list_any (λ values. not (digit_at cycle values == digit_at other values)) s.values

-- in the first cycle each signal is told, later one that differs from the cycle before
abbrev pub has_changed : ℕ → Signal → Bool
has_changed cycle s = cycle == 0 || differs cycle (cycle - 1) s

-- a bit is its digit and its identifier
abbrev pub scalar_line : ℕ → ℕ → Signal → List ℕ
scalar_line cycle number s = digits s cycle ++ line (decimal number)

-- a vector is `b`, its digits, a space and its identifier
abbrev pub vector_line : ℕ → ℕ → Signal → List ℕ
vector_line cycle number s = codes "b" ++ (digits s cycle ++ (codes " " ++ line (decimal number)))

abbrev pub value_line : ℕ → ℕ → Signal → List ℕ
value_line cycle number s = if length s.values == 1 then scalar_line cycle number s else vector_line cycle number s

abbrev pub change_line : ℕ → ℕ → Signal → List ℕ
change_line cycle number s = if has_changed cycle s then value_line cycle number s else []

-- the clock rises, and signals change with it
abbrev pub rise : Wave → ℕ → List ℕ
rise w cycle =
    line (codes "10") ++ (numbered (change_line cycle) 1 w.marks ++ numbered (change_line cycle) (1 + length w.marks) w.signals)

-- the list of all values is marked as one
abbrev pub dumped : Wave → ℕ → List ℕ
dumped w cycle = if cycle == 0 then line (codes "$dumpvars") ++ (rise w cycle ++ line (codes "$end")) else rise w cycle

-- a cycle is ten units of time: the clock rises with it, and falls in its middle
abbrev pub cycle_text : Wave → ℕ → List ℕ
cycle_text w cycle = stamp (10 * cycle) ++ (dumped w cycle ++ (stamp (10 * cycle + 5) ++ line (codes "00")))

-- so many cycles, from the first on
unfoldable pub cycles_text : Wave → ℕ → List ℕ
cycles_text w zero = []
cycles_text w (suc cycle) = cycles_text w cycle ++ cycle_text w cycle
