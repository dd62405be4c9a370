-- What one lane of a row of net values shows.
use Rattle.std.specs.Prelude.{◌≡◌, ◌<◌, ℕ, Bool, List, length, All, Contains, Some, slice_get, slice_index}
use Rattle.net_model.specs.Cycles.{bit_at, shown, IsSettled}
use Rattle.net_model.specs.LaneBits.{lane_row}
use Rattle.net_model.specs.declared.netlist.Design.{Design}
use Rattle.net_model.specs.declared.netlist.Reg.{Reg}
use Rattle.net_model.specs.declared.cycles.Cycle.{Cycle}
use Rattle.net_model.specs.declared.netlist.RegOut.{RegOut}
use Rattle.net_model.specs.declared.lane_words.Lanes.{Lanes}

-- no other row of net values is settled with this lane of the register and input bits
abbrev pub IsOnlyRow : Design → ℕ → List Lanes → List Lanes → List Lanes → Type 0
IsOnlyRow d i bits ins nets =
    (c : Cycle) → IsSettled d c → c.bits ≡ lane_row i bits → c.ins ≡ lane_row i ins → c.nets ≡ lane_row i nets

-- each input net shows its input's bit
abbrev pub AreInputsShown : Design → ℕ → List Lanes → List Lanes → Type 0
AreInputsShown d i ins nets =
    (input : ℕ) → input < length d.inputs → bit_at (lane_row i nets) (slice_index d.inputs input) ≡ bit_at (lane_row i ins) input

-- each output net of the register shows this bit, or its complement
abbrev pub IsBitShown : ℕ → Reg → Bool → List Lanes → Type 0
IsBitShown i reg bit nets = All (λ (o : RegOut). bit_at (lane_row i nets) o.net ≡ shown o bit) reg.outs

-- so for each register
abbrev pub AreBitsShown : Design → ℕ → List Lanes → List Lanes → Type 0
AreBitsShown d i bits nets =
    (r : ℕ) (reg : Reg) → slice_get d.regs r ≡ Some reg → IsBitShown i reg (bit_at (lane_row i bits) r) nets

-- these nets show what they showed
abbrev pub AreKept : ℕ → List ℕ → List Lanes → List Lanes → Type 0
AreKept i nets old new = (n : ℕ) → Contains nets n → bit_at (lane_row i new) n ≡ bit_at (lane_row i old) n
