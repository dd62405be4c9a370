-- Sixty-four bits at once: the lanes of a word.
use Rattle.std.specs.Prelude.{◌≡◌, ◌<◌, ◌+◌, ◌*◌, ◌^◌, ◌==◌, ℕ, zero, suc, Bool, if◌then◌else◌, List, map}
use Rattle.std.specs.Int.{bit_at as digit}
use Rattle.net_model.specs.Form.{Form, value}
use Rattle.net_model.specs.declared.lane_words.Lanes.{Lanes}
use Rattle.net_model.specs.declared.cycles.Cycle.{Cycle}

-- the bit of a lane: lane i is bit i of the number
abbrev pub lane : Lanes → ℕ → Bool
lane w i = digit w.0 i == 1

-- each lane of a result is the cell's value on that lane of its places
abbrev pub IsInEachLane : ((ℕ → Bool) → Bool) → (ℕ → Lanes) → Lanes → Type 0
IsInEachLane cell args result = (i : ℕ) → i < 64 → lane result i ≡ cell (λ place. lane (args place) i)

-- lane i of a row of words
abbrev pub lane_row : ℕ → List Lanes → List Bool
lane_row i words = map (λ (w : Lanes). lane w i) words

-- lane i of the words of a cycle
abbrev pub lane_cycle : ℕ → List Lanes → List Lanes → List Lanes → Cycle
lane_cycle i bits ins nets = record { bits = lane_row i bits; ins = lane_row i ins; nets = lane_row i nets }

-- the number whose lowest n bits are these, and which has no other bits
unfoldable pub number_of : ℕ → (ℕ → Bool) → ℕ
number_of zero bits = 0
number_of (suc n) bits = (if bits n then 1 else 0) * 2 ^ n + number_of n bits

-- the word with these lanes
unfoldable pub lanes_of : (ℕ → Bool) → Lanes
lanes_of bits = record { 0 = number_of 64 bits }

-- the word with this bit in each lane
abbrev pub in_each_lane : Bool → Lanes
in_each_lane bit = lanes_of (λ _. bit)

-- what a function gives on words: in each lane its value on that lane of the places
abbrev pub lanes_value : Form → (ℕ → Lanes) → Lanes
lanes_value f args = lanes_of (λ i. value f (λ place. lane (args place) i))
