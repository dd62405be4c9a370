-- One lane of rows of words, as a row of bits.
use Rattle.std.proofs.Common.{◌≡◌, ℕ, ◌+◌, ◌<◌, Bool, true, false, not, if◌then◌else◌, List, length, map, set, get_or, Some, refl, ap, sym, ◌∙◌, subst, arith}
use Rattle.std.specs.Prelude.{slice_get, slice_index, option_map}
use Rattle.std.proofs.lemmas.List.{map-set, length-map}
use Rattle.std.proofs.lemmas.Option.{slice_get-map}
use Rattle.std.proofs.Math.ListN.{get_or-map}
use Rattle.net_model.specs.Form.{value}
use Rattle.net_model.specs.FormLaws.{value_agrees}
use Rattle.net_model.specs.Netlist.{IsSound, IsGateInRange}
use Rattle.net_model.specs.Rows.{pins_of, AreGatesSettled}
use Rattle.net_model.specs.Cycles.{bit_at, shown}
use Rattle.net_model.specs.LaneBits.{lane, lane_row, in_each_lane, lanes_value}
use Rattle.net_model.specs.LaneLaws.{lane_of}
use Rattle.net_model.proofs.Settling.{All-at}
use Rattle.net_model.proofs.Sources.{InputsDone, inputs_more, RegDone, reg_more}
use Rattle.net_model.specs.declared.netlist.Design.{Design}
use Rattle.net_model.specs.declared.netlist.Reg.{Reg}
use Rattle.net_model.specs.declared.netlist.RegOut.{RegOut}
use Rattle.net_model.specs.declared.lane_words.Lanes.{Lanes}

-- a lane as a function of words
abbrev lane_at : ℕ → Lanes → Bool
lane_at i w = lane w i

pub length-lane_row : (i : ℕ) (words : List Lanes) → length (lane_row i words) ≡ length words
length-lane_row i words = length-map words (lane_at i)

-- the bit at a place is that lane of the word there
pub row_bit : (i : ℕ) (words : List Lanes) (n : ℕ) → i < 64 → bit_at (lane_row i words) n ≡ lane (get_or words n (in_each_lane false)) i
row_bit i words n lt =
    subst (λ (b : Bool). get_or (map (lane_at i) words) n b ≡ lane (get_or words n (in_each_lane false)) i) (lane_of (λ _. false) i lt)
    (get_or-map (lane_at i) words n (in_each_lane false))

row_place : (i : ℕ) (words : List Lanes) (n : ℕ) (w : Lanes) → slice_get words n ≡ Some w → slice_get (lane_row i words) n ≡ Some (lane w i)
row_place i words n w at = slice_get-map (lane_at i) words n ∙ ap (option_map (lane_at i)) at

-- in each lane the first inputs show their bits
pub record InputLanesDone (d : Design) (ins nets : List Lanes) (k : ℕ) : Type 0 where
  pub len : length nets ≡ d.nets
  pub lanes : (i : ℕ) → i < 64 → InputsDone d (lane_row i ins) (lane_row i nets) k

pub input_lanes_none : (d : Design) (ins nets : List Lanes) → length nets ≡ d.nets → InputLanesDone d ins nets 0
input_lanes_none d ins nets len =
    record { len = len; lanes = λ i lt. record { len = length-lane_row i nets ∙ len; shown = λ j low. absurd (omega arith) } }

pub input_lanes_more : (d : Design) (ins nets : List Lanes) (k m : ℕ) (w : Lanes) → IsSound d → slice_get d.inputs k ≡ Some m → slice_get ins k ≡ Some w
    → InputLanesDone d ins nets k → InputLanesDone d ins (set nets m w) (k + 1)
input_lanes_more d ins nets k m w sound at there done =
    record {
      len = Rattle.std.proofs.Common.length-set nets m w ∙ done.len;
      lanes = λ i lt.
          subst (λ (row : List Bool). InputsDone d (lane_row i ins) row (k + 1)) (sym (map-set (lane_at i) nets m w))
          (inputs_more d (lane_row i ins) (lane_row i nets) k m (lane w i) sound at (row_place i ins k w there) (done.lanes i lt));
    }

-- in each lane the first outputs of a register show the bit, and what is driven before is as at the start
pub record RegLanesDone (d : Design) (r : ℕ) (outs : List RegOut) (bits : Lanes) (start nets : List Lanes) (o : ℕ) : Type 0 where
  pub len : length nets ≡ d.nets
  pub lanes : (i : ℕ) → i < 64 → RegDone d r outs (lane bits i) (lane_row i start) (lane_row i nets) o

pub reg_lanes_none : (d : Design) (r : ℕ) (outs : List RegOut) (bits : Lanes) (nets : List Lanes) → length nets ≡ d.nets
    → RegLanesDone d r outs bits nets nets 0
reg_lanes_none d r outs bits nets len =
    record { len = len; lanes = λ i lt. record { len = length-lane_row i nets ∙ len; kept = λ n has. refl; shown = λ p low. absurd (omega arith) } }

pub reg_lanes_more : (d : Design) (r : ℕ) (reg : Reg) (bits : Lanes) (start nets : List Lanes) (o : ℕ) (out : RegOut) (w : Lanes) → IsSound d
    → slice_get d.regs r ≡ Some reg
    → slice_get reg.outs o ≡ Some out → ((i : ℕ) → i < 64 → lane w i ≡ shown out (lane bits i)) → RegLanesDone d r reg.outs bits start nets o
    → RegLanesDone d r reg.outs bits start (set nets out.net w) (o + 1)
reg_lanes_more d r reg bits start nets o out w sound at there shows done =
    record {
      len = Rattle.std.proofs.Common.length-set nets out.net w ∙ done.len;
      lanes = λ i lt.
          subst (λ (row : List Bool). RegDone d r reg.outs (lane bits i) (lane_row i start) row (o + 1)) (sym (map-set (lane_at i) nets out.net w))
          (reg_more d r reg (lane bits i) (lane_row i start) (lane_row i nets) o out (lane w i) sound at there (shows i lt) (done.lanes i lt));
    }

-- a net whose word is kept keeps each lane
pub kept_lane : (i : ℕ) (old new : List Lanes) (n : ℕ) → i < 64 → get_or new n (in_each_lane false) ≡ get_or old n (in_each_lane false)
    → bit_at (lane_row i new) n ≡ bit_at (lane_row i old) n
kept_lane i old new n lt same =
    row_bit i new n lt ∙ (ap (lane_at i) same ∙ sym (row_bit i old n lt))

-- gates that are settled as words are settled in each lane
pub gates_lane : (d : Design) (i : ℕ) (nets : List Lanes) → IsSound d → i < 64 → AreGatesSettled lanes_value (in_each_lane false) d.gates nets
    → AreGatesSettled value false d.gates (lane_row i nets)
gates_lane d i nets sound lt settled k g at =
    let in_range = All-at (IsGateInRange d) d.gates k g at sound.in_range.gates in
    let pins : ℕ → Lanes = pins_of (in_each_lane false) g.ins nets in
    row_bit i nets g.out lt
    ∙ (ap (lane_at i) (settled k g at)
    ∙ (lane_of (λ j. value g.func (λ place. lane (pins place) j)) i lt
    ∙ value_agrees g.func (length g.ins) (λ place. lane (pins place) i) (pins_of false g.ins (lane_row i nets)) in_range.func
    (λ place low. sym (row_bit i nets (slice_index g.ins place) lt))))
