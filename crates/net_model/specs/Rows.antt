-- Rows of net values, of bits or of any other kind.
use Rattle.std.specs.Prelude.{◌≡◌, ℕ, List, Some, slice_get, slice_index, slice_index_or}
use Rattle.net_model.specs.Form.{Form}
use Rattle.net_model.specs.declared.netlist.Gate.{Gate}

-- what a function gives on the values of its places
abbrev pub Applied : Type 0 → Type 0
Applied V = Form → (ℕ → V) → V

-- what the pins of a gate read
abbrev pub pins_of : {V : Type 0} → V → List ℕ → List V → ℕ → V
pins_of blank ins nets place = slice_index_or nets (slice_index ins place) blank

-- each gate output is its function of its input nets
abbrev pub AreGatesSettled : {V : Type 0} → Applied V → V → List Gate → List V → Type 0
AreGatesSettled applied blank gates nets =
    (k : ℕ) (g : Gate) → slice_get gates k ≡ Some g → slice_index_or nets g.out blank ≡ applied g.func (pins_of blank g.ins nets)
