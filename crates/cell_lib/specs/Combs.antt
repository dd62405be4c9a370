-- Combinational cells.
use Rattle.std.specs.Prelude.{ℕ, List, Option, None}
use Rattle.std.specs.Option.{option_map}
use Rattle.texts.specs.Reads.{each, ◌>>=◌}
use Rattle.net_model.specs.Form.{Form}
use Rattle.cell_lib.specs.Scopes.{meaning, resolved}
use Rattle.cell_types.specs.declared.libraries.CombOut.{CombOut}
use Rattle.cell_lib.specs.declared.pins.OutPin.{OutPin}

-- an output pin whose function has input pins alone
unfoldable pub comb_out : List (List ℕ) → OutPin → Option CombOut
comb_out inputs o = o.func >>= λ e. option_map (λ (f : Form). record { name = o.name; func = f }) (resolved (meaning inputs None) e)

-- every output pin has a function of input pins
abbrev pub comb_outs : List (List ℕ) → List OutPin → Option (List CombOut)
comb_outs inputs outs = each (comb_out inputs) outs
