-- The nets of a register's outputs.
use Rattle.std.specs.Prelude.{◌==◌, ℕ, Bool, List, map}
use Rattle.std.specs.List.{list_any}
use Rattle.net_model.specs.declared.netlist.RegOut.{RegOut}

-- the nets, output by output
abbrev pub out_nets : List RegOut → List ℕ
out_nets outs = map (λ (o : RegOut). o.net) outs

-- whether a net is one of them
abbrev pub is_out : List RegOut → ℕ → Bool
is_out outs n = list_any (λ (o : RegOut). o.net == n) outs
