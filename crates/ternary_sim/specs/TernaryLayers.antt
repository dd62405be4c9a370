-- Room for ternary layers.
use Rattle.std.specs.Prelude.{◌≡◌, List, length, All}
use Rattle.net_model.specs.declared.netlist.Design.{Design}
use Rattle.net_model.specs.declared.terns.Tern.{Tern}

-- five rows with a value for each net of the design
pub record AreTernaryLayersFor (d : Design) (rows : List (List Tern)) : Type 0 where
  pub count : length rows ≡ 5
  pub lens : All (λ row. length row ≡ d.nets) rows
