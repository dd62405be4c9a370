-- Room for layers.
use Rattle.std.specs.Prelude.{◌≡◌, Bool, List, length, All}
use Rattle.net_model.specs.declared.netlist.Design.{Design}

-- five rows with a bit for each net of the design
pub record AreLayersFor (d : Design) (rows : List (List Bool)) : Type 0 where
  pub count : length rows ≡ 5
  pub lens : All (λ row. length row ≡ d.nets) rows
