-- Room for the layers of a design.
use Rattle.net_model.specs.declared.netlist.Design.{Design}
use Rattle.net_sim.specs.Layers.{AreLayersFor}
use Rattle.ternary_sim.specs.TernaryLayers.{AreTernaryLayersFor}
use Rattle.witness_replay.specs.declared.bads.Rooms.{Rooms}

-- room for its layers of bits, and for its ternary layers
pub record AreRoomsFor (d : Design) (rooms : Rooms) : Type 0 where
  pub bits : AreLayersFor d rooms.bits
  pub terns : AreTernaryLayersFor d rooms.terns
