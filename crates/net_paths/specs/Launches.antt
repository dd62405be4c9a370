-- Where paths begin.
use Rattle.net_model.specs.Netlist.{IsSound}
use Rattle.net_model.specs.Fits.{IsStartIn}
use Rattle.net_paths.specs.declared.launches.Launch.{Launch}

-- the design is sound, and the start is one of its registers or inputs
pub record IsLaunch (l : Launch) : Type 0 where
  pub sound : IsSound l.design.now
  pub start : IsStartIn l.design.now l.start.now
