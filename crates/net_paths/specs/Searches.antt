-- What is kept of a design while its paths are searched.
use Rattle.net_model.specs.declared.netlist.Design.{Design}
use Rattle.net_paths.specs.Readers.{AreReaders}
use Rattle.net_paths.specs.Cones.{AreNoted}
use Rattle.net_paths.specs.declared.searches.Search.{Search}

-- the readers are the design's, and each net that has a level is noted
pub record IsSearchOf (d : Design) (s : Search) : Type 0 where
  pub readers : AreReaders d s.readers.rows.items
  pub noted : AreNoted d.nets s.cone
