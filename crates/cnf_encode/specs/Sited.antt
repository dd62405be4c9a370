-- Definitions by functions, by the cubes of these.
use Rattle.std.specs.Prelude.{◌≡◌, true, List, [], ◌∷◌, length, Option, Some, None}
use Rattle.query_model.specs.Keys.{lit}
use Rattle.query_model.specs.Tables.{plain_clauses, hazard_clauses}
use Rattle.query_model.specs.Defined.{Definition}
use Rattle.query_model.specs.declared.keys.Cube.{Cube}
use Rattle.prime_cubes.specs.Cells.{CellCubes}
use Rattle.frame_unroll.specs.declared.sites.Rail.{Rail}
use Rattle.frame_unroll.specs.declared.sites.Site.{Site}
use Rattle.cnf_encode.specs.CellLists.{AreWide}

-- of a key, by cubes of what is read on a rail
abbrev pub plain_by : Rail → List Cube → Definition
plain_by rail cubes = record { outs = rail.out ∷ []; clauses = plain_clauses rail.reads (lit true rail.out) cubes }

-- of the keys of both rails
abbrev pub rails_by : Rail → Rail → CellCubes → Definition
rails_by high low cell =
    record {
      outs = high.out ∷ low.out ∷ [];
      clauses = hazard_clauses high.reads low.reads (lit true high.out) (lit true low.out) cell.covering cell.settling;
    }

-- on the one rail, or on both
abbrev pub defined_by : Rail → Option Rail → CellCubes → Definition
defined_by high None cell = plain_by high cell.covering
defined_by high (Some low) cell = rails_by high low cell

-- at a site
abbrev pub site_by : Site → CellCubes → Definition
site_by site cell = defined_by site.high site.low cell

-- as much is read on both rails
abbrev pub LiesBeside : Rail → Rail → Type 0
LiesBeside high low = length low.reads ≡ length high.reads

-- the cubes tell of as many places as are read at the site on each rail
pub record Suits (site : Site) (cell : CellCubes) : Type 0 where
  pub covering : AreWide (length site.high.reads) cell.covering
  pub settling : AreWide (length site.high.reads) cell.settling
  pub beside : (low : Rail) → site.low ≡ Some low → LiesBeside site.high low
