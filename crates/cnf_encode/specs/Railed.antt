-- The clauses of rails, by the cubes of a cell.
use Rattle.std.specs.Prelude.{true, List}
use Rattle.query_model.specs.Keys.{lit}
use Rattle.query_model.specs.Tables.{may_clause, must_clause, hazard_clauses}
use Rattle.query_model.specs.declared.keys.Cube.{Cube}
use Rattle.query_model.specs.declared.keys.KeyLit.{KeyLit}
use Rattle.prime_cubes.specs.Cells.{CellCubes}
use Rattle.query_model.specs.declared.keys.Key.{Key}
use Rattle.cnf_encode.specs.Coded.{IsCode, AreCodes}
use Rattle.cnf_encode.specs.declared.tables.Rails.{Rails}
use Rattle.cnf_encode.specs.declared.tables.RailCodes.{RailCodes}

-- the output may have the value of a cube in which the places may be
abbrev pub may_be_so : Rails → Cube → List KeyLit
may_be_so rails cube = may_clause rails.highs.now rails.lows.now (lit true rails.high) (lit true rails.low) cube

-- and has no other value where they are in the cube for certain
abbrev pub must_be_so : Rails → Cube → List KeyLit
must_be_so rails cube = must_clause rails.highs.now rails.lows.now (lit true rails.high) (lit true rails.low) cube

-- the first for each cube by which it is what the function gives, the second for each by which it is nothing else
abbrev pub rail_clauses : Rails → CellCubes → List (List KeyLit)
rail_clauses rails cell =
    hazard_clauses rails.highs.now rails.lows.now (lit true rails.high) (lit true rails.low) cell.covering cell.settling

-- the codes of what the places may be on each rail, and of the two keys
pub record AreRailCodes (keys : List Key) (rails : Rails) (codes : RailCodes) : Type 0 where
  pub highs : AreCodes keys rails.highs.now codes.highs.items
  pub lows : AreCodes keys rails.lows.now codes.lows.items
  pub high : IsCode keys (lit true rails.high) codes.high
  pub low : IsCode keys (lit true rails.low) codes.low
