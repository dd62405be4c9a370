-- The tables that depend on a design and on the coding alone.
use Rattle.std.specs.Prelude.{ℕ, List, Option}
use Rattle.net_model.specs.declared.netlist.Design.{Design}
use Rattle.net_model.specs.declared.claims.PinRef.{PinRef}
use Rattle.net_paths.specs.Readers.{AreReaders}
use Rattle.query_model.specs.declared.keys.Coding.{Coding}
use Rattle.frame_unroll.specs.Drivers.{AreDrivers}
use Rattle.frame_unroll.specs.Found.{AreNetGates}
use Rattle.frame_unroll.specs.Counted.{AreCounted}
use Rattle.frame_unroll.specs.declared.drivers.Driver.{Driver}
use Rattle.frame_unroll.specs.declared.counted_places.CountedPlaces.{CountedPlaces}

-- a design, and the cubes by which its functions define keys
pub record CodedDesign : Type 0 where
  pub design : Design
  pub coding : Coding

-- what drives each net, which gate does and which pins read it, and which places count
pub record AreTables (d : Design) (coding : Coding) (drivers : List Driver) (gates : List (Option ℕ)) (readers : List (List PinRef))
    (counted : CountedPlaces) : Type 0 where
  pub drivers_are : AreDrivers d drivers
  pub gates_are : AreNetGates d gates
  pub readers_are : AreReaders d readers
  pub counted_are : AreCounted coding d counted
