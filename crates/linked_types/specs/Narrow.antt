-- What is linked without cut cells and assumptions.
use Rattle.std.specs.Prelude.{◌≡◌, false, []}
use Rattle.linked_types.specs.declared.options.LinkOptions.{LinkOptions}
use Rattle.linked_types.specs.declared.names.Names.{Names}

-- registers and clock gates are not cut out, on whatever clock they are
pub record IsOnOneClock (o : LinkOptions) : Type 0 where
  pub cut_clocks : o.cut_clocks ≡ false

-- nothing is cut out, and nothing is assumed
pub record IsWhole (n : Names) : Type 0 where
  pub free : n.free ≡ []
  pub sinks : n.sinks ≡ []
  pub cuts : n.cuts ≡ []
  pub assumed : n.assumed ≡ []
