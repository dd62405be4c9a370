use Rattle.std.proofs.Common.{◌≤◌, length}
use Rattle.std.specs.Io.KnownBytes.{Consumes}
use Rattle.real_host.proofs.pieces.read_all.Given as goal

abbrev pub invariant-loop : goal.invariant-loop
invariant-loop g l = record {
  size : length l.bytes.items ≤ l.limit;
  read : Consumes (g.R.Read.remaining l.fn.file) (g.R.Read.remaining l.file) l.bytes.items;
}
