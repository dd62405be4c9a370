use Rattle.std.proofs.Common.{◌≡◌, take, map}
use Rattle.net_link.specs.Rows.{number_in}
use Rattle.net_link.proofs.enables.numbers_of.Given as goal

abbrev pub invariant-loop-net : goal.invariant-loop-net
invariant-loop-net l = l.list ≡ map (number_in l.numbers) (take l.net-index l.nets)
