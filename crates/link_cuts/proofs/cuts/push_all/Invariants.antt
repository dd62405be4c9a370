use Rattle.std.proofs.Common.{◌≡◌, ◌++◌, take}
use Rattle.link_cuts.proofs.cuts.push_all.Given as goal

abbrev pub invariant-loop-net : goal.invariant-loop-net
invariant-loop-net l = l.nets ≡ l.fn.nets ++ take l.net-index l.more
