use Rattle.std.proofs.Common.{take}
use Rattle.net_paths.specs.Searches.{IsSearchOf}
use Rattle.net_paths.specs.Those.{AreThose}
use Rattle.exception_expand.specs.Pairs.{IsConnected, pairs_between}
use Rattle.exception_expand.proofs.pairs.connected.Given as goal

abbrev pub invariant-loop-k : goal.invariant-loop-k
invariant-loop-k l = record {
  those : AreThose (IsConnected l.design l.lists.sets) (pairs_between (take l.k l.lists.starts) l.lists.ends) l.pairs;
  search : IsSearchOf l.design l.search;
}
