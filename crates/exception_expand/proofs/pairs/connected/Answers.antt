use Rattle.std.proofs.Common.{arith, List, [], sym, subst, map}
use Rattle.net_model.specs.Fits.{IsStartIn}
use Rattle.net_model.specs.declared.claims.Start.{Start}
use Rattle.net_model.specs.declared.claims.End.{End}
use Rattle.net_model.proofs.Settling.{All-at}
use Rattle.net_paths.specs.Those.{AreThose, All_seen}
use Rattle.exception_expand.specs.Pairs.{IsConnected, pair}
use Rattle.exception_expand.specs.Cuts.{AddsThose}
use Rattle.exception_expand.proofs.Cutting.{those_next, cut_here, cut_nowhere}
use Rattle.exception_expand.proofs.pairs.connected.Goals as goal

pub loop-k-init : goal.loop-k-init
loop-k-init c = record {
  those = subst (AreThose (IsConnected c.args.design.now c.args.lists.now.sets) []) (sym c.new-pairs.ensures) All_seen;
  search = c.requires.search;
}

pub add_start-requires-clause-start : goal.add_start-requires-clause-start
add_start-requires-clause-start c = All-at (IsStartIn c.args.design.now) c.args.lists.now.starts c.loop-k.k c.at.result c.at.ensures c.requires.starts

pub loop-k-preserved : goal.loop-k-preserved
loop-k-preserved c = record {
  those = those_next (λ (start : Start). map (pair start) c.args.lists.now.ends) (IsConnected c.args.design.now c.args.lists.now.sets) c.args.lists.now.starts
      c.loop-k.k c.at.result c.loop-k.pairs c.add_start.new.pairs c.at.ensures c.loop-k.invariant.those
      (subst (λ (ends : List End). AddsThose (IsConnected c.args.design.now c.args.lists.now.sets) (map (pair c.at.result) ends) c.loop-k.pairs
      c.add_start.new.pairs) c.in_ok-aims.ensures.ends c.in_ok-add_start.ensures.pairs);
  search = c.in_ok-add_start.ensures.search;
}

pub returns-then-len-most-clause-pairs : goal.returns-then-len-most-clause-pairs
returns-then-len-most-clause-pairs c =
    cut_here (λ (start : Start). map (pair start) c.args.lists.now.ends) (IsConnected c.args.design.now c.args.lists.now.sets) c.args.lists.now.starts
    c.loop-k.k c.args.most c.loop-k.pairs c.loop-k.invariant.those (omega (arith, c.if-len-most.true, c.len.ensures))

pub returns-clause-pairs : goal.returns-clause-pairs
returns-clause-pairs c =
    cut_nowhere (λ (start : Start). map (pair start) c.args.lists.now.ends) (IsConnected c.args.design.now c.args.lists.now.sets) c.args.lists.now.starts
    c.loop-k.k c.args.most c.loop-k.pairs c.loop-k.invariant.those (omega (arith, c.loop-k-test.false, c.len-k-end.ensures))
