use Rattle.std.proofs.Common.{arith}
use Rattle.inv_candidates.specs.Clauses.{single_clauses}
use Rattle.inv_candidates.specs.Listing.{No_more}
use Rattle.inv_candidates.proofs.Adding.{adds_more, adds_whole}
use Rattle.inv_candidates.proofs.listings.Listing.add_singles.Goals as goal

pub loop-k-init : goal.loop-k-init
loop-k-init c = No_more c.args.self.now

pub loop-k-preserved : goal.loop-k-preserved
loop-k-preserved c =
    adds_more single_clauses c.args.group.now c.loop-k.k c.at.result c.args.self.now c.loop-k.self c.add_single.new.self c.at.ensures
    c.loop-k.invariant c.in_ok-add_single.ensures

pub returns : goal.returns
returns c = adds_whole single_clauses c.args.group.now c.loop-k.k c.args.self.now c.loop-k.self (omega arith) c.loop-k.invariant
