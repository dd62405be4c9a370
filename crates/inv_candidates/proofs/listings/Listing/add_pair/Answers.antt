use Rattle.std.proofs.Common.{true, false}
use Rattle.inv_candidates.specs.Clauses.{two_of}
use Rattle.inv_candidates.specs.Listing.{clause_of}
use Rattle.inv_candidates.proofs.Adding.{adds_four}
use Rattle.inv_candidates.proofs.listings.Listing.add_pair.Goals as goal

pub returns : goal.returns
returns c =
    let r = c.args.reg in
    let s = c.args.other in
    adds_four c.args.self.now c.add.new.self c.add-2.new.self c.add-3.new.self c.add-4.new.self (clause_of c.two.result) (clause_of c.two-2.result)
    (clause_of c.two-3.result) (clause_of c.two-4.result) (two_of r false s false) (two_of r false s true) (two_of r true s false) (two_of r true s true)
    c.in_ok-add.ensures c.in_ok-add-2.ensures c.in_ok-add-3.ensures c.in_ok-add-4.ensures c.two.ensures c.two-2.ensures c.two-3.ensures c.two-4.ensures
