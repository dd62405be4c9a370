use Rattle.std.proofs.Common.{true, false}
use Rattle.inv_candidates.specs.Clauses.{one_of}
use Rattle.inv_candidates.specs.Listing.{clause_of}
use Rattle.inv_candidates.proofs.Adding.{adds_two}
use Rattle.inv_candidates.proofs.listings.Listing.add_single.Goals as goal

pub returns : goal.returns
returns c =
    adds_two c.args.self.now c.add.new.self c.add-2.new.self (clause_of c.one.result) (clause_of c.one-2.result) (one_of c.args.reg false)
    (one_of c.args.reg true) c.in_ok-add.ensures c.in_ok-add-2.ensures c.one.ensures c.one-2.ensures
