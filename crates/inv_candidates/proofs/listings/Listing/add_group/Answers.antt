use Rattle.std.proofs.Common.{flat_map}
use Rattle.inv_candidates.specs.Clauses.{single_clauses, all_pairs}
use Rattle.inv_candidates.proofs.Adding.{adds_both}
use Rattle.inv_candidates.proofs.listings.Listing.add_group.Goals as goal

pub returns : goal.returns
returns c =
    adds_both c.args.self.now (flat_map single_clauses c.args.group.now) c.add_singles.new.self (all_pairs c.args.group.now) c.add_pairs.new.self
    c.in_ok-add_singles.ensures c.in_ok-add_pairs.ensures
