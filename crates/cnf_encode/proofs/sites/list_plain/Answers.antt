use Rattle.std.proofs.Common.{sym, ◌∙◌}
use Rattle.cnf_encode.specs.Sited.{plain_by}
use Rattle.cnf_encode.proofs.Listing.{Closed-clauses, one_needed}
use Rattle.cnf_encode.proofs.sites.list_plain.Goals as goal

pub push_plain-requires-clause-keys : goal.push_plain-requires-clause-keys
push_plain-requires-clause-keys c =
    Closed-clauses (plain_by c.args.rail.now c.args.cubes.now) c.requires.closed
    (one_needed c.args.frames.now c.args.rail.now.out (sym c.is_needed.ensures ∙ c.if-not-is_needed.false))
