use Rattle.std.proofs.Common.{sym, ◌∙◌}
use Rattle.query_model.specs.Defined.{exclusive}
use Rattle.cnf_encode.proofs.Listing.{Closed-clauses, one_needed}
use Rattle.cnf_encode.proofs.needed.list_exclusive.Goals as goal

pub push_exclusive-requires : goal.push_exclusive-requires
push_exclusive-requires c =
    Closed-clauses (exclusive c.args.z c.args.x c.args.y) c.requires.closed
    (one_needed c.args.frames.now c.args.z (sym c.is_needed.ensures ∙ c.if-not-is_needed.false))
