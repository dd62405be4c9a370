use Rattle.std.proofs.Common.{sym, ◌∙◌}
use Rattle.query_model.specs.Defined.{both}
use Rattle.cnf_encode.proofs.Listing.{Closed-clauses, one_needed}
use Rattle.cnf_encode.proofs.needed.list_both.Goals as goal

pub push_both-requires : goal.push_both-requires
push_both-requires c =
    Closed-clauses (both c.args.z c.args.x c.args.y) c.requires.closed
    (one_needed c.args.frames.now c.args.z (sym c.is_needed.ensures ∙ c.if-not-is_needed.false))
