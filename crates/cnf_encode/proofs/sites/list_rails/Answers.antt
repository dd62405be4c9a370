use Rattle.std.proofs.Common.{sym, ◌∙◌}
use Rattle.cnf_encode.specs.Sited.{rails_by}
use Rattle.cnf_encode.proofs.Listing.{Closed-clauses}
use Rattle.cnf_encode.proofs.sites.list_rails.Goals as goal

pub push_rails-requires-clause-keys : goal.push_rails-requires-clause-keys
push_rails-requires-clause-keys c =
    Closed-clauses (rails_by c.args.high.now c.args.low.now c.args.cell.now) c.requires.closed
    (sym c.is_either_needed.ensures ∙ c.if-not-is_either_needed.false)
