use Rattle.std.proofs.Common.{sym, ◌∙◌}
use Rattle.query_model.specs.Defined.{unit}
use Rattle.cnf_encode.proofs.Listing.{Closed-clauses, one_needed}
use Rattle.cnf_encode.proofs.needed.list_unit.Goals as goal

pub push_unit-requires : goal.push_unit-requires
push_unit-requires c =
    Closed-clauses (unit c.args.value c.args.out) c.requires.closed
    (one_needed c.args.frames.now c.args.out (sym c.is_needed.ensures ∙ c.if-not-is_needed.false))
