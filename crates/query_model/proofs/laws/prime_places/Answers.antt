use Rattle.query_model.proofs.Depends.{fixed_where_depends}
use Rattle.query_model.proofs.laws.prime_places.Goals as goal

pub returns : goal.returns
returns c cell places i = fixed_where_depends cell places i
