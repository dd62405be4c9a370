use Rattle.std.proofs.Common.{[]}
use Rattle.std.specs.Prelude.{All}
use Rattle.std.proofs.lemmas.List.Elements.{All-head}
use Rattle.cnf_encode.specs.Coded.{HasKey}
use Rattle.cnf_encode.proofs.clauses.push_clause.Goals as goal

pub codes-requires : goal.codes-requires
codes-requires c = All-head (All (HasKey c.args.frames.now)) c.args.lits.now [] c.requires
