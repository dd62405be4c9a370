use Rattle.std.proofs.Common.{◌≡◌, map, take}
use Rattle.shown_runs.specs.Lates.{first_name}
use Rattle.shown_runs.proofs.named_paths.first_names.Given as goal

abbrev pub invariant-loop-net : goal.invariant-loop-net
invariant-loop-net l = l.list ≡ map (first_name l.names) (take l.net-index l.path)
