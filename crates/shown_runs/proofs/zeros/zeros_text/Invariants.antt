use Rattle.std.proofs.Common.{◌≡◌, ◌++◌, take}
use Rattle.std.specs.Prelude.{flat_map, codes}
use Rattle.shown_runs.specs.Rows as spec
use Rattle.shown_runs.proofs.zeros.zeros_text.Given as goal

abbrev pub invariant-loop-name : goal.invariant-loop-name
invariant-loop-name l = l.text.items ≡ codes "0 throughout:" ++ flat_map spec.spaced (take l.name-index l.names)
