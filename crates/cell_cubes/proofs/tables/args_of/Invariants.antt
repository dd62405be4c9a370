use Rattle.std.proofs.Common.{◌≡◌, ◌<◌, ℕ, take}
use Rattle.std.specs.Prelude.{slice_index_or}
use Rattle.net_model.specs.Args.{arg_at}
use Rattle.net_model.specs.declared.terns.Tern.TheVariants.{Zero as ZeroTern}
use Rattle.cell_cubes.proofs.tables.args_of.Given as goal

abbrev pub invariant-loop-i : goal.invariant-loop-i
invariant-loop-i l = (j : ℕ) → j < 7 → arg_at l.args j ≡ slice_index_or (take l.i l.fixed) j ZeroTern
