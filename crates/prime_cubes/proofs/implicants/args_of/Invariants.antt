use Rattle.std.proofs.Common.{◌≡◌, ◌<◌, ◌≤◌, ℕ}
use Rattle.std.specs.Prelude.{slice_index_or}
use Rattle.net_model.specs.Args.{arg_at}
use Rattle.net_model.specs.declared.terns.Tern.TheVariants.{Zero}
use Rattle.prime_cubes.proofs.implicants.args_of.Given as goal

abbrev pub invariant-loop-i : goal.invariant-loop-i
invariant-loop-i l =
    record {
      before : (j : ℕ) → j < l.i → arg_at l.args j ≡ slice_index_or l.fixed j Zero;
      after : (j : ℕ) → l.i ≤ j → j < 7 → arg_at l.args j ≡ Zero;
    }
