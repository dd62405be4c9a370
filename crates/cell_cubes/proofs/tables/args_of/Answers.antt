use Rattle.std.proofs.Common.{rules, refl}
use Rattle.net_model.specs.declared.terns.Tern.TheVariants.{Zero as ZeroTern}
use Rattle.cell_cubes.proofs.Digits.{take_at}
use Rattle.cell_cubes.proofs.tables.args_of.Goals as goal

pub loop-i-preserved : goal.loop-i-preserved
loop-i-preserved c =
    λ j lt. rw (c.set.ensures j lt, take_at c.args.fixed.now c.loop-i.i j ZeroTern (search rules), c.loop-i.invariant j lt) refl
