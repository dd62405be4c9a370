use Rattle.net_model.specs.Args.{arg_at}
use Rattle.prime_cubes.proofs.Freeing.{freed_value, free_by}
use Rattle.prime_cubes.proofs.implicants.can_free.Goals as goal

pub returns-then-is_known : goal.returns-then-is_known
returns-then-is_known c =
    free_by c.args.func.now c.args.fixed.now c.args.place c.is_known.result c.is_known-then-is_known.result _ c.apply.result c.requires.place
    c.is_known.ensures c.if-is_known.true c.is_known-then-is_known.ensures c.apply.ensures.value
    (freed_value c.args.func.now c.args.fixed.now c.args.place (arg_at c.args_of-args.result) (arg_at c.set.new.self) c.requires.over
    c.requires.place c.args_of-args.ensures c.set.ensures)
