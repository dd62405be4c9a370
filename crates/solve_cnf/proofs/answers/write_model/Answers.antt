use Rattle.std.specs.Prelude.{◌++◌, codes}
use Rattle.std.proofs.KnownBytes.{Appends-trans}
use Rattle.solve_cnf.specs.Answers.{literals_text, filled}
use Rattle.solve_cnf.proofs.answers.write_model.Goals as goal

pub returns : goal.returns
returns g c =
    let literals = literals_text (filled c.args.vars c.args.values.now) in
    Appends-trans _ _ _ (codes "s SATISFIABLE\nv") (literals ++ codes " 0\n") c.in_ok-write.ensures.bytes
    (Appends-trans _ _ _ literals (codes " 0\n") c.in_ok-write_literals.ensures c.in_ok-write-2.ensures.bytes)
