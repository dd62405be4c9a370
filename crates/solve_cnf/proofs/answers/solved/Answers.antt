use Rattle.std.proofs.Common.{◌∙◌, ◌++◌, sym, refl}
use Rattle.std.proofs.KnownBytes.{Appends-trans}
use Rattle.solve_cnf.specs.Answers.{counts_text, answer_text, widened}
use Rattle.solve_cnf.proofs.Widening.{answer_whole, status_whole, model_of}
use Rattle.solve_cnf.proofs.answers.solved.Goals as goal

pub returns-clause-tells : goal.returns-clause-tells
returns-clause-tells g c =
    let read = c.args.read.now in
    let solved = c.in_ok-solved.solved in
    let answer = widened read.vars solved.answer in (
      counts_text solved.counts ++ answer_text answer,
      Appends-trans _ _ _ (counts_text solved.counts) (answer_text answer) c.in_ok-write_counts.ensures c.in_ok-write_answer.ensures,
      record {
        counts = solved.counts;
        answer = answer;
        right = answer_whole read c.args.budget solved.answer c.requires c.in_ok-solved.ensures.answer;
        text = refl;
        code = c.status_of.ensures ∙ sym (status_whole read.vars solved.answer);
      },
    )

pub returns-clause-satisfiable : goal.returns-clause-satisfiable
returns-clause-satisfiable g c ten =
    let solved = c.in_ok-solved.solved in
    model_of c.args.read.now c.args.budget solved.answer c.requires c.in_ok-solved.ensures.answer (sym c.status_of.ensures ∙ ten)
