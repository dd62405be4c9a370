use Rattle.std.proofs.Common.{◌+◌, arith}
use Rattle.std.proofs.lemmas.Option.{slice_get_within}
use Rattle.verdict_types.specs.declared.outcomes.Verdict.TheVariants.{Refuted}
use Rattle.witness_replay.proofs.WrittenLemmas.{written_first}
use Rattle.report_text.specs.Reports.{report_bytes}
use Rattle.report_text.proofs.ReadBack.{read_back, stimulus_written}
use Rattle.report_text.proofs.laws.report_reads_back.Goals as goal

pub returns-clause-written : goal.returns-clause-written
returns-clause-written c = λ place offset s found.
    let within = slice_get_within c.args.verdicts.now place (Refuted offset s) found in
    stimulus_written c.args.options.now c.args.notices.now c.args.selected.now c.args.verdicts.now place offset s c.requires (omega arith) found

pub returns-clause-first : goal.returns-clause-first
returns-clause-first c = λ place offset s found.
    written_first (place + 1) (report_bytes c.args.options.now c.args.notices.now c.args.selected.now c.args.verdicts.now) s
    (returns-clause-written c place offset s found)

pub returns-clause-back : goal.returns-clause-back
returns-clause-back c = λ place offset s found.
    read_back (place + 1) (report_bytes c.args.options.now c.args.notices.now c.args.selected.now c.args.verdicts.now) s (returns-clause-first c place offset s found)
