-- The parts of a reader of members, as what they stand for.
use Rattle.report_rows.specs.declared.json_pairs.PairMembers.{PairMembers}
use Rattle.report_rows.specs.declared.json_scripts.CommandMembers.{CommandMembers}
use Rattle.report_rows.specs.declared.reports.Said.TheVariants.{Does}
use Rattle.report_rows.specs.declared.reports.ScriptRow.{ScriptRow}
use Rattle.report_rows.specs.declared.reports.PairRow.{PairRow}

-- the row with these members
abbrev pub seen_pair : PairMembers → PairRow
seen_pair p = record {
  number = p.number;
  command = p.command;
  kind = p.kind.now;
  start = p.start.now;
  end = p.end.now;
  verdict = p.verdict;
  why = p.why.now;
}

abbrev pub seen_command : CommandMembers → ScriptRow
seen_command c = record { command = c.command; line = c.line; said = Does c.what.now c.pairs }
