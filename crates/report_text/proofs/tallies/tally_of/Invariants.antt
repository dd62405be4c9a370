use Rattle.std.proofs.Common.{◌≡◌, ◌≤◌, take}
use Rattle.std.specs.Prelude.{count_by}
use Rattle.report_text.specs.Words.{is_justified, is_refuted, is_undecided}
use Rattle.report_text.proofs.tallies.tally_of.Given as goal

abbrev pub invariant-loop-verdict : goal.invariant-loop-verdict
invariant-loop-verdict l = record {
  justified : l.justified ≡ count_by is_justified (take l.verdict-index l.verdicts);
  refuted : l.refuted ≡ count_by is_refuted (take l.verdict-index l.verdicts);
  undecided : l.undecided ≡ count_by is_undecided (take l.verdict-index l.verdicts);
  few_justified : l.justified ≤ l.verdict-index;
  few_refuted : l.refuted ≤ l.verdict-index;
  few_undecided : l.undecided ≤ l.verdict-index;
}
