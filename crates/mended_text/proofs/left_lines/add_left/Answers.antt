use Rattle.std.proofs.Common.{arith}
use Rattle.mended_text.specs.Scenes.{seen_findings}
use Rattle.mended_text.proofs.Telling.{written_untold, unfound_untold}
use Rattle.mended_text.proofs.left_lines.add_left.Goals as goal

pub returns-then-row : goal.returns-then-row
returns-then-row c = written_untold (seen_findings c.args.findings.now) c.args.row.now c.args.lines.now c.if-row.true

pub returns-then-row-findings : goal.returns-then-row-findings
returns-then-row-findings c = unfound_untold (seen_findings c.args.findings.now) c.args.row.now c.args.lines.now (omega arith)
