use Rattle.std.proofs.Common.{◌≡◌, take}
use Rattle.std.specs.Prelude.{flat_map}
use Rattle.report_groups.specs.Remarks.{note_words}
use Rattle.report_groups.proofs.remarks.note_words.Given as goal

abbrev pub invariant-loop-finding : goal.invariant-loop-finding
invariant-loop-finding l = l.out ≡ flat_map note_words (take l.finding-index l.findings)
