use Rattle.std.proofs.Common.{◌≡◌, ◌++◌, map, take}
use Rattle.std.specs.List.{flat_map}
use Rattle.witness_replay.specs.StimulusTexts.{line_of}
use Rattle.mended_text.specs.Scenes.{seen_findings}
use Rattle.mended_text.specs.Tellings.{left_of}
use Rattle.mended_text.proofs.left_lines.add_rows.Given as goal

abbrev pub invariant-loop-row : goal.invariant-loop-row
invariant-loop-row l = l.lines ≡ l.initial.lines ++ map line_of (flat_map (left_of (seen_findings l.findings)) (take l.row-index l.rows))
