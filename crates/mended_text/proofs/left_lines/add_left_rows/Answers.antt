use Rattle.std.proofs.Common.{List, map, ap}
use Rattle.std.specs.List.{flat_map}
use Rattle.list_laws.proofs.Joining.{added_nothing}
use Rattle.witness_replay.specs.StimulusTexts.{line_of}
use Rattle.mend_groups.specs.declared.rows.Row.{Row}
use Rattle.mended_text.specs.Scenes.{seen_findings}
use Rattle.mended_text.specs.Tellings.{left_of}
use Rattle.mended_text.proofs.Telling.{left_rows_none}
use Rattle.mended_text.proofs.left_lines.add_left_rows.Goals as goal

pub returns-in-None : goal.returns-in-None
returns-in-None c =
    added_nothing c.args.lines.now _
    (ap (λ (rows : List Row). map line_of (flat_map (left_of (seen_findings c.args.told.now.findings.now)) rows))
    (left_rows_none c.args.told.now.parts.now c.args.told.now.place c.in-None.ensures))
