use Rattle.std.proofs.Common.{◌≡◌, ◌≤◌, ◌++◌, map, length, drop}
use Rattle.witness_replay.specs.StimulusTexts.{line_of}
use Rattle.mended_text.specs.Scenes.{seen_findings}
use Rattle.mended_text.specs.Tellings.{texts_from}
use Rattle.mended_text.proofs.exceptions.add_exceptions.Given as goal

abbrev pub invariant-loop-k : goal.invariant-loop-k
invariant-loop-k l = record {
  told : l.lines ++ map line_of (texts_from (seen_findings l.findings) l.parts l.place (drop l.place l.listed) (drop l.k l.commands))
      ≡ l.initial.lines ++ map line_of (texts_from (seen_findings l.findings) l.parts 0 l.listed l.commands);
  within : l.place ≤ length l.listed;
}
