use Rattle.std.proofs.Common.{◌≡◌, map, drop}
use Rattle.refusal_words.specs.Sections.{section_in, seen_section}
use Rattle.refusal_words.proofs.sections.section_in.Given as goal

abbrev pub invariant-loop-row : goal.invariant-loop-row
invariant-loop-row l = section_in (map seen_section l.rows) l.word ≡ section_in (map seen_section (drop l.row-index l.rows)) l.word
