use Rattle.std.proofs.Common.{◌∙◌, sym}
use Rattle.cell_lib.specs.Texts.{flaw_in_part}
use Rattle.cell_lib.proofs.TextLemmas.{first_found, first_missed, first_end}
use Rattle.cell_lib.proofs.flaws.flaw_in_parts.Goals as goal

pub returns-then-is_some : goal.returns-then-is_some
returns-then-is_some c =
    sym (c.loop-part.invariant ∙ first_found (flaw_in_part c.args.flaw) c.args.parts.now c.loop-part.part-index c.part-item.result c.loop-part-test.true
    c.part-item.is c.in_ok-place.place (sym c.in_ok-place.ensures) (sym c.is_some.ensures ∙ c.if-is_some.true))

pub loop-part-preserved : goal.loop-part-preserved
loop-part-preserved c =
    c.loop-part.invariant ∙ first_missed (flaw_in_part c.args.flaw) c.args.parts.now c.loop-part.part-index c.part-item.result c.loop-part-test.true
    c.part-item.is c.in_ok-place.place (sym c.in_ok-place.ensures) (sym c.is_some.ensures ∙ c.if-is_some.false)

pub returns : goal.returns
returns c = sym (c.loop-part.invariant ∙ first_end (flaw_in_part c.args.flaw) c.args.parts.now c.loop-part.part-index c.loop-part-test.false)
