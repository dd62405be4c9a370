use Rattle.std.proofs.Common.{◌∙◌, sym}
use Rattle.cell_lib.specs.Texts.{flaw_in_cell}
use Rattle.cell_lib.proofs.TextLemmas.{first_found, first_missed, first_end}
use Rattle.cell_lib.proofs.flaws.flaw_in.Goals as goal

pub returns-then-is_some : goal.returns-then-is_some
returns-then-is_some c =
    sym (c.loop-group.invariant ∙ first_found (flaw_in_cell c.args.flaw) c.args.groups.now c.loop-group.group-index c.group-item.result c.loop-group-test.true
    c.group-item.is c.in_ok-place.place (sym c.in_ok-place.ensures) (sym c.is_some.ensures ∙ c.if-is_some.true))

pub loop-group-preserved : goal.loop-group-preserved
loop-group-preserved c =
    c.loop-group.invariant ∙ first_missed (flaw_in_cell c.args.flaw) c.args.groups.now c.loop-group.group-index c.group-item.result c.loop-group-test.true
    c.group-item.is c.in_ok-place.place (sym c.in_ok-place.ensures) (sym c.is_some.ensures ∙ c.if-is_some.false)

pub returns : goal.returns
returns c = sym (c.loop-group.invariant ∙ first_end (flaw_in_cell c.args.flaw) c.args.groups.now c.loop-group.group-index c.loop-group-test.false)
