use Rattle.std.proofs.Common.{◌∙◌}
use Rattle.cell_cubes.proofs.Digits.{mapped_more, row_value}
use Rattle.net_model.specs.FormLaws.{IsOver-weaker}
use Rattle.cell_cubes.proofs.tables.rows.Goals as goal

pub apply-requires : goal.apply-requires
apply-requires c = IsOver-weaker c.args.places 7 c.args.func.now c.requires.few c.requires.over

pub loop-w-preserved : goal.loop-w-preserved
loop-w-preserved c =
    rw c.in_ok-push.ensures.items
    (mapped_more _ c.loop-w.w c.loop-w.values.items c.apply.result c.loop-w.invariant
    (c.apply.ensures ∙ row_value c.args.func.now c.args.places c.loop-w.w _ c.requires.few c.requires.over c.row.ensures))
