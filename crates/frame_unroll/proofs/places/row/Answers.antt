use Rattle.std.proofs.Common.{◌∙◌, ◌/◌, ◌%◌, ◌^◌, ap, sym, cond, nat_eq}
use Rattle.std.specs.Prelude.{◌==◌}
use Rattle.frame_unroll.proofs.RowBits.{row_more}
use Rattle.frame_unroll.proofs.places.row.Goals as goal

pub loop-i-preserved : goal.loop-i-preserved
loop-i-preserved c j lt =
    c.set.ensures j lt
    ∙ ap (λ b. cond (nat_eq j c.loop-i.i) (c.args.number / 2 ^ c.loop-i.i % 2 == 1) b) (c.loop-i.invariant j lt)
    ∙ sym (row_more c.args.number c.loop-i.i j)
