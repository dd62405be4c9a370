use Rattle.std.proofs.Common.{◌≤◌, ◌^◌, length, arith, ap, ◌∙◌}
use Rattle.std.proofs.Math.Nat.{pow-le-pow_right}
use Rattle.std.specs.Prelude.{slice_index_or}
use Rattle.net_model.specs.declared.terns.Tern.TheVariants.{Zero}
use Rattle.net_model.specs.FormLaws.{IsOver-weaker}
use Rattle.cell_cubes.proofs.Digits.{cubes_more}
use Rattle.query_model.proofs.Codings.{length-cube_terns}
use Rattle.cell_cubes.proofs.tables.cubes.Goals as goal

pub pow-count-requires : goal.pow-count-requires
pow-count-requires c = let most : 3 ^ c.args.places ≤ 3 ^ 7 = pow-le-pow_right {n = 3} (omega arith) c.requires.few in omega arith

pub args_of-requires : goal.args_of-requires
args_of-requires c =
    let len = ap length (c.as_slice.ensures ∙ c.in_ok-fixed.ensures) ∙ length-cube_terns c.args.places c.loop-w.w in
    record { few = omega (arith, len, c.requires.few) }

pub apply-value-requires : goal.apply-value-requires
apply-value-requires c = IsOver-weaker c.args.places 7 c.args.func.now c.requires.few c.requires.over

pub loop-w-preserved : goal.loop-w-preserved
loop-w-preserved c =
    cubes_more c.args.func.now c.args.places c.loop-w.w c.loop-w.found.items _ c.in_ok-fixed.fixed _ c.apply-value.result c.requires.few
    c.requires.over c.in_ok-fixed.ensures (λ i lt. c.args_of.ensures i lt ∙ ap (λ ts. slice_index_or ts i Zero) c.as_slice.ensures)
    c.apply-value.ensures.value c.loop-w.invariant c.in_ok-push_known.ensures.known c.in_ok-push_known.ensures.unknown
