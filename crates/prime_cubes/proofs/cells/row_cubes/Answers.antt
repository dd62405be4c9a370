use Rattle.std.proofs.Common.{◌≡◌, length, arith, ap, ◌∙◌, map, ◌^◌}
use Rattle.net_model.specs.Form.{value}
use Rattle.query_model.specs.Keys.{below}
use Rattle.query_model.specs.Tables.{row_cube}
use Rattle.prime_cubes.proofs.Tables.{length-values, cubes_more}
use Rattle.prime_cubes.proofs.cells.row_cubes.Goals as goal

pub loop-row-preserved : goal.loop-row-preserved
loop-row-preserved c =
    let size : length c.in_ok-values.values.items ≡ 2 ^ c.args.places =
    ap length c.in_ok-values.ensures ∙ length-values (value c.args.func.now) c.args.places in
    cubes_more (value c.args.func.now) c.args.places c.loop-row.row c.loop-row.found c.push.new.self c.in_ok-fixed.fixed c.index.result.now
    c.in_ok-values.values.items c.in_ok-values.ensures (omega (arith, size)) c.in_ok-fixed.ensures c.index.ensures c.loop-row.invariant c.in_ok-push.ensures.ok

pub returns : goal.returns
returns c =
    let size : length c.in_ok-values.values.items ≡ 2 ^ c.args.places =
    ap length c.in_ok-values.ensures ∙ length-values (value c.args.func.now) c.args.places in
    let end : c.loop-row.row ≡ 2 ^ c.args.places = omega (arith, size) in
    c.loop-row.invariant ∙ ap (λ n. map (row_cube (value c.args.func.now) c.args.places) (below n)) end
