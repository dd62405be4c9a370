use Rattle.std.proofs.Common.{◌≡◌, false, arith, refl, rules, subst}
use Rattle.std.specs.Prelude.{slice_index_or}
use Rattle.std.proofs.lemmas.List.{take_all}
use Rattle.net_model.specs.Args.{arg_at}
use Rattle.query_model.specs.Tables.{row_bits}
use Rattle.cell_cubes.proofs.Digits.{row_more, take_at, length-row}
use Rattle.cell_cubes.proofs.tables.row.Goals as goal

pub loop-i-preserved : goal.loop-i-preserved
loop-i-preserved c =
    let (before, rest) = c.loop-i.invariant in
    let step = row_more c.args.places c.args.number c.loop-i.i c.loop-i.rest (search rules) rest in (
      λ j lt. rw (
        c.set.ensures j lt,
        take_at (row_bits c.args.places c.args.number) c.loop-i.i j false
            (omega (arith, length-row c.args.places c.args.number)),
        step.0,
        before j lt,
      ) refl,
      step.1,
    )

pub returns : goal.returns
returns c =
    let len = length-row c.args.places c.args.number in
    let all = take_all c.loop-i.i (row_bits c.args.places c.args.number) (omega (arith, len)) in
    λ j lt. subst (λ xs. arg_at c.loop-i.bits j ≡ slice_index_or xs j false) all (c.loop-i.invariant.0 j lt)
