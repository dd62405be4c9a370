use Rattle.std.proofs.Common.{arith, ◌∙◌, sym}
use Rattle.std.proofs.lemmas.Option.{slice_get_within, same_Some}
use Rattle.exception_expand.proofs.Placing.{put_mark_at}
use Rattle.exception_expand.proofs.marks.mark.Goals as goal

pub put-requires : goal.put-requires
put-requires g c =
    omega (
      arith,
      c.requires.len,
      slice_get_within (g.T.Listed.all c.args.design.now) c.in-Some.place c.args.item
          (c.place_in.ensures.here c.in-Some.place c.in-Some.is),
    )

pub returns-in-Some-clause-marked : goal.returns-in-Some-clause-marked
returns-in-Some-clause-marked g c = λ k x there.
    let all = g.T.Listed.all c.args.design.now in
    let here = c.place_in.ensures.here c.in-Some.place c.in-Some.is in
    put_mark_at all c.args.marks.now c.put.new.self c.in-Some.place k c.args.item x c.requires.len here there c.put.ensures
    (λ same. same_Some k c.in-Some.place (sym (c.place_in.ensures.only k same) ∙ c.in-Some.is))
