use Rattle.std.proofs.Common.{arith, ◌∙◌, false, length}
use Rattle.std.proofs.lemmas.Option.{get_or_from_slice_get}
use Rattle.inv_candidates.proofs.Marking.{shown_mark, none_shown, out_low, unmarked_more}
use Rattle.inv_candidates.proofs.levels.shows_mark.Goals as goal

pub at-requires-in-loop-k : goal.at-requires-in-loop-k
at-requires-in-loop-k c = out_low (length c.args.marks.now) c.args.reg.now.outs c.loop-k.k c.at.result c.at.ensures c.requires

pub returns-then-at : goal.returns-then-at
returns-then-at c = (
  λ yes. shown_mark c.args.reg.now.outs c.args.marks.now c.loop-k.k c.at.result c.at.ensures
      (get_or_from_slice_get c.args.marks.now c.at.result.net c.at-in-loop-k.result false c.at-in-loop-k.ensures ∙ c.if-at.true),
  λ shown. cc,
)

pub loop-k-preserved : goal.loop-k-preserved
loop-k-preserved c =
    unmarked_more c.args.reg.now.outs c.args.marks.now c.loop-k.k c.at.result c.at.ensures
    (get_or_from_slice_get c.args.marks.now c.at.result.net c.at-in-loop-k.result false c.at-in-loop-k.ensures ∙ c.if-at.false) c.loop-k.invariant

pub returns : goal.returns
returns c = (λ yes. cc, λ shown. absurd (none_shown c.args.reg.now.outs c.args.marks.now c.loop-k.k (omega arith) c.loop-k.invariant shown))
