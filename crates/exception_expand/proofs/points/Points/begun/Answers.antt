use Rattle.std.proofs.Common.{◌∙◌, ◌++◌, Bool, List, take, sym, ap}
use Rattle.std.specs.Prelude.{filter}
use Rattle.net_model.specs.declared.claims.Start.{Start}
use Rattle.sdcv_base.specs.Seqs.{where_true}
use Rattle.exception_expand.specs.Choices.{has_begun}
use Rattle.exception_expand.proofs.Driving.{filter_next}
use Rattle.exception_expand.proofs.points.Points.begun.Goals as goal

pub loop-k-preserved : goal.loop-k-preserved
loop-k-preserved c =
    let s = c.at-start.result in
    c.in_ok-add_where.ensures
    ∙ ap (λ (xs : List Start). xs ++ where_true c.has_begun.result s) c.loop-k.invariant
    ∙ ap (λ (b : Bool). filter (has_begun c.args.self.now) (take c.loop-k.k c.args.starts.now) ++ where_true b s) c.has_begun.ensures
    ∙ sym (filter_next (has_begun c.args.self.now) c.args.starts.now c.loop-k.k s c.at-start.ensures)
