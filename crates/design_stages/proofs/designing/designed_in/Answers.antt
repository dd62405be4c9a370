use Rattle.std.proofs.Common.{Ok, Err, ap, ◌∙◌}
use Rattle.std.proofs.lemmas.Result.{err_from_is_err_and}
use Rattle.design_stages.specs.Below.{cut_below}
use Rattle.design_stages.specs.Designs.{DesignsIn, with_netlist}
use Rattle.design_stages.proofs.Judging.{can_be_judged}
use Rattle.design_stages.proofs.Staging.{then_finds, then_refuses, then_stops, stops}
use Rattle.design_stages.proofs.designing.designed_in.Goals as goal

pub returns-in_err-linked-clause-found : goal.returns-in_err-linked-clause-found
unfolding DesignsIn
returns-in_err-linked-clause-found c =
    let p = err_from_is_err_and c.from_residual.result c.from_residual.ensures.1 in
    stops (DesignsIn c.args.texts.now (cut_below c.args.below.now) c.args.reset c.args.judging) _ _ (p.1 ∙ ap Err p.2) (then_stops _ _ _ c.in_err-linked.ensures.found)

pub returns-in_err-selected-clause-found : goal.returns-in_err-selected-clause-found
unfolding DesignsIn
returns-in_err-selected-clause-found c =
    let p = err_from_is_err_and c.from_residual-in_err-selected.result c.from_residual-in_err-selected.ensures.1 in
    stops (DesignsIn c.args.texts.now (cut_below c.args.below.now) c.args.reset c.args.judging) _ _ (p.1 ∙ ap Err p.2)
    (then_refuses _ _ _ _ c.in_ok-linked.ensures.found
    (then_stops _ _ _ c.in_err-selected.ensures))

pub returns-clause-found : goal.returns-clause-found
unfolding DesignsIn
returns-clause-found c =
    let told = c.in_ok-notices-2.ensures ∙ ap (with_netlist c.args.texts.now.forms.netlist c.in_ok-linked.linked.names) c.in_ok-notices.ensures in
    then_finds _ _ _ _ c.in_ok-linked.ensures.found
    (then_finds _ _ _ _ c.in_ok-selected.ensures
    (λ i. Ok (record {
      linked = c.in_ok-linked.linked;
      selected = c.in_ok-selected.selected;
      notices = told i;
      free = c.free_count-free.ensures i;
    })))

pub returns-clause-judged : goal.returns-clause-judged
returns-clause-judged c =
    can_be_judged c.in_ok-linked.linked c.args.texts.now.script c.args.judging c.in_ok-selected.selected c.in_ok-notices-2.notices c.free_count-free.result
    c.in_ok-linked.ensures.usable c.in_ok-selected.ensures
