use Rattle.std.proofs.Common.{◌∙◌, sym}
use Rattle.net_model.specs.declared.claims.End.TheVariants.{Reg as RegEnd, Output as OutputEnd}
use Rattle.exception_expand.proofs.Placing.{first_here, first_only, second_here, second_only}
use Rattle.exception_expand.proofs.points.EndListed.place_in.Goals as goal

pub returns-in-Reg-clause-here : goal.returns-in-Reg-clause-here
returns-in-Reg-clause-here c =
    let d = c.args.design.now in
    λ k is. rw c.in-Reg.is (first_here RegEnd OutputEnd d.regs d.outputs c.in-Reg.reg k (sym c.reg_place.ensures ∙ is))

pub returns-in-Reg-clause-only : goal.returns-in-Reg-clause-only
returns-in-Reg-clause-only c =
    let d = c.args.design.now in
    λ k here. c.reg_place.ensures ∙ first_only RegEnd OutputEnd d.regs d.outputs c.in-Reg.reg k (λ i j e. cc) (λ i j e. absurd cc) (rw c.in-Reg.is at here)

pub returns-in-Output-clause-here : goal.returns-in-Output-clause-here
returns-in-Output-clause-here c =
    let d = c.args.design.now in
    λ k is. rw c.in-Output.is (second_here RegEnd OutputEnd d.regs d.outputs c.in-Output.output k (sym c.port_place.ensures ∙ is))

pub returns-in-Output-clause-only : goal.returns-in-Output-clause-only
returns-in-Output-clause-only c =
    let d = c.args.design.now in
    λ k here. c.port_place.ensures ∙ second_only RegEnd OutputEnd d.regs d.outputs c.in-Output.output k (λ i j e. cc) (λ i j e. absurd cc)
    (rw c.in-Output.is at here)
