use Rattle.std.proofs.Common.{◌∙◌, sym}
use Rattle.net_model.specs.declared.claims.Start.TheVariants.{Reg as RegStart, Input as InputStart}
use Rattle.exception_expand.proofs.Placing.{first_here, first_only, second_here, second_only}
use Rattle.exception_expand.proofs.points.StartListed.place_in.Goals as goal

pub returns-in-Reg-clause-here : goal.returns-in-Reg-clause-here
returns-in-Reg-clause-here c =
    let d = c.args.design.now in
    λ k is. rw c.in-Reg.is (first_here RegStart InputStart d.regs d.inputs c.in-Reg.reg k (sym c.reg_place.ensures ∙ is))

pub returns-in-Reg-clause-only : goal.returns-in-Reg-clause-only
returns-in-Reg-clause-only c =
    let d = c.args.design.now in
    λ k here. c.reg_place.ensures ∙ first_only RegStart InputStart d.regs d.inputs c.in-Reg.reg k (λ i j e. cc) (λ i j e. absurd cc) (rw c.in-Reg.is at here)

pub returns-in-Input-clause-here : goal.returns-in-Input-clause-here
returns-in-Input-clause-here c =
    let d = c.args.design.now in
    λ k is. rw c.in-Input.is (second_here RegStart InputStart d.regs d.inputs c.in-Input.input k (sym c.port_place.ensures ∙ is))

pub returns-in-Input-clause-only : goal.returns-in-Input-clause-only
returns-in-Input-clause-only c =
    let d = c.args.design.now in
    λ k here. c.port_place.ensures ∙ second_only RegStart InputStart d.regs d.inputs c.in-Input.input k (λ i j e. cc) (λ i j e. absurd cc)
    (rw c.in-Input.is at here)
