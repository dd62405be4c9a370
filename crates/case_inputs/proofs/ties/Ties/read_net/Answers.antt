use Rattle.std.proofs.Common.{◌∙◌, ap, sym, arith}
use Rattle.net_model.specs.Pins.{is_in}
use Rattle.net_model.specs.declared.claims.PinRef.TheVariants.{Net}
use Rattle.case_inputs.specs.Ties.{net_under}
use Rattle.case_inputs.proofs.Tying.{not_named, first_within}
use Rattle.case_inputs.proofs.ties.Ties.read_net.Goals as goal

pub returns-then-not-has-2 : goal.returns-then-not-has-2
returns-then-not-has-2 c =
    sym (ap (net_under c.args.self.now.nets c.args.net)
    (not_named c.args.self.now.sets c.args.pin c.args.net
    (ap (is_in c.args.pin) (sym c.requires.named) ∙ (sym c.has.ensures.answer ∙ c.if-not-has.true))
    (ap (is_in (Net c.args.net)) (sym c.requires.named) ∙ (sym c.has-then-not-has.ensures.answer ∙ c.if-not-has-2.true))))

pub overflow_add-result : goal.overflow_add-result
overflow_add-result c =
    let within = first_within c.args.self.now.sets c.args.pin c.args.net c.in-Some.j (sym c.in-Some.ensures) in
    omega (arith, within, c.requires.few)
