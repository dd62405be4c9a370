use Rattle.std.proofs.Common.{◌∙◌, ap, sym}
use Rattle.net_model.specs.Pins.{is_in}
use Rattle.net_model.specs.declared.claims.PinRef.TheVariants.{Net}
use Rattle.case_objects.proofs.Meeting.{not_in_places, agree_where_none}
use Rattle.case_objects.proofs.loads.check_load.Goals as goal

pub returns-then-not-has-2-clause-ok : goal.returns-then-not-has-2-clause-ok
returns-then-not-has-2-clause-ok c =
    agree_where_none c.args.values.now c.args.pin c.args.net (not_in_places c.args.values.now c.args.pin c.args.net
    (ap (is_in c.args.pin) (sym c.requires) ∙ (sym c.has.ensures.answer ∙ c.if-not-has.true))
    (ap (is_in (Net c.args.net)) (sym c.requires) ∙ (sym c.has-then-not-has.ensures.answer ∙ c.if-not-has-2.true)))
