use Rattle.std.proofs.Common.{arith, sym, ◌∙◌}
use Rattle.std.proofs.lemmas.Bool.{or_left, or_right}
use Rattle.std.proofs.lemmas.Option.{slice_get_within}
use Rattle.net_model.specs.Pins.{is_in}
use Rattle.net_model.specs.declared.claims.PinRef.TheVariants.{Net}
use Rattle.case_inputs.proofs.Tying.{none_is, first_is}
use Rattle.case_inputs.proofs.ties.first_of.Goals.{then-has-via-then-has, then-has-via-else-has+then-has-2}
use Rattle.case_inputs.proofs.ties.first_of.Goals as goal

pub returns-then-has : goal.returns-then-has
returns-then-has c =
    sym (first_is c.args.sets.now c.args.pin c.args.net c.loop-j.j c.item-set.result.now c.item-set.ensures
    (elim c.then-has.branch [
      | then-has-via-then-has w ↦
          or_left (is_in c.args.pin c.item-set.result.now) (is_in (Net c.args.net) c.item-set.result.now) (sym c.has.ensures.answer ∙ w.if-has.true)
      | then-has-via-else-has+then-has-2 w ↦
          or_right (is_in c.args.pin c.item-set.result.now) (is_in (Net c.args.net) c.item-set.result.now)
          (sym w.has-else-has.ensures.answer ∙ w.if-has-2.true)
    ]) c.loop-j.invariant)

pub returns : goal.returns
returns c =
    sym (none_is c.args.sets.now c.args.pin c.args.net (λ i q at.
    let within = slice_get_within c.args.sets.now i q at in
    let end = c.len-j-end.ensures in
    let past = c.loop-j-test.false in
    c.loop-j.invariant i q (omega (arith, within, end, past)) at))
