use Rattle.std.proofs.Common.{◌≡◌, ◌∙◌, true, false, IfOk, IfSome, Option, subst, sym}
use Rattle.std.specs.Option.{option_copied}
use Rattle.texts.specs.Names.{is_among}
use Rattle.net_model.specs.Form.{Form, IsOver}
use Rattle.cell_lib.specs.Scopes.{reach}
use Rattle.cell_lib.proofs.ScopeLemmas.{place_in_reach, meaning_of_state, state_in_reach, ok_holds}
use Rattle.cell_lib.proofs.scopes.name_func.Goals as goal

pub returns-then-contains-clause-over : goal.returns-then-contains-clause-over
returns-then-contains-clause-over c =
    let there : is_among c.args.name.now c.args.inputs.now ≡ true = sym c.contains.ensures ∙ c.if-contains.true in
    rw (c.pin.ensures, c.place-place.ensures) (place_in_reach c.args.inputs.now (option_copied c.args.states) c.args.name.now there)

pub returns-in-Some-clause-value : goal.returns-in-Some-clause-value
returns-in-Some-clause-value c =
    let absent : is_among c.args.name.now c.args.inputs.now ≡ false = sym c.contains.ensures ∙ c.if-contains.false in
    let same = meaning_of_state c.args.inputs.now (option_copied c.args.states) c.in-Some.names.now c.args.name.now c.place-place.result
    (rw c.in-Some.is) absent c.place-place.ensures in
    subst (λ (m : Option Form). IfOk c.state_func.result (λ found. found ≡ m)) same c.state_func.ensures

pub returns-in-Some-clause-over : goal.returns-in-Some-clause-over
returns-in-Some-clause-over c =
    let absent : is_among c.args.name.now c.args.inputs.now ≡ false = sym c.contains.ensures ∙ c.if-contains.false in
    ok_holds (λ (found : Option Form). IfSome found (IsOver (reach c.args.inputs.now (option_copied c.args.states)))) c.state_func.result _
    (returns-in-Some-clause-value c) (state_in_reach c.args.inputs.now (option_copied c.args.states) c.in-Some.names.now c.args.name.now
    (rw c.in-Some.is) absent)
