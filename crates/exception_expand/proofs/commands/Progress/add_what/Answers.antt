use Rattle.std.proofs.Common.{◌≡◌, ◌∙◌, ◌-◌, Bool, length, sym, ap, subst}
use Rattle.std.specs.Option.{option_map}
use Rattle.exception_expand.specs.Asking.{asked_by}
use Rattle.exception_expand.specs.Choices.{IsChoiceOf}
use Rattle.exception_expand.specs.Selections.{Selects}
use Rattle.exception_expand.specs.Sides.{most_pairs}
use Rattle.exception_expand.proofs.Ranging.{pairs_in}
use Rattle.exception_expand.proofs.Adding.{adds_choice, adds_unasked}
use Rattle.exception_expand.proofs.commands.Progress.add_what.Goals as goal

pub add_choice-requires-clause-pairs : goal.add_choice-requires-clause-pairs
add_choice-requires-clause-pairs c =
    let l = c.args.task.now.scope.linked.now in
    pairs_in l (Selects l c.args.task.now.scope.script.now c.args.task.now.scope.strict (asked_by c.in-Some.ask).exception) c.in_ok-choice.choice.pairs
    c.in_ok-choice.ensures.ok.pairs

pub returns-in_default-clause-ok : goal.returns-in_default-clause-ok
returns-in_default-clause-ok c =
    let t = c.args.task.now in
    let old = c.args.self.now.selected in
    adds_unasked t.scope.linked.now t.scope.script.now t.judging c.args.line c.args.what.now old c.add_unasked.new.selected
    (sym c.of.ensures ∙ ap (option_map asked_by) c.in_default.is) c.requires.few c.in_ok-add_unasked.ensures.commands
    c.in_ok-add_unasked.ensures.pairs c.in_ok-add_unasked.ensures.claims

pub returns-clause-ok : goal.returns-clause-ok
returns-clause-ok c =
    let t = c.args.task.now in
    let old = c.args.self.now.selected in
    let by = asked_by c.in-Some.ask in
    let room : c.most_pairs-most.result ≡ most_pairs by.sides (100000 - length old.claims) =
    c.most_pairs-most.ensures ∙ ap (λ n. most_pairs by.sides (100000 - n)) c.len.ensures in
    adds_choice t.scope.linked.now t.scope.script.now t.judging c.args.line c.args.what.now by c.most_pairs-most.result c.in_ok-choice.choice old
    c.add_choice.new.selected (sym c.in-Some.ensures)
    (subst (λ (strict : Bool). IsChoiceOf t.scope.linked.now t.scope.script.now strict by.exception c.most_pairs-most.result c.in_ok-choice.choice)
    c.requires.task.strict c.in_ok-choice.ensures.ok) room c.requires.few c.in_ok-add_choice.ensures.commands
    c.in_ok-add_choice.ensures.pairs c.in_ok-add_choice.ensures.claims
