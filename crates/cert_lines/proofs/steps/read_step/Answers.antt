use Rattle.std.proofs.Common.{[], ◌∷◌, refl, ap}
use Rattle.std.specs.Prelude.{codes}
use Rattle.std.proofs.lemmas.Result.{err_from_is_err_and}
use Rattle.cert_words.specs.Numbers.{zero_word}
use Rattle.cert_words.proofs.LineLemmas.{at_next, stop_part, stop_end, whole, not_cut}
use Rattle.cert_lines.proofs.KindLemmas.{step_kind}
use Rattle.cert_lines.proofs.PartLemmas.{lits_in, lits_onto, hints_in, hints_onto, step_end, step_is}
use Rattle.cert_lines.proofs.steps.read_step.Goals as goal

pub returns-in_err-take_word-clause-err : goal.returns-in_err-take_word-clause-err
returns-in_err-take_word-clause-err c =
    let p = err_from_is_err_and c.from_residual.result c.from_residual.ensures.1 in
    rw (p.1, p.2)
    (stop_part step_kind c.new-words.ensures c.in_err-take_word.ensures.err
    (λ x v fv e. record { value = codes "s"; tail = _; fits = refl; is = e }) (λ w. zero_word ∷ (zero_word ∷ []))
    (λ w is. (record { clause = []; hints = [] }, record { lits = tt; hints = tt }, ap (λ z. z ∷ (zero_word ∷ (zero_word ∷ []))) is)))

pub returns-in_err-lits-clause-err : goal.returns-in_err-lits-clause-err
returns-in_err-lits-clause-err c =
    let at1 = at_next c.new-words.ensures c.in_ok-take_word.ensures.ok in
    let p = err_from_is_err_and c.from_residual-in_err-lits.result c.from_residual-in_err-lits.ensures.1 in
    rw (p.1, p.2)
    (stop_part step_kind at1 c.in_err-lits.ensures.err lits_in (λ lits. zero_word ∷ []) lits_onto)

pub returns-in_err-hints-clause-err : goal.returns-in_err-hints-clause-err
returns-in_err-hints-clause-err c =
    let at1 = at_next c.new-words.ensures c.in_ok-take_word.ensures.ok in
    let at2 = at_next at1 c.in_ok-lits.ensures.ok.1 in
    let fit = c.in_ok-lits.ensures.ok.0 in
    let p = err_from_is_err_and c.from_residual-in_err-hints.result c.from_residual-in_err-hints.ensures.1 in
    rw (p.1, p.2)
    (stop_part step_kind at2 c.in_err-hints.ensures.err (hints_in c.in_ok-lits.lits fit) (λ hints. []) (hints_onto c.in_ok-lits.lits fit))

pub returns-in_err-take_end-clause-err : goal.returns-in_err-take_end-clause-err
returns-in_err-take_end-clause-err c =
    let at1 = at_next c.new-words.ensures c.in_ok-take_word.ensures.ok in
    let at2 = at_next at1 c.in_ok-lits.ensures.ok.1 in
    let at3 = at_next at2 c.in_ok-hints.ensures.ok.1 in
    let p = err_from_is_err_and c.from_residual-in_err-take_end.result c.from_residual-in_err-take_end.ensures.1 in
    rw (p.1, p.2)
    (stop_end step_kind at3 c.in_err-take_end.ensures.err
    (step_end c.in_ok-lits.lits c.in_ok-hints.hints c.in_ok-lits.ensures.ok.0 c.in_ok-hints.ensures.ok.0))

pub returns-clause-ok : goal.returns-clause-ok
returns-clause-ok c =
    let at1 = at_next c.new-words.ensures c.in_ok-take_word.ensures.ok in
    let at2 = at_next at1 c.in_ok-lits.ensures.ok.1 in
    let at3 = at_next at2 c.in_ok-hints.ensures.ok.1 in
    whole (record { clause = c.in_ok-lits.lits; hints = c.in_ok-hints.hints }) at3 c.in_ok-take_end.ensures.ok
    (step_is c.in_ok-lits.lits c.in_ok-hints.hints) (record { lits = c.in_ok-lits.ensures.ok.0; hints = c.in_ok-hints.ensures.ok.0 })

pub returns-clause-whole : goal.returns-clause-whole
returns-clause-whole c =
    let at1 = at_next c.new-words.ensures c.in_ok-take_word.ensures.ok in
    let at2 = at_next at1 c.in_ok-lits.ensures.ok.1 in
    let at3 = at_next at2 c.in_ok-hints.ensures.ok.1 in
    not_cut at3 c.in_ok-take_end.ensures.ok
