use Rattle.std.proofs.Common.{ℕ, List, [], ◌∷◌, drop, refl, ap, arith}
use Rattle.std.specs.Fmt.{decimal}
use Rattle.std.proofs.lemmas.Result.{err_from_is_err_and}
use Rattle.cert_words.proofs.LineLemmas.{at_next, stop_part, stop_end, whole, not_cut}
use Rattle.cert_lines.specs.Kinds.{phase_word}
use Rattle.cert_lines.proofs.KindLemmas.{head_kind}
use Rattle.cert_lines.proofs.heads.read_head.Goals as goal

pub returns-in_err-take_phase-clause-err : goal.returns-in_err-take_phase-clause-err
returns-in_err-take_phase-clause-err c =
    let p = err_from_is_err_and c.from_residual.result c.from_residual.ensures.1 in
    rw (p.1, p.2)
    (stop_part (head_kind c.args.phase) c.new-words.ensures c.in_err-take_phase.ensures.err
    (λ x v fv e. record { value = phase_word c.args.phase; tail = decimal v ∷ []; fits = refl; is = e }) (λ w. decimal 0 ∷ [])
    (λ w is. (0, omega arith, ap (λ z. z ∷ (decimal 0 ∷ [])) is)))

pub returns-in_err-count-clause-err : goal.returns-in_err-count-clause-err
returns-in_err-count-clause-err c =
    let at1 = at_next c.new-words.ensures c.in_ok-take_phase.ensures.ok in
    let p = err_from_is_err_and c.from_residual-in_err-count.result c.from_residual-in_err-count.ensures.1 in
    rw (p.1, p.2)
    (stop_part (head_kind c.args.phase) at1 c.in_err-count.ensures.err
    (λ x v fv e. record { value = v; tail = []; fits = omega arith; is = ap (λ (z : List (List ℕ)). drop 1 z) e }) (λ n. [])
    (λ n within. (n, omega arith, refl)))

pub returns-in_err-take_end-clause-err : goal.returns-in_err-take_end-clause-err
returns-in_err-take_end-clause-err c =
    let at1 = at_next c.new-words.ensures c.in_ok-take_phase.ensures.ok in
    let at2 = at_next at1 c.in_ok-count.ensures.ok.1 in
    let p = err_from_is_err_and c.from_residual-in_err-take_end.result c.from_residual-in_err-take_end.ensures.1 in
    rw (p.1, p.2)
    (stop_end (head_kind c.args.phase) at2 c.in_err-take_end.ensures.err (λ x v fv e. ap (λ (z : List (List ℕ)). drop 2 z) e))

pub returns-clause-ok : goal.returns-clause-ok
returns-clause-ok c =
    let at1 = at_next c.new-words.ensures c.in_ok-take_phase.ensures.ok in
    let at2 = at_next at1 c.in_ok-count.ensures.ok.1 in
    whole c.in_ok-count.count at2 c.in_ok-take_end.ensures.ok refl (omega (arith, c.in_ok-count.ensures.ok.0))

pub returns-clause-whole : goal.returns-clause-whole
returns-clause-whole c =
    let at1 = at_next c.new-words.ensures c.in_ok-take_phase.ensures.ok in
    let at2 = at_next at1 c.in_ok-count.ensures.ok.1 in
    not_cut at2 c.in_ok-take_end.ensures.ok
