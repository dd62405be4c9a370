use Rattle.std.proofs.Common.{ℕ, List, [], ◌∷◌, drop, refl, ap, arith}
use Rattle.std.specs.Prelude.{codes}
use Rattle.std.specs.Fmt.{decimal}
use Rattle.std.proofs.lemmas.Result.{err_from_is_err_and}
use Rattle.cert_words.proofs.LineLemmas.{at_next, stop_part, stop_end, whole, not_cut}
use Rattle.cert_lines.proofs.KindLemmas.{first_kind}
use Rattle.cert_lines.proofs.heads.read_first.Goals as goal

pub returns-in_err-take_word-clause-err : goal.returns-in_err-take_word-clause-err
returns-in_err-take_word-clause-err c =
    let p = err_from_is_err_and c.from_residual.result c.from_residual.ensures.1 in
    rw (p.1, p.2)
    (stop_part first_kind c.new-words.ensures c.in_err-take_word.ensures.err
    (λ x v fv e. record { value = codes "sdcv-cert"; tail = decimal v ∷ []; fits = refl; is = e }) (λ w. decimal 1 ∷ [])
    (λ w is. (1, (omega arith, omega arith), ap (λ z. z ∷ (decimal 1 ∷ [])) is)))

pub returns-in_err-version-clause-err : goal.returns-in_err-version-clause-err
returns-in_err-version-clause-err c =
    let at1 = at_next c.new-words.ensures c.in_ok-take_word.ensures.ok in
    let p = err_from_is_err_and c.from_residual-in_err-version.result c.from_residual-in_err-version.ensures.1 in
    rw (p.1, p.2)
    (stop_part first_kind at1 c.in_err-version.ensures.err
    (λ x v fv e. record { value = v; tail = []; fits = fv; is = ap (λ (z : List (List ℕ)). drop 1 z) e }) (λ n. [])
    (λ n fits. (n, fits, refl)))

pub returns-in_err-take_end-clause-err : goal.returns-in_err-take_end-clause-err
returns-in_err-take_end-clause-err c =
    let at1 = at_next c.new-words.ensures c.in_ok-take_word.ensures.ok in
    let at2 = at_next at1 c.in_ok-version.ensures.ok.1 in
    let p = err_from_is_err_and c.from_residual-in_err-take_end.result c.from_residual-in_err-take_end.ensures.1 in
    rw (p.1, p.2)
    (stop_end first_kind at2 c.in_err-take_end.ensures.err (λ x v fv e. ap (λ (z : List (List ℕ)). drop 2 z) e))

pub returns-clause-ok : goal.returns-clause-ok
returns-clause-ok c =
    let at1 = at_next c.new-words.ensures c.in_ok-take_word.ensures.ok in
    let at2 = at_next at1 c.in_ok-version.ensures.ok.1 in
    whole c.in_ok-version.version at2 c.in_ok-take_end.ensures.ok refl c.in_ok-version.ensures.ok.0

pub returns-clause-whole : goal.returns-clause-whole
returns-clause-whole c =
    let at1 = at_next c.new-words.ensures c.in_ok-take_word.ensures.ok in
    let at2 = at_next at1 c.in_ok-version.ensures.ok.1 in
    not_cut at2 c.in_ok-take_end.ensures.ok
