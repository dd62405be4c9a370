use Rattle.std.proofs.Common.{ℕ, List, [], ◌∷◌, drop, refl, ap, arith}
use Rattle.std.specs.Prelude.{codes}
use Rattle.std.specs.Fmt.{decimal}
use Rattle.std.proofs.lemmas.Result.{err_from_is_err_and}
use Rattle.cert_words.proofs.LineLemmas.{at_next, stop_part, stop_end, whole, not_cut}
use Rattle.cert_lines.proofs.KindLemmas.{inv_kind}
use Rattle.cert_lines.proofs.PartLemmas.{count_in, count_onto}
use Rattle.cert_lines.proofs.heads.read_inv.Goals as goal

pub returns-in_err-take_word-clause-err : goal.returns-in_err-take_word-clause-err
returns-in_err-take_word-clause-err c =
    let p = err_from_is_err_and c.from_residual.result c.from_residual.ensures.1 in
    rw (p.1, p.2)
    (stop_part inv_kind c.new-words.ensures c.in_err-take_word.ensures.err
    (λ x v fv e. record { value = codes "inv"; tail = decimal v.depth ∷ (decimal v.count ∷ []); fits = refl; is = e })
    (λ w. decimal 0 ∷ (decimal 0 ∷ []))
    (λ w is. (
      record { depth = 0; count = 0 },
      record { deep = omega arith; none = λ d. refl; small = omega arith },
      ap (λ z. z ∷ (decimal 0 ∷ (decimal 0 ∷ []))) is,
    )))

pub returns-in_err-depth-clause-err : goal.returns-in_err-depth-clause-err
returns-in_err-depth-clause-err c =
    let at1 = at_next c.new-words.ensures c.in_ok-take_word.ensures.ok in
    let p = err_from_is_err_and c.from_residual-in_err-depth.result c.from_residual-in_err-depth.ensures.1 in
    rw (p.1, p.2)
    (stop_part inv_kind at1 c.in_err-depth.ensures.err
    (λ x v fv e. record { value = v.depth; tail = decimal v.count ∷ []; fits = fv.deep; is = ap (λ (z : List (List ℕ)). drop 1 z) e })
    (λ d. decimal 0 ∷ []) (λ d low. (record { depth = d; count = 0 }, record { deep = low; none = λ e. refl; small = omega arith }, refl)))

pub returns-in_err-count-clause-err : goal.returns-in_err-count-clause-err
returns-in_err-count-clause-err c =
    let at1 = at_next c.new-words.ensures c.in_ok-take_word.ensures.ok in
    let at2 = at_next at1 c.in_ok-depth.ensures.ok.1 in
    let depth = c.in_ok-depth.depth in
    let most = c.most_kept.ensures in
    let low = c.in_ok-depth.ensures.ok.0 in
    let p = err_from_is_err_and c.from_residual-in_err-count.result c.from_residual-in_err-count.ensures.1 in
    rw (p.1, p.2)
    (stop_part inv_kind at2 c.in_err-count.ensures.err (count_in depth c.most_kept.result low most.none most.some) (λ n. [])
    (λ n within. (record { depth = depth; count = n }, count_onto depth c.most_kept.result low most.none most.some n within, refl)))

pub returns-in_err-take_end-clause-err : goal.returns-in_err-take_end-clause-err
returns-in_err-take_end-clause-err c =
    let at1 = at_next c.new-words.ensures c.in_ok-take_word.ensures.ok in
    let at2 = at_next at1 c.in_ok-depth.ensures.ok.1 in
    let at3 = at_next at2 c.in_ok-count.ensures.ok.1 in
    let p = err_from_is_err_and c.from_residual-in_err-take_end.result c.from_residual-in_err-take_end.ensures.1 in
    rw (p.1, p.2)
    (stop_end inv_kind at3 c.in_err-take_end.ensures.err (λ x v fv e. ap (λ (z : List (List ℕ)). drop 3 z) e))

pub returns-clause-ok : goal.returns-clause-ok
returns-clause-ok c =
    let at1 = at_next c.new-words.ensures c.in_ok-take_word.ensures.ok in
    let at2 = at_next at1 c.in_ok-depth.ensures.ok.1 in
    let at3 = at_next at2 c.in_ok-count.ensures.ok.1 in
    let most = c.most_kept.ensures in
    whole (record { depth = c.in_ok-depth.depth; count = c.in_ok-count.count }) at3 c.in_ok-take_end.ensures.ok refl
    (count_onto c.in_ok-depth.depth c.most_kept.result c.in_ok-depth.ensures.ok.0 most.none most.some c.in_ok-count.count c.in_ok-count.ensures.ok.0)

pub returns-clause-whole : goal.returns-clause-whole
returns-clause-whole c =
    let at1 = at_next c.new-words.ensures c.in_ok-take_word.ensures.ok in
    let at2 = at_next at1 c.in_ok-depth.ensures.ok.1 in
    let at3 = at_next at2 c.in_ok-count.ensures.ok.1 in
    not_cut at3 c.in_ok-take_end.ensures.ok
