use Rattle.std.proofs.Common.{◌≡◌, ◌⊎◌, inl, inr, ℕ, List, sym, ap, ◌∙◌, subst}
use Rattle.std.proofs.lemmas.Result.{err_from_is_err_and}
use Rattle.proof_log.specs.Literals.{lit_var}
use Rattle.cert_words.specs.Numbers.{lit_word, IsLitAbove, MayBeZero, BeginsLit}
use Rattle.cert_words.specs.Growth.{Chain}
use Rattle.cert_words.specs.Parts.{row}
use Rattle.cert_words.proofs.RowLemmas.{row_cut, row_bad, row_short, row_next, row_all, part_memory, never, MayGoOn, Chain-push, last_key, last_key-push}
use Rattle.cert_words.proofs.Literals.{lits_tell, bytes_same, same_bytes}
use Rattle.cert_words.proofs.rows.take_lits.Goals as goal

to_more : (done : List ℕ) (above : ℕ) (p : List ℕ) → above ≡ last_key lit_var 0 done → MayBeZero p ⊎ BeginsLit above p
    → MayGoOn lit_word IsLitAbove lit_var done p
to_more done above p is (inl z) = inl z
to_more done above p is (inr b) = inr (b.more, b.lit, subst (λ (a : ℕ). IsLitAbove a b.lit) is b.fits, b.is)

from_more : (done : List ℕ) (above : ℕ) (p : List ℕ) → above ≡ last_key lit_var 0 done → MayGoOn lit_word IsLitAbove lit_var done p
    → MayBeZero p ⊎ BeginsLit above p
from_more done above p is (inl z) = inl z
from_more done above p is (inr g) = inr (record { more = g.0; lit = g.1; fits = subst (λ (a : ℕ). IsLitAbove a g.1) (sym is) g.2; is = g.3 })

pub returns-in-Missing-clause-err : goal.returns-in-Missing-clause-err
returns-in-Missing-clause-err c =
    let i = c.loop-lits.invariant in
    row_short lit_word IsLitAbove lit_var lits_tell c.args.words.now c.loop-lits.words c.loop-lits.lits i.at c.in-Missing.ensures i.fit

pub returns-in-Cut-clause-err : goal.returns-in-Cut-clause-err
returns-in-Cut-clause-err c =
    let i = c.loop-lits.invariant in
    let done = c.loop-lits.lits in
    let p = c.in-Cut.word.now in
    let may = c.may_end_or_go_on.ensures in
    rw c.cut_off.ensures
    (row_cut lit_word IsLitAbove lit_var lits_tell c.args.words.now c.loop-lits.words done p c.may_end_or_go_on.result i.at c.in-Cut.ensures i.fit
    (λ t. to_more done c.loop-lits.above p i.above (may.0 t)) (λ m. may.1 (from_more done c.loop-lits.above p i.above m)))

pub returns-then-eq-clause-ok : goal.returns-then-eq-clause-ok
returns-then-eq-clause-ok c =
    let i = c.loop-lits.invariant in (
      i.fit,
      row_all lit_word c.loop-lits.lits c.in-Whole.word.now c.args.words.now c.loop-lits.words c.next.new.self i.at c.in-Whole.ensures
          (same_bytes c.in-Whole.word.now c.as_slice.result.now (sym c.eq.ensures ∙ c.if-eq.true) ∙ c.as_slice.ensures),
    )

pub returns-in_default-clause-err : goal.returns-in_default-clause-err
returns-in_default-clause-err c =
    let i = c.loop-lits.invariant in
    let none = rw c.in_default.is at c.lit_of.ensures in
    row_bad lit_word IsLitAbove lit_var lits_tell c.args.words.now c.loop-lits.words c.next.new.self c.loop-lits.lits c.in-Whole.word.now i.at
    c.in-Whole.ensures i.fit
    (λ e. let t = bytes_same c.in-Whole.word.now c.as_slice.result.now (e ∙ sym c.as_slice.ensures) in never (sym c.if-eq.false ∙ c.eq.ensures ∙ t))
    (λ x f. none x (subst (λ (a : ℕ). IsLitAbove a x) (sym i.above) f))

pub returns-in_err-push-clause-err : goal.returns-in_err-push-clause-err
returns-in_err-push-clause-err c =
    let p = err_from_is_err_and c.from_residual.result c.from_residual.ensures.1 in
    rw (p.1, p.2) (part_memory (Chain IsLitAbove lit_var 0) (row lit_word) c.args.words.now)

pub loop-lits-preserved : goal.loop-lits-preserved
loop-lits-preserved c =
    let i = c.loop-lits.invariant in
    let done = c.loop-lits.lits in
    let lit = c.in-Some.lit in
    let (word, fits) = rw c.in-Some.is at c.lit_of.ensures in
    let fit : IsLitAbove (last_key lit_var 0 done) lit = subst (λ (a : ℕ). IsLitAbove a lit) i.above fits in
    let pushed = c.in_ok-push.ensures.ok in
    record {
      at = row_next lit_word done _ lit c.in-Whole.word.now c.args.words.now c.loop-lits.words c.next.new.self i.at c.in-Whole.ensures word pushed;
      fit = rw pushed (Chain-push IsLitAbove lit_var 0 done lit i.fit fit);
      above = c.var-above.ensures.value ∙ sym (last_key-push lit_var 0 done lit) ∙ ap (λ (y : List ℕ). last_key lit_var 0 y) (sym pushed);
    }
