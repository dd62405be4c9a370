use Rattle.std.proofs.Common.{arith, ◌⊎◌, inl, inr, ℕ, List, sym, ap, ◌∙◌}
use Rattle.std.specs.Fmt.{decimal}
use Rattle.std.proofs.lemmas.Result.{err_from_is_err_and}
use Rattle.cert_words.specs.Numbers.{IsHint, MayBeZero, BeginsHint}
use Rattle.cert_words.specs.Growth.{Chain}
use Rattle.cert_words.specs.Parts.{row}
use Rattle.cert_words.proofs.RowLemmas.{row_cut, row_bad, row_short, row_next, row_all, part_memory, MayGoOn, Chain-push, last_key}
use Rattle.cert_words.proofs.Literals.{hints_tell, zero_is}
use Rattle.cert_words.proofs.rows.take_hints.Goals as goal

abbrev own : ℕ → ℕ
own h = h

to_more : (done : List ℕ) (p : List ℕ) → MayBeZero p ⊎ BeginsHint p → MayGoOn decimal IsHint own done p
to_more done p (inl z) = inl z
to_more done p (inr b) = inr (b.more, b.hint, record { some = b.some; small = b.small }, b.is)

from_more : (done : List ℕ) (p : List ℕ) → MayGoOn decimal IsHint own done p → MayBeZero p ⊎ BeginsHint p
from_more done p (inl z) = inl z
from_more done p (inr g) = inr (record { more = g.0; hint = g.1; some = g.2.some; small = g.2.small; is = g.3 })

pub returns-in-Missing-clause-err : goal.returns-in-Missing-clause-err
returns-in-Missing-clause-err c =
    let i = c.loop-hints.invariant in
    row_short decimal IsHint own hints_tell c.args.words.now c.loop-hints.words c.loop-hints.hints i.at c.in-Missing.ensures i.fit

pub returns-in-Cut-clause-err : goal.returns-in-Cut-clause-err
returns-in-Cut-clause-err c =
    let i = c.loop-hints.invariant in
    let done = c.loop-hints.hints in
    let p = c.in-Cut.word.now in
    let may = c.may_be_hint.ensures in
    rw c.cut_off.ensures
    (row_cut decimal IsHint own hints_tell c.args.words.now c.loop-hints.words done p c.may_be_hint.result i.at c.in-Cut.ensures i.fit
    (λ t. to_more done p (may.0 t)) (λ m. may.1 (from_more done p m)))

pub returns-in_default-clause-err : goal.returns-in_default-clause-err
returns-in_default-clause-err c =
    let i = c.loop-hints.invariant in
    let none = rw c.in_default.is at c.number_of.ensures in
    row_bad decimal IsHint own hints_tell c.args.words.now c.loop-hints.words c.next.new.self c.loop-hints.hints c.in-Whole.word.now i.at
    c.in-Whole.ensures i.fit (λ e. none 0 (omega arith) (e ∙ sym zero_is)) (λ x f e. none x (omega (arith, f.small)) e)

pub returns-then-hint-eq0-clause-ok : goal.returns-then-hint-eq0-clause-ok
returns-then-hint-eq0-clause-ok c =
    let i = c.loop-hints.invariant in
    let is = rw c.in-Some.is at c.number_of.ensures in (
      i.fit,
      row_all decimal c.loop-hints.hints c.in-Whole.word.now c.args.words.now c.loop-hints.words c.next.new.self i.at c.in-Whole.ensures
          (is.0 ∙ ap decimal c.if-hint-eq0.true ∙ zero_is),
    )

pub returns-in_err-push-clause-err : goal.returns-in_err-push-clause-err
returns-in_err-push-clause-err c =
    let p = err_from_is_err_and c.from_residual.result c.from_residual.ensures.1 in
    rw (p.1, p.2) (part_memory (Chain IsHint own 0) (row decimal) c.args.words.now)

pub loop-hints-preserved : goal.loop-hints-preserved
loop-hints-preserved c =
    let i = c.loop-hints.invariant in
    let hint = c.in-Some.hint in
    let (word, within) = rw c.in-Some.is at c.number_of.ensures in
    let other = c.if-hint-eq0.false in
    let fit : IsHint (last_key own 0 c.loop-hints.hints) hint = record { some = omega arith; small = omega arith } in
    let pushed = c.in_ok-push.ensures.ok in
    record {
      at =
          row_next decimal c.loop-hints.hints _ hint c.in-Whole.word.now c.args.words.now c.loop-hints.words c.next.new.self i.at c.in-Whole.ensures word
          pushed;
      fit = rw pushed (Chain-push IsHint own 0 c.loop-hints.hints hint i.fit fit);
    }
