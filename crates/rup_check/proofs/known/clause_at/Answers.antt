use Rattle.std.proofs.Common.{ℕ, ◌≡◌, ◌-◌, ◌<◌, Some, length, get_or, ap, sym, subst, ◌∙◌, arith}
use Rattle.proof_log.proofs.Named.{named_step, named_none}
use Rattle.rup_check.proofs.known.clause_at.Goals as goal

pub returns-then-later-earlier : goal.returns-then-later-earlier
returns-then-later-earlier c =
    let earlier = c.args.earlier.now in
    let step = c.index-earlier-later.result in
    let L : ℕ → Type 0 = λ n. c.args.hint - 1 - n < length earlier in
    let S : ℕ → Type 0 = λ n. step ≡ get_or earlier (c.args.hint - 1 - n) step in
    named_step c.args.formula.now earlier c.args.hint step c.if-hint-eq0.false (omega (arith, c.if-place-len.false, c.len.ensures.value))
    (subst L c.len-2.ensures.value c.if-later-earlier.true) (subst S c.len-2.ensures.value c.index-earlier-later.is)
    ∙ ap (λ s. Some s.clause) c.index-earlier-later.is
    ∙ ap Some (sym c.as_slice.ensures)

pub returns : goal.returns
returns c =
    named_none c.args.formula.now c.args.earlier.now c.args.hint c.if-hint-eq0.false
    (omega (arith, c.if-later-earlier.false, c.if-place-len.false, c.len.ensures.value, c.len-2.ensures.value))
