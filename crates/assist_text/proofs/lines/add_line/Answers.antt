use Rattle.std.proofs.Common.{◌≡◌, ◌++◌, ◌<◌, ◌∷◌, [], List, Bool, true, false, length, refl, sym, subst, ◌∙◌, arith}
use Rattle.assist_text.specs.Lines.{Said, said_by, words_of}
use Rattle.assist_text.specs.Clauses.{AreClauses}
use Rattle.assist_text.specs.Causes.{IsCauseIn}
use Rattle.assist_types.specs.declared.clauses.AssistClause.{AssistClause}
use Rattle.assist_text.proofs.Saying.{comment_says, line_says, nothing_said, no_words_say, clause_said, word_cause, name_cause, many_said}
use Rattle.std.proofs.lemmas.Result.{err_from_is_err_and}
use Rattle.assist_text.proofs.lines.add_line.Goals as goal

-- a list that is not empty has an item
some_items : {A : Type 0} (xs : List A) (empty : Bool) → (xs ≡ [] → empty ≡ true) → empty ≡ false → 0 < length xs
some_items [] empty is other = (let bad : true ≡ false = sym (is refl) ∙ other in absurd (cc))
some_items (x ∷ xs) empty is other = omega arith

pub returns-then-byte_at-eq35-clause-ok : goal.returns-then-byte_at-eq35-clause-ok
returns-then-byte_at-eq35-clause-ok c =
    λ before so. nothing_said before _ c.args.clauses.now (comment_says c.args.line c.args.text.now (sym c.byte_at.ensures ∙ c.if-byte_at-eq35.true)) so

pub returns-in_err-lits-clause-err : goal.returns-in_err-lits-clause-err
returns-in_err-lits-clause-err c =
    let e = c.in_err-lits.field-0.0 in
    let says = line_says c.args.line c.args.text.now (λ is. c.if-byte_at-eq35.false (c.byte_at.ensures ∙ is)) in
    let p = err_from_is_err_and c.from_residual.result c.from_residual.ensures.1 in
    λ before so. rw (p.1, p.2) (subst (λ (ms : List Said). IsCauseIn (before ++ ms) e) (sym says)
    (word_cause before c.args.line (words_of c.args.text.now) e c.in_err-lits.ensures.err))

pub returns-then-is_empty-clause-ok : goal.returns-then-is_empty-clause-ok
returns-then-is_empty-clause-ok c =
    let says = line_says c.args.line c.args.text.now (λ is. c.if-byte_at-eq35.false (c.byte_at.ensures ∙ is)) in
    let none = no_words_say c.args.line (words_of c.args.text.now) c.in_ok-lits.lits c.in_ok-lits.ensures.ok (c.is_empty.ensures.0 c.if-is_empty.true) in
    λ before so. nothing_said before _ c.args.clauses.now (says ∙ none) so

pub returns-in_err-check_names-clause-err : goal.returns-in_err-check_names-clause-err
returns-in_err-check_names-clause-err c =
    let e = c.in_err-check_names.field-0.0 in
    let says = line_says c.args.line c.args.text.now (λ is. c.if-byte_at-eq35.false (c.byte_at.ensures ∙ is)) in
    let some = some_items c.in_ok-lits.lits c.is_empty.result c.is_empty.ensures.1 c.if-is_empty.false in
    let p = err_from_is_err_and c.from_residual-in_err-check_names.result c.from_residual-in_err-check_names.ensures.1 in
    λ before so. rw (p.1, p.2) (subst (λ (ms : List Said). IsCauseIn (before ++ ms) e) (sym says)
    (name_cause before c.args.line (words_of c.args.text.now) c.in_ok-lits.lits e c.in_ok-lits.ensures.ok some c.in_err-check_names.ensures.err))

pub returns-then-len-ge-MOST_CLAUSES-clause-err : goal.returns-then-len-ge-MOST_CLAUSES-clause-err
returns-then-len-ge-MOST_CLAUSES-clause-err c =
    let says = line_says c.args.line c.args.text.now (λ is. c.if-byte_at-eq35.false (c.byte_at.ensures ∙ is)) in
    let some = some_items c.in_ok-lits.lits c.is_empty.result c.is_empty.ensures.1 c.if-is_empty.false in
    λ before so. (
      refl,
      subst (λ (ms : List Said). 8192 < length (before ++ ms)) (sym says)
          (many_said before c.args.clauses.now c.args.line (words_of c.args.text.now) c.in_ok-lits.lits so c.in_ok-lits.ensures.ok some
          (omega (arith, c.len.ensures))),
    )

pub returns-clause-ok : goal.returns-clause-ok
returns-clause-ok c =
    let words = words_of c.args.text.now in
    let says = line_says c.args.line c.args.text.now (λ is. c.if-byte_at-eq35.false (c.byte_at.ensures ∙ is)) in
    let some = some_items c.in_ok-lits.lits c.is_empty.result c.is_empty.ensures.1 c.if-is_empty.false in
    λ before so. subst (λ (ms : List Said). AreClauses (before ++ ms) c.push.new.self) (sym says)
    (subst (λ (cs : List AssistClause). AreClauses (before ++ said_by c.args.line words) cs) (sym c.in_ok-push.ensures.ok)
    (clause_said before c.args.clauses.now c.args.line words c.in_ok-lits.lits so c.in_ok-lits.ensures.ok some c.in_ok-check_names.ensures.ok
    (omega (arith, c.len.ensures))))
