use Rattle.std.proofs.Common.{◌++◌, ◌∷◌, [], List, ℕ, filter, refl, ap, sym, subst, ◌∙◌, arith}
use Rattle.sdcv_base.specs.declared.settings.Setting.{Setting}
use Rattle.assist_text.specs.Lines.{is_word}
use Rattle.assist_text.specs.Clauses.{AreSaid}
use Rattle.assist_text.specs.Causes.{IsWordCause}
use Rattle.assist_types.specs.declared.faults.AssistFault.TheVariants as fault
use Rattle.assist_text.proofs.WordLemmas.{some_length, one_part, said_more}
use Rattle.assist_text.proofs.words.add_part.Goals as goal

pub returns-in_default-clause-err : goal.returns-in_default-clause-err
returns-in_default-clause-err c =
    let part = c.args.part.now in
    let some = some_length part c.is_empty.result c.is_empty.ensures c.if-is_empty.false in
    subst (λ (ws : List (List ℕ)). IsWordCause c.args.line ws (fault.Syntax c.args.line)) (sym (one_part part some))
    (refl, (part, (0, omega arith, refl), c.in_default.ensures))

pub returns-clause-ok : goal.returns-clause-ok
returns-clause-ok c =
    let part = c.args.part.now in
    let some = some_length part c.is_empty.result c.is_empty.ensures c.if-is_empty.false in
    let with : List ℕ → List Setting = λ (n : List ℕ). c.args.lits.now ++ record { name = n; value = c.in-Some.value } ∷ [] in
    let lits = ap with c.in_ok-name.ensures in
    λ words all. subst (λ (ls : List Setting). AreSaid (words ++ filter is_word (part ∷ [])) ls) (sym (c.in_ok-push.ensures.ok ∙ lits))
    (said_more words c.args.lits.now part c.in-Some.name.now c.in-Some.value all some c.in-Some.ensures)
