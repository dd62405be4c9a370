use Rattle.std.proofs.Common.{◌≡◌, ◌++◌, [], ◌∷◌, ℕ, List, length, map, filter, ap, sym, subst, ◌∙◌, rules, tests}
use Rattle.std.specs.Borrow.{Bor}
use Rattle.std.specs.List.{slice_split}
use Rattle.std.proofs.lemmas.Iterator.Consumers.{YieldsList-turn, YieldsList-end}
use Rattle.std.proofs.lemmas.Iterator.Splits.{YieldsList-from_slice_split}
use Rattle.std.proofs.lemmas.List.{map_push}
use Rattle.std.proofs.lemmas.Result.{err_from_is_err_and}
use Rattle.assist_text.specs.Lines.{is_blank, is_word}
use Rattle.assist_text.specs.Clauses.{AreSaid}
use Rattle.assist_text.proofs.WordLemmas.{more_parts, cause_in}
use Rattle.assist_text.proofs.words.settings.Goals as goal

abbrev now_of : Bor (List ℕ) → List ℕ
now_of b = b.now

pub loop-part-preserved : goal.loop-part-preserved
loop-part-preserved c =
    let before = filter is_word (map now_of c.loop-part.yielded) in
    let part = c.in-Some.part in
    let more : filter is_word (map now_of (c.loop-part.yielded ++ part ∷ [])) ≡ before ++ filter is_word (part.now ∷ []) =
    ap (filter is_word) (map_push now_of c.loop-part.yielded part) ∙ more_parts (map now_of c.loop-part.yielded) part.now in
    subst (λ (ws : List (List ℕ)). AreSaid ws c.add_part.new.lits) (sym more) (c.in_ok-add_part.ensures.ok before c.loop-part.invariant)

pub returns-in_err-add_part-clause-err : goal.returns-in_err-add_part-clause-err
returns-in_err-add_part-clause-err c =
    let t = YieldsList-turn (YieldsList-from_slice_split {s = c.into_iter-part-iterator.result} _ is_blank c.args.text.now (cc) (cc) (cc) (λ x b q k. search (rules, tests)))
    c.loop-part.yielded c.loop-part.part-iterator c.loop-part.yielded_by c.next.result c.next.new.self c.in-Some.part c.in-Some.is c.next.ensures.steps in
    let p = err_from_is_err_and c.from_residual.result c.from_residual.ensures.1 in
    rw (p.1, p.2) (cause_in c.args.line (slice_split is_blank c.args.text.now) (length c.loop-part.yielded) c.in-Some.part.now c.in_err-add_part.field-0.0 t.0 t.1
    c.in_err-add_part.ensures.err)

pub returns-clause-ok : goal.returns-clause-ok
returns-clause-ok c =
    let t = YieldsList-end (YieldsList-from_slice_split {s = c.into_iter-part-iterator.result} _ is_blank c.args.text.now (cc) (cc) (cc) (λ x b q k. search (rules, tests)))
    c.loop-part.yielded c.loop-part.part-iterator c.loop-part.yielded_by c.next.result c.next.new.self c.in-None.is c.next.ensures.steps in
    subst (λ (ps : List (List ℕ)). AreSaid (filter is_word ps) c.loop-part.lits) t.0 c.loop-part.invariant
