use Rattle.std.proofs.Common.{◌≡◌, ◌+◌, ◌++◌, [], ◌∷◌, ℕ, List, length, map, take, ap, sym, subst, ◌∙◌, rules, tests, arith}
use Rattle.std.specs.Borrow.{Bor}
use Rattle.std.specs.Prelude.{◌==◌}
use Rattle.std.proofs.lemmas.Iterator.Consumers.{YieldsList-so_far, YieldsList-turn, YieldsList-end}
use Rattle.std.proofs.lemmas.Iterator.Splits.{YieldsList-from_slice_split}
use Rattle.std.proofs.lemmas.List.{map_push, length_push, length-map, take_more}
use Rattle.std.proofs.lemmas.List.Splits.{length-slice_split}
use Rattle.std.proofs.lemmas.List.Sums.{count_by-le-length}
use Rattle.std.proofs.lemmas.Result.{err_from_is_err_and}
use Rattle.sdcv_base.specs.Seqs.{each_at}
use Rattle.assist_text.specs.Lines.{Said, lines_of, said_at}
use Rattle.assist_text.specs.Clauses.{AreClauses}
use Rattle.assist_text.specs.Causes.{IsCauseIn}
use Rattle.assist_text.proofs.Saying.{lines_say, cause_of_lines, one_or_more}
use Rattle.assist_text.proofs.lines.read_assist.Goals as goal

abbrev now_of : Bor (List ℕ) → List ℕ
now_of b = b.now

-- what lines say, with one more that was yielded
said_more : (yielded : List (Bor (List ℕ))) (line : Bor (List ℕ)) (number : ℕ) → number ≡ length yielded + 1
    → each_at said_at 1 (map now_of (yielded ++ line ∷ [])) ≡ each_at said_at 1 (map now_of yielded) ++ said_at number line.now
said_more yielded line number is =
    let at : length (map now_of yielded) + 1 ≡ number = omega (arith, length-map yielded now_of) in
    ap (each_at said_at 1) (map_push now_of yielded line)
    ∙ (lines_say (map now_of yielded) line.now ∙ ap (λ (n : ℕ). each_at said_at 1 (map now_of yielded) ++ said_at n line.now) at)

pub overflow_add-number : goal.overflow_add-number
overflow_add-number c =
    let t = YieldsList-turn (YieldsList-from_slice_split {s = c.into_iter-line-iterator.result} _ (λ b. b == 10) c.args.text.now (cc) (cc) (cc) (λ x b q k. search (rules, tests)))
    c.loop-line.yielded c.loop-line.line-iterator c.loop-line.yielded_by c.next.result c.next.new.self c.in-Some.line c.in-Some.is c.next.ensures.steps in
    let low = t.0 in
    let so_far = c.loop-line.invariant.0 in
    omega (arith, length-slice_split (λ b. b == 10) c.args.text.now, count_by-le-length (λ b. b == 10) c.args.text.now)

pub loop-line-preserved : goal.loop-line-preserved
loop-line-preserved c =
    let so_far = c.loop-line.invariant.0 in
    let more = said_more c.loop-line.yielded c.in-Some.line (c.loop-line.number + 1) (omega arith) in (
      omega (arith, length_push c.loop-line.yielded c.in-Some.line),
      subst (λ (ms : List Said). AreClauses ms c.add_line.new.clauses) (sym more)
          (c.in_ok-add_line.ensures.ok (each_at said_at 1 (map now_of c.loop-line.yielded)) c.loop-line.invariant.1),
    )

pub returns-in_err-add_line-clause-err : goal.returns-in_err-add_line-clause-err
returns-in_err-add_line-clause-err c =
    let t = YieldsList-turn (YieldsList-from_slice_split {s = c.into_iter-line-iterator.result} _ (λ b. b == 10) c.args.text.now (cc) (cc) (cc) (λ x b q k. search (rules, tests)))
    c.loop-line.yielded c.loop-line.line-iterator c.loop-line.yielded_by c.next.result c.next.new.self c.in-Some.line c.in-Some.is c.next.ensures.steps in
    let front = YieldsList-so_far (YieldsList-from_slice_split {s = c.into_iter-line-iterator.result} _ (λ b. b == 10) c.args.text.now (cc) (cc) (cc) (λ x b q k. search (rules, tests)))
    c.loop-line.yielded c.loop-line.line-iterator c.loop-line.yielded_by in
    let k = length c.loop-line.yielded in
    let lines = lines_of c.args.text.now in
    let line = c.in-Some.line in
    let so_far = c.loop-line.invariant.0 in
    let first : map now_of (c.loop-line.yielded ++ line ∷ []) ≡ take (k + 1) lines =
    map_push now_of c.loop-line.yielded line ∙ (ap (λ (ls : List (List ℕ)). ls ++ line.now ∷ []) front
    ∙ (ap (λ (l : List ℕ). take k lines ++ l ∷ []) t.1 ∙ sym (take_more lines k line.now t.0))) in
    let more = said_more c.loop-line.yielded line (c.loop-line.number + 1) (omega arith) in
    let e = c.in_err-add_line.field-0.0 in
    let here : IsCauseIn (each_at said_at 1 (take (k + 1) lines)) e =
    subst (λ (ls : List (List ℕ)). IsCauseIn (each_at said_at 1 ls) e) first (subst (λ (ms : List Said). IsCauseIn ms e) (sym more)
    (c.in_err-add_line.ensures.err (each_at said_at 1 (map now_of c.loop-line.yielded)) c.loop-line.invariant.1)) in
    let p = err_from_is_err_and c.from_residual.result c.from_residual.ensures.1 in
    rw (p.1, p.2) (cause_of_lines lines (k + 1) e here)

pub returns-clause-ok : goal.returns-clause-ok
returns-clause-ok c =
    let t = YieldsList-end (YieldsList-from_slice_split {s = c.into_iter-line-iterator.result} _ (λ b. b == 10) c.args.text.now (cc) (cc) (cc) (λ x b q k. search (rules, tests)))
    c.loop-line.yielded c.loop-line.line-iterator c.loop-line.yielded_by c.next.result c.next.new.self c.in-None.is c.next.ensures.steps in
    subst (λ (ls : List (List ℕ)). AreClauses (each_at said_at 1 ls) c.loop-line.clauses) t.0 c.loop-line.invariant.1

pub returns-clause-one_or_more : goal.returns-clause-one_or_more
returns-clause-one_or_more c =
    let t = YieldsList-end (YieldsList-from_slice_split {s = c.into_iter-line-iterator.result} _ (λ b. b == 10) c.args.text.now (cc) (cc) (cc) (λ x b q k. search (rules, tests)))
    c.loop-line.yielded c.loop-line.line-iterator c.loop-line.yielded_by c.next.result c.next.new.self c.in-None.is c.next.ensures.steps in
    one_or_more c.args.text.now c.loop-line.clauses
    (subst (λ (ls : List (List ℕ)). AreClauses (each_at said_at 1 ls) c.loop-line.clauses) t.0 c.loop-line.invariant.1)
