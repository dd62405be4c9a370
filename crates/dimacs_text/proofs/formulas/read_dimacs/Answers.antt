use Rattle.std.proofs.Common.{◌≡◌, ◌+◌, ◌++◌, ◌<◌, ◌≤◌, ℕ, List, map, take, length, ap, sym, subst, ◌∙◌, inl, inr, arith}
use Rattle.std.specs.Borrow.{Bor}
use Rattle.std.proofs.lemmas.List.{take_all}
use Rattle.std.proofs.lemmas.Result.{err_from_is_err_and}
use Rattle.dimacs_text.specs.Tokens.{Placed, placed_in, placed_from, tokens}
use Rattle.dimacs_text.specs.Faults.{IsStop, IsShort, IsCause}
use Rattle.dimacs_text.specs.Readings.{IsRead}
use Rattle.dimacs_text.proofs.Placing.{now_of, lines_more, stop_in}
use Rattle.dimacs_text.proofs.Taking.{if_err}
use Rattle.dimacs_text.proofs.formulas.read_dimacs.Goals as goal

pub loop-place-init : goal.loop-place-init
unfolding placed_from
loop-place-init c = c.new-reading.ensures

pub loop-place-preserved : goal.loop-place-preserved
loop-place-preserved c =
    let lines = c.in_ok-lines.lines.items in
    let k = c.loop-place.place in
    let line = c.index.result.now in
    let front = placed_from 1 (map now_of (take k lines)) in
    let low : k < length lines = omega (arith, c.loop-place-test.true, c.loop-place.auto, c.len-place-end.ensures) in
    let more : placed_from 1 (map now_of (take (k + 1) lines)) ≡ front ++ placed_in (k + 1) line.now =
    lines_more lines k line low ∙ ap (λ (b : Bor (List ℕ)). front ++ placed_in (k + 1) b.now) (sym c.index.ensures) in
    subst (λ (ps : List Placed). IsRead ps c.read_line.new.reading) (sym more) (c.in_ok-read_line.ensures.ok front c.loop-place.invariant)

pub returns-in_err-read_line-clause-err : goal.returns-in_err-read_line-clause-err
returns-in_err-read_line-clause-err c =
    let lines = c.in_ok-lines.lines.items in
    let k = c.loop-place.place in
    let line = c.index.result.now in
    let e = c.in_err-read_line.field-0.0 in
    let front = placed_from 1 (map now_of (take k lines)) in
    let low : k < length lines = omega (arith, c.loop-place-test.true, c.loop-place.auto, c.len-place-end.ensures) in
    let more : placed_from 1 (map now_of (take (k + 1) lines)) ≡ front ++ placed_in (k + 1) line.now =
    lines_more lines k line low ∙ ap (λ (b : Bor (List ℕ)). front ++ placed_in (k + 1) b.now) (sym c.index.ensures) in
    let stop : IsStop (placed_from 1 (map now_of (take (k + 1) lines))) e =
    subst (λ (ps : List Placed). IsStop ps e) (sym more) (c.in_err-read_line.ensures.err front c.loop-place.invariant) in
    let all : IsStop (tokens c.args.text.now) e =
    subst (λ (ls : List (List ℕ)). IsStop (placed_from 1 ls) e) c.in_ok-lines.ensures (stop_in lines (k + 1) e stop) in
    let p = err_from_is_err_and c.from_residual-in_err-read_line.result c.from_residual-in_err-read_line.ensures.1 in
    rw (p.1, p.2) (inl all)

pub returns-clause-ok : goal.returns-clause-ok
returns-clause-ok c =
    let lines = c.in_ok-lines.lines.items in
    let done : length lines ≤ c.loop-place.place = omega (arith, c.loop-place-test.false, c.loop-place.auto, c.len-place-end.ensures) in
    let all = ap (map now_of) (take_all c.loop-place.place lines done) ∙ c.in_ok-lines.ensures in
    c.formula.ensures.ok c.args.text.now (subst (λ (ls : List (List ℕ)). IsRead (placed_from 1 ls) c.loop-place.reading) all c.loop-place.invariant)

pub returns-clause-formula : goal.returns-clause-formula
returns-clause-formula c =
    let lines = c.in_ok-lines.lines.items in
    let done : length lines ≤ c.loop-place.place = omega (arith, c.loop-place-test.false, c.loop-place.auto, c.len-place-end.ensures) in
    let all = ap (map now_of) (take_all c.loop-place.place lines done) ∙ c.in_ok-lines.ensures in
    c.formula.ensures.formula c.args.text.now (subst (λ (ls : List (List ℕ)). IsRead (placed_from 1 ls) c.loop-place.reading) all c.loop-place.invariant)

pub returns-clause-err : goal.returns-clause-err
returns-clause-err c =
    let lines = c.in_ok-lines.lines.items in
    let done : length lines ≤ c.loop-place.place = omega (arith, c.loop-place-test.false, c.loop-place.auto, c.len-place-end.ensures) in
    let all = ap (map now_of) (take_all c.loop-place.place lines done) ∙ c.in_ok-lines.ensures in
    if_err c.formula.result (IsShort (tokens c.args.text.now)) (IsCause c.args.text.now) (λ e short. inr short)
    (c.formula.ensures.err c.args.text.now (subst (λ (ls : List (List ℕ)). IsRead (placed_from 1 ls) c.loop-place.reading) all c.loop-place.invariant))
