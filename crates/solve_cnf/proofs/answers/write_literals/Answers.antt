use Rattle.std.proofs.Common.{◌≡◌, ◌<◌, ◌+◌, ◌∙◌, ◌++◌, ap, sym, subst, get_or, take, length, List, ℕ, Bool, false, arith}
use Rattle.std.proofs.KnownBytes.{Appends-trans}
use Rattle.std.proofs.lemmas.Option.{slice_get-get_or}
use Rattle.std.specs.Io.KnownBytes.{Appends}
use Rattle.list_laws.proofs.Joining.{each_at_more}
use Rattle.solve_cnf.specs.Answers.{literal_text, literals_text, filled}
use Rattle.solve_cnf.proofs.Filling.{filled_at, length-filled}
use Rattle.solve_cnf.proofs.answers.write_literals.Goals as goal

pub loop-place-preserved : goal.loop-place-preserved
loop-place-preserved g c =
    let vars = c.args.vars in
    let values : List Bool = c.args.values.now in
    let place : ℕ = c.loop-place.place in
    let all = filled vars values in
    let low : place < length all = omega (arith, c.loop-place-test.true, c.max-place-end.ensures, length-filled vars values) in
    let same : get_or all place false ≡ c.value_at.result = filled_at vars values place ∙ sym c.value_at.ensures in
    let more : literals_text (take (place + 1) all) ≡ literals_text (take place all) ++ literal_text place c.value_at.result =
    each_at_more literal_text all place (get_or all place false) (slice_get-get_or all place false low)
    ∙ ap (λ (b : Bool). literals_text (take place all) ++ literal_text place b) same in
    subst (Appends (g.W.Write.contents c.args.out.now) (g.W.Write.contents c.write_literal.new.out)) (sym more)
    (Appends-trans _ _ _ (literals_text (take place all)) (literal_text place c.value_at.result) c.loop-place.invariant c.in_ok-write_literal.ensures)
