use Rattle.std.proofs.Common.{◌++◌, [], ◌∷◌, ℕ, arith, ap, refl, ◌∙◌}
use Rattle.dimacs_text.specs.Readings.{IsRead, IsEnded}
use Rattle.dimacs_text.specs.declared.tokens.Token.TheVariants.{Number}
use Rattle.dimacs_text.proofs.Taking.{read_literal, read_end, read_by, on_ok}
use Rattle.dimacs_text.proofs.readings.Reading.number.Goals as goal

pub returns-then-var-eq0-clause-ok : goal.returns-then-var-eq0-clause-ok
returns-then-var-eq0-clause-ok c placed line so =
    let old = c.args.self.now in
    let new = c.end_clause.new.self in
    let more = placed ++ (line, Number c.args.positive c.args.var) ∷ [] in
    on_ok c.end_clause.result (IsEnded old new) (IsRead more new)
    (λ ended. read_by more new c.args.counts (ended.header ∙ c.requires.header)
    (read_end c.args.counts.vars c.args.counts.told line c.args.positive c.args.var placed old new c.requires.within c.if-var-eq0.true ended so))
    c.end_clause.ensures.ok

pub new-requires-clause-to : goal.new-requires-clause-to
new-requires-clause-to c = omega (arith, c.requires.within, c.args.counts.few)

pub returns-clause-ok : goal.returns-clause-ok
returns-clause-ok c placed line so =
    let old = c.args.self.now in
    let more = placed ++ (line, Number c.args.positive c.args.var) ∷ [] in
    read_by more _ c.args.counts c.requires.header
    (read_literal c.args.counts.vars c.args.counts.told line c.args.positive c.args.var placed old _ c.requires.within c.if-var-eq0.false refl refl
    (c.in_ok-push.ensures.items ∙ ap (λ (l : ℕ). old.begun.items ++ l ∷ []) c.new.ensures) c.max-self.ensures so)
