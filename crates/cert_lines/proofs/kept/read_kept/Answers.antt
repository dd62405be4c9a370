use Rattle.std.proofs.Common.{inl, inr, ℕ, [], ◌∷◌, map, length, refl, sym, ap, ◌∙◌, subst, append-nil, arith}
use Rattle.std.specs.Prelude.{codes}
use Rattle.std.proofs.lemmas.Result.{err_from_is_err_and}
use Rattle.cert_words.specs.Numbers.{lit_word, IsLitAbove}
use Rattle.cert_words.specs.Parts.{left, one, IsPartStop}
use Rattle.cert_words.proofs.LineLemmas.{at_next, stop_part, stop_end, stop_memory, whole, not_cut, none_is, some_is}
use Rattle.cert_lines.specs.Kinds.{state_word, kept_words, IsKept}
use Rattle.cert_lines.proofs.KindLemmas.{kept_kind}
use Rattle.cert_lines.proofs.Shortest.{one_state_fits}
use Rattle.cert_lines.proofs.PartLemmas.{first_state, lit_stop, kept_end, pushed_at, pushed_chain, pushed_key, pushed_long}
use Rattle.cert_lines.proofs.kept.read_kept.Goals as goal

pub returns-in_err-take_word-clause-err : goal.returns-in_err-take_word-clause-err
returns-in_err-take_word-clause-err c =
    let p = err_from_is_err_and c.from_residual.result c.from_residual.ensures.1 in
    rw (p.1, p.2)
    (stop_part (kept_kind c.args.long) c.new-words.ensures c.in_err-take_word.ensures.err
    (λ x v fv e. record { value = codes "k"; tail = map state_word v.lits; fits = refl; is = e }) (λ w. state_word first_state ∷ [])
    (λ w is. (record { lits = first_state ∷ [] }, one_state_fits c.args.long, ap (λ z. z ∷ (state_word first_state ∷ [])) is)))

pub loop-lits-init : goal.loop-lits-init
loop-lits-init c =
    let none = c.new-lits.ensures in
    let many = ap length none in
    record {
      at = rw none (at_next c.new-words.ensures c.in_ok-take_word.ensures.ok);
      fit = rw none tt;
      above = rw none refl;
      room = λ e. omega (arith, many);
      some = inl none;
    }

pub returns-in_err-lit-clause-err : goal.returns-in_err-lit-clause-err
returns-in_err-lit-clause-err c =
    let i = c.loop-lits.invariant in
    let p = err_from_is_err_and c.from_residual-in_err-lit.result c.from_residual-in_err-lit.ensures.1 in
    let lits = c.loop-lits.lits in
    rw (p.1, p.2)
    (lit_stop c.args.long lits c.args.line.now c.args.cut c.loop-lits.words c.in_err-lit.field-0.0 i.at i.fit i.room i.some
    (subst (λ (a : ℕ). IsPartStop (IsLitAbove a) (one lit_word) c.loop-lits.words c.in_err-lit.field-0.0) i.above c.in_err-lit.ensures.err))

pub returns-in_err-push-clause-err : goal.returns-in_err-push-clause-err
returns-in_err-push-clause-err c =
    let p = err_from_is_err_and c.from_residual-in_err-push.result c.from_residual-in_err-push.ensures.1 in
    rw (p.1, p.2) (stop_memory (IsKept c.args.long) kept_words c.args.cut c.args.line.now)

pub returns-then-is_done-clause-ok : goal.returns-then-is_done-clause-ok
returns-then-is_done-clause-ok c =
    let i = c.loop-lits.invariant in
    let lits = c.loop-lits.lits in
    let more = c.push.new.self in
    let s = c.state_lit.result in
    let pushed = c.in_ok-push.ensures.ok in
    let long = pushed_long lits more s pushed in
    let fits = subst (λ (a : ℕ). IsLitAbove a c.in_ok-lit.lit) i.above c.in_ok-lit.ensures.ok.0 in
    let at =
    pushed_at c.args.line.now c.args.cut lits more s c.in_ok-lit.lit c.loop-lits.words c.take_lit.new.words i.at c.in_ok-lit.ensures.ok.1
    c.state_lit.ensures.lit pushed in
    whole (record { lits = more }) at (none_is (left c.take_lit.new.words) (sym c.is_done.ensures ∙ c.if-is_done.true))
    (append-nil (codes "k" ∷ map state_word more))
    (record {
      some = omega (arith, long);
      ascend = pushed_chain lits more s c.in_ok-lit.lit i.fit fits c.state_lit.ensures.lit pushed;
      short = λ e. (let room = i.room e in omega (arith, long, room));
    })

pub returns-then-is_done-clause-whole : goal.returns-then-is_done-clause-whole
returns-then-is_done-clause-whole c =
    let i = c.loop-lits.invariant in
    let at =
    pushed_at c.args.line.now c.args.cut c.loop-lits.lits c.push.new.self c.state_lit.result c.in_ok-lit.lit c.loop-lits.words c.take_lit.new.words i.at
    c.in_ok-lit.ensures.ok.1 c.state_lit.ensures.lit c.in_ok-push.ensures.ok in
    not_cut at (none_is (left c.take_lit.new.words) (sym c.is_done.ensures ∙ c.if-is_done.true))

pub returns-then-not-may_go_on-clause-err : goal.returns-then-not-may_go_on-clause-err
returns-then-not-may_go_on-clause-err c =
    let i = c.loop-lits.invariant in
    let lits = c.loop-lits.lits in
    let more = c.push.new.self in
    let at =
    pushed_at c.args.line.now c.args.cut lits more c.state_lit.result c.in_ok-lit.lit c.loop-lits.words c.take_lit.new.words i.at
    c.in_ok-lit.ensures.ok.1 c.state_lit.ensures.lit c.in_ok-push.ensures.ok in
    let (short, two) = c.may_go_on.ensures.full c.if-not-may_go_on.true in
    let many = c.len.ensures in
    stop_end (kept_kind c.args.long) at (refl, some_is (left c.take_lit.new.words) (sym c.is_done.ensures ∙ c.if-is_done.false))
    (kept_end c.args.long more short (omega (arith, many, two)))

pub loop-lits-preserved : goal.loop-lits-preserved
loop-lits-preserved c =
    let i = c.loop-lits.invariant in
    let lits = c.loop-lits.lits in
    let more = c.push.new.self in
    let s = c.state_lit.result in
    let pushed = c.in_ok-push.ensures.ok in
    let fits = subst (λ (a : ℕ). IsLitAbove a c.in_ok-lit.lit) i.above c.in_ok-lit.ensures.ok.0 in
    let many = c.len.ensures in
    record {
      at = pushed_at c.args.line.now c.args.cut lits more s c.in_ok-lit.lit c.loop-lits.words c.take_lit.new.words i.at c.in_ok-lit.ensures.ok.1
          c.state_lit.ensures.lit pushed;
      fit = pushed_chain lits more s c.in_ok-lit.lit i.fit fits c.state_lit.ensures.lit pushed;
      above = c.var-above.ensures.value ∙ pushed_key lits more s c.in_ok-lit.lit c.state_lit.ensures.lit pushed;
      room = λ e. (let less = c.may_go_on.ensures.room c.if-not-may_go_on.false e in omega (arith, many, less));
      some = inr (some_is (left c.take_lit.new.words) (sym c.is_done.ensures ∙ c.if-is_done.false));
    }
