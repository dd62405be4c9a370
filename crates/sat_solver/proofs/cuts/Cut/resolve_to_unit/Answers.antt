use Rattle.std.proofs.Common.{◌≡◌, ◌+◌, ◌-◌, ◌∙◌, [], ap, sym, refl, subst, ℕ, get_or, length, take, drop, arith}
use Rattle.std.proofs.lemmas.List.{get_or_read}
use Rattle.proof_log.specs.Literals.{lit_var}
use Rattle.sat_solver.specs.Cuts.{CutState, IsUnitCut}
use Rattle.sat_solver.specs.Markings.{is_marked, marked_lits}
use Rattle.sat_solver.proofs.Cutting.{walk_start}
use Rattle.sat_solver.proofs.Trailing.{reason_within}
use Rattle.sat_solver.proofs.Marking.{member_at, walk_replaced, walk_skipped, unit_counted, unit_decided}
use Rattle.sat_solver.proofs.cuts.Cut.resolve_to_unit.Goals as goal
use Rattle.sat_solver.proofs.cuts.Cut.resolve_to_unit.Goals.{then-is_marked+else-self-eq1+in_ok-resolve, else-is_marked}

pub is_marked-requires : goal.is_marked-requires
is_marked-requires c =
    let lits = c.args.trail.now.lits in
    let at = c.loop-self.at in
    let within = c.loop-self.invariant.within in
    let p_is : c.index-lits-at.result ≡ get_or lits at 0 =
    get_or_read c.lits.result.now at c.index-lits-at.result (omega (arith, within, ap length c.lits.ensures.value)) c.index-lits-at.is 0
    ∙ ap (λ xs. get_or xs at 0) c.lits.ensures.value in
    let v = c.lits-lits.ensures.in_vars c.index-lits-at.result (member_at lits at c.index-lits-at.result within p_is) in
    omega (arith, v.1, c.var.ensures.value, c.requires.fits, c.loop-self.invariant.long)

pub resolve-requires-clause-reason : goal.resolve-requires-clause-reason
resolve-requires-clause-reason c =
    let at = c.loop-self.at in
    reason_within c.args.clauses.now _ c.args.trail.now.reasons c.args.trail.now.reasons at _ refl
    (c.requires.justified at (omega (arith, c.loop-self-test.true, c.loop-self.invariant.start)) c.loop-self.invariant.within)

pub resolve-requires-clause-marked : goal.resolve-requires-clause-marked
resolve-requires-clause-marked c =
    let lits = c.args.trail.now.lits in
    let at = c.loop-self.at in
    let within = c.loop-self.invariant.within in
    let p_is : c.index-lits-at.result ≡ get_or lits at 0 =
    get_or_read c.lits.result.now at c.index-lits-at.result (omega (arith, within, ap length c.lits.ensures.value)) c.index-lits-at.is 0
    ∙ ap (λ xs. get_or xs at 0) c.lits.ensures.value in
    ap (is_marked c.loop-self.marks) (sym (c.var.ensures.value ∙ ap lit_var p_is)) ∙ (sym c.is_marked.ensures ∙ c.if-is_marked.true)

pub loop-self-init : goal.loop-self-init
loop-self-init c =
    let n : c.len-at.result - 1 + 1 ≡ length c.args.trail.now.lits = omega (arith, c.len-at.ensures.value, c.requires.within) in
    record {
      long = refl;
      base = refl;
      start = refl;
      from = omega (arith, c.len-at.ensures.value, c.requires.within);
      within = omega (arith, c.len-at.ensures.value, c.requires.within);
      gathered = c.requires.gathered;
      state = walk_start c.args.clauses.now c.args.trail.now.lits (marked_lits c.args.marks.now c.args.trail.now.lits) c.args.self.now.hints.items
          (c.len-at.result - 1 + 1) n c.requires.cut;
    }

pub loop-self-preserved : goal.loop-self-preserved
loop-self-preserved c =
    let clauses = c.args.clauses.now in
    let lits = c.args.trail.now.lits in
    let at = c.loop-self.at in
    let place = get_or c.args.trail.now.reasons at 0 in
    let within = c.loop-self.invariant.within in
    let p_is : c.index-lits-at.result ≡ get_or lits at 0 =
    get_or_read c.lits.result.now at c.index-lits-at.result (omega (arith, within, ap length c.lits.ensures.value)) c.index-lits-at.is 0
    ∙ ap (λ xs. get_or xs at 0) c.lits.ensures.value in
    let mark_is : is_marked c.loop-self.marks (lit_var (get_or lits at 0)) ≡ c.is_marked.result =
    ap (is_marked c.loop-self.marks) (sym (c.var.ensures.value ∙ ap lit_var p_is)) ∙ sym c.is_marked.ensures in
    let unit = c.requires.justified at (omega (arith, c.loop-self-test.true, c.loop-self.invariant.start)) within in
    let next : at ≡ at - 1 + 1 = omega (arith, c.loop-self-test.true) in
    elim c.if-is_marked.branch [
      | then-is_marked+else-self-eq1+in_ok-resolve w ↦
          let S : ℕ → Type 0 = λ n. CutState clauses (take n lits) [] (drop n lits) (marked_lits w.resolve.new.marks lits) w.resolve.new.self.hints.items in
          rw (w.self-is, w.marks-is) (record {
            long = w.resolve.ensures.long ∙ c.loop-self.invariant.long;
            base = w.resolve.ensures.base ∙ c.loop-self.invariant.base;
            start = w.resolve.ensures.start ∙ c.loop-self.invariant.start;
            from = omega (arith, c.loop-self-test.true, w.resolve.ensures.start);
            within = omega (arith, within);
            gathered = w.in_ok-resolve.ensures.gathered;
            state = subst S next (walk_replaced clauses lits at place c.loop-self.marks w.resolve.new.marks c.loop-self.self.hints.items
                w.resolve.new.self.hints.items c.lits-lits.ensures.distinct within unit (mark_is ∙ w.if-is_marked.true)
                w.in_ok-resolve.ensures.replaced w.in_ok-resolve.ensures.hints c.loop-self.invariant.state);
          })
      | else-is_marked w ↦
          let S : ℕ → Type 0 = λ n. CutState clauses (take n lits) [] (drop n lits) (marked_lits c.loop-self.marks lits) c.loop-self.self.hints.items in
          rw (w.self-is, w.marks-is) (record {
            long = c.loop-self.invariant.long;
            base = c.loop-self.invariant.base;
            start = c.loop-self.invariant.start;
            from = omega (arith, c.loop-self-test.true);
            within = omega (arith, within);
            gathered = c.loop-self.invariant.gathered;
            state = subst S next (walk_skipped clauses lits at c.loop-self.marks c.loop-self.self.hints.items c.lits-lits.ensures.distinct within place
                unit (mark_is ∙ w.if-is_marked.false) c.loop-self.invariant.state);
          })
    ]

pub returns-then-self-eq1-clause-cut : goal.returns-then-self-eq1-clause-cut
returns-then-self-eq1-clause-cut c =
    let lits = c.args.trail.now.lits in
    let at = c.loop-self.at in
    let within = c.loop-self.invariant.within in
    let p_is : c.index-lits-at.result ≡ get_or lits at 0 =
    get_or_read c.lits.result.now at c.index-lits-at.result (omega (arith, within, ap length c.lits.ensures.value)) c.index-lits-at.is 0
    ∙ ap (λ xs. get_or xs at 0) c.lits.ensures.value in
    let on = ap (is_marked c.loop-self.marks) (sym (c.var.ensures.value ∙ ap lit_var p_is)) ∙ (sym c.is_marked.ensures ∙ c.if-is_marked.true) in
    let U : ℕ → Type 0 = λ n. IsUnitCut c.args.clauses.now lits n at (marked_lits c.loop-self.marks lits) c.loop-self.self.hints.items in
    subst U c.loop-self.invariant.start
    (unit_counted c.args.clauses.now lits c.loop-self.self.start at c.loop-self.marks c.loop-self.self.hints.items c.loop-self.invariant.from within
    (sym c.loop-self.invariant.gathered.above ∙ c.if-self-eq1.true) on c.loop-self.invariant.state)

pub returns-clause-cut : goal.returns-clause-cut
returns-clause-cut c =
    let lits = c.args.trail.now.lits in
    let U : ℕ → Type 0 = λ n. IsUnitCut c.args.clauses.now lits n c.loop-self.at (marked_lits c.loop-self.marks lits) c.loop-self.self.hints.items in
    subst U c.loop-self.invariant.start
    (unit_decided c.args.clauses.now lits c.loop-self.self.start c.loop-self.at c.loop-self.marks c.loop-self.self.hints.items
    (omega (arith, c.loop-self.invariant.from, c.loop-self-test.false)) c.loop-self.invariant.within c.loop-self.invariant.state)
