use Rattle.std.proofs.Common.{◌≡◌, ◌∙◌, ◌<◌, ◌∷◌, ap, get_or, length, sym, arith}
use Rattle.std.proofs.lemmas.List.{get_or_read}
use Rattle.std.specs.List.{between}
use Rattle.proof_log.proofs.StoredClauses.{length-clauses_of, clauses_of-at, ends_within}
use Rattle.proof_log.proofs.tables.ClauseTable.clause.Goals as goal

pub start_of-start-requires : goal.start_of-start-requires
start_of-start-requires c =
    let e = c.self.inside in
    let within : c.args.place < length e.ends.items = omega (arith, length-clauses_of e.lits.items 0 e.ends.items, rw (← c.self.view_is) at c.requires) in
    omega (arith, within, ap length c.deref.ensures.value)

pub index-requires : goal.index-requires
index-requires c =
    let e = c.self.inside in
    omega (arith, length-clauses_of e.lits.items 0 e.ends.items, rw (← c.self.view_is) at c.requires, e.ends.ok.0)

pub slice_bounds-result-count : goal.slice_bounds-result-count
slice_bounds-result-count c =
    let e = c.self.inside in
    let within : c.args.place < length e.ends.items = omega (arith, length-clauses_of e.lits.items 0 e.ends.items, rw (← c.self.view_is) at c.requires) in
    let end : c.index.result.now ≡ get_or e.ends.items c.args.place 0 = get_or_read e.ends.items c.args.place c.index.result.now within c.index.ensures 0 in
    let start : c.start_of-start.result ≡ get_or (0 ∷ e.ends.items) c.args.place 0 =
    c.start_of-start.ensures ∙ ap (λ xs. get_or (0 ∷ xs) c.args.place 0) c.deref.ensures.value in
    let w = ends_within 0 e.ends.items (length e.lits.items) c.args.place c.self.invariant within in
    omega (arith, end, start, w.0)

pub slice_bounds-result-start : goal.slice_bounds-result-start
slice_bounds-result-start c =
    let e = c.self.inside in
    let within : c.args.place < length e.ends.items = omega (arith, length-clauses_of e.lits.items 0 e.ends.items, rw (← c.self.view_is) at c.requires) in
    let end : c.index.result.now ≡ get_or e.ends.items c.args.place 0 = get_or_read e.ends.items c.args.place c.index.result.now within c.index.ensures 0 in
    let start : c.start_of-start.result ≡ get_or (0 ∷ e.ends.items) c.args.place 0 =
    c.start_of-start.ensures ∙ ap (λ xs. get_or (0 ∷ xs) c.args.place 0) c.deref.ensures.value in
    let w = ends_within 0 e.ends.items (length e.lits.items) c.args.place c.self.invariant within in
    omega (arith, end, start, w.0, w.1, ap length c.deref-2.ensures.value)

pub slice_bounds-result-end : goal.slice_bounds-result-end
slice_bounds-result-end c =
    let e = c.self.inside in
    let within : c.args.place < length e.ends.items = omega (arith, length-clauses_of e.lits.items 0 e.ends.items, rw (← c.self.view_is) at c.requires) in
    let end : c.index.result.now ≡ get_or e.ends.items c.args.place 0 = get_or_read e.ends.items c.args.place c.index.result.now within c.index.ensures 0 in
    let start : c.start_of-start.result ≡ get_or (0 ∷ e.ends.items) c.args.place 0 =
    c.start_of-start.ensures ∙ ap (λ xs. get_or (0 ∷ xs) c.args.place 0) c.deref.ensures.value in
    let w = ends_within 0 e.ends.items (length e.lits.items) c.args.place c.self.invariant within in
    omega (arith, end, start, w.0, w.1, ap length c.deref-2.ensures.value)

pub offset_bounds-deref-start : goal.offset_bounds-deref-start
offset_bounds-deref-start c =
    let e = c.self.inside in
    let within : c.args.place < length e.ends.items = omega (arith, length-clauses_of e.lits.items 0 e.ends.items, rw (← c.self.view_is) at c.requires) in
    let start : c.start_of-start.result ≡ get_or (0 ∷ e.ends.items) c.args.place 0 =
    c.start_of-start.ensures ∙ ap (λ xs. get_or (0 ∷ xs) c.args.place 0) c.deref.ensures.value in
    let w = ends_within 0 e.ends.items (length e.lits.items) c.args.place c.self.invariant within in
    omega (arith, start, w.0, w.1, e.lits.ok.0)

pub returns : goal.returns
returns c =
    let e = c.self.inside in
    let within : c.args.place < length e.ends.items = omega (arith, length-clauses_of e.lits.items 0 e.ends.items, rw (← c.self.view_is) at c.requires) in
    let end : c.index.result.now ≡ get_or e.ends.items c.args.place 0 = get_or_read e.ends.items c.args.place c.index.result.now within c.index.ensures 0 in
    let start : c.start_of-start.result ≡ get_or (0 ∷ e.ends.items) c.args.place 0 =
    c.start_of-start.ensures ∙ ap (λ xs. get_or (0 ∷ xs) c.args.place 0) c.deref.ensures.value in
    rw (← c.self.view_is) (ap (between c.start_of-start.result c.index.result.now) c.deref-2.ensures.value
    ∙ (ap (λ i. between i c.index.result.now e.lits.items) start ∙ (ap (λ j. between (get_or (0 ∷ e.ends.items) c.args.place 0) j e.lits.items) end
    ∙ sym (clauses_of-at e.lits.items 0 e.ends.items c.args.place within))))
