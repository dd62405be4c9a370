use Rattle.std.proofs.Common.{arith, ◌≡◌, ◌∙◌, true, false, sym, ap}
use Rattle.std.proofs.lemmas.Option.{get_or_from_slice_get}
use Rattle.case_objects.specs.Spots.{spots_in}
use Rattle.list_laws.proofs.Joining.{item_at}
use Rattle.case_objects.proofs.Firsts.{first_here, first_later}
use Rattle.case_objects.proofs.spots.first_found.Goals as goal

pub returns-then-not-is_empty : goal.returns-then-not-is_empty
returns-then-not-is_empty c =
    let of = spots_in c.args.names.now c.args.query.now in
    let i = c.loop-class.class-index in
    let (x, here) = item_at c.args.classes.now i c.loop-class-test.true in
    let is : c.in_ok-found.found ≡ of x = c.in_ok-found.ensures ∙ ap of (get_or_from_slice_get c.args.classes.now i x _ here) in
    is ∙ sym (first_here of c.args.classes.now i x here (λ none. absurd (let empty = c.is_empty.ensures.1 (is ∙ none) in
    let bad : false ≡ true = sym c.if-not-is_empty.true ∙ empty in grind arith))) ∙ sym c.loop-class.invariant

pub loop-class-preserved : goal.loop-class-preserved
loop-class-preserved c =
    let of = spots_in c.args.names.now c.args.query.now in
    let i = c.loop-class.class-index in
    let (x, here) = item_at c.args.classes.now i c.loop-class-test.true in
    let is : c.in_ok-found.found ≡ of x = c.in_ok-found.ensures ∙ ap of (get_or_from_slice_get c.args.classes.now i x _ here) in
    c.loop-class.invariant ∙ first_later of c.args.classes.now i x here (sym is ∙ c.is_empty.ensures.0 c.if-not-is_empty.false)
