use Rattle.std.proofs.Common.{◌≡◌, ◌+◌, ◌∙◌, ◌++◌, ◌∷◌, [], take, get_or, refl, sym, ap, arith}
use Rattle.std.proofs.lemmas.List.{get_or_read, take_more}
use Rattle.sat_solver.proofs.Marking.{AreMarked-none, AreMarked-more}
use Rattle.sat_solver.proofs.cuts.Cut.mark_false.Goals as goal

pub loop-l-init : goal.loop-l-init
loop-l-init c = record {
  long = refl;
  base = refl;
  start = refl;
  hints = refl;
  gathered = c.requires.gathered;
  marked = AreMarked-none c.args.trail.now.lits c.args.marks.now;
}

pub loop-l-preserved : goal.loop-l-preserved
loop-l-preserved c =
    let lits = c.args.lits.now in
    let i = c.loop-l.l-index in
    let item : c.l-item.result ≡ get_or lits i 0 = get_or_read lits i c.l-item.result (omega arith) c.l-item.is 0 in
    record {
      long = c.mark_if_false.ensures.long ∙ c.loop-l.invariant.long;
      base = c.mark_if_false.ensures.base ∙ c.loop-l.invariant.base;
      start = c.mark_if_false.ensures.start ∙ c.loop-l.invariant.start;
      hints = c.mark_if_false.ensures.hints ∙ c.loop-l.invariant.hints;
      gathered = c.in_ok-mark_if_false.ensures.gathered;
      marked = AreMarked-more c.args.trail.now.lits (take i lits) (take (i + 1) lits) c.args.marks.now c.loop-l.marks c.mark_if_false.new.marks
          c.l-item.result (take_more lits i 0 (omega arith) ∙ ap (λ y. take i lits ++ y ∷ []) (sym item)) c.in_ok-mark_if_false.ensures.marked
          c.loop-l.invariant.marked;
    }
