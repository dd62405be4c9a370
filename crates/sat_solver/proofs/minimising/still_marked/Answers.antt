use Rattle.std.proofs.Common.{◌≡◌, ◌∙◌, ◌+◌, ◌++◌, ◌∷◌, [], ℕ, List, true, false, take, get_or, sym, ap, arith}
use Rattle.std.proofs.lemmas.List.{get_or_read, take_more}
use Rattle.std.proofs.lemmas.Bool.{and_left}
use Rattle.proof_log.specs.Clauses.{is_set}
use Rattle.proof_log.proofs.Members.{is_set-nil}
use Rattle.sat_solver.specs.Markings.{marked_lits}
use Rattle.sat_solver.proofs.CoveredLiterals.{kept_more, kept_same}
use Rattle.sat_solver.proofs.minimising.still_marked.Goals as goal
use Rattle.sat_solver.proofs.minimising.still_marked.Goals.{then-is_in_cut+in_ok-push, else-is_in_cut}

pub loop-l-init : goal.loop-l-init
loop-l-init c = λ q.
    ap (λ xs. is_set xs q) c.in_ok-kept.ensures.items ∙ (is_set-nil q ∙ sym (and_left _ _ (is_set-nil q)))

pub loop-l-preserved : goal.loop-l-preserved
loop-l-preserved c =
    let lits = c.args.lits.now in
    let cut : List ℕ = marked_lits c.args.marks.now c.args.trail.now.lits in
    let i = c.loop-l.l-index in
    let x = c.l-item.result in
    let item : x ≡ get_or lits i 0 = get_or_read lits i x (omega arith) c.l-item.is 0 in
    let more : take (i + 1) lits ≡ take i lits ++ x ∷ [] = take_more lits i 0 (omega arith) ∙ ap (λ y. take i lits ++ y ∷ []) (sym item) in
    elim c.if-is_in_cut.branch [
      | then-is_in_cut+in_ok-push w ↦
          let there : true ≡ is_set cut x = w.if-is_in_cut.ensures in
          kept_more cut (take i lits) (take (i + 1) lits) c.loop-l.kept.items c.if-is_in_cut.kept.items x more (sym there)
          (ap (λ v. v.items) w.kept-is ∙ w.in_ok-push.ensures.items) c.loop-l.invariant
      | else-is_in_cut w ↦
          let absent : false ≡ is_set cut x = w.if-is_in_cut.ensures in
          rw w.kept-is (kept_same cut (take i lits) (take (i + 1) lits) c.loop-l.kept.items x more (sym absent) c.loop-l.invariant)
    ]
