use Rattle.std.proofs.Common.{arith, ◌≡◌, ◌+◌, ◌<◌, ◌∙◌, Bool, true, false, List, [], ◌∷◌, ◌++◌, length, take, ap, sym, subst, get_or}
use Rattle.std.specs.Prelude.{IsTrue}
use Rattle.net_model.specs.Paths.{HasPath}
use Rattle.net_model.specs.declared.claims.End.{End}
use Rattle.net_model.proofs.Settling.{All-at}
use Rattle.net_model.specs.Fits.{IsEndIn}
use Rattle.std.proofs.lemmas.Option.{get_or_from_slice_get}
use Rattle.net_paths.specs.Those.{AreThose, All_seen}
use Rattle.net_paths.proofs.Levelling.{path_decided}
use Rattle.net_paths.proofs.Sifting.{those_taken, those_left_out, those_all}
use Rattle.net_paths.proofs.ends.ends_one_by_one.Goals as goal
use Rattle.net_paths.proofs.ends.ends_one_by_one.Goals.{then-meets_at_end+in_ok-push, else-meets_at_end}

not_both : (b : Bool) → IsTrue b → b ≡ false → ⊥
not_both true t e = absurd (grind arith)
not_both false t e = absurd (grind arith)

pub loop-k-init : goal.loop-k-init
loop-k-init c = subst (AreThose (λ (end : End). HasPath c.args.reach.now.launch.now.design.now c.args.reach.now.launch.now.start.now end c.args.reach.now.launch.now.sets.now) [])
    (sym c.new-found.ensures) All_seen

pub meets_at_end-requires-clause-end : goal.meets_at_end-requires-clause-end
meets_at_end-requires-clause-end c = All-at (IsEndIn c.args.reach.now.launch.now.design.now) c.args.ends.now c.loop-k.k c.at-end.result c.at-end.ensures c.requires.ends

pub loop-k-preserved : goal.loop-k-preserved
loop-k-preserved c =
    let P : End → Type 0 = λ (end : End). HasPath c.args.reach.now.launch.now.design.now c.args.reach.now.launch.now.start.now end c.args.reach.now.launch.now.sets.now in
    let end : End = c.at-end.result in
    let ends : List End = c.args.ends.now in
    let is : get_or ends c.loop-k.k end ≡ end = get_or_from_slice_get ends c.loop-k.k end end c.at-end.ensures in
    let fits = All-at (IsEndIn c.args.reach.now.launch.now.design.now) ends c.loop-k.k end c.at-end.ensures c.requires.ends in
    let here : c.loop-k.k < length ends = omega (arith, c.loop-k-test.true, c.len-k-end.ensures) in
    let decided = path_decided c.args.reach.now.launch.now.design.now c.args.reach.now.launch.now.start.now end c.args.reach.now.launch.now.sets.now c.args.reach.now.cone.now.levels
    c.meets_at_end.result c.requires.reach.launch.sound fits c.requires.reach.levels c.meets_at_end.ensures in
    elim c.if-meets_at_end.branch [
      | then-meets_at_end+in_ok-push w ↦
          let holds : P (get_or ends c.loop-k.k end) = subst P (sym is) (decided.0 w.if-meets_at_end.true) in
          let more : AreThose P (take (c.loop-k.k + 1) ends) (c.loop-k.found ++ get_or ends c.loop-k.k end ∷ []) =
          those_taken P ends c.loop-k.found c.loop-k.k end here holds c.loop-k.invariant in
          let found : c.if-meets_at_end.found ≡ c.loop-k.found ++ get_or ends c.loop-k.k end ∷ [] = w.found-is ∙ w.in_ok-push.ensures.ok
          ∙ ap (λ q. c.loop-k.found ++ q ∷ []) (sym is) in
          subst (AreThose P (take (c.loop-k.k + 1) ends)) (sym found) more
      | else-meets_at_end w ↦
          let not : ¬ P (get_or ends c.loop-k.k end) = λ path. not_both c.meets_at_end.result (decided.1 (subst P is path)) w.if-meets_at_end.false in
          subst (AreThose P (take (c.loop-k.k + 1) ends)) (sym w.found-is) (those_left_out P ends c.loop-k.found c.loop-k.k end here not c.loop-k.invariant)
    ]

pub returns : goal.returns
returns c = those_all (λ (end : End). HasPath c.args.reach.now.launch.now.design.now c.args.reach.now.launch.now.start.now end c.args.reach.now.launch.now.sets.now) c.args.ends.now
    c.loop-k.found c.loop-k.k (omega (arith, c.loop-k-test.false, c.len-k-end.ensures)) c.loop-k.invariant
