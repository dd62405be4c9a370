use Rattle.std.proofs.Common.{◌≡◌, ◌∷◌, ◌+◌, ◌∙◌, ap, List, drop, get_or, arith}
use Rattle.std.proofs.lemmas.List.{drop_more}
use Rattle.net_model.specs.declared.terns.Tern.{Tern}
use Rattle.net_model.specs.declared.terns.Tern.TheVariants.{Zero, Unknown}
use Rattle.cnf_encode.specs.Chosen.{chosen}
use Rattle.cnf_encode.proofs.Choosing.{zero_more, one_more, unknown_more}
use Rattle.cnf_encode.proofs.chosen_lits.cube_lits.Goals as goal
use Rattle.cnf_encode.proofs.chosen_lits.cube_lits.Goals.{in-Zero+in_ok-push-in-Zero, in-One+in_ok-push-in-One, in-Unknown}

pub loop-i-preserved : goal.loop-i-preserved
loop-i-preserved c =
    let i = c.loop-i.i in
    let begins = drop_more c.args.fixed.now i Zero c.loop-i-test.true in
    let later : List Tern = drop (i + 1) c.args.fixed.now in
    let whole = chosen c.args.zeros.now c.args.ones.now c.args.fixed.now in
    elim c.match-fixed-i.branch [
      | in-Zero+in_ok-push-in-Zero w ↦
          let kept = zero_more c.loop-i.lits.items c.args.zeros.now c.args.ones.now whole (drop i c.args.fixed.now) later i w.index-zeros-i.result
          (omega arith) c.requires.ones w.index-zeros-i.is (begins ∙ ap (λ (t : Tern). t ∷ later) w.in-Zero.is) c.loop-i.invariant in
          let q = w.in_ok-push-in-Zero.ensures.ok in cc
      | in-One+in_ok-push-in-One w ↦
          let kept = one_more c.loop-i.lits.items c.args.zeros.now c.args.ones.now whole (drop i c.args.fixed.now) later i w.index-ones-i.result
          (omega arith) c.requires.ones w.index-ones-i.is (begins ∙ ap (λ (t : Tern). t ∷ later) w.in-One.is) c.loop-i.invariant in
          let q = w.in_ok-push-in-One.ensures.ok in cc
      | in-Unknown w ↦
          let free : get_or c.args.fixed.now i Zero ≡ Unknown = w.in-Unknown.is in
          let kept = unknown_more c.loop-i.lits.items c.args.zeros.now c.args.ones.now whole (drop i c.args.fixed.now) later i
          (omega arith) c.requires.ones (begins ∙ ap (λ (t : Tern). t ∷ later) free) c.loop-i.invariant in
          cc
    ]
