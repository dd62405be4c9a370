use Rattle.std.proofs.Common.{◌≡◌, ◌+◌, ◌∙◌, ap, arith, false, length, length-set, List, set, subst, sym}
use Rattle.std.proofs.lemmas.Option.{get_or_from_slice_get}
use Rattle.rand_pcg.specs.Lcg.{Lcg}
use Rattle.net_model.specs.declared.lane_words.Lanes.{Lanes}
use Rattle.net_model.specs.Held.{is_held, free_below}
use Rattle.drawn_runs.specs.Inputs.{AreDrawnTo}
use Rattle.drawn_runs.proofs.Filling.{drawn_none, drawn_more, drawn_passed}
use Rattle.drawn_runs.proofs.inputs.put_free.Goals as goal
use Rattle.drawn_runs.proofs.inputs.put_free.Goals.{then-not-held, else-not-held}

pub loop-input-init : goal.loop-input-init
loop-input-init c = record {
  len = c.requires.len;
  drawn = λ base at. drawn_none c.args.design.now base c.args.ins.now c.args.rng.now at;
}

pub loop-input-preserved : goal.loop-input-preserved
loop-input-preserved c =
    let d = c.args.design.now in
    let k = c.loop-input.input in
    let ins = c.loop-input.ins in
    let mark : is_held d k ≡ c.at-held.result = sym (c.requires.marks.each k (omega arith)) ∙
    get_or_from_slice_get c.args.marks.now k c.at-held.result false c.at-held.ensures in
    elim c.if-not-held.branch [
      | then-not-held w ↦ record {
        len = ap length w.ins-is ∙ (ap length w.put.ensures ∙ (length-set ins k w.draw-word.result ∙ c.loop-input.invariant.len));
        drawn = λ base at.
            let done = c.loop-input.invariant.drawn base at in
            let made : AreDrawnTo d base (set ins k w.draw-word.result) (k + 1) w.draw-word.new.rng =
            drawn_more d base ins c.loop-input.rng w.draw-word.new.rng k w.draw-word.result (omega (arith, c.loop-input.invariant.len))
            (mark ∙ w.if-not-held.true) (w.draw-word.ensures.word (base + free_below d k) done.next)
            (w.draw-word.ensures.next (base + free_below d k) done.next) done in
            subst (λ (xs : List Lanes). AreDrawnTo d base xs (k + 1) c.if-not-held.rng) (sym (w.ins-is ∙ w.put.ensures))
            (subst (λ (g : Lcg). AreDrawnTo d base (set ins k w.draw-word.result) (k + 1) g) (sym w.rng-is) made);
      }
      | else-not-held w ↦ record {
        len = ap length w.ins-is ∙ c.loop-input.invariant.len;
        drawn = λ base at.
            let done = drawn_passed d base ins c.loop-input.rng k (mark ∙ w.if-not-held.false) (c.loop-input.invariant.drawn base at) in
            subst (λ (xs : List Lanes). AreDrawnTo d base xs (k + 1) c.if-not-held.rng) (sym w.ins-is)
            (subst (λ (g : Lcg). AreDrawnTo d base ins (k + 1) g) (sym w.rng-is) done);
      }
    ]
