use Rattle.std.proofs.Common.{arith, ◌+◌, ◌<◌, ◌∙◌, ℕ, length, Contains, sym, subst}
use Rattle.inv_candidates.specs.Leading.{ShowsMark}
use Rattle.inv_candidates.specs.Levels.{IsGrown}
use Rattle.inv_candidates.proofs.Growing.{grown_none, grown_push, grown_skip, grown_end, said_true, said_false}
use Rattle.inv_candidates.proofs.Leading.{shows_in_range}
use Rattle.inv_candidates.proofs.levels.add_marked.Goals as goal
use Rattle.inv_candidates.proofs.levels.add_marked.Goals.{then-is_next+in_ok-push, else-is_next}

pub loop-reg-init : goal.loop-reg-init
loop-reg-init c = grown_none (ShowsMark c.args.design.now c.args.marks.now) c.args.group.now c.requires.few

pub loop-reg-preserved : goal.loop-reg-preserved
loop-reg-preserved c =
    let Holds : ℕ → Type 0 = ShowsMark c.args.design.now c.args.marks.now in
    let old = c.args.group.now in
    let now = c.loop-reg.group in
    let k = c.loop-reg.reg in
    elim c.if-is_next.branch [
      | then-is_next+in_ok-push w ↦
          let (short, holds, fresh) = said_true ((length now < 16) × Holds k × ¬ Contains now k) (length now < 16 → Holds k → Contains now k) c.is_next.result
          c.is_next.ensures w.if-is_next.true in
          subst (IsGrown (λ r. (r < k + 1) × Holds r) old) (sym (w.group-is ∙ w.in_ok-push.ensures.ok))
          (grown_push Holds k old now short holds fresh c.loop-reg.invariant)
      | else-is_next w ↦
          let there = said_false ((length now < 16) × Holds k × ¬ Contains now k) (length now < 16 → Holds k → Contains now k) c.is_next.result
          c.is_next.ensures w.if-is_next.false in
          subst (IsGrown (λ r. (r < k + 1) × Holds r) old) (sym w.group-is) (grown_skip Holds k old now there c.loop-reg.invariant)
    ]

pub returns : goal.returns
returns c =
    let d = c.args.design.now in
    let marks = c.args.marks.now in
    grown_end (ShowsMark d marks) c.loop-reg.reg c.args.group.now c.loop-reg.group
    (λ r shows. let low = shows_in_range d marks r shows in omega (arith, low, c.loop-reg-test.false, c.len-reg-end.ensures)) c.loop-reg.invariant
