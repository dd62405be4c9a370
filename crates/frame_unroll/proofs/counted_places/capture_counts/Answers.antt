use Rattle.std.proofs.Common.{◌≡◌, ◌≤◌, ◌∙◌, ℕ, Bool, List, ap, subst, sym}
use Rattle.std.proofs.lemmas.Result.{IfOk-weaker}
use Rattle.net_model.specs.Form.{value, IsOver}
use Rattle.net_model.specs.Cycles.{reg_capture}
use Rattle.frame_unroll.specs.Counting.{marks, AreCounts}
use Rattle.frame_unroll.specs.Counted.{reg_marks}
use Rattle.frame_unroll.proofs.Captured.{capture_few, capture_over}
use Rattle.frame_unroll.proofs.counted_places.capture_counts.Goals as goal

pub counts-requires-clause-few : goal.counts-requires-clause-few
counts-requires-clause-few c = subst (λ (n : ℕ). n ≤ 7) (sym c.capture_places.ensures) (capture_few c.args.reg.now c.requires.few)

pub counts-requires-clause-over : goal.counts-requires-clause-over
counts-requires-clause-over c =
    subst (λ (n : ℕ). IsOver n c.in_ok-func.func) (sym c.capture_places.ensures)
    (capture_over c.args.reg.now c.in_ok-func.func c.requires.over c.in_ok-func.ensures.places c.in_ok-func.ensures.over)

pub returns : goal.returns
returns c =
    let reg = c.args.reg.now in
    let coding = c.args.coding in
    let places = c.capture_places.result in
    let equal : value c.in_ok-func.func ≡ reg_capture reg = λ i pins. c.in_ok-func.ensures.value pins i in
    IfOk-weaker c.counts.result (AreCounts coding (value c.in_ok-func.func) places) (λ (ms : List Bool). ms ≡ reg_marks coding reg)
    (λ ms are. are.are ∙ (ap (λ (cell : (ℕ → Bool) → Bool). marks coding cell places) equal ∙ ap (marks coding (reg_capture reg)) c.capture_places.ensures))
    c.counts.ensures
