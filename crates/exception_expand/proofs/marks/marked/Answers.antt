use Rattle.std.proofs.Common.{arith, ◌≡◌, ◌∙◌, sym, ap, ℕ, ◌+◌, Bool, true, false, List, [], ◌++◌, take, append-nil}
use Rattle.std.specs.Prelude.{slice_get, Some}
use Rattle.std.proofs.lemmas.Option.{get_or_from_slice_get}
use Rattle.sdcv_base.specs.Seqs.{each_at, where_true}
use Rattle.exception_expand.specs.Points.{has_mark}
use Rattle.list_laws.proofs.Joining.{added, item_at}
use Rattle.exception_expand.proofs.marks.marked.Goals as goal
use Rattle.exception_expand.proofs.marks.marked.Goals.{then-at+in_ok-push, else-at}

with_mark : {A : Type 0} (marks : List Bool) (all found new : List A) (k : ℕ) (x : A) (b : Bool) → slice_get all k ≡ Some x → slice_get marks k ≡ Some b
    → found ≡ each_at (λ i (y : A). where_true (has_mark marks i) y) 0 (take k all) → new ≡ found ++ where_true b x
    → new ≡ each_at (λ i (y : A). where_true (has_mark marks i) y) 0 (take (k + 1) all)
with_mark {A} marks all found new k x b here mark before turn =
    added (λ i (y : A). where_true (has_mark marks i) y) all [] found new k x here before
    (turn ∙ ap (λ (t : Bool). found ++ where_true t x) (sym (get_or_from_slice_get marks k b false mark)))

pub loop-k-preserved : goal.loop-k-preserved
loop-k-preserved g c =
    elim c.if-at.branch [
      | then-at+in_ok-push w ↦
          with_mark c.args.marks.now c.args.all.now c.loop-k.found c.if-at.found c.loop-k.k w.at-then-at.result true w.at-then-at.ensures
          (c.at.ensures ∙ ap (λ (b : Bool). Some b) w.if-at.true) c.loop-k.invariant (w.found-is ∙ w.in_ok-push.ensures.ok)
      | else-at w ↦
          let (x, here) = item_at c.args.all.now c.loop-k.k (omega (arith, c.loop-k-test.true, c.len-k-end.ensures)) in
          with_mark c.args.marks.now c.args.all.now c.loop-k.found c.if-at.found c.loop-k.k x false here
          (c.at.ensures ∙ ap (λ (b : Bool). Some b) w.if-at.false) c.loop-k.invariant (w.found-is ∙ sym (append-nil c.loop-k.found))
    ]
