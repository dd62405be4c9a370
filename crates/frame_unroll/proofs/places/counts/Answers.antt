use Rattle.std.proofs.Common.{◌≡◌, List, Bool, true, map, subst, sym}
use Rattle.std.specs.Prelude.{IfOk, replicate}
use Rattle.std.proofs.lemmas.Result.{IfOk-weaker}
use Rattle.net_model.specs.Form.{value}
use Rattle.query_model.specs.Keys.{below}
use Rattle.query_model.specs.declared.keys.Coding.{Coding}
use Rattle.query_model.specs.declared.keys.Coding.TheVariants.{Rows, Primes}
use Rattle.frame_unroll.specs.Counting.{AreCounts, depends}
use Rattle.frame_unroll.proofs.Marks.{are_counts}
use Rattle.frame_unroll.proofs.places.counts.Goals as goal

pub returns-in-Rows : goal.returns-in-Rows
returns-in-Rows c =
    let cell = value c.args.func.now in
    let places = c.args.places in
    subst (λ (coding : Coding). IfOk c.filled.result (AreCounts coding cell places)) (sym c.in-Rows.is)
    (IfOk-weaker c.filled.result (λ (s : List Bool). s ≡ replicate places true) (AreCounts Rows cell places) (λ s is. are_counts Rows cell places s is)
    c.filled.ensures.all)

pub returns-in-Primes : goal.returns-in-Primes
returns-in-Primes c =
    let cell = value c.args.func.now in
    let places = c.args.places in
    subst (λ (coding : Coding). IfOk c.dependences.result (AreCounts coding cell places)) (sym c.in-Primes.is)
    (IfOk-weaker c.dependences.result (λ (s : List Bool). s ≡ map (depends cell places) (below places)) (AreCounts Primes cell places)
    (λ s is. are_counts Primes cell places s is) c.dependences.ensures)
