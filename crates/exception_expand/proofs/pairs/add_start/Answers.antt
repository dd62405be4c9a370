use Rattle.std.proofs.Common.{map}
use Rattle.std.specs.Prelude.{Result, Ok, Err, OnOk}
use Rattle.net_model.specs.Paths.{HasPath}
use Rattle.net_model.specs.declared.claims.End.{End}
use Rattle.net_paths.proofs.Sifting.{those_map}
use Rattle.exception_expand.specs.Pairs.{IsConnected, pair}
use Rattle.exception_expand.proofs.pairs.add_start.Goals as goal

on_ok : {T E : Type 0} (r : Result T E) {P Q : Type 0} → OnOk r P → (P → Q) → OnOk r Q
on_ok (Ok x) p f = f p
on_ok (Err e) p f = p

pub returns-clause-pairs : goal.returns-clause-pairs
returns-clause-pairs c =
    let d = c.args.route.now.design.now in
    let sets = c.args.route.now.sets.now in
    let start = c.args.start in
    on_ok c.push_pairs.result c.push_pairs.ensures (λ joined. record {
      more = map (pair start) c.in_ok-ends.ends;
      those = those_map (pair start) (λ (end : End). HasPath d start end sets) (IsConnected d sets) c.args.route.now.aims.now.ends.now c.in_ok-ends.ends
          (λ x p. p) (λ x p. p) c.in_ok-ends.ensures.found;
      joined = joined;
    })
