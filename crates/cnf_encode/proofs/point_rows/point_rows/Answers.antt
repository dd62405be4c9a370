use Rattle.std.proofs.Common.{List, ℕ, Vec, Global, map, subst, sym}
use Rattle.std.proofs.lemmas.Result.{IfOk-weaker}
use Rattle.cnf_encode.specs.Coned.{AreRows}
use Rattle.cnf_encode.specs.Placed.{ArePlaces, AreInOrder}
use Rattle.cnf_encode.proofs.Pushing.{rows_cover}
use Rattle.cnf_encode.proofs.point_rows.point_rows.Goals as goal

pub returns : goal.returns
returns c =
    let Cover : List (List ℕ) → Type 0 = λ rows. (points : List ℕ) (size : ℕ) → ArePlaces points size c.args.places.now
    → AreRows c.args.frames.now points c.args.cycles rows in
    let ordered = subst (λ (found : List (Vec ℕ Global)). (rows : List (List ℕ)) → AreInOrder (map (λ row. row.items) found) rows
    → Cover rows) (sym c.deref.ensures.value)
    (λ rows in_order points size places. rows_cover c.args.frames.now points size c.args.cycles c.args.places.now
    (map (λ row. row.items) c.in_ok-found.found.items) rows places c.in_ok-found.ensures in_order) in
    IfOk-weaker c.all_in_order.result (AreInOrder (map (λ row. row.items) c.deref.result.now))
    Cover ordered c.all_in_order.ensures
