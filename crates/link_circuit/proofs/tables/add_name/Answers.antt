use Rattle.std.proofs.Common.{◌≡◌, arith, refl, ◌∙◌, inl, inr}
use Rattle.link_circuit.proofs.Tabled.{found_place, absent_at}
use Rattle.link_circuit.proofs.tables.add_name.Goals as goal

pub returns-then-at-one-clause-ok : goal.returns-then-at-one-clause-ok
returns-then-at-one-clause-ok c =
    let same : c.at.result ≡ c.args.one.now.net = (let h = c.if-at-one.true in omega arith) in
    inl (
      (
        c.place-place.result,
        found_place c.args.one.now.name c.args.names.now c.place-place.result c.place-place.ensures (omega arith),
        rw same at c.at.ensures,
      ),
      refl,
      refl,
    )

pub returns-then-place-len-clause-err : goal.returns-then-place-len-clause-err
returns-then-place-len-clause-err c = (
  c.in_ok-copy.ensures,
  (
    c.at.result,
    (
      c.place-place.result,
      found_place c.args.one.now.name c.args.names.now c.place-place.result
          c.place-place.ensures (omega arith),
      c.at.ensures,
    ),
    λ same. let h = c.if-at-one.false in omega arith,
  ),
)

pub returns-clause-ok : goal.returns-clause-ok
returns-clause-ok c =
    let fresh = absent_at c.args.one.now.name c.args.names.now (let h = c.if-place-len.false in omega (arith, c.place-place.ensures)) in
    inr (fresh, c.in_ok-add.ensures.ok ∙ rw fresh refl, c.in_ok-push.ensures.ok)
