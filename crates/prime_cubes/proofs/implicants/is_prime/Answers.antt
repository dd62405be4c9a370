use Rattle.std.proofs.Common.{length, arith, ap, sym, ◌∙◌}
use Rattle.net_model.specs.Form.{value}
use Rattle.net_model.specs.FormLaws.{IsOver-weaker}
use Rattle.net_model.specs.Completions.{value_reads}
use Rattle.net_model.proofs.Members.{In-from_Contains}
use Rattle.query_model.specs.Tables.{constant_cubes}
use Rattle.query_model.proofs.Codings.{from_constant}
use Rattle.prime_cubes.proofs.Freeing.{free_not_prime, none_free_prime, can_free_of, can_free_not}
use Rattle.prime_cubes.proofs.implicants.is_prime.Goals as goal

pub can_free-requires-clause-over : goal.can_free-requires-clause-over
can_free-requires-clause-over c = IsOver-weaker c.args.places 7 c.args.func.now c.requires.few c.requires.over

pub can_free-requires-clause-few : goal.can_free-requires-clause-few
can_free-requires-clause-few c =
    let cell = value c.args.func.now in
    let has = In-from_Contains (constant_cubes cell c.args.places) c.args.cube.now c.requires.constant in
    omega (arith, ap length c.as_slice-fixed.ensures, (from_constant cell c.args.places c.args.cube.now has).len, c.requires.few)

pub returns-then-can_free : goal.returns-then-can_free
returns-then-can_free c =
    let f = c.args.func.now in
    let has = In-from_Contains (constant_cubes (value f) c.args.places) c.args.cube.now c.requires.constant in
    sym (free_not_prime (value f) c.args.places c.loop-place.place c.args.cube.now
    (value_reads 7 f (IsOver-weaker c.args.places 7 f c.requires.few c.requires.over)) has
    (can_free_of (value f) _ _ c.loop-place.place c.as_slice-fixed.ensures (sym c.can_free.ensures ∙ c.if-can_free.true)))

pub returns : goal.returns
returns c =
    let f = c.args.func.now in
    let has = In-from_Contains (constant_cubes (value f) c.args.places) c.args.cube.now c.requires.constant in
    sym (none_free_prime (value f) c.args.places c.args.cube.now c.requires.few
    (value_reads 7 f (IsOver-weaker c.args.places 7 f c.requires.few c.requires.over)) has
    (λ i lt. can_free_not (value f) _ _ i c.as_slice-fixed.ensures (c.loop-place.invariant i (omega (arith, lt, ap length c.as_slice-fixed.ensures)))))
