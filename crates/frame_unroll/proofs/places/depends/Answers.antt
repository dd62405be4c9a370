use Rattle.std.proofs.Common.{◌≡◌, ◌∙◌, ◌^◌, ℕ, Bool, ap, sym, arith}
use Rattle.std.specs.List.{list_any}
use Rattle.net_model.specs.Form.{value}
use Rattle.query_model.specs.Keys.{below}
use Rattle.query_model.specs.Tables.{row_bits}
use Rattle.frame_unroll.specs.Counting.{changes}
use Rattle.frame_unroll.proofs.RowBits.{any_found, any_more, pow_within}
use Rattle.frame_unroll.proofs.places.depends.Goals as goal

pub returns-then-changes : goal.returns-then-changes
returns-then-changes c =
    let at : ℕ → Bool = λ w. changes (value c.args.func.now) c.args.place (row_bits c.args.places w) in
    let most = pow_within c.args.places 7 c.requires.few in
    sym (any_found at c.loop-number.number (2 ^ c.args.places) (omega (arith, most)) (sym c.changes.ensures ∙ c.if-changes.true))

pub loop-number-preserved : goal.loop-number-preserved
loop-number-preserved c =
    let at : ℕ → Bool = λ w. changes (value c.args.func.now) c.args.place (row_bits c.args.places w) in
    any_more at c.loop-number.number c.loop-number.invariant (sym c.changes.ensures ∙ c.if-changes.false)

pub returns : goal.returns
returns c =
    let at : ℕ → Bool = λ w. changes (value c.args.func.now) c.args.place (row_bits c.args.places w) in
    let most = pow_within c.args.places 7 c.requires.few in
    let end : c.loop-number.number ≡ 2 ^ c.args.places = omega (arith, most) in
    sym (ap (λ n. list_any at (below n)) (sym end) ∙ c.loop-number.invariant)
