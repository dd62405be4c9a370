use Rattle.std.proofs.Common.{◌∙◌, not, ap, cond, nat_eq}
use Rattle.net_model.specs.Form.{value, xor}
use Rattle.net_model.specs.Args.{arg_at}
use Rattle.net_model.specs.FormLaws.{IsOver-weaker}
use Rattle.frame_unroll.proofs.RowBits.{changed, apart_is}
use Rattle.frame_unroll.proofs.places.changes.Goals as goal

pub apply-requires : goal.apply-requires
apply-requires c = IsOver-weaker c.args.places 7 c.args.func.now c.requires.few c.requires.over

pub apply-requires-2 : goal.apply-requires-2
apply-requires-2 c = IsOver-weaker c.args.places 7 c.args.func.now c.requires.few c.requires.over

pub returns : goal.returns
returns c =
    let f = c.args.func.now in
    apart_is c.apply.result c.apply-2.result
    ∙ ap (λ b. xor b c.apply-2.result) c.apply.ensures
    ∙ ap (λ b. xor (value f (arg_at c.row-bits.result)) b) c.apply-2.ensures
    ∙ changed f c.args.places c.args.number c.args.place (arg_at c.row-bits.result) (arg_at c.set.new.self) c.requires.few
    c.requires.over c.requires.place c.row-bits.ensures
    (λ j lt. c.set.ensures j lt ∙ ap (λ b. cond (nat_eq j c.args.place) (not b) (arg_at c.row-bits.result j)) c.at.ensures)
