use Rattle.std.proofs.Common.{refl}
use Rattle.link_items.proofs.Searching.{among_in, in_among, not_both}
use Rattle.texts.specs.Names.{is_among}
use Rattle.net_link.proofs.Placing.{absent_by, there_by}
use Rattle.net_link.proofs.ports.check_among.Goals as goal

pub returns-then-not-contains-clause-err : goal.returns-then-not-contains-clause-err
returns-then-not-contains-clause-err c = λ outs.
    let n = c.args.name.now in
    rw c.in_ok-copy.ensures (
      refl,
      λ there. not_both (is_among n c.args.inputs.now) (in_among n c.args.inputs.now there)
          (absent_by c.contains.result (is_among n c.args.inputs.now) c.contains.ensures c.if-not-contains.true),
    )

pub returns-clause-ok : goal.returns-clause-ok
returns-clause-ok c =
    let n = c.args.name.now in
    among_in n c.args.inputs.now (there_by c.contains.result (is_among n c.args.inputs.now) c.contains.ensures c.if-not-contains.false)
