use Rattle.std.proofs.Common.{◌<◌, ◌∙◌, List, Bool, false, ap, arith, length, subst, sym}
use Rattle.net_model.specs.Layers.{row_at, net_at}
use Rattle.frame_unroll.proofs.Moving.{net_listed, net_in_row, length-rows_of}
use Rattle.frame_unroll.proofs.moved_nets.MovedNets.has.Goals as goal

pub returns : goal.returns
returns c =
    let count = c.self.inside.nets in
    let layers = c.self.inside.layers.items in
    let l = c.args.layer in
    let n = c.args.net in
    let within : l < length layers = let len = length-rows_of count layers in let same = ap (length {A = List Bool}) c.self.view_is in
    omega (arith, c.requires.layer) in
    let low = net_in_row count layers l n c.index.result.now within c.index.ensures
    (subst (λ (rows : List (List Bool)). n < length (row_at rows l)) (sym c.self.view_is) c.requires.net) in
    c.contains.ensures ∙ (sym (net_listed count layers l n c.index.result.now within c.index.ensures low)
    ∙ ap (λ (rows : List (List Bool)). net_at false rows l n) c.self.view_is)
