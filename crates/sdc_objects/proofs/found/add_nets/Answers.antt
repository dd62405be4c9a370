use Rattle.std.proofs.Common.{◌∙◌, ap, sym, ◌++◌}
use Rattle.linked_types.specs.declared.names.NetName.{NetName}
use Rattle.sdc_objects.specs.declared.things.Thing.TheVariants as thing
use Rattle.sdc_objects.specs.Things.{net_named}
use Rattle.sdcv_base.specs.Seqs.{each_at}
use Rattle.sdc_objects.specs.Tables.{net_names}
use Rattle.list_laws.proofs.Joining.{added_nothing}
use Rattle.sdc_objects.proofs.Looking.{nothing_matched, one_matched}
use Rattle.sdc_objects.proofs.found.add_nets.Goals as goal

pub returns-in-Nowhere : goal.returns-in-Nowhere
returns-in-Nowhere c =
    let q = c.args.query.now in
    let nets = c.args.scope.now.linked.now.names.nets in
    added_nothing c.args.found.now (each_at (net_named q) 0 nets) (nothing_matched q.pattern q.hier (λ (x : NetName). x.name)
    (λ k (x : NetName). thing.Net x.net) nets (c.in-Nowhere.ensures (net_names nets) c.requires.nets))

pub returns-in_ok-push-in-At : goal.returns-in_ok-push-in-At
returns-in_ok-push-in-At c =
    let q = c.args.query.now in
    let nets = c.args.scope.now.linked.now.names.nets in
    c.in_ok-push-in-At.ensures.ok ∙ ap (λ l. c.args.found.now ++ l)
    (sym (one_matched q.pattern q.hier (λ (x : NetName). x.name) (λ k (x : NetName). thing.Net x.net)
    nets c.in-At.place c.item.result.now c.item.ensures (c.in-At.ensures (net_names nets) c.requires.nets)))
