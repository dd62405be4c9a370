use Rattle.std.proofs.Common.{sym, ◌∙◌}
use Rattle.cell_types.specs.declared.libraries.CombOut.{CombOut}
use Rattle.link_defs.specs.Parts.{is_buffer_form}
use Rattle.link_items.proofs.Listing.{all_next, not_all}
use Rattle.link_items.proofs.cells.are_buffers.Goals as goal

pub returns-then-not-is_buffer_func : goal.returns-then-not-is_buffer_func
returns-then-not-is_buffer_func c =
    sym (not_all (λ (o : CombOut). is_buffer_form o.func) c.args.outs.now c.loop-k.k c.item.result.now c.item.ensures (sym c.is_buffer_func.ensures ∙
    c.if-not-is_buffer_func.true))

pub loop-k-preserved : goal.loop-k-preserved
loop-k-preserved c =
    all_next (λ (o : CombOut). is_buffer_form o.func) c.args.outs.now c.loop-k.k c.item.result.now c.item.ensures c.loop-k.invariant
    (sym c.is_buffer_func.ensures ∙ c.if-not-is_buffer_func.false)
