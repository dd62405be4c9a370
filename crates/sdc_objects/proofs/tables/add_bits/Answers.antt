use Rattle.std.proofs.Common.{◌∙◌, List, ℕ, take, sym, ap, flat_map}
use Rattle.std.proofs.lemmas.List.Sums.{fold-append}
use Rattle.texts.specs.Names.{with_name, with_names}
use Rattle.sdc_objects.specs.Tables.{bit_names}
use Rattle.list_laws.proofs.Joining.{flat_next}
use Rattle.sdc_objects.proofs.tables.add_bits.Goals as goal

pub loop-k-preserved : goal.loop-k-preserved
loop-k-preserved c =
    let names : List (List ℕ) = flat_map bit_names (take c.loop-k.k c.args.ports.now) in
    let more : List (List ℕ) = bit_names c.item.result.now in
    c.in_ok-add_bit.ensures ∙ ap (λ (t : List (List ℕ)). with_names t more) c.loop-k.invariant ∙ sym (fold-append with_name c.args.table.now names more)
    ∙ ap (λ (l : List (List ℕ)). with_names c.args.table.now l) (sym (flat_next bit_names c.args.ports.now c.loop-k.k c.item.result.now c.item.ensures))
