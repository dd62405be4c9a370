use Rattle.std.proofs.Common.{◌≡◌, ℕ, List, false}
use Rattle.std.proofs.lemmas.List.Elements.{All-map}
use Rattle.cell_types.specs.declared.libraries.CombOut.{CombOut}
use Rattle.cell_types.specs.declared.libraries.FlopOut.{FlopOut}
use Rattle.link_items.specs.Pins.{is_tied}
use Rattle.link_items.proofs.cell_checks.tied_out.Goals as goal

pub returns-in-None-clause-none : goal.returns-in-None-clause-none
returns-in-None-clause-none c =
    rw c.in-Comb.is (All-map (λ (pin : List ℕ). is_tied c.args.conns.now pin ≡ false) (λ (o : CombOut). o.name) c.in-Comb.outs c.in-None.ensures.none)

pub returns-in-None-tied_flop_out-clause-none : goal.returns-in-None-tied_flop_out-clause-none
returns-in-None-tied_flop_out-clause-none c =
    rw c.in-Flop.is (All-map (λ (pin : List ℕ). is_tied c.args.conns.now pin ≡ false) (λ (o : FlopOut). o.name) c.in-Flop.flop.outs
    c.in-None-tied_flop_out.ensures.none)
