use Rattle.std.proofs.Common.{List, sym, subst, map}
use Rattle.std.specs.Prelude.{IsPermutation}
use Rattle.std.proofs.lemmas.List.Sorted.{IsPermutation-map}
use Rattle.wave_signals.specs.declared.bits.NamedBit.{NamedBit}
use Rattle.wave_signals.specs.Splits.{bit_of}
use Rattle.wave_signals.proofs.groups.ordered.Goals as goal

pub returns : goal.returns
returns c =
    let moved = IsPermutation-map bit_of c.in_ok-split.split.items c.sort_by.new.self.items c.in_ok-sort_by.ensures.permutation in
    let named : IsPermutation c.args.bits.items (map bit_of c.sort_by.new.self.items) =
    subst (λ (bits : List NamedBit). IsPermutation bits (map bit_of c.sort_by.new.self.items)) c.in_ok-split.ensures moved in
    subst (λ (bits : List NamedBit). IsPermutation c.args.bits.items bits) (sym c.in_ok-merged.ensures) named
