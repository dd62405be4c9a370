use Rattle.std.proofs.Common.{◌≡◌, ◌-◌, ◌/◌, ◌%◌, ◌^◌, ◌==◌, ◌++◌, [], ◌∷◌, Bool, List, arith, sym, ap, ◌∙◌, append-nil, append_assoc}
use Rattle.verilog_words.specs.Constants.{bits_of}
use Rattle.verilog_words.proofs.ConstantLemmas.{bits_of_first, bits_of_none}
use Rattle.verilog_words.proofs.constants.bits_of.Goals as goal

pub bits-preserved : goal.bits-preserved
bits-preserved c =
    let v = c.args.value in
    let m = c.bits.left - 1 in
    let front = c.bits.bits in
    let first : bits_of c.bits.left v ≡ ((v / 2 ^ m) % 2 == 1) ∷ bits_of m v = bits_of_first c.bits.left m v (omega arith) in
    record {
      within = omega (arith, c.bits.invariant.within);
      told = rw c.in_ok-push.ensures.ok (append_assoc front (((v / 2 ^ m) % 2 == 1) ∷ []) (bits_of m v) ∙ ap (λ (t : List Bool). front ++ t) (sym first)
          ∙ c.bits.invariant.told);
    }

pub returns : goal.returns
returns c =
    let none = bits_of_none c.bits.left c.args.value (omega arith) in
    sym (append-nil c.bits.bits) ∙ ap (λ (t : List Bool). c.bits.bits ++ t) (sym none) ∙ c.bits.invariant.told
