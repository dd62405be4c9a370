use Rattle.std.proofs.Common.{ℕ, List, refl, sym, subst, arith}
use Rattle.assist_text.specs.Registers.{IsRegNamed}
use Rattle.assist_text.proofs.names.literal.Goals as goal

pub returns-in_default-clause-err : goal.returns-in_default-clause-err
returns-in_default-clause-err c =
    λ cells is. (
      refl,
      (
        c.args.setting.now,
        (0, omega arith, refl),
        sym c.in_ok-copy.ensures,
        subst (λ (n : List ℕ). (reg : ℕ) → ¬ IsRegNamed cells n reg) (sym c.in_ok-copy.ensures) (c.in_default.ensures cells is),
      ),
    )
