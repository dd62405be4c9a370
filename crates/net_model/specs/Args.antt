-- The values of the places 0 to 6.
use Rattle.std.specs.Prelude.{ℕ, zero, suc}
use Rattle.net_model.specs.declared.arguments.Args.{Args}

-- the value of a place
abbrev pub arg_at : {V : Type 0} → Args V → ℕ → V
arg_at a zero = a.a0
arg_at a (suc zero) = a.a1
arg_at a (suc (suc zero)) = a.a2
arg_at a (suc (suc (suc zero))) = a.a3
arg_at a (suc (suc (suc (suc zero)))) = a.a4
arg_at a (suc (suc (suc (suc (suc zero))))) = a.a5
arg_at a (suc (suc (suc (suc (suc (suc i)))))) = a.a6
