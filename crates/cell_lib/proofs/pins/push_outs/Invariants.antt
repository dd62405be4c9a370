use Rattle.std.proofs.Common.{◌≡◌, ◌++◌, map, take}
use Rattle.lib_words.specs.declared.kinds.AttributeKind.TheVariants.{Function}
use Rattle.cell_lib.specs.Values.{expr_of}
use Rattle.cell_lib.proofs.pins.push_outs.Given as goal

abbrev pub invariant-loop-name : goal.invariant-loop-name
invariant-loop-name l = l.found ≡ l.fn.found ++ map (λ n. record { name = n; func = expr_of Function l.part.attributes }) (take l.name-index l.name-items)
