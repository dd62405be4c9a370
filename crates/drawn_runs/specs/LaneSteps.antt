-- What the controls of a register choose.
use Rattle.std.specs.Prelude.{Bool, true, false, ◌&&◌, if◌then◌else◌}

-- where clear and preset are both 1 the stated value, else 0 where clear is 1, else 1 where preset is 1, else the next state
abbrev pub controlled : Bool → Bool → Bool → Bool → Bool
controlled clear preset stated next =
    if clear && preset then stated else (if clear then false else (if preset then true else next))
