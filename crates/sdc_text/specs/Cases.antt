-- Case analyses and variables: set_case_analysis and set (SDC 2.1).
use Rattle.std.specs.Prelude.{ℕ, Bool, true, false, if◌then◌else◌, List, [], ◌∷◌, Option, Some, None, Result, Ok, Err, codes}
use Rattle.std.specs.Str.{bytes_eq}
use Rattle.texts.specs.Rules.{◌>>=◌}
use Rattle.script_types.specs.declared.faults.SdcFault.{SdcFault}
use Rattle.sdc_values.specs.declared.values.Value.{Value}
use Rattle.sdc_values.specs.declared.values.Said.{Said}
use Rattle.sdc_values.specs.Lists.{objects_of}
use Rattle.script_types.specs.declared.scripts.What.{What}
use Rattle.script_types.specs.declared.scripts.What.TheVariants as what
use Rattle.sdc_text.specs.declared.heads.Head.{Head}
use Rattle.sdc_text.specs.Heads.{bad_option, bad_number, lacking, surplus, wanted_text, option_of}

-- the two words of a command that takes two
abbrev pub two_words : Head → List Said → Result (Said × Said) SdcFault
two_words head [] = Err (lacking head)
two_words head (a ∷ []) = Err (lacking head)
two_words head (a ∷ (b ∷ [])) = Ok (a, b)
two_words head (a ∷ (b ∷ (c ∷ more))) = Err (surplus head c.value)

-- the bit that a text is: 0 or zero, 1 or one
unfoldable pub case_bit : List ℕ → Option Bool
case_bit x =
    if bytes_eq x (codes "0") then Some false
    else if bytes_eq x (codes "zero") then Some false
    else if bytes_eq x (codes "1") then Some true
    else if bytes_eq x (codes "one") then Some true
    else None

-- the value of a case analysis
abbrev pub case_value : Head → Value → Result Bool SdcFault
case_value head value = wanted_text head value >>= λ text. elim (case_bit text) [
  | Some bit ↦ Ok bit
  | None ↦ Err (bad_number head text)
]

-- a word where no option may stand
abbrev pub no_option : Head → Said → Result Said SdcFault
no_option head w = elim (option_of w.value) [
  | Some name ↦ Err (bad_option head name)
  | None ↦ Ok w
]

-- what the words of a case analysis say
unfoldable pub case_of : Head → List Said → Result What SdcFault
case_of head words =
    two_words head words >>= λ w. case_value head (w.0).value >>= λ bit.
    no_option head w.1 >>= λ listed. objects_of listed >>= λ objects. Ok (what.Case bit objects)

-- the one word of a command that takes one
abbrev pub one_word : Head → List Said → Result Said SdcFault
one_word head [] = Err (lacking head)
one_word head (a ∷ []) = Ok a
one_word head (a ∷ (b ∷ more)) = Err (surplus head b.value)

-- what the words of set_logic_zero and set_logic_one say: a case analysis of this value
unfoldable pub constant_of : Bool → Head → List Said → Result What SdcFault
constant_of bit head words =
    one_word head words >>= λ w. no_option head w >>= λ listed. objects_of listed >>= λ objects. Ok (what.Case bit objects)

-- the variable that the words of `set` set, and its value
unfoldable pub set_of : Head → List Said → Result (List ℕ × Value) SdcFault
set_of head words = two_words head words >>= λ w. wanted_text head (w.0).value >>= λ name. Ok (name, (w.1).value)
