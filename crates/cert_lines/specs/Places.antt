-- The line at a place of a text.
use Rattle.std.specs.Prelude.{◌≡◌, ℕ, ◌+◌, Bool, true, false, List, ◌∷◌, ◌++◌, length, drop}
use Rattle.cert_words.specs.declared.stops.Stop.{Stop}
use Rattle.cert_words.specs.declared.stops.Stop.TheVariants.{Bad, Early, Memory}
use Rattle.cert_lines.specs.declared.faults.Fault.{Fault}
use Rattle.cert_lines.specs.declared.faults.Fault.TheVariants.{Form}
use Rattle.cert_lines.specs.declared.faults.Fault.TheVariants as fault
use Rattle.cert_lines.specs.Texts.{is_inline}

-- the bytes before the first newline, or all, where there is none
abbrev pub IsCutAt : List ℕ → List ℕ → Bool → Type 0
IsCutAt bytes line true = bytes ≡ line
IsCutAt bytes line false = bytes ≡ line ++ 10 ∷ drop (length line + 1) bytes

-- the bytes at a place begin with this line
pub record IsNextLine (bytes : List ℕ) (place : ℕ) (line : List ℕ) (cut : Bool) (at end : ℕ) : Type 0 where
  pub plain : is_inline line ≡ true
  pub is : IsCutAt bytes line cut
  pub stands : at ≡ place
  pub ends : end ≡ place + length bytes

abbrev pub fault_of : ℕ → ℕ → Stop → Fault
fault_of at end Bad = Form at
fault_of at end Early = Form end
fault_of at end Memory = fault.Memory
