-- A host in memory, whose failures are planned.
use Rattle.std.specs.Prelude.{◌≡◌, ◌⊎◌, ℕ, ◌+◌, ◌-◌, ◌^◌, ◌≤◌, min, Bool, true, false, ◌||◌, ◌==◌, if◌then◌else◌, nat_lt, nat_eq, List, [], ◌∷◌, ◌++◌}
use Rattle.std.specs.Prelude.{length, take, find, Option, None, Some, is_some, Result, Ok, Err, Vec}
use Rattle.std.specs.Option.{option_map}
use Rattle.std.specs.Cmp.Lexicographic.{pointwise}
use Rattle.std.specs.declared.alloc.Global.{Global}
use Rattle.sdcv_base.specs.declared.hosts.ReadFault.{ReadFault}
use Rattle.sdcv_base.specs.declared.hosts.ReadFault.TheVariants as read
use Rattle.sdcv_base.specs.declared.hosts.HostFault.{HostFault}
use Rattle.sdcv_base.specs.declared.mem_hosts.FileRec.{FileRec}
use Rattle.sdcv_base.specs.declared.mem_hosts.Fail.{Fail}
use Rattle.sdcv_base.specs.Hosts.{IsLonger}

pub record MemState : Type 0 where
  pub files : List FileRec
  pub fails : List Fail
  pub room : ℕ
  -- the number of the last call
  pub calls : ℕ
  pub asked : List (List ℕ)
  pub printed : List ℕ
  pub saved : List FileRec
  pub faults : ℕ

abbrev pub new_state : List FileRec → List Fail → ℕ → MemState
new_state files fails room = record { files = files; fails = fails; room = room; calls = 0; asked = []; printed = []; saved = []; faults = 0 }

-- one more, up to the last value
abbrev pub bumped : ℕ → ℕ
bumped n = if n == 2 ^ 64 - 1 then n else n + 1

-- how much a call of this number prints before it fails, where it is planned to fail
abbrev pub planned : List Fail → ℕ → Option ℕ
planned fails call = option_map (λ f. f.taken) (find (λ f. f.call == call) fails)

abbrev pub file_of : FileRec → List ℕ × List ℕ
file_of file = (file.name, file.bytes.items)

-- what the first file of that name holds
abbrev pub file_named : List FileRec → List ℕ → Option (List ℕ)
file_named [] name = None
file_named (file ∷ rest) name = if pointwise nat_eq file.name name then Some file.bytes.items else file_named rest name

-- what a read answers, for what the name holds and a plan to fail
abbrev pub LooksUp : Option (List ℕ) → Bool → ℕ → Result (Vec ℕ Global) ReadFault → Type 0
LooksUp held is_planned limit (Ok bytes) = (is_planned ≡ false) × (held ≡ Some bytes.items) × (length bytes.items ≤ limit)
LooksUp held is_planned limit (Err read.Failed) = (is_planned ≡ true) ⊎ (held ≡ None)
LooksUp held is_planned limit (Err read.TooLong) = (is_planned ≡ false) × IsLonger held limit
LooksUp held is_planned limit (Err read.Memory) = Unit {0}

-- the host after a read
abbrev pub mem_read : {T : Type 0} → MemState → List ℕ → Result T ReadFault → MemState
mem_read m name (Ok _) = record m { calls = bumped m.calls; asked = m.asked ++ name ∷ [] }
mem_read m name (Err read.Failed) = record m { calls = bumped m.calls; asked = m.asked ++ name ∷ []; faults = bumped m.faults }
mem_read m name (Err read.TooLong) = record m { calls = bumped m.calls; asked = m.asked ++ name ∷ [] }
mem_read m name (Err read.Memory) = record m { calls = bumped m.calls }

-- what is printed of a piece, with room for so many bytes: all of it, or for want of room nothing, or a planned part
abbrev pub printed_part : Option ℕ → ℕ → List ℕ → List ℕ
printed_part (Some taken) left piece = take (min taken left) piece
printed_part None left piece = if nat_lt left (length piece) then [] else piece

abbrev pub print_fails : MemState → List ℕ → Bool
print_fails m piece = is_some (planned m.fails (bumped m.calls)) || nat_lt (m.room - length m.printed) (length piece)

-- the host after a print
abbrev pub mem_print : MemState → List ℕ → MemState
mem_print m piece = record m {
  calls = bumped m.calls;
  printed = m.printed ++ printed_part (planned m.fails (bumped m.calls)) (m.room - length m.printed) piece;
  faults = if print_fails m piece then bumped m.faults else m.faults;
}

abbrev pub save_fails : MemState → List ℕ → List ℕ → Bool
save_fails m name bytes =
    is_some (planned m.fails (bumped m.calls)) || nat_lt 0 (length m.saved) || nat_lt 4096 (length name) || nat_lt m.room (length bytes)

-- the host after a save
abbrev pub MemSaves : {T : Type 0} → MemState → List ℕ → List ℕ → Result T HostFault → MemState → Type 0
MemSaves old name bytes (Ok _) new = (file : FileRec) × (file_of file ≡ (name, bytes))
    × (new ≡ record old { calls = bumped old.calls; saved = old.saved ++ file ∷ [] })
MemSaves old name bytes (Err _) new = new ≡ record old { calls = bumped old.calls; faults = bumped old.faults }
