-- What the calls of a host do to what it tells.
use Rattle.std.specs.Prelude.{◌≡◌, ◌⊎◌, ℕ, ◌-◌, ◌^◌, ◌<◌, ◌≤◌, List, [], ◌∷◌, ◌++◌, length, take, Option, None, Some, IfSome, Result, Ok, Err, Vec}
use Rattle.std.specs.Option.{option_map}
use Rattle.std.specs.declared.alloc.Global.{Global}
use Rattle.sdcv_base.specs.declared.hosts.ReadFault.{ReadFault}
use Rattle.sdcv_base.specs.declared.hosts.ReadFault.TheVariants as read
use Rattle.sdcv_base.specs.declared.hosts.HostFault.{HostFault}

-- what each name holds
abbrev pub Files : Type 0
Files = List ℕ → Option (List ℕ)

-- what is told, with more at its end
abbrev pub grown : {A : Type 0} → Option (List A) → List A → Option (List A)
grown told more = option_map (λ xs. xs ++ more) told

-- the count rose: it is larger, or at its last value
abbrev pub Rose : ℕ → ℕ → Type 0
Rose before now = (before < now) ⊎ (now ≡ 2 ^ 64 - 1)

-- the count after a call that failed
pub record CountsOne (before now : ℕ) : Type 0 where
  pub no_less : before ≤ now
  pub rose : Rose before now

-- the count grows in a call that answers Failed, and in no other
abbrev pub Counts : {T : Type 0} → ℕ → ℕ → Result T HostFault → Type 0
Counts before now (Ok _) = now ≡ before
Counts before now (Err _) = CountsOne before now

abbrev pub ReadCounts : {T : Type 0} → ℕ → ℕ → Result T ReadFault → Type 0
ReadCounts before now (Ok _) = now ≡ before
ReadCounts before now (Err read.Failed) = CountsOne before now
ReadCounts before now (Err read.TooLong) = now ≡ before
ReadCounts before now (Err read.Memory) = now ≡ before

-- the file is there, and longer
abbrev pub IsLonger : Option (List ℕ) → ℕ → Type 0
IsLonger None limit = ⊥
IsLonger (Some bytes) limit = limit < length bytes

-- what a read of a name answers: a name that is not there is never Ok and never too long
abbrev pub Reads : Option Files → List ℕ → ℕ → Result (Vec ℕ Global) ReadFault → Type 0
Reads files name limit (Ok bytes) = IfSome files (λ f. f name ≡ Some bytes.items) × (length bytes.items ≤ limit)
Reads files name limit (Err read.Failed) = Unit {0}
Reads files name limit (Err read.TooLong) = IfSome files (λ f. IsLonger (f name) limit)
Reads files name limit (Err read.Memory) = Unit {0}

-- the names asked for, after a read
abbrev pub asked_by : {T : Type 0} → Option (List (List ℕ)) → List ℕ → Result T ReadFault → Option (List (List ℕ))
asked_by asked name (Ok _) = grown asked (name ∷ [])
asked_by asked name (Err read.Failed) = grown asked (name ∷ [])
asked_by asked name (Err read.TooLong) = grown asked (name ∷ [])
asked_by asked name (Err read.Memory) = asked

-- the whole piece is printed, or the call failed and the front of it is
abbrev pub Prints : {T : Type 0} → Option (List ℕ) → Option (List ℕ) → List ℕ → Result T HostFault → Type 0
Prints old new piece (Ok _) = new ≡ grown old piece
Prints old new piece (Err _) = (n : ℕ) × (new ≡ grown old (take n piece))

-- what is saved, after a save
abbrev pub saved_by : {T : Type 0} → Option (List (List ℕ × List ℕ)) → List ℕ → List ℕ → Result T HostFault → Option (List (List ℕ × List ℕ))
saved_by saved name bytes (Ok _) = grown saved ((name, bytes) ∷ [])
saved_by saved name bytes (Err _) = saved
