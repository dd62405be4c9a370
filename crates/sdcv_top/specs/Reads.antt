-- The texts that a run reads.
use Rattle.std.specs.Prelude.{◌≡◌, ◌≤◌, ℕ, ◌-◌, ◌^◌, Bool, true, false, List, [], ◌∷◌, ◌++◌, length, take, map, codes, Option, None, Some, IfSome}
use Rattle.std.specs.Str.{bytes_eq}
use Rattle.sdcv_base.specs.Hosts.{Files, IsLonger}
use Rattle.sdcv_words.specs.Commands.{Texts, Job, Verify, Check, Replay, Aiger, Command, Over, Detect, Mend, Demo}

-- a file that may be read, and the most bytes that it may have
pub record ReadOf : Type 0 where
  pub name : List ℕ
  pub limit : ℕ

-- what a read answered: the bytes of the file, or that it is longer than its limit
pub data Got : Type 0 where
  Text : List ℕ → Got
  Longer : Got

-- the limit of a netlist, of cells and of constraints, in bytes
abbrev pub longest : ℕ
longest = 67108864

-- a text of that name
abbrev pub text_of : List ℕ → ReadOf
text_of name = record { name = name; limit = longest }

-- a certificate or a report of that name, of any length
abbrev pub whole_of : List ℕ → ReadOf
whole_of name = record { name = name; limit = 2 ^ 64 - 1 }

-- the cells that are known without a file
abbrev pub is_builtin : List ℕ → Bool
is_builtin name = bytes_eq name (codes "builtin")

-- the file of the cells, where one is read
abbrev pub cell_reads_if : Bool → List ℕ → List ReadOf
cell_reads_if true name = []
cell_reads_if false name = text_of name ∷ []

unfoldable pub cell_reads : List ℕ → List ReadOf
cell_reads name = cell_reads_if (is_builtin name) name

-- the assisting text, where one is named
abbrev pub assist_reads : Option (List ℕ) → List ReadOf
assist_reads None = []
assist_reads (Some name) = text_of name ∷ []

-- what is read for a job, once pairs are selected
abbrev pub job_reads : Job → List ReadOf
job_reads (Verify out json proving assist) = assist_reads assist
job_reads (Check cert) = whole_of cert ∷ []
job_reads (Replay report pair) = whole_of report ∷ []
job_reads (Aiger out pair symbols) = []

-- a netlist, its cells and its constraints, and then more
unfoldable pub text_reads : Texts → List ReadOf → List ReadOf
text_reads names more = text_of names.netlist ∷ (cell_reads names.cells ++ (text_of names.constraints ∷ more))

-- the files that a command reads, in order
abbrev pub reads_of : Option Command → List ReadOf
reads_of None = []
reads_of (Some (Over texts options job)) = text_reads texts (job_reads job)
reads_of (Some (Detect texts options finding)) = text_reads texts []
reads_of (Some (Mend texts options mending)) = text_reads texts (assist_reads mending.assist)
reads_of (Some (Demo seed size)) = []

-- a read answered with no more than the limit, and where the host tells its files, with what the name holds
abbrev pub IsTold : Option Files → ReadOf → Got → Type 0
IsTold files file (Text bytes) = (length bytes ≤ file.limit) × IfSome files (λ f. f file.name ≡ Some bytes)
IsTold files file Longer = IfSome files (λ f. IsLonger (f file.name) file.limit)

-- the first of the files were read, one read for each answer
abbrev pub AreTold : Option Files → List ReadOf → List Got → Type 0
AreTold files reads_of [] = Unit {0}
AreTold files [] (got ∷ rest) = ⊥
AreTold files (file ∷ reads_of) (got ∷ rest) = IsTold files file got × AreTold files reads_of rest

-- the names that were asked for, where the host tells them
abbrev pub Asked : Type 0
Asked = Option (List (List ℕ))

-- the names of the first files, in order
abbrev pub first_names : ℕ → List ReadOf → List (List ℕ)
first_names count reads_of = take count (map (λ (file : ReadOf). file.name) reads_of)
