-- The lines of a run beside its table. Names are shown with a `?` for each byte outside 32 to 126.
use Rattle.std.specs.Prelude.{ℕ, ◌-◌, Bool, if◌then◌else◌, List, [], ◌∷◌, ◌++◌, flat_map, Option, Some, None, codes}
use Rattle.std.specs.List.{list_any}
use Rattle.std.specs.Fmt.{decimal}
use Rattle.sdcv_base.specs.Shown.{shown}
use Rattle.net_model.specs.Cycles.{bit_at}
use Rattle.net_model.specs.declared.terns.Tern.{Tern}
use Rattle.net_model.specs.declared.terns.Tern.TheVariants.{Zero, One, Unknown}
use Rattle.wave_signals.specs.declared.signals.Signal.{Signal}
use Rattle.wave_signals.specs.Labels.{digits, value_at}
use Rattle.shown_runs.specs.Rows.{◌⁀◌, bit_text, name_text}
use Rattle.shown_runs.specs.Values.{value_text}
use Rattle.shown_runs.specs.declared.headings.Heading.{Heading}
use Rattle.shown_runs.specs.declared.headings.Told.{Told}
use Rattle.shown_runs.specs.declared.headings.Told.TheVariants.{Refuted, Undecided}
use Rattle.shown_runs.specs.declared.lates.Late.{Late}
use Rattle.shown_runs.specs.declared.runs.ShownRun.{ShownRun}

-- what is claimed of the pair
abbrev pub claim_text : Heading → List ℕ
claim_text h = shown h.kind ⁀ codes " " ⁀ shown h.start ⁀ codes " -> " ⁀ shown h.end

abbrev pub told_text : Told → List ℕ
told_text Refuted = codes "refuted"
told_text Undecided = codes "undecided"

-- the pair, its exception, what is claimed, what is told of it, and why
unfoldable pub pair_text : Heading → List ℕ
pair_text h =
    codes "pair " ⁀ decimal h.number ⁀ codes " command " ⁀ decimal h.command ⁀ codes " line " ⁀ decimal h.line ⁀ codes " " ⁀ claim_text h
    ⁀ codes " " ⁀ told_text h.told ⁀ codes " " ⁀ shown h.why

-- where the start changes, and which capture is judged
unfoldable pub change_text : ShownRun → List ℕ
change_text s =
    codes "the start changes into cycle " ⁀ decimal s.toggle ⁀ codes ", the capture of cycle " ⁀ decimal s.judged ⁀ codes " is judged"

-- a bit of the signal is 1 in cycle 0
abbrev pub is_set : Signal → Bool
is_set s = list_any (value_at 0) s.values

unfoldable pub set_text : Signal → List ℕ
set_text s = codes "register " ⁀ name_text s ⁀ codes "=" ⁀ value_text (digits s 0) ⁀ codes " in cycle 0"

abbrev pub set_lines : Signal → List (List ℕ)
set_lines s = if is_set s then set_text s ∷ [] else []

unfoldable pub all_zero : List ℕ
all_zero = codes "all registers 0 in cycle 0"

-- the registers that are not 0 in cycle 0, or that all are
unfoldable pub state_lines : List Signal → List (List ℕ)
state_lines regs = if list_any is_set regs then flat_map set_lines regs else all_zero ∷ []

unfoldable pub capture_text : ℕ → Bool → List ℕ
capture_text cycle bit = codes "capture of cycle " ⁀ decimal cycle ⁀ codes ": " ⁀ bit_text bit

abbrev pub capture_line : ShownRun → ℕ → List (List ℕ)
capture_line s cycle = capture_text cycle (bit_at s.captured cycle) ∷ []

-- the captures of the cycle before the judged one, which says nothing of the early side, and of the judged one
unfoldable pub settled_lines : ShownRun → List (List ℕ)
settled_lines s = (if s.early then [] else capture_line s (s.judged - 1)) ++ capture_line s s.judged

-- which value of the start is tried: the one before its change, or on the early side the one after it
abbrev pub side_text : Bool → List ℕ
side_text early = if early then codes "new" else codes "old"

unfoldable pub late_text : Bool → ℕ → Late → List ℕ
late_text early cycle t =
    codes "capture of cycle " ⁀ decimal cycle ⁀ codes " with the " ⁀ side_text early ⁀ codes " value " ⁀ bit_text t.other ⁀ codes " of the start: "
    ⁀ bit_text t.captured

-- a bit as a digit, and `?` where it is unknown
abbrev pub tern_text : Tern → List ℕ
tern_text Zero = codes "0"
tern_text One = codes "1"
tern_text Unknown = codes "?"

unfoldable pub ternary_text : ℕ → Tern → List ℕ
ternary_text cycle value = codes "capture of cycle " ⁀ decimal cycle ⁀ codes " while the start settles: " ⁀ tern_text value

abbrev pub ternary_lines : ℕ → Option Tern → List (List ℕ)
ternary_lines cycle None = []
ternary_lines cycle (Some value) = ternary_text cycle value ∷ []

abbrev pub step_text : List ℕ → List ℕ
step_text name = codes " " ⁀ shown name

-- the nets of a path, from the start on
unfoldable pub path_text : Option (List (List ℕ)) → List ℕ
path_text None = codes "path none"
path_text (Some names) = codes "path" ⁀ flat_map step_text names

-- what is captured with the start's other value, and while it settles; and a path that carries that value
unfoldable pub late_lines : Bool → ℕ → Late → List (List ℕ)
late_lines early cycle t = late_text early cycle t ∷ (ternary_lines cycle t.ternary ++ path_text t.path ∷ [])

abbrev pub capture_lines : ShownRun → List (List ℕ)
capture_lines s = settled_lines s ++ late_lines s.early s.judged s.late
