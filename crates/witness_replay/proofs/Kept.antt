-- The settings that are found kept so far.
use Rattle.std.proofs.Common.{◌≡◌, ℕ, ◌+◌, ◌<◌, Bool, List, length, get_or, Some, subst, arith, below_more}
use Rattle.std.specs.Prelude.{slice_get, nat_lt}
use Rattle.std.proofs.lemmas.Option.{slice_get_within}
use Rattle.net_model.specs.Netlist.{IsSound, setting_inputs, held_inputs, AllBelow}
use Rattle.net_model.specs.Stimuli.{IsLawful}
use Rattle.net_model.specs.declared.netlist.Design.{Design}
use Rattle.net_model.specs.declared.cycles.Stimulus.{Stimulus}
use Rattle.witness_replay.specs.Replays.{HasStimulusShape, AreSettingsKept}
use Rattle.std.proofs.lemmas.List.Elements.{All-contains, Contains-append_right, Contains-get_or}
use Rattle.net_model.proofs.Settling.{All-at}

-- the settings of the first t cycles are kept
abbrev pub RowsKept : Design → Stimulus → ℕ → Type 0
RowsKept d s t = (q : ℕ) → q < t → (ins : List Bool) → slice_get s.inputs q ≡ Some ins → AreSettingsKept d (nat_lt q d.reset_len) ins

pub rows_more : (d : Design) (s : Stimulus) (t : ℕ) (ins : List Bool) → slice_get s.inputs t ≡ Some ins → AreSettingsKept d (nat_lt t d.reset_len) ins
    → RowsKept d s t → RowsKept d s (t + 1)
rows_more d s t ins at here kept =
    below_more (λ q. (row : List Bool) → slice_get s.inputs q ≡ Some row → AreSettingsKept d (nat_lt q d.reset_len) row) t kept
    (λ row there. let same : ins ≡ row = cc in subst (λ (x : List Bool). AreSettingsKept d (nat_lt t d.reset_len) x) same here)

pub lawful_from : (d : Design) (s : Stimulus) → HasStimulusShape d s → RowsKept d s (length s.inputs) → IsLawful d s
lawful_from d s shape kept =
    record {
      state = shape.state;
      some = shape.some;
      inputs = λ t ins at.
          let both = kept t (slice_get_within s.inputs t ins at) ins at in
          record { count = All-at (λ (row : List Bool). length row ≡ length d.inputs) s.inputs t ins at shape.rows; fixed = both.0; resets = both.1 };
    }

-- reset inputs are inputs
pub resets_below : (d : Design) (len : ℕ) → IsSound d → len ≡ length d.inputs → AllBelow len (setting_inputs d.resets)
resets_below d len sound same k o lt =
    let has = Contains-append_right (setting_inputs d.fixed) (setting_inputs d.resets) (get_or (setting_inputs d.resets) k o)
    (Contains-get_or (setting_inputs d.resets) k o lt) in
    let low = All-contains (λ n. n < length d.inputs) (held_inputs d) (get_or (setting_inputs d.resets) k o) sound.in_range.held has in
    omega arith
