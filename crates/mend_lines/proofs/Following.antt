-- What becomes of a hold command, one command of the script after another.
use Rattle.std.proofs.Common.{◌≡◌, ◌∙◌, ℕ, ◌+◌, ◌≤◌, Bool, true, false, ◌&&◌, ◌||◌, List, [], ◌∷◌, ◌++◌, length, drop, refl, ap}
use Rattle.std.specs.Prelude.{Some, slice_get, if◌then◌else◌}
use Rattle.std.specs.List.{list_any}
use Rattle.std.proofs.lemmas.List.{drop_all}
use Rattle.sdcv_base.specs.Seqs.{where_true}
use Rattle.script_types.specs.declared.scripts.Command.{Command}
use Rattle.script_notices.specs.Companions.{Shifted, is_companion, companions_from, next_place}
use Rattle.mend_groups.specs.declared.parts.Part.{Part}
use Rattle.mend_lines.specs.Holds.{is_whole_at, last_fate, fate_by}
use Rattle.mend_lines.specs.declared.fates.HoldFate.{HoldFate}
use Rattle.mend_lines.specs.declared.fates.HoldFate.TheVariants.{Stays, Follows, LeftOut}
use Rattle.script_notices.proofs.Rests.{drop_here}

-- what is found before some companions, and then among them
unfoldable pub fate_after : List Part → HoldFate → List ℕ → HoldFate
fate_after parts fate [] = fate
fate_after parts fate (place ∷ places) = if is_whole_at parts place then Stays else fate_after parts (Follows place) places

-- the last one of these, or what is found before them
unfoldable last_after : HoldFate → List ℕ → HoldFate
last_after fate [] = fate
last_after fate (place ∷ places) = last_after (Follows place) places

last_from : (place : ℕ) (places : List ℕ) → last_fate (place ∷ places) ≡ last_after (Follows place) places
unfolding last_fate last_after
last_from place [] = refl
last_from place (next ∷ more) = last_from next more

last_found : (places : List ℕ) → last_fate places ≡ last_after LeftOut places
unfolding last_fate last_after
last_found [] = refl
last_found (place ∷ places) = last_from place places

or_if : {A : Type 0} (b c : Bool) (x y z : A) → (if c then x else y) ≡ z → (if b || c then x else y) ≡ (if b then x else z)
or_if true c x y z e = refl
or_if false c x y z e = e

any_after : (parts : List Part) (fate : HoldFate) (places : List ℕ)
    → (if list_any (is_whole_at parts) places then Stays else last_after fate places) ≡ fate_after parts fate places
unfolding last_after fate_after
any_after parts fate [] = refl
any_after parts fate (place ∷ places) =
    or_if (is_whole_at parts place) (list_any (is_whole_at parts) places) Stays (last_after (Follows place) places)
    (fate_after parts (Follows place) places) (any_after parts (Follows place) places)

pub fate_first : (parts : List Part) (places : List ℕ) → fate_by parts places ≡ fate_after parts LeftOut places
fate_first parts places =
    ap (λ (fate : HoldFate). if list_any (is_whole_at parts) places then Stays else fate) (last_found places) ∙ any_after parts LeftOut places

turned : (parts : List Part) (fate : HoldFate) (place : ℕ) (goes : Bool) (rest : List ℕ) → (goes && is_whole_at parts place) ≡ false
    → fate_after parts fate (where_true goes place ++ rest) ≡ fate_after parts (if goes then Follows place else fate) rest
unfolding fate_after
turned parts fate place true rest fails = rw fails refl
turned parts fate place false rest fails = refl

stopped : (parts : List Part) (fate : HoldFate) (place : ℕ) (goes : Bool) (rest : List ℕ) → (goes && is_whole_at parts place) ≡ true
    → fate_after parts fate (where_true goes place ++ rest) ≡ Stays
unfolding fate_after
stopped parts fate place true rest holds = rw holds refl
stopped parts fate place false rest holds = absurd cc

-- a command more, which is no companion that stays
pub fate_next : (parts : List Part) (s : Shifted) (fate : HoldFate) (place k : ℕ) (commands : List Command) (c : Command)
    → slice_get commands k ≡ Some c → (is_companion s c.what && is_whole_at parts place) ≡ false
    → fate_after parts fate (companions_from s place (drop k commands)) ≡
    fate_after parts (if is_companion s c.what then Follows place else fate) (companions_from s (next_place place c.what) (drop (k + 1) commands))
unfolding companions_from
fate_next parts s fate place k commands c here goes_on =
    ap (λ (left : List Command). fate_after parts fate (companions_from s place left)) (drop_here commands k c here)
    ∙ turned parts fate place (is_companion s c.what) (companions_from s (next_place place c.what) (drop (k + 1) commands)) goes_on

-- a companion that stays
pub fate_stays : (parts : List Part) (s : Shifted) (fate : HoldFate) (place k : ℕ) (commands : List Command) (c : Command)
    → slice_get commands k ≡ Some c → (is_companion s c.what && is_whole_at parts place) ≡ true
    → fate_after parts fate (companions_from s place (drop k commands)) ≡ Stays
unfolding companions_from
fate_stays parts s fate place k commands c here stays =
    ap (λ (left : List Command). fate_after parts fate (companions_from s place left)) (drop_here commands k c here)
    ∙ stopped parts fate place (is_companion s c.what) (companions_from s (next_place place c.what) (drop (k + 1) commands)) stays

-- no command is left
pub fate_last : (parts : List Part) (s : Shifted) (fate : HoldFate) (place k : ℕ) (commands : List Command) → length commands ≤ k
    → fate_after parts fate (companions_from s place (drop k commands)) ≡ fate
unfolding companions_from fate_after
fate_last parts s fate place k commands done =
    ap (λ (left : List Command). fate_after parts fate (companions_from s place left)) (drop_all k commands done)
