-- Counting one key after another.
use Rattle.std.proofs.Common.{◌≡◌, ◌∙◌, ◌+◌, ◌<◌, ℕ, Bool, true, false, Option, Some, List, ap, sym, subst, refl, take, length, count_by, get_or, cond}
use Rattle.std.specs.Prelude.{if◌then◌else◌}
use Rattle.std.specs.Option.{unwrap_or}
use Rattle.std.specs.Map.{lookup}
use Rattle.std.specs.Str.{bytes_eq}
use Rattle.std.proofs.lemmas.List.Sums.{count_by_more_yes, count_by_more_no}
use Rattle.std.proofs.lemmas.Slice.Eq.{bytes_eq-Decides}
use Rattle.report_groups.specs.Counts.{Counted, count_in, IsCountedOnce, AreCountsOf}

-- the number of one key is written
pub counted_once : (kept old new : Counted) (copied key : List ℕ) (count : ℕ) → kept ≡ old → copied ≡ key → count ≡ count_in old key
    → ((other : List ℕ) → lookup (bytes_eq other) new ≡ cond (bytes_eq copied other) (Some (count + 1)) (lookup (bytes_eq other) kept))
    → IsCountedOnce old key new
counted_once kept old new copied key count view same is written other =
    by (bytes_eq key other)
    (written other ∙ ap (λ (k : List ℕ). cond (bytes_eq k other) (Some (count + 1)) (lookup (bytes_eq other) kept)) same
    ∙ ap (λ (c : Counted). cond (bytes_eq key other) (Some (count + 1)) (lookup (bytes_eq other) c)) view)
  where
    by : (b : Bool) → lookup (bytes_eq other) new ≡ cond b (Some (count + 1)) (lookup (bytes_eq other) old)
        → count_in new other ≡ (if b then count_in old key + 1 else count_in old other)
    by true e = ap (λ (found : Option ℕ). unwrap_or found 0) e ∙ ap (λ n. n + 1) is
    by false e = ap (λ (found : Option ℕ). unwrap_or found 0) e

-- one key more
pub counts_more : (keys : List (List ℕ)) (i : ℕ) (key : List ℕ) (old new : Counted) → i < length keys → key ≡ get_or keys i key
    → AreCountsOf (take i keys) old → IsCountedOnce old key new → AreCountsOf (take (i + 1) keys) new
counts_more keys i key old new below at are once q = by (bytes_eq key q) refl
  where
    here : (b : Bool) → bytes_eq key q ≡ b → bytes_eq (get_or keys i key) q ≡ b
    here b e = subst (λ (k : List ℕ). bytes_eq k q ≡ b) at e

    by : (b : Bool) → bytes_eq key q ≡ b → count_in new q ≡ count_by (λ other. bytes_eq other q) (take (i + 1) keys)
    by true e =
        let same : key ≡ q = (bytes_eq-Decides key q).0 e in
        once q ∙ rw e (ap (λ n. n + 1) (ap (count_in old) same ∙ are q)) ∙ sym (count_by_more_yes (λ other. bytes_eq other q) keys i key below (here true e))
    by false e = once q ∙ rw e (are q) ∙ sym (count_by_more_no (λ other. bytes_eq other q) keys i key below (here false e))
