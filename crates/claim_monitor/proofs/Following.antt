-- What latches take next are the bits of the next front.
use Rattle.std.proofs.Common.{◌≡◌, ℕ, zero, suc, ◌+◌, ◌-◌, ◌<◌, ◌==◌, Bool, true, false, if◌then◌else◌, List, ◌++◌, length, refl, ap, sym, ◌∙◌, arith, subst, eq-eqb}
use Rattle.std.proofs.Common.{append_assoc}
use Rattle.std.specs.Prelude.{◌↔◌}
use Rattle.std.proofs.lemmas.Bool.{ne_eqb}
use Rattle.std.proofs.lemmas.List.{map-append, length-append, get_or_append_left, get_or-append-add, get_or-map}
use Rattle.std.proofs.lemmas.List.Elements.{All-append, All-from_get_or}
use Rattle.net_model.specs.Cycles.{bit_at, capture}
use Rattle.net_model.specs.Judge.{judged_count}
use Rattle.net_model.specs.declared.netlist.Design.{Design}
use Rattle.net_model.specs.declared.cycles.Cycle.{Cycle}
use Rattle.net_model.specs.declared.claims.Claim.{Claim}
use Rattle.net_model.specs.declared.claims.End.TheVariants.{Reg as RegEnd}
use Rattle.and_graphs.specs.Graphs.{IsIn, Means, bit_of}
use Rattle.and_graphs.specs.declared.graphs.AndGraph.{AndGraph}
use Rattle.claim_monitor.specs.Fronts.{AreFreeBits, sizes_of, front_count, reg_place, reset_place, live_place, start_place, toggle_place, capture_place, early_place, DiffersFlipped}
use Rattle.claim_monitor.specs.Shown.{shown_row, shown_cycle, is_live}
use Rattle.claim_monitor.specs.Captured.{AreCaptureLiterals}
use Rattle.claim_monitor.specs.Judgings.{EarlyLiteral}
use Rattle.claim_monitor.specs.Histories.{AreJudged, AreHistories, IsHistory, taken}
use Rattle.claim_monitor.specs.Monitors.{AreNextLiterals}
use Rattle.claim_monitor.specs.Tells.{IsNextFront, toggled}
use Rattle.claim_monitor.specs.declared.bads.Judged.{Judged}
use Rattle.claim_monitor.specs.declared.cycle_literals.Literals.{Literals}
use Rattle.claim_monitor.specs.declared.sizes.Sizes.{Sizes}
use Rattle.claim_monitor.proofs.Showing.{length-shown_row}

-- the bits of a front, kind by kind: free inputs, registers, reset and live latches, starts, toggles, and what is kept of the end
record AreRows (s : Sizes) (ins regs live starts toggles ends : List Bool) : Type 0 where
  pub of_ins : length ins ≡ s.inputs
  pub of_regs : length regs ≡ s.regs
  pub of_live : length live ≡ s.resets + 1
  pub of_starts : length starts ≡ s.judged
  pub of_toggles : length toggles ≡ s.judged - 1
  pub of_ends : length ends ≡ (if s.has_capture then 1 else 0) + (if s.has_early then 1 else 0)

abbrev joined : List Bool → List Bool → List Bool → List Bool → List Bool → List Bool → List Bool
joined ins regs live starts toggles ends = ins ++ (regs ++ (live ++ (starts ++ (toggles ++ ends))))

-- a bit in the first of two lists, and one in the second
on_left : (a b : List Bool) (k : ℕ) → k < length a → bit_at (a ++ b) k ≡ bit_at a k
on_left a b k low = get_or_append_left a b false k low

on_right : (a b : List Bool) (p k : ℕ) → p ≡ length a + k → bit_at (a ++ b) p ≡ bit_at b k
on_right a b p k at = ap (bit_at (a ++ b)) at ∙ get_or-append-add a b k false

reg_row : (s : Sizes) (a b c d e f : List Bool) (r : ℕ) → AreRows s a b c d e f → r < s.regs → bit_at (joined a b c d e f) (reg_place s r) ≡ bit_at b r
reg_row s a b c d e f r are low =
    on_right a (b ++ (c ++ (d ++ (e ++ f)))) (reg_place s r) r (omega (arith, are.of_ins))
    ∙ on_left b (c ++ (d ++ (e ++ f))) r (omega (arith, are.of_regs, low))

reset_row : (s : Sizes) (a b c d e f : List Bool) (i : ℕ) → AreRows s a b c d e f → i < s.resets + 1
    → bit_at (joined a b c d e f) (reset_place s i) ≡ bit_at c i
reset_row s a b c d e f i are low =
    on_right a (b ++ (c ++ (d ++ (e ++ f)))) (reset_place s i) (s.regs + i) (omega (arith, are.of_ins))
    ∙ (on_right b (c ++ (d ++ (e ++ f))) (s.regs + i) i (omega (arith, are.of_regs))
    ∙ on_left c (d ++ (e ++ f)) i (omega (arith, are.of_live, low)))

past_live : (s : Sizes) (a b c d e f : List Bool) (k : ℕ) → AreRows s a b c d e f
    → bit_at (joined a b c d e f) (live_place s + 1 + k) ≡ bit_at (d ++ (e ++ f)) k
past_live s a b c d e f k are =
    on_right a (b ++ (c ++ (d ++ (e ++ f)))) (live_place s + 1 + k) (s.regs + (s.resets + 1 + k)) (omega (arith, are.of_ins))
    ∙ (on_right b (c ++ (d ++ (e ++ f))) (s.regs + (s.resets + 1 + k)) (s.resets + 1 + k) (omega (arith, are.of_regs))
    ∙ on_right c (d ++ (e ++ f)) (s.resets + 1 + k) k (omega (arith, are.of_live)))

start_row : (s : Sizes) (a b c d e f : List Bool) (h : ℕ) → AreRows s a b c d e f → h < s.judged
    → bit_at (joined a b c d e f) (start_place s h) ≡ bit_at d h
start_row s a b c d e f h are low = past_live s a b c d e f h are ∙ on_left d (e ++ f) h (omega (arith, are.of_starts, low))

toggle_row : (s : Sizes) (a b c d e f : List Bool) (k : ℕ) → AreRows s a b c d e f → k + 1 < s.judged
    → bit_at (joined a b c d e f) (toggle_place s k) ≡ bit_at e k
toggle_row s a b c d e f k are low =
    let place : toggle_place s k ≡ live_place s + 1 + (s.judged + k) = omega arith in
    ap (bit_at (joined a b c d e f)) place ∙ (past_live s a b c d e f (s.judged + k) are
    ∙ (on_right d (e ++ f) (s.judged + k) k (omega (arith, are.of_starts)) ∙ on_left e f k (omega (arith, are.of_toggles, low))))

end_row : (s : Sizes) (a b c d e f : List Bool) (k : ℕ) → AreRows s a b c d e f → bit_at (joined a b c d e f) (capture_place s + k) ≡ bit_at f k
end_row s a b c d e f k are =
    let place : capture_place s + k ≡ live_place s + 1 + (s.judged + (s.judged - 1) + k) = omega arith in
    ap (bit_at (joined a b c d e f)) place ∙ (past_live s a b c d e f (s.judged + (s.judged - 1) + k) are
    ∙ (on_right d (e ++ f) (s.judged + (s.judged - 1) + k) (s.judged - 1 + k) (omega (arith, are.of_starts))
    ∙ on_right e f (s.judged - 1 + k) k (omega (arith, are.of_toggles))))

rows_count : (s : Sizes) (a b c d e f : List Bool) → AreRows s a b c d e f → length (joined a b c d e f) ≡ front_count s
rows_count s a b c d e f are =
    let one = length-append a (b ++ (c ++ (d ++ (e ++ f)))) in
    let two = length-append b (c ++ (d ++ (e ++ f))) in
    let three = length-append c (d ++ (e ++ f)) in
    let four = length-append d (e ++ f) in
    let five = length-append e f in
    omega (arith, one, two, three, four, five, are.of_ins, are.of_regs, are.of_live, are.of_starts, are.of_toggles, are.of_ends)

-- the live latch takes whether the cycle is live
takes_live : (g : AndGraph) (s : Sizes) (one : ℕ) (x : List Bool) → Means g one (λ y. true) → length x ≡ g.front
    → taken g one (reset_place s 0) s.resets x ≡ is_live s x
takes_live g s one x is_one len = by s.resets refl
  where
    by : (n : ℕ) → s.resets ≡ n → taken g one (reset_place s 0) n x ≡ is_live s x
    by zero none =
        is_one.bit x len ∙ sym (ap (λ (b : Bool). if b then true else bit_at x (reset_place s (s.resets - 1))) (eq-eqb s.resets 0 none))
    by (suc k) some =
        let place : reset_place s 0 + k ≡ reset_place s (s.resets - 1) = omega (arith, some) in
        let apart : (s.resets == 0) ≡ false = ne_eqb s.resets 0 (λ e. absurd (omega (arith, some, e))) in
        ap (bit_at x) place ∙ sym (ap (λ (b : Bool). if b then true else bit_at x (reset_place s (s.resets - 1))) apart)

-- a later latch of a row takes the bit of the one before it
takes_before : (g : AndGraph) (now first : ℕ) (x : List Bool) (k p : ℕ) → first + k ≡ p → taken g now first (k + 1) x ≡ bit_at x p
takes_before g now first x k p at = let e : k + 1 ≡ suc k = omega arith in ap (λ (n : ℕ). taken g now first n x) e ∙ ap (bit_at x) at

-- a toggle latch takes the toggle of the cycle before
takes_toggle : (g : AndGraph) (d : Design) (claim : Claim) (ls : Literals) (judged : Judged) (x : List Bool) (k : ℕ) → AreJudged g d claim ls judged
    → k + 1 < judged_count claim → length x ≡ g.front
    → taken g judged.toggle (toggle_place (sizes_of d claim) 0) k x ≡ toggled (sizes_of d claim) claim.edge claim.start x (shown_cycle g x ls) k
takes_toggle g d claim ls judged x zero are low len = (are.toggle (omega (arith, low))).bit x len
takes_toggle g d claim ls judged x (suc k) are low len =
    let place : toggle_place (sizes_of d claim) 0 + k ≡ toggle_place (sizes_of d claim) k = omega arith in ap (bit_at x) place

-- a register takes its capture
takes_capture : (g : AndGraph) (d : Design) (ls : Literals) (captures : List ℕ) (x : List Bool) (r : ℕ) → AreCaptureLiterals g d ls captures
    → r < length d.regs → length x ≡ g.front → bit_at (shown_row g x captures) r ≡ capture d (RegEnd r) (shown_cycle g x ls)
takes_capture g d ls captures x r are low len =
    get_or-map (bit_of g x) captures r 0 false (omega (arith, are.count, low)) ∙ (are.each r low).bit x len

-- the literals of a list show its parts one after another
shown_joined : (g : AndGraph) (x : List Bool) (b c d e f : List ℕ) → shown_row g x (b ++ (c ++ (d ++ (e ++ f))))
    ≡ shown_row g x b ++ (shown_row g x c ++ (shown_row g x d ++ (shown_row g x e ++ shown_row g x f)))
shown_joined g x b c d e f =
    let bit = bit_of g x in
    map-append bit b (c ++ (d ++ (e ++ f)))
    ∙ ap (λ (row : List Bool). shown_row g x b ++ row) (map-append bit c (d ++ (e ++ f))
    ∙ ap (λ (row : List Bool). shown_row g x c ++ row) (map-append bit d (e ++ f)
    ∙ ap (λ (row : List Bool). shown_row g x d ++ row) (map-append bit e f)))

-- the literals of latches after those of registers: of histories, and of the capture with the start flipped
record Kept (g : AndGraph) (d : Design) (claim : Claim) (ls : Literals) (judged : Judged) (early : ℕ) (rest last : List ℕ) : Type 0 where
  of_judged : AreJudged g d claim ls judged
  of_early : EarlyLiteral g d claim ls early
  histories : AreHistories g (sizes_of d claim) judged rest
  history : IsHistory g early (early_place (sizes_of d claim)) (if claim.early then 1 else 0) last

-- rows of literals have a bit for each latch
rows_shown : (g : AndGraph) (d : Design) (claim : Claim) (ls : Literals) (judged : Judged) (early : ℕ) (captures rest last : List ℕ) (x ins : List Bool)
    → AreCaptureLiterals g d ls captures → (kept : Kept g d claim ls judged early rest last) → length ins ≡ (sizes_of d claim).inputs
    → AreRows (sizes_of d claim) ins (shown_row g x captures) (shown_row g x kept.histories.live) (shown_row g x kept.histories.starts)
    (shown_row g x kept.histories.toggles) (shown_row g x (kept.histories.captures ++ last))
rows_shown g d claim ls judged early captures rest last x ins of_regs kept of_ins =
    let are = kept.histories in
    record {
      of_ins = of_ins;
      of_regs = length-shown_row g x captures ∙ of_regs.count;
      of_live = length-shown_row g x are.live ∙ are.of_live.count;
      of_starts = length-shown_row g x are.starts ∙ are.of_starts.count;
      of_toggles = length-shown_row g x are.toggles ∙ are.of_toggles.count;
      of_ends =
          let whole = length-shown_row g x (are.captures ++ last) in
          let two = length-append are.captures last in
          omega (arith, whole, two, are.of_captures.count, kept.history.count);
    }

has_one : (has : Bool) → has ≡ true → 0 < (if has then 1 else 0)
has_one true e = omega arith
has_one false e = cc

-- of the end the first bit is its capture
end_capture : (g : AndGraph) (d : Design) (claim : Claim) (ls : Literals) (judged : Judged) (early : ℕ) (rest last : List ℕ) (x : List Bool)
    → (kept : Kept g d claim ls judged early rest last) → length x ≡ g.front → (sizes_of d claim).has_capture ≡ true
    → bit_at (shown_row g x (kept.histories.captures ++ last)) 0 ≡ capture d claim.end (shown_cycle g x ls)
end_capture g d claim ls judged early rest last x kept len has =
    let are = kept.histories in
    let some = has_one (sizes_of d claim).has_capture has in
    ap (λ (row : List Bool). bit_at row 0) (map-append (bit_of g x) are.captures last)
    ∙ (on_left (shown_row g x are.captures) (shown_row g x last) 0 (omega (arith, length-shown_row g x are.captures, are.of_captures.count, some))
    ∙ (are.of_captures.each 0 x some len ∙ kept.of_judged.capture.bit x len))

-- the one after it tells whether the capture with the start flipped differs
end_early : (g : AndGraph) (d : Design) (claim : Claim) (ls : Literals) (judged : Judged) (early : ℕ) (rest last : List ℕ) (x : List Bool)
    → (kept : Kept g d claim ls judged early rest last) → length x ≡ g.front → claim.early ≡ true
    → bit_at (shown_row g x (kept.histories.captures ++ last)) (if (sizes_of d claim).has_capture then 1 else 0) ≡ bit_of g x early
end_early g d claim ls judged early rest last x kept len has =
    let are = kept.histories in
    let k = if (sizes_of d claim).has_capture then 1 else 0 in
    ap (λ (row : List Bool). bit_at row k) (map-append (bit_of g x) are.captures last)
    ∙ (on_right (shown_row g x are.captures) (shown_row g x last) k 0 (omega (arith, length-shown_row g x are.captures, are.of_captures.count))
    ∙ kept.history.each 0 x (has_one claim.early has) len)

-- the next front
next_rows : (g : AndGraph) (d : Design) (claim : Claim) (ls : Literals) (judged : Judged) (early : ℕ) (captures rest last : List ℕ) (x ins : List Bool)
    (next : Cycle) → AreCaptureLiterals g d ls captures → (kept : Kept g d claim ls judged early rest last) → length x ≡ g.front
    → length ins ≡ (sizes_of d claim).inputs
    → AreFreeBits d next (joined ins (shown_row g x captures) (shown_row g x kept.histories.live) (shown_row g x kept.histories.starts)
    (shown_row g x kept.histories.toggles) (shown_row g x (kept.histories.captures ++ last)))
    → IsNextFront d claim (sizes_of d claim) x (shown_cycle g x ls) next (joined ins (shown_row g x captures) (shown_row g x kept.histories.live)
    (shown_row g x kept.histories.starts) (shown_row g x kept.histories.toggles) (shown_row g x (kept.histories.captures ++ last)))
next_rows g d claim ls judged early captures rest last x ins next of_regs kept len of_ins free =
    let s = sizes_of d claim in
    let are = kept.histories in
    let of_judged = kept.of_judged in
    let a = shown_row g x captures in
    let b = shown_row g x are.live in
    let h = shown_row g x are.starts in
    let t = shown_row g x are.toggles in
    let f = shown_row g x (are.captures ++ last) in
    let rows = rows_shown g d claim ls judged early captures rest last x ins of_regs kept of_ins in
    record {
      count = rows_count s ins a b h t f rows;
      inputs = free;
      regs = λ r low. reg_row s ins a b h t f r rows low ∙ takes_capture g d ls captures x r of_regs low len;
      first_reset = λ some. reset_row s ins a b h t f 0 rows (omega arith) ∙ (are.of_live.each 0 x (omega arith) len ∙ are.is_one.bit x len);
      resets = λ i low.
          reset_row s ins a b h t f (i + 1) rows (omega (arith, low)) ∙ (are.of_live.each (i + 1) x (omega (arith, low)) len
          ∙ takes_before g are.one (reset_place s 0) x i (reset_place s i) (omega arith));
      was_live =
          reset_row s ins a b h t f s.resets rows (omega arith) ∙ (are.of_live.each s.resets x (omega arith) len ∙ takes_live g s are.one x are.is_one len);
      first_start = λ some. start_row s ins a b h t f 0 rows some ∙ (are.of_starts.each 0 x some len ∙ of_judged.start.bit x len);
      starts = λ k low.
          start_row s ins a b h t f (k + 1) rows low ∙ (are.of_starts.each (k + 1) x low len
          ∙ takes_before g judged.start (start_place s 0) x k (start_place s k) (omega arith));
      toggles = λ k low.
          toggle_row s ins a b h t f k rows low ∙ (are.of_toggles.each k x (omega (arith, low)) len ∙ takes_toggle g d claim ls judged x k of_judged low len);
      captured = λ has.
          let place : capture_place s ≡ capture_place s + 0 = omega arith in
          ap (bit_at (joined ins a b h t f)) place ∙ (end_row s ins a b h t f 0 rows ∙ end_capture g d claim ls judged early rest last x kept len has);
      early = λ has.
          let bit : bit_at (joined ins a b h t f) (early_place s) ≡ bit_of g x early =
          end_row s ins a b h t f (if s.has_capture then 1 else 0) rows ∙ end_early g d claim ls judged early rest last x kept len has in
          subst (λ (b : Bool). (b ≡ true) ↔ DiffersFlipped d claim (shown_cycle g x ls)) (sym bit) (kept.of_early.tells has x len);
    }

-- the literals of registers' captures, of histories and of an early capture are what latches take next
pub nexts_follow : (g : AndGraph) (d : Design) (claim : Claim) (ls : Literals) (judged : Judged) (early : ℕ) (captures rest last : List ℕ)
    → AreCaptureLiterals g d ls captures → AreJudged g d claim ls judged → EarlyLiteral g d claim ls early → AreHistories g (sizes_of d claim) judged rest
    → IsHistory g early (early_place (sizes_of d claim)) (if claim.early then 1 else 0) last
    → AreNextLiterals g d claim (sizes_of d claim) ls (captures ++ (rest ++ last))
nexts_follow g d claim ls judged early captures rest last of_regs of_judged of_early are history =
    let s = sizes_of d claim in
    let kept : Kept g d claim ls judged early rest last =
    record { of_judged = of_judged; of_early = of_early; histories = are; history = history } in
    let ends = are.captures ++ last in
    let tail : rest ++ last ≡ are.live ++ (are.starts ++ (are.toggles ++ ends)) =
    ap (λ (row : List ℕ). row ++ last) are.rows ∙ tails are.live are.starts are.toggles are.captures last in
    let parts : captures ++ (rest ++ last) ≡ captures ++ (are.live ++ (are.starts ++ (are.toggles ++ ends))) = ap (λ (row : List ℕ). captures ++ row) tail in
    record {
      count =
          let one = length-append captures (rest ++ last) in
          let whole = ap (λ (row : List ℕ). length row) tail in
          let two = length-append are.live (are.starts ++ (are.toggles ++ ends)) in
          let three = length-append are.starts (are.toggles ++ ends) in
          let four = length-append are.toggles ends in
          let five = length-append are.captures last in
          omega (
            arith,
            one,
            whole,
            two,
            three,
            four,
            five,
            of_regs.count,
            are.of_live.count,
            are.of_starts.count,
            are.of_toggles.count,
            are.of_captures.count,
            history.count,
          );
      in_ = All-append (IsIn g) captures (rest ++ last)
          (All-from_get_or (IsIn g) captures 0 (λ r low. (of_regs.each r (omega (arith, of_regs.count, low))).here))
          (rw tail (All-append (IsIn g) are.live (are.starts ++ (are.toggles ++ ends)) are.of_live.in_
          (All-append (IsIn g) are.starts (are.toggles ++ ends) are.of_starts.in_
          (All-append (IsIn g) are.toggles ends are.of_toggles.in_
          (All-append (IsIn g) are.captures last are.of_captures.in_ history.in_)))));
      takes = λ x ins next len of_ins free.
          let shown : ins ++ shown_row g x (captures ++ (rest ++ last))
          ≡ joined ins (shown_row g x captures) (shown_row g x are.live) (shown_row g x are.starts) (shown_row g x are.toggles) (shown_row g x ends) =
          ap (λ (row : List Bool). ins ++ row) (ap (shown_row g x) parts ∙ shown_joined g x captures are.live are.starts are.toggles ends) in
          subst (IsNextFront d claim s x (shown_cycle g x ls) next) (sym shown)
          (next_rows g d claim ls judged early captures rest last x ins next of_regs kept len of_ins (subst (AreFreeBits d next) shown free));
    }
  where
    tails : (a b c d e : List ℕ) → (a ++ (b ++ (c ++ d))) ++ e ≡ a ++ (b ++ (c ++ (d ++ e)))
    tails a b c d e =
        append_assoc a (b ++ (c ++ d)) e
        ∙ ap (λ (row : List ℕ). a ++ row) (append_assoc b (c ++ d) e ∙ ap (λ (row : List ℕ). b ++ row) (append_assoc c d e))
