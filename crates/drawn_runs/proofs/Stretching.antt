-- Stretches, from cycle to cycle, and the clauses that fail after them.
use Rattle.std.proofs.Common.{◌≡◌, ℕ, ◌+◌, ◌<◌, Bool, true, false, List, []}
use Rattle.std.proofs.Common.{◌∷◌, ◌++◌, length, filter, get_or, Some, refl, ap, subst, sym, ◌∙◌, arith, inl, inr}
use Rattle.std.specs.Prelude.{◌&&◌, ◌||◌, not, Contains, slice_get}
use Rattle.std.specs.List.{list_all}
use Rattle.std.proofs.lemmas.Option.{slice_get_within, slice_get-get_or}
use Rattle.net_model.specs.Cycles.{bit_at, capture, IsNext, IsStretch}
use Rattle.net_model.specs.Queries.{clause_holds}
use Rattle.net_model.specs.LaneBits.{lane, lane_row, lane_cycle}
use Rattle.net_model.proofs.Members.{In, In-from_Contains}
use Rattle.net_model.proofs.OneRun.{bits_exist}
use Rattle.net_model.specs.declared.netlist.Design.{Design}
use Rattle.net_model.specs.declared.cycles.Cycle.{Cycle}
use Rattle.net_model.specs.declared.claims.End.TheVariants.{Reg as RegEnd}
use Rattle.net_model.specs.declared.invariants.InvClause.{InvClause}
use Rattle.net_model.specs.declared.lane_words.Lanes.{Lanes}
use Rattle.net_sim.specs.Runs.{AreCaptures}
use Rattle.drawn_runs.specs.Sifts.{bits_cycle}
use Rattle.drawn_runs.specs.Survivors.{IsSifted, No_more, Is_left}
use Rattle.drawn_runs.specs.Stretches.{MeetSet, FailsNext, Stays, IsThinnedOnce, IsThinned, All_left, Fewer_left, holds_where}
use Rattle.drawn_runs.specs.Stretches.{IsStretchCycle, IsStretchTo, HasStretchTo}
use Rattle.drawn_runs.proofs.Stepping.{length_pushed}
use Rattle.drawn_runs.proofs.Running.{pushed, follows_more}
use Rattle.drawn_runs.proofs.Sifting.{and_left, and_right, push_at, in_each-fails, holds_by_bits, sifted_more}

-- a lane of a word that is made of two
pub either_is : (word clause lanes : Bool) (holds told : Bool) → word ≡ (clause || lanes) → clause ≡ holds → lanes ≡ not told
    → word ≡ (holds || not told)
either_is word clause lanes holds told whole one other = whole ∙ (ap (λ (b : Bool). b || lanes) one ∙ ap (λ (b : Bool). holds || b) other)

-- where all items pass, each does
all_has : (p : InvClause → Bool) (xs : List InvClause) (x : InvClause) → In x xs → list_all p xs ≡ true → p x ≡ true
all_has p [] x has all = absurd has
all_has p (y ∷ ys) x (inl same) all = subst (λ (z : InvClause). p z ≡ true) same (and_left (p y) (list_all p ys) all)
all_has p (y ∷ ys) x (inr later) all = all_has p ys x later (and_right (p y) (list_all p ys) all)

-- no cycle yet
pub ran_none : (d : Design) (set : List InvClause) (met : Bool) (bits : List Bool) → HasStretchTo d set met 0 bits
ran_none d set met bits = (
  [],
  record {
    count = refl;
    each = λ k c at. absurd (omega (arith, slice_get_within [] k c at));
    next = λ k before c at. absurd (omega (arith, slice_get_within [] k before at));
    follows = λ k c at. absurd (omega (arith, slice_get_within [] k c at));
  },
  λ told k c at. absurd (omega (arith, slice_get_within [] k c at)),
)

each_more : (d : Design) (t : ℕ) (bits : List Bool) (run : List Cycle) (c : Cycle) → IsStretchCycle d c → IsStretchTo d t bits run → (k : ℕ) (x : Cycle)
    → slice_get (run ++ c ∷ []) k ≡ Some x → IsStretchCycle d x
each_more d t bits run c is done k x at =
    elim (pushed run c k x at) [ inl here ↦ done.each k x here | inr last ↦ subst (IsStretchCycle d) last.1 is ]

next_more : (d : Design) (t : ℕ) (bits : List Bool) (run : List Cycle) (c : Cycle) → c.bits ≡ bits → IsStretchTo d t bits run → (k : ℕ) (before x : Cycle)
    → slice_get (run ++ c ∷ []) k ≡ Some before → slice_get (run ++ c ∷ []) (k + 1) ≡ Some x → IsNext d before x
next_more d t bits run c same done k before x at then =
    elim (pushed run c k before at) [
      | inl first ↦ elim (pushed run c (k + 1) x then) [
        | inl second ↦ done.next k before x first second
        | inr last ↦ λ r low. ap (λ (y : Cycle). bit_at y.bits r) (sym last.1) ∙
            (ap (λ (row : List Bool). bit_at row r) same ∙ done.follows k before first (last.0 ∙ done.count) r low)
      ]
      | inr end_ ↦ elim (pushed run c (k + 1) x then) [
        | inl second ↦ absurd (omega (arith, end_.0, slice_get_within run (k + 1) x second))
        | inr last ↦ absurd (omega (arith, end_.0, last.0))
      ]
    ]

-- one cycle more
pub stretch_more : (d : Design) (t : ℕ) (bits next : List Bool) (run : List Cycle) (c : Cycle) → IsStretchCycle d c → c.bits ≡ bits → AreCaptures d c next
    → IsStretchTo d t bits run → IsStretchTo d (t + 1) next (run ++ c ∷ [])
stretch_more d t bits next run c is same captures done =
    record {
      count = omega (arith, length_pushed run c, done.count);
      each = each_more d t bits run c is done;
      next = next_more d t bits run c same done;
      follows = follows_more d t run c next done.count captures;
    }

-- which meets the set too
pub ran_more : (d : Design) (set : List InvClause) (t : ℕ) (bits next : List Bool) (c : Cycle) (met all still : Bool) → IsStretchCycle d c → c.bits ≡ bits
    → AreCaptures d c next → still ≡ (met && all) → (all ≡ true → (clause : InvClause) → Contains set clause → clause_holds c clause ≡ true)
    → HasStretchTo d set met t bits → HasStretchTo d set still (t + 1) next
ran_more d set t bits next c met all still is same captures both meets ran = (
  ran.0 ++ c ∷ [],
  stretch_more d t bits next ran.0 c is same captures ran.1,
  λ told k x at.
      elim (pushed ran.0 c k x at) [
        | inl here ↦ ran.2 (and_left met all (sym both ∙ told)) k x here
        | inr last ↦ λ clause has. subst (λ (y : Cycle). clause_holds y clause ≡ true) last.1 (meets (and_right met all (sym both ∙ told)) clause has)
      ],
)

-- where all clauses hold in a lane, they hold in a cycle with its register bits
pub all_hold : (set : List InvClause) (c : Cycle) (i : ℕ) (bits : List Lanes) (all : Bool) → c.bits ≡ lane_row i bits
    → all ≡ list_all (clause_holds (bits_cycle i bits)) set → all ≡ true → (clause : InvClause) → Contains set clause → clause_holds c clause ≡ true
all_hold set c i bits all same is told clause has =
    holds_by_bits clause c i bits same ∙ all_has (clause_holds (bits_cycle i bits)) set clause (In-from_Contains set clause has) (sym is ∙ told)

-- so many cycles are a stretch
pub stretch_is : (d : Design) (t : ℕ) (bits : List Bool) (run : List Cycle) → 0 < t → IsStretchTo d t bits run → IsStretch d run
stretch_is d t bits run some done =
    record {
      linked =
          record {
            some = omega (arith, done.count);
            settled = λ k o within. (done.each k (get_or run k o) (slice_get-get_or run k o within)).settled;
            next = done.next;
            fixed = λ k o within. (done.each k (get_or run k o) (slice_get-get_or run k o within)).lawful.fixed;
          };
      resets = λ k o within. (done.each k (get_or run k o) (slice_get-get_or run k o within)).lawful.resets;
    }

or_left : (a b : Bool) → (a || b) ≡ false → a ≡ false
or_left true b e = e
or_left false b e = refl

or_right : (a b : Bool) → (a || not b) ≡ false → b ≡ true
or_right true b e = cc
or_right false true e = refl
or_right false false e = cc

-- the clause that fails after one of these stretches
pub fails_next : (d : Design) (set : List InvClause) (t : ℕ) (bits ins nets : List Lanes) (lanes : Lanes) (clause : InvClause)
    → ((i : ℕ) → i < 64 → HasStretchTo d set (lane lanes i) t (lane_row i bits)) → ((i : ℕ) → i < 64 → IsStretchCycle d (lane_cycle i bits ins nets))
    → holds_where lanes bits clause ≡ false → FailsNext d t set clause
fails_next d set t bits ins nets lanes clause ran each none =
    let one = in_each-fails 64 (λ i. clause_holds (bits_cycle i bits) clause || not (lane lanes i)) none in
    let i = one.0 in
    let holds = clause_holds (bits_cycle i bits) clause in
    let c = lane_cycle i bits ins nets in
    let before = ran i one.1 in
    let run = before.0 in
    let next = bits_exist (λ r. capture d (RegEnd r) c) (length d.regs) in
    let more : IsStretchTo d (t + 1) next.0 (run ++ c ∷ []) =
    stretch_more d t (lane_row i bits) next.0 run c (each i one.1) refl (record { count = next.1; each = next.2 }) before.1 in
    record {
      stretch = run ++ c ∷ [];
      is_stretch = stretch_is d (t + 1) next.0 (run ++ c ∷ []) (omega arith) more;
      met = λ k x low at.
          elim (pushed run c k x at) [
            | inl here ↦ before.2 (or_right holds (lane lanes i) one.2) k x here
            | inr last ↦ absurd (omega (arith, low, last.0, before.1.count))
          ];
      c = c;
      at = push_at run c t before.1.count;
      fails = or_left holds (not (lane lanes i)) one.2;
    }

sifted_none : (Goes : InvClause → Type 0) (clauses : List InvClause) → IsSifted Stays Goes clauses clauses
sifted_none Goes [] = No_more
sifted_none Goes (clause ∷ clauses) = Is_left clause clauses clauses tt (sifted_none Goes clauses)

-- a filter that leaves out clauses that go
pub thinned_by : (d : Design) (t : ℕ) (test : InvClause → Bool) (clauses : List InvClause)
    → ((clause : InvClause) → test clause ≡ false → FailsNext d t clauses clause) → IsThinnedOnce d t clauses (filter test clauses)
thinned_by d t test clauses goes =
    sifted_more Stays (FailsNext d t clauses) Stays test clauses clauses (λ clause stays is. tt) goes (sifted_none (FailsNext d t clauses) clauses)

-- what is thinned, and then again
pub thinned_more : (d : Design) (depth : ℕ) (clauses left fewer : List InvClause) → IsThinned d depth clauses left → IsThinned d depth left fewer
    → IsThinned d depth clauses fewer
thinned_more d depth clauses left _ before All_left = before
thinned_more d depth clauses left _ before (Fewer_left some fewer more once) =
    Fewer_left some fewer (thinned_more d depth clauses left some before more) once
