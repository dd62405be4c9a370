-- Steps of a walk down from the clock, and what it has come to at its end.
use Rattle.std.proofs.Common.{arith, ◌≡◌, ◌≢◌, ℕ, zero, suc, ◌+◌, ◌<◌, ◌≤◌, ◌==◌, Bool, true, false, List, [], ◌∷◌, ◌++◌, length, set, All, refl, sym, ap}
use Rattle.std.proofs.Common.{◌∙◌, subst, inl, inr, take, get_or, get_or-set_same, get_or-set_other, length-set}
use Rattle.std.specs.Prelude.{Contains, Option, Some, None, slice_get, count_by}
use Rattle.std.specs.List.{fold}
use Rattle.std.proofs.lemmas.Bool.{cases_lt, cases_eq}
use Rattle.std.proofs.lemmas.Option.{slice_get_within, slice_get-get_or}
use Rattle.std.proofs.lemmas.List.Elements.{Contains-append_left, Contains-append_right, Contains-get_or}
use Rattle.std.proofs.lemmas.List.Sums.{fold_more}
use Rattle.std.proofs.lemmas.List.{take_all, get_or_past}
use Rattle.sdcv_base.specs.Seqs.{is_marked}
use Rattle.net_model.specs.FormLaws.{IsOver-weaker}
use Rattle.net_model.proofs.Members.{In, In-from_Contains, Contains-from_In}
use Rattle.net_model.specs.declared.netlist.Gate.{Gate}
use Rattle.graph_order.proofs.Marked.{at_contains, contains_at, place_cases}
use Rattle.link_defs.specs.declared.circuits.Circuit.{Circuit}
use Rattle.link_defs.specs.declared.circuits.Part.{Part}
use Rattle.link_defs.specs.declared.circuits.Part.TheVariants as part
use Rattle.link_defs.specs.Circuits.{part_gates, all_drivers}
use Rattle.link_defs.specs.Above.{IsAboveRow}
use Rattle.link_design.specs.declared.branches.Branch.{Branch}
use Rattle.link_design.specs.Branches.{root_branch, past_buffer, past_gate, OnBranch, Rooted, AfterBuffer, AfterGate}
use Rattle.link_design.specs.Lawful.{IsLawfulCircuit, IsLawfulPart, IsLawfulGate}
use Rattle.link_design.specs.Readers.{HandsTo, readers_at, AreReaders}
use Rattle.link_design.specs.Trees.{IsWalked}
use Rattle.link_design.specs.Walks.{branch_of, reached, clock_reached, gate_reached, handed, IsReachable, AreRows, IsWalk, IsWalkTo}
use Rattle.link_design.specs.declared.walks.Walk.{Walk}
use Rattle.link_design.proofs.Parted.{all_in, all_from_in}
use Rattle.link_design.proofs.Readings.{part_lawful, handed_on}
use Rattle.link_design.proofs.Treed.{one_branch, branch_of_tree, branch_of_under, tree_of_branch, lost_by, some_same}

-- what each step keeps holds after all of them
fold_kept : {A B : Type 0} (P : B → Type 0) (f : B → A → B) (xs : List A) (w : B) → ((x : A) → In x xs → (v : B) → P v → P (f v x)) → P w → P (fold f w xs)
fold_kept P f [] w step start = start
fold_kept P f (x ∷ xs) w step start = fold_kept P f xs (f w x) (λ y has v before. step y (inr has) v before) (step x (inl refl) w start)

-- and so does what one of them brings about and the others keep
fold_each : {A B : Type 0} (P Q : B → Type 0) (f : B → A → B) (xs : List A) (w : B) (x : A) → In x xs → ((y : A) → In y xs → (v : B) → P v → P (f v y))
    → ((v : B) → P v → Q (f v x)) → ((y : A) → In y xs → (v : B) → P v → Q v → Q (f v y)) → P w → Q (fold f w xs)
fold_each P Q f [] w x has step hit kept start = absurd has
fold_each P Q f (y ∷ xs) w x (inl here) step hit kept start =
    let now : Q (f w y) = subst (λ z. Q (f w z)) (sym here) (hit w start) in
    let both = fold_kept (λ v. P v × Q v) f xs (f w y) (λ z has v before. (step z (inr has) v before.0, kept z (inr has) v before.0 before.1))
    (step y (inl refl) w start, now) in
    both.1
fold_each P Q f (y ∷ xs) w x (inr later) step hit kept start =
    fold_each P Q f xs (f w y) x later (λ z has v before. step z (inr has) v before) hit (λ z has v before was. kept z (inr has) v before was)
    (step y (inl refl) w start)

-- a walk that has gone on: what was marked is, and what was on its list stands where it stood
pub record IsWalkFrom (c : Circuit) (old new : Walk) : Type 0 where
  pub walk : IsWalk c new
  pub marks : (n : ℕ) → is_marked old.tree n ≡ true → is_marked new.tree n ≡ true
  pub places : (i n : ℕ) → slice_get old.nets i ≡ Some n → slice_get new.nets i ≡ Some n

-- a walk that has not gone on
from_same : (c : Circuit) (w : Walk) → IsWalk c w → IsWalkFrom c w w
from_same c w walk = record { walk = walk; marks = λ n hit. hit; places = λ i n at. at }

-- and one that has gone on twice
from_more : (c : Circuit) (old mid new : Walk) → IsWalkFrom c old mid → IsWalkFrom c mid new → IsWalkFrom c old new
from_more c old mid new a b = record {
  walk = b.walk;
  marks = λ n hit. b.marks n (a.marks n hit);
  places = λ i n at. b.places i n (a.places i n at);
}

-- what is appended moves no place
place_kept : (xs ys : List ℕ) (i n : ℕ) → slice_get xs i ≡ Some n → slice_get (xs ++ ys) i ≡ Some n
place_kept [] ys i n at = cc
place_kept (x ∷ xs) ys zero n at = at
place_kept (x ∷ xs) ys (suc i) n at = place_kept xs ys i n at

-- the branch that has these
abbrev branch_with : Bool → Option ℕ → Bool → Branch
branch_with odd above lost = record { odd = odd; above = above; lost = lost }

-- branches that have the same are one
branch_same : (a b : Branch) → a.odd ≡ b.odd → a.above ≡ b.above → a.lost ≡ b.lost → a ≡ b
branch_same a b odd above lost =
    ap (λ (x : Bool). branch_with x a.above a.lost) odd ∙ ap (λ (x : Option ℕ). branch_with b.odd x a.lost) above
    ∙ ap (λ (x : Bool). branch_with b.odd b.above x) lost

-- a walk with one more net, on this branch
abbrev gone_on : ℕ → Branch → Walk → Walk
gone_on net b w = record {
  nets = w.nets ++ net ∷ [];
  tree = set w.tree net true;
  odd = set w.odd net b.odd;
  above = set w.above net b.above;
  lost = set w.lost net b.lost;
}

-- the net is on this branch then
branch_now : (net : ℕ) (b : Branch) (w : Walk) → net < length w.odd → net < length w.above → net < length w.lost → branch_of (gone_on net b w) net ≡ b
branch_now net b w in_odd in_above in_lost =
    branch_same (branch_of (gone_on net b w) net) b (get_or-set_same w.odd net b.odd false in_odd) (get_or-set_same w.above net b.above None in_above)
    (get_or-set_same w.lost net b.lost false in_lost)

-- and each other net on the one that it was on
branch_kept : (net : ℕ) (b : Branch) (w : Walk) (n : ℕ) → n ≢ net → branch_of (gone_on net b w) n ≡ branch_of w n
branch_kept net b w n apart =
    branch_same (branch_of (gone_on net b w) n) (branch_of w n) (get_or-set_other w.odd net n b.odd false apart)
    (get_or-set_other w.above net n b.above None apart) (get_or-set_other w.lost net n b.lost false apart)

-- a step onto a net of a branch
reached_new : (c : Circuit) (net : ℕ) (b : Branch) (w : Walk) → net < c.nets → OnBranch c net b → IsWalk c w
    → IsWalkFrom c w (gone_on net b w)
reached_new c net b w below on walk =
    let in_tree : net < length w.tree = omega (arith, below, walk.tree_len) in
    let in_odd : net < length w.odd = omega (arith, below, walk.odd_len) in
    let in_above : net < length w.above = omega (arith, below, walk.above_len) in
    let in_lost : net < length w.lost = omega (arith, below, walk.lost_len) in
    let now : is_marked (set w.tree net true) net ≡ true = get_or-set_same w.tree net true false in_tree in
    let kept : (n : ℕ) → n ≢ net → is_marked (set w.tree net true) n ≡ is_marked w.tree n = λ n apart. get_or-set_other w.tree net n true false apart in
    let here : (n : ℕ) → n ≡ net → is_marked (set w.tree net true) n ≡ true = λ n same. ap (is_marked (set w.tree net true)) same ∙ now in
    let new : Walk = gone_on net b w in
    record {
      walk = record {
        tree_len = length-set w.tree net true ∙ walk.tree_len;
        odd_len = length-set w.odd net b.odd ∙ walk.odd_len;
        above_len = length-set w.above net b.above ∙ walk.above_len;
        lost_len = length-set w.lost net b.lost ∙ walk.lost_len;
        on = λ n hit. elim (cases_eq n net) [
          | inl same ↦ subst (λ (m : ℕ). OnBranch c m (branch_of new m)) (sym same)
              (subst (OnBranch c net) (sym (branch_now net b w in_odd in_above in_lost)) on)
          | inr apart ↦ subst (OnBranch c n) (sym (branch_kept net b w n apart)) (walk.on n (sym (kept n apart) ∙ hit))
        ];
        listed = λ n hit. elim (cases_eq n net) [
          | inl same ↦ Contains-append_right w.nets (net ∷ []) n (0, omega arith, sym same)
          | inr apart ↦ Contains-append_left w.nets (net ∷ []) n (walk.listed n (sym (kept n apart) ∙ hit))
        ];
        met = λ i n at. elim (cases_eq n net) [
          | inl same ↦ here n same
          | inr apart ↦ elim (place_cases w.nets net i n at) [
            | inl old ↦ kept n apart ∙ walk.met i n old.1
            | inr new ↦ absurd (apart (sym new.1))
          ]
        ];
      };
      marks = λ n hit. elim (cases_eq n net) [ inl same ↦ here n same | inr apart ↦ kept n apart ∙ hit ];
      places = λ i n at. place_kept w.nets (net ∷ []) i n at;
    }

-- a step onto a net of a branch, or onto one that the walk has come to
reached_or : (c : Circuit) (net : ℕ) (b : Branch) (w : Walk) (hit : Bool) → is_marked w.tree net ≡ hit → net < c.nets → OnBranch c net b → IsWalk c w
    → IsWalkFrom c w (reached net b w)
reached_or c net b w true is below on walk = rw is (from_same c w walk)
reached_or c net b w false is below on walk = rw is (reached_new c net b w below on walk)

reached_walk : (c : Circuit) (net : ℕ) (b : Branch) (w : Walk) → net < c.nets → OnBranch c net b → IsWalk c w → IsWalkFrom c w (reached net b w)
reached_walk c net b w below on walk = reached_or c net b w (is_marked w.tree net) refl below on walk

marked_or : (net : ℕ) (b : Branch) (w : Walk) (hit : Bool) → is_marked w.tree net ≡ hit → net < length w.tree → is_marked (reached net b w).tree net ≡ true
marked_or net b w true is below = rw is is
marked_or net b w false is below = rw is (get_or-set_same w.tree net true false below)

-- the net to which a walk comes is marked
reached_marked : (net : ℕ) (b : Branch) (w : Walk) → net < length w.tree → is_marked (reached net b w).tree net ≡ true
reached_marked net b w below = marked_or net b w (is_marked w.tree net) refl below

-- one more gate to whose net the walk has come
pub reached_more : (b new : Branch) (w v u : Walk) (gates : List Gate) (k : ℕ) (g : Gate) → k < length gates → g ≡ get_or gates k g
    → new ≡ past_buffer b g.func → v ≡ fold (gate_reached b) w (take k gates) → u ≡ reached g.out new v → u ≡ fold (gate_reached b) w (take (k + 1) gates)
reached_more b new w v u gates k g low item by walked is =
    is ∙ ap (λ (x : Branch). reached g.out x v) by ∙ ap (gate_reached b v) item ∙ ap (λ (x : Walk). gate_reached b x (get_or gates k g)) walked
    ∙ sym (fold_more (gate_reached b) w gates k g low)

-- a gate of a lawful part is one to whose net a walk can come
pub part_reachable : (nets : ℕ) (p : Part) → IsLawfulPart nets p → All (IsReachable nets) (part_gates p)
part_reachable nets (part.Comb buffer ins gates) lawful = all_from_in (IsReachable nets) gates (λ g has.
    let own = all_in (IsLawfulGate nets ins) gates lawful.drives g has in
    record { out = own.out; func = IsOver-weaker (length ins) 7 g.func (omega (arith, lawful.few)) own.func })
part_reachable nets (part.Flop clock reg) lawful = λ k d low. absurd (omega (arith, low))
part_reachable nets (part.Gate clock enables out) lawful = λ k d low. absurd (omega (arith, low))

-- a part hands the clock on from a net on this branch
abbrev pub IsHanding : Circuit → Branch → Part → Type 0
IsHanding c b p = (to : ℕ) (new : Branch) → HandsTo p b to new → OnBranch c to new

-- the walk after a part that hands the clock on
handed_walk : (c : Circuit) (b : Branch) (p : Part) (w : Walk) → IsLawfulPart c.nets p → IsHanding c b p → IsWalk c w → IsWalkFrom c w (handed b w p)
handed_walk c b (part.Comb buffer ins gates) w lawful handing walk =
    fold_kept (IsWalkFrom c w) (gate_reached b) gates w (λ g has v before.
    let own = all_in (IsLawfulGate c.nets ins) gates lawful.drives g has in
    let on = handing g.out (past_buffer b g.func) (g, Contains-from_In gates g has, refl, refl) in
    from_more c w v (gate_reached b v g) before (reached_walk c g.out (past_buffer b g.func) v own.out on before.walk)) (from_same c w walk)
handed_walk c b (part.Flop clock reg) w lawful handing walk = from_same c w walk
handed_walk c b (part.Gate clock enables out) w lawful handing walk =
    reached_walk c out (past_gate b out) w lawful.out_net (handing out (past_gate b out) (refl, refl)) walk

-- all to which it hands the clock on is marked then
handed_marked : (c : Circuit) (b a new : Branch) (p : Part) (w : Walk) (to : ℕ) → IsLawfulPart c.nets p → IsHanding c b p → IsWalk c w
    → HandsTo p a to new → is_marked (handed b w p).tree to ≡ true
handed_marked c b a new (part.Comb buffer ins gates) w to lawful handing walk (g, there, out, is) =
    let step : (h : Gate) → In h gates → (v : Walk) → IsWalk c v → IsWalkFrom c v (gate_reached b v h) = λ h has v before.
    let own = all_in (IsLawfulGate c.nets ins) gates lawful.drives h has in
    let on = handing h.out (past_buffer b h.func) (h, Contains-from_In gates h has, refl, refl) in
    reached_walk c h.out (past_buffer b h.func) v own.out on before in
    let here = In-from_Contains gates g there in
    let below = (all_in (IsLawfulGate c.nets ins) gates lawful.drives g here).out in
    fold_each (IsWalk c) (λ (v : Walk). is_marked v.tree to ≡ true) (gate_reached b) gates w g here
    (λ h has v before. (step h has v before).walk)
    (λ v before. subst (λ (n : ℕ). is_marked (gate_reached b v g).tree n ≡ true) out
    (reached_marked g.out (past_buffer b g.func) v (omega (arith, below, before.tree_len))))
    (λ h has v before was. (step h has v before).marks to was) walk
handed_marked c b a new (part.Flop clock reg) w to lawful handing walk hands = absurd hands
handed_marked c b a new (part.Gate clock enables out) w to lawful handing walk (same, is) =
    subst (λ (n : ℕ). is_marked (reached out (past_gate b out) w).tree n ≡ true) same
    (reached_marked out (past_gate b out) w (omega (arith, lawful.out_net, walk.tree_len)))

-- the walk after what a part hands on, if there is one
abbrev pub handed_of : Branch → Walk → Option Part → Walk
handed_of b w None = w
handed_of b w (Some p) = handed b w p

-- the walk after what the part at a place hands on
abbrev pub handed_at : Circuit → Branch → Walk → ℕ → Walk
handed_at c b w place = handed_of b w (slice_get c.parts place)

-- that is so where a part stands at the place
handed_here : (c : Circuit) (b : Branch) (w : Walk) (place : ℕ) (p : Part) → slice_get c.parts place ≡ Some p → handed_at c b w place ≡ handed b w p
handed_here c b w place p at = ap (handed_of b w) at

-- a place in the list of a net of the walk has a part that hands on from there
pub record IsHandingAt (c : Circuit) (net : ℕ) (b : Branch) (place : ℕ) : Type 0 where
  pub p : Part
  pub at : slice_get c.parts place ≡ Some p
  pub lawful : IsLawfulPart c.nets p
  pub handing : IsHanding c b p

-- so does each place in the list of a net of a branch
reader_hands : (c : Circuit) (rows : List (List ℕ)) (net place : ℕ) (b : Branch) → IsLawfulCircuit c → AreReaders c rows → OnBranch c net b
    → Contains (readers_at rows net) place → IsHandingAt c net b place
reader_hands c rows net place b lawful readers on has =
    let (p, at, reads) = readers.hand net place has in
    let own = part_lawful c place p lawful at in
    record {
      p = p;
      at = at;
      lawful = own;
      handing = λ to new hands. handed_on c p net to b new own (contains_at c.parts place p at) reads hands on;
    }

-- the walk after such a place
place_walk : (c : Circuit) (net : ℕ) (b : Branch) (place : ℕ) (w : Walk) → IsHandingAt c net b place → IsWalk c w
    → IsWalkFrom c w (handed_at c b w place)
place_walk c net b place w of walk =
    subst (IsWalkFrom c w) (sym (handed_here c b w place of.p of.at)) (handed_walk c b of.p w of.lawful of.handing walk)

-- the walk after a visit: all readers of one more net have handed the clock on
visited_walk : (c : Circuit) (rows : List (List ℕ)) (at net : ℕ) (b : Branch) (w : Walk) → IsLawfulCircuit c → AreReaders c rows → IsWalkTo c at w
    → slice_get w.nets at ≡ Some net → OnBranch c net b → IsWalkTo c (at + 1) (fold (handed_at c b) w (readers_at rows net))
visited_walk c rows at net b w lawful readers before here on =
    let row : List ℕ = readers_at rows net in
    let step : (place : ℕ) → In place row → (v : Walk) → IsWalk c v → IsWalkFrom c v (handed_at c b v place) = λ place has v walk.
    place_walk c net b place v (reader_hands c rows net place b lawful readers on (Contains-from_In row place has)) walk in
    let after : IsWalkFrom c w (fold (handed_at c b) w row) =
    fold_kept (IsWalkFrom c w) (handed_at c b) row w (λ place has v walk. from_more c w v (handed_at c b v place) walk (step place has v walk.walk))
    (from_same c w before.walk) in
    record {
      walk = after.walk;
      roots = λ n has. after.marks n (before.roots n has);
      handed = λ j place from to a new p low at_j at_p reads hands.
          elim (cases_lt j at) [
            | inl less ↦
                let within : j < length w.nets = omega (arith, less, slice_get_within w.nets at net here) in
                let old = slice_get-get_or w.nets j 0 within in
                let same = some_same (slice_get (fold (handed_at c b) w row).nets j) (get_or w.nets j 0) from (after.places j (get_or w.nets j 0) old) at_j in
                after.marks to (before.handed j place from to a new p less (old ∙ ap (λ (n : ℕ). Some n) same) at_p reads hands)
            | inr past ↦
                let last : j ≡ at = omega (arith, low, past) in
                let there = after.places at net here in
                let now : slice_get (fold (handed_at c b) w row).nets at ≡ Some from =
                subst (λ (i : ℕ). slice_get (fold (handed_at c b) w row).nets i ≡ Some from) last at_j in
                let same : from ≡ net = some_same (slice_get (fold (handed_at c b) w row).nets at) from net now there in
                let has = readers.all net place p (slice_get_within c.parts place p at_p) at_p (reads ∙ ap (λ (n : ℕ). Some n) same) in
                fold_each (IsWalk c) (λ (v : Walk). is_marked v.tree to ≡ true) (handed_at c b) row w place (In-from_Contains row place has)
                (λ k in_row v walk. (step k in_row v walk).walk)
                (λ v walk.
                subst (λ (u : Walk). is_marked u.tree to ≡ true) (sym (handed_here c b v place p at_p))
                (handed_marked c b a new p v to (part_lawful c place p lawful at_p)
                (λ n x h. handed_on c p net n b x (part_lawful c place p lawful at_p) (contains_at c.parts place p at_p)
                (reads ∙ ap (λ (n : ℕ). Some n) same) h on) walk hands))
                (λ k in_row v walk was. (step k in_row v walk).marks to was) before.walk
          ];
    }

-- a net of the walk is on the branch that is read there
on_net : (c : Circuit) (i net : ℕ) (b : Branch) (w : Walk) → IsWalkTo c i w → slice_get w.nets i ≡ Some net → b ≡ branch_of w net → OnBranch c net b
on_net c i net b w to here is = subst (OnBranch c net) (sym is) (to.walk.on net (to.walk.met i net here))

-- what the code knows before it hands on what a part hands on
pub visit_at : (c : Circuit) (rows : List (List ℕ)) (at i net : ℕ) (b : Branch) (w : Walk) (items : List ℕ) → IsLawfulCircuit c → AreReaders c rows
    → IsWalkTo c at w → slice_get w.nets at ≡ Some net → b ≡ branch_of w net → items ≡ readers_at rows net → i < length items
    → IsHandingAt c net b (get_or items i 0)
visit_at c rows at i net b w items lawful readers to here is row low =
    reader_hands c rows net (get_or items i 0) b lawful readers (on_net c at net b w to here is)
    (subst (λ (l : List ℕ). Contains l (get_or items i 0)) row (Contains-get_or items i 0 low))

-- and after it
pub visit_more : (c : Circuit) (rows : List (List ℕ)) (i net : ℕ) (b : Branch) (w v u : Walk) (items : List ℕ) (p : Part)
    → IsHandingAt c net b (get_or items i 0) → items ≡ readers_at rows net → i < length items → slice_get c.parts (get_or items i 0) ≡ Some p
    → IsWalk c v → v ≡ fold (handed_at c b) w (take i (readers_at rows net)) → u ≡ handed b v p
    → IsWalk c u × (u ≡ fold (handed_at c b) w (take (i + 1) (readers_at rows net)))
visit_more c rows i net b w v u items p of row low at walk is new =
    let step : handed_at c b v (get_or items i 0) ≡ u = handed_here c b v (get_or items i 0) p at ∙ sym new in
    let more : fold (handed_at c b) w (take (i + 1) items) ≡ handed_at c b (fold (handed_at c b) w (take i items)) (get_or items i 0) =
    fold_more (handed_at c b) w items i 0 low in
    let was : v ≡ fold (handed_at c b) w (take i items) = is ∙ ap (λ (l : List ℕ). fold (handed_at c b) w (take i l)) (sym row) in (
      subst (IsWalk c) step (place_walk c net b (get_or items i 0) v of walk).walk,
      sym step ∙ ap (λ (x : Walk). handed_at c b x (get_or items i 0)) was ∙ sym more
          ∙ ap (λ (l : List ℕ). fold (handed_at c b) w (take (i + 1) l)) row,
    )

pub visit_end : (c : Circuit) (rows : List (List ℕ)) (at i net : ℕ) (b : Branch) (w v : Walk) (items : List ℕ) → IsLawfulCircuit c → AreReaders c rows
    → IsWalkTo c at w → slice_get w.nets at ≡ Some net → b ≡ branch_of w net → items ≡ readers_at rows net → length items ≤ i
    → v ≡ fold (handed_at c b) w (take i (readers_at rows net)) → IsWalkTo c (at + 1) v
visit_end c rows at i net b w v items lawful readers to here is row past walked =
    let whole : take i (readers_at rows net) ≡ readers_at rows net = take_all i (readers_at rows net) (subst (λ (l : List ℕ). length l ≤ i) row past) in
    subst (IsWalkTo c (at + 1)) (sym (walked ∙ ap (λ (l : List ℕ). fold (handed_at c b) w l) whole))
    (visited_walk c rows at net b w lawful readers to here (on_net c at net b w to here is))

-- the walk at the clock's nets
pub clocks_walk : (c : Circuit) (w : Walk) → IsLawfulCircuit c → w.nets ≡ [] → AreRows c.nets w → IsWalkTo c 0 (fold clock_reached w c.clocks)
clocks_walk c w lawful none rows =
    let start : IsWalk c w = record {
      tree_len = rows.tree_len;
      odd_len = rows.odd_len;
      above_len = rows.above_len;
      lost_len = rows.lost_len;
      on = λ n hit. (let miss = rows.none n in cc);
      listed = λ n hit. (let miss = rows.none n in cc);
      met = λ i n at. (let here : slice_get [] i ≡ Some n = subst (λ (ns : List ℕ). slice_get ns i ≡ Some n) none at in cc);
    } in
    let step : (net : ℕ) → In net c.clocks → (v : Walk) → IsWalk c v → IsWalkFrom c v (clock_reached v net) = λ net has v walk.
    reached_walk c net root_branch v (all_in (λ (n : ℕ). n < c.nets) c.clocks lawful.clocks net has) (Rooted net (Contains-from_In c.clocks net has)) walk in
    record {
      walk = fold_kept (IsWalk c) clock_reached c.clocks w (λ net has v walk. (step net has v walk).walk) start;
      roots = λ net has.
          let here = In-from_Contains c.clocks net has in
          let below = all_in (λ (n : ℕ). n < c.nets) c.clocks lawful.clocks net here in
          fold_each (IsWalk c) (λ (v : Walk). is_marked v.tree net ≡ true) clock_reached c.clocks w net here
          (λ n in_clocks v walk. (step n in_clocks v walk).walk)
          (λ v walk. reached_marked net root_branch v (omega (arith, below, walk.tree_len)))
          (λ n in_clocks v walk was. (step n in_clocks v walk).marks net was) start;
      handed = λ j place from to a new p low at_j at_p reads hands. absurd (omega (arith, low));
    }

-- all that is on a branch is marked when all nets of the walk have been visited
branch_marked : (c : Circuit) (i : ℕ) (w : Walk) → length w.nets ≤ i → IsWalkTo c i w → (net : ℕ) (b : Branch) → OnBranch c net b
    → is_marked w.tree net ≡ true
branch_marked c i w whole to net b (Rooted root has) = to.roots root has
branch_marked c i w whole to net b (AfterBuffer from gates g before stands there on) =
    let (j, at_j) = at_contains w.nets from (to.walk.listed from (branch_marked c i w whole to from before on)) in
    let (place, at) = at_contains c.parts (part.Comb true (from ∷ []) gates) stands in
    to.handed j place from g.out before (past_buffer before g.func) (part.Comb true (from ∷ []) gates)
    (omega (arith, slice_get_within w.nets j from at_j, whole)) at_j at refl (g, there, refl, refl)
branch_marked c i w whole to net b (AfterGate clock enables out before stands on) =
    let (j, at_j) = at_contains w.nets clock (to.walk.listed clock (branch_marked c i w whole to clock before on)) in
    let (place, at) = at_contains c.parts (part.Gate clock enables out) stands in
    to.handed j place clock out before (past_gate before out) (part.Gate clock enables out)
    (omega (arith, slice_get_within w.nets j clock at_j, whole)) at_j at refl (refl, refl)

-- and its branch is the one on which the walk has come to it
branch_found : (c : Circuit) (i : ℕ) (w : Walk) → IsLawfulCircuit c → ((net : ℕ) → count_by (λ m. m == net) (all_drivers c) ≤ 1) → length w.nets ≤ i
    → IsWalkTo c i w → (net : ℕ) (b : Branch) → OnBranch c net b → (is_marked w.tree net ≡ true) × (branch_of w net ≡ b)
branch_found c i w lawful once whole to net b on =
    let marked = branch_marked c i w whole to net b on in
    (marked, one_branch c lawful once net (branch_of w net) b (to.walk.on net marked) on)

-- the rows that are read are those of the nets below the clock
pub tree_is : (c : Circuit) (i : ℕ) (w : Walk) → IsLawfulCircuit c → ((net : ℕ) → count_by (λ m. m == net) (all_drivers c) ≤ 1) → length w.nets ≤ i
    → IsWalkTo c i w → IsWalked c w.tree w.odd w.lost
tree_is c i w lawful once whole to = record {
  tree_len = to.walk.tree_len;
  odd_len = to.walk.odd_len;
  on = λ net marked kept. tree_of_branch c net (branch_of w net) (to.walk.on net marked) kept;
  all = λ net odd on.
      let (b, by, same, kept) = branch_of_tree c net odd on in
      let (marked, found) = branch_found c i w lawful once whole to net b by in
      (marked, ap (λ (x : Branch). x.odd) found ∙ same, ap (λ (x : Branch). x.lost) found ∙ kept);
  lossy = λ net marked is.
      let gate = lost_by c net (branch_of w net) (to.walk.on net marked) is in
      let (hit, found) = branch_found c i w lawful once whole to gate.clock gate.before gate.on in
      record {
        clock = gate.clock;
        enables = gate.enables;
        out = gate.out;
        stands = gate.stands;
        odd_is = ap (λ (x : Branch). x.odd) found ∙ gate.odd;
      };
}

-- a place that a row marks is one of its places
marked_within : (marks : List Bool) (net : ℕ) → is_marked marks net ≡ true → net < length marks
marked_within marks net hit = elim (cases_lt net (length marks)) [
  | inl within ↦ within
  | inr past ↦ (let miss : is_marked marks net ≡ false = get_or_past marks net false past in cc)
]

-- the row that is read has the clock gate above each net
pub above_is : (c : Circuit) (i : ℕ) (w : Walk) → IsLawfulCircuit c → ((net : ℕ) → count_by (λ m. m == net) (all_drivers c) ≤ 1) → length w.nets ≤ i
    → IsWalkTo c i w → IsAboveRow c w.above
above_is c i w lawful once whole to = λ net up under.
    let (b, by, same) = branch_of_under c net up under in
    let (marked, found) = branch_found c i w lawful once whole to net b by in
    let within : net < length w.above = omega (arith, marked_within w.tree net marked, to.walk.tree_len, to.walk.above_len) in
    slice_get-get_or w.above net None within ∙ ap (λ (o : Option ℕ). Some o) (ap (λ (x : Branch). x.above) found ∙ same)
