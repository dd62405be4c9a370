-- Marks of nets, as they are added.
use Rattle.std.proofs.Common.{arith, ◌≡◌, ◌≢◌, ℕ, ◌+◌, ◌<◌, ◌≤◌, Bool, true, false, List, [], ◌∷◌, ◌++◌, length, take, map, set, get_or, All, option_map}
use Rattle.std.proofs.Common.{Some, refl, sym, ap, subst, ◌∙◌, inl, inr, Contains, slice_get, if◌then◌else◌, length-set, get_or-set_same, get_or-set_other}
use Rattle.std.proofs.lemmas.Bool.{cases_eq, cases_lt}
use Rattle.std.proofs.lemmas.List.{take_more, take_all, flat_map_more, get_or_past, length-map, get_or-map}
use Rattle.std.proofs.lemmas.List.Elements.{Contains-append_left, Contains-append_right, Contains-append_cases}
use Rattle.std.proofs.lemmas.List.Elements.{Contains-push, Contains-push_cases, All-contains}
use Rattle.std.proofs.lemmas.Option.{slice_get_within, same_Some, get_or_from_slice_get, slice_get-get_or, slice_get-map}
use Rattle.sdcv_base.specs.Seqs.{is_marked}
use Rattle.net_model.specs.Netlist.{IsSound, IsGateInRange}
use Rattle.net_model.proofs.Order.{before, before_grows, not_yet}
use Rattle.net_model.proofs.Settling.{All-at}
use Rattle.net_model.specs.declared.netlist.Design.{Design}
use Rattle.net_model.specs.declared.netlist.Gate.{Gate}
use Rattle.net_model.specs.declared.netlist.RegOut.{RegOut}
use Rattle.inv_candidates.specs.Leading.{LeadsInto, At_one, Into_gate, ins_of, pin_nets, HasMark, AreAdded, IsPassed, AreSwept, AreLeading}

-- nothing is added
pub added_none : (marks : List Bool) → AreAdded [] marks marks
added_none marks = record { len = refl; kept = λ net has. has; added = λ net has. absurd (omega (arith, has.1)); only = λ net has. inl has }

put_kept : (marks : List Bool) (n net : ℕ) → HasMark marks net → HasMark (set marks n true) net
put_kept marks n net has = elim (cases_eq net n) [
  | inl same ↦ elim (cases_lt n (length marks)) [
    | inl below ↦ subst (HasMark (set marks n true)) (sym same) (get_or-set_same marks n true false below)
    | inr past ↦ let none = get_or_past marks net false (omega arith) in absurd cc
  ]
  | inr differs ↦ get_or-set_other marks n net true false differs ∙ has
]

-- one more net
pub added_push : (nets : List ℕ) (n : ℕ) (before now : List Bool) → n < length now → AreAdded nets before now
    → AreAdded (nets ++ n ∷ []) before (set now n true)
added_push nets n before now below are = record {
  len = length-set now n true ∙ are.len;
  kept = λ net has. put_kept now n net (are.kept net has);
  added = λ net among. elim (Contains-push_cases nets n net among) [
    | inl earlier ↦ put_kept now n net (are.added net earlier)
    | inr same ↦ subst (HasMark (set now n true)) same (get_or-set_same now n true false below)
  ];
  only = λ net has. elim (cases_eq net n) [
    | inl same ↦ inr (subst (Contains (nets ++ n ∷ [])) (sym same) (Contains-push nets n))
    | inr differs ↦ elim (are.only net (sym (get_or-set_other now n net true false differs) ∙ has)) [
      | inl was ↦ inl was
      | inr among ↦ inr (Contains-append_left nets (n ∷ []) net among)
    ]
  ];
}

-- those of one list, and then those of another
pub added_both : (xs ys : List ℕ) (before mid now : List Bool) → AreAdded xs before mid → AreAdded ys mid now → AreAdded (xs ++ ys) before now
added_both xs ys before mid now first second = record {
  len = second.len ∙ first.len;
  kept = λ net has. second.kept net (first.kept net has);
  added = λ net among. elim (Contains-append_cases xs ys net among) [
    | inl earlier ↦ second.kept net (first.added net earlier)
    | inr later ↦ second.added net later
  ];
  only = λ net has. elim (second.only net has) [
    | inl was ↦ elim (first.only net was) [
      | inl first_of_all ↦ inl first_of_all
      | inr earlier ↦ inr (Contains-append_left xs ys net earlier)
    ]
    | inr later ↦ inr (Contains-append_right xs ys net later)
  ];
}

-- the nets of a list up to a place, and the one there
pub added_more : (nets : List ℕ) (k n : ℕ) (before now : List Bool) → slice_get nets k ≡ Some n → n < length now → AreAdded (take k nets) before now
    → AreAdded (take (k + 1) nets) before (set now n true)
added_more nets k n before now at below are =
    let more : take (k + 1) nets ≡ take k nets ++ n ∷ [] =
    take_more nets k n (slice_get_within nets k n at) ∙ ap (λ m. take k nets ++ m ∷ []) (get_or_from_slice_get nets k n n at) in
    subst (λ l. AreAdded l before (set now n true)) (sym more) (added_push (take k nets) n before now below are)

pub added_all : (nets : List ℕ) (k : ℕ) (before now : List Bool) → length nets ≤ k → AreAdded (take k nets) before now → AreAdded nets before now
added_all nets k before now past are = subst (λ l. AreAdded l before now) (take_all k nets past) are

-- the pins of the registers up to a place, and of the one there
pub pins_more : (d : Design) (regs : List ℕ) (k r : ℕ) (before mid now : List Bool) → slice_get regs k ≡ Some r
    → AreAdded (pin_nets d (take k regs)) before mid → AreAdded (ins_of (slice_get d.regs r)) mid now → AreAdded (pin_nets d (take (k + 1) regs)) before now
pins_more d regs k r before mid now at first second =
    let more : take (k + 1) regs ≡ take k regs ++ r ∷ [] =
    take_more regs k r (slice_get_within regs k r at) ∙ ap (λ m. take k regs ++ m ∷ []) (get_or_from_slice_get regs k r r at) in
    let pins : pin_nets d (take (k + 1) regs) ≡ pin_nets d (take k regs) ++ ins_of (slice_get d.regs r) =
    ap (pin_nets d) more ∙ sym (flat_map_more (λ q. ins_of (slice_get d.regs q)) [] (take k regs) r) in
    subst (λ l. AreAdded l before now) (sym pins) (added_both (pin_nets d (take k regs)) (ins_of (slice_get d.regs r)) before mid now first second)

pub pins_all : (d : Design) (regs : List ℕ) (k : ℕ) (before now : List Bool) → length regs ≤ k → AreAdded (pin_nets d (take k regs)) before now
    → AreAdded (pin_nets d regs) before now
pins_all d regs k before now past are = subst (λ l. AreAdded (pin_nets d l) before now) (take_all k regs past) are

-- before any gate
pub swept_none : (d : Design) (place : ℕ) (marks : List Bool) → length d.gates ≤ place → AreSwept d place marks marks
swept_none d place marks past = record {
  len = refl;
  kept = λ net has. has;
  passed = λ k g net from at has among. absurd (omega (arith, from, slice_get_within d.gates k g at));
  only = λ net has. At_one net has;
}

-- where its output is marked, the nets of a gate are what is added
pins_if : (marked : Bool) (ins : List ℕ) (net : ℕ) → Contains (if marked then ins else []) net → (marked ≡ true) × Contains ins net
pins_if true ins net has = (refl, has)
pins_if false ins net (i, below, is) = absurd (omega (arith, below))

pins_then : (marked : Bool) (ins : List ℕ) (net : ℕ) → marked ≡ true → Contains ins net → Contains (if marked then ins else []) net
pins_then true ins net is has = has
pins_then false ins net is has = absurd cc

-- a gate reads no output of its own or of a later gate
reads_earlier : (d : Design) (p k : ℕ) (h g : Gate) → IsSound d → slice_get d.gates p ≡ Some h → slice_get d.gates k ≡ Some g → p ≤ k → Contains h.ins g.out → ⊥
reads_earlier d p k h g sound at_p at_k le among =
    let driven : Contains (before d p) g.out = All-contains (Contains (before d p)) h.ins g.out (sound.in_order p h at_p) among in
    let in_range = (All-at (IsGateInRange d) d.gates k g at_k sound.in_range.gates).out in
    not_yet d k g g.out sound at_k in_range (before_grows d p k g.out le driven) refl

-- one more gate, from the last to the first
pub swept_more : (d : Design) (p : ℕ) (old mid now : List Bool) → IsSound d → AreSwept d (p + 1) old mid → IsPassed d p mid now → AreSwept d p old now
swept_more d p old mid now sound are (h, at_p, added) =
    let was : (k : ℕ) (g : Gate) → p ≤ k → slice_get d.gates k ≡ Some g → HasMark now g.out → HasMark mid g.out =
    λ k g from at has. elim (added.only g.out has) [
      | inl marked ↦ marked
      | inr among ↦ absurd (reads_earlier d p k h g sound at_p at from (pins_if (is_marked mid h.out) h.ins g.out among).1)
    ] in
    record {
      len = added.len ∙ are.len;
      kept = λ net has. added.kept net (are.kept net has);
      passed = λ k g net from at has among. elim (cases_lt p k) [
        | inl later ↦ added.kept net (are.passed k g net (omega arith) at (was k g from at has) among)
        | inr not_later ↦
            let here : k ≡ p = omega (arith, from, not_later) in
            let same : g ≡ h = same_Some g h (sym at ∙ ap (slice_get d.gates) here ∙ at_p) in
            let marked : is_marked mid h.out ≡ true = subst (λ (q : Gate). HasMark mid q.out) same (was k g from at has) in
            added.added net (pins_then (is_marked mid h.out) h.ins net marked (subst (λ (q : Gate). Contains q.ins net) same among))
      ];
      only = λ net has. elim (added.only net has) [
        | inl marked ↦ are.only net marked
        | inr among ↦
            let (marked, reads) = pins_if (is_marked mid h.out) h.ins net among in
            Into_gate p h net at_p reads (are.only h.out marked)
      ];
    }

leads_weaker : (d : Design) (P Q : ℕ → Type 0) (net : ℕ) → ((n : ℕ) → P n → Q n) → LeadsInto d P net → LeadsInto d Q net
leads_weaker d P Q _ weaker (At_one net is) = At_one net (weaker net is)
leads_weaker d P Q _ weaker (Into_gate k g net at among into) = Into_gate k g net at among (leads_weaker d P Q g.out weaker into)

marked_from_leads : (d : Design) (P : ℕ → Type 0) (old now : List Bool) (net : ℕ) → AreSwept d 0 old now → ((n : ℕ) → P n → HasMark old n)
    → LeadsInto d P net → HasMark now net
marked_from_leads d P old now _ are first (At_one net is) = are.kept net (first net is)
marked_from_leads d P old now _ are first (Into_gate k g net at among into) =
    are.passed k g net (omega arith) at (marked_from_leads d P old now g.out are first into) among

-- the marks after the sweep, where at first the registers' pins alone have them
pub leading_from_swept : (d : Design) (regs : List ℕ) (blank old now : List Bool) → length blank ≡ d.nets → ((net : ℕ) → is_marked blank net ≡ false)
    → AreAdded (pin_nets d regs) blank old → AreSwept d 0 old now → AreLeading d regs now
leading_from_swept d regs blank old now len none added swept = record {
  len = swept.len ∙ added.len ∙ len;
  exact = λ net. (
    (λ has. leads_weaker d (HasMark old) (Contains (pin_nets d regs)) net
        (λ n marked. elim (added.only n marked) [ inl was ↦ absurd (let no = none n in cc) | inr among ↦ among ]) (swept.only net has)),
    (λ into. marked_from_leads d (Contains (pin_nets d regs)) old now net swept added.added into),
  );
}

-- an output net that has a mark
pub shown_mark : (outs : List RegOut) (marks : List Bool) (i : ℕ) (o : RegOut) → slice_get outs i ≡ Some o → HasMark marks o.net
    → (net : ℕ) × Contains (map (λ (q : RegOut). q.net) outs) net × HasMark marks net
shown_mark outs marks i o at marked =
    let below : i < length (map (λ (q : RegOut). q.net) outs) =
    (let low = slice_get_within outs i o at in omega (arith, low, length-map outs (λ (q : RegOut). q.net))) in (
      o.net,
      (
        i,
        below,
        get_or-map (λ (q : RegOut). q.net) outs i o o.net (slice_get_within outs i o at)
            ∙ ap (λ (q : RegOut). q.net) (get_or_from_slice_get outs i o o at),
      ),
      marked,
    )

-- there is none where each is unmarked
pub none_shown : (outs : List RegOut) (marks : List Bool) (k : ℕ) → length outs ≤ k
    → ((j : ℕ) (o : RegOut) → j < k → slice_get outs j ≡ Some o → is_marked marks o.net ≡ false)
    → (net : ℕ) × Contains (map (λ (q : RegOut). q.net) outs) net × HasMark marks net → ⊥
none_shown outs marks k past none (net, (i, below, is), marked) =
    let blank : RegOut = record { net = 0; inverted = false } in
    let low : i < length outs = omega (arith, below, length-map outs (λ (q : RegOut). q.net)) in
    let same : (get_or outs i blank).net ≡ net = sym (get_or-map (λ (q : RegOut). q.net) outs i blank net low) ∙ is in
    let no = none i (get_or outs i blank) (omega (arith, low)) (slice_get-get_or outs i blank low) in
    absurd (let yes = ap (is_marked marks) same ∙ marked in cc)

-- a number that is in the list, and one that is at none of its places
pub not_listed : (regs : List ℕ) (reg k : ℕ) → length regs ≤ k → ((j x : ℕ) → j < k → slice_get regs j ≡ Some x → x ≢ reg) → Contains regs reg → ⊥
not_listed regs reg k past none (i, below, is) =
    none i (get_or regs i reg) (omega (arith, below)) (slice_get-get_or regs i reg below) is

-- an output net is one of the register's nets
pub out_low : (limit : ℕ) (outs : List RegOut) (k : ℕ) (o : RegOut) → slice_get outs k ≡ Some o → All (λ n. n < limit) (map (λ (q : RegOut). q.net) outs)
    → o.net < limit
out_low limit outs k o at all =
    All-at (λ n. n < limit) (map (λ (q : RegOut). q.net) outs) k o.net
    (slice_get-map (λ (q : RegOut). q.net) outs k ∙ ap (option_map (λ (q : RegOut). q.net)) at) all

-- one more output net without a mark
pub unmarked_more : (outs : List RegOut) (marks : List Bool) (k : ℕ) (o : RegOut) → slice_get outs k ≡ Some o → is_marked marks o.net ≡ false
    → ((j : ℕ) (q : RegOut) → j < k → slice_get outs j ≡ Some q → is_marked marks q.net ≡ false)
    → (j : ℕ) (q : RegOut) → j < k + 1 → slice_get outs j ≡ Some q → is_marked marks q.net ≡ false
unmarked_more outs marks k o at unmarked before j q low there = elim (cases_lt j k) [
  | inl below ↦ before j q below there
  | inr past ↦
      let here : j ≡ k = omega (arith, low, past) in
      let same : o ≡ q = same_Some o q (sym at ∙ ap (slice_get outs) (sym here) ∙ there) in
      subst (λ (p : RegOut). is_marked marks p.net ≡ false) same unmarked
]
