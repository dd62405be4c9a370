-- Inputs that cells drive which are cut out, cell by cell and pin by pin, and the starts of a design among its registers and inputs.
use Rattle.std.proofs.Common.{arith, ◌≡◌, ◌≢◌, ◌∙◌, ℕ, ◌+◌, ◌<◌, ◌≤◌, Bool, true, false, List, [], ◌∷◌, ◌++◌, length, take, refl, sym, ap, subst, inl, inr}
use Rattle.std.specs.Prelude.{Some, slice_get, slice_set, ◌==◌, nat_lt, ◌||◌, filter, cond, All}
use Rattle.std.specs.List.{list_any}
use Rattle.std.proofs.lemmas.Bool.Decides.{nat_tests}
use Rattle.std.proofs.lemmas.List.{get_or-set_same, get_or-set_other}
use Rattle.std.proofs.lemmas.List.Elements.{filter_more, All-contains}
use Rattle.std.proofs.lemmas.List.Folds.{list_any_more}
use Rattle.std.proofs.lemmas.Option.{slice_get_within, get_or_from_slice_get}
use Rattle.net_model.specs.Fits.{IsStartIn}
use Rattle.net_model.specs.declared.claims.Start.{Start}
use Rattle.net_model.specs.declared.claims.Start.TheVariants.{Reg as RegStart, Input as InputStart}
use Rattle.net_model.proofs.Members.{In, Contains-from_In}
use Rattle.net_paths.specs.Those.{AreThose, All_seen, Taken, Left_out}
use Rattle.sdcv_base.specs.Seqs.{where_true}
use Rattle.linked_types.specs.declared.names.Linked.{Linked}
use Rattle.linked_types.specs.declared.names.CellName.{CellName}
use Rattle.linked_types.specs.declared.names.PinName.{PinName}
use Rattle.exception_expand.specs.Points.{has_mark, is_source_of, drives, begins, start_points, all_starts}
use Rattle.exception_expand.specs.Choices.{AreDriven, ArePointsOf, has_begun}
use Rattle.exception_expand.specs.declared.points.Points.{Points}
use Rattle.exception_expand.proofs.Placing.{same_or}
use Rattle.exception_expand.proofs.Ranging.{points_in}

-- one item more passes the test, or one before
any_next : {A : Type 0} (test : A → Bool) (xs : List A) (k : ℕ) (x : A) → slice_get xs k ≡ Some x
    → list_any test (take (k + 1) xs) ≡ (list_any test (take k xs) || test x)
any_next test xs k x here =
    list_any_more test xs k x (slice_get_within xs k x here) ∙ ap (λ y. list_any test (take k xs) || test y) (get_or_from_slice_get xs k x x here)

or_turn : (a b c : Bool) → ((a || b) || c) ≡ (a || (b || c))
or_turn true b c = refl
or_turn false b c = refl

or_none : (a : Bool) → a ≡ (a || false)
or_none true = refl
or_none false = refl

-- no cell drives an input
pub driven_none : (marks : List Bool) (inputs : ℕ) → length marks ≡ inputs → ((k : ℕ) → has_mark marks k ≡ false) → AreDriven [] inputs marks
driven_none marks inputs len none = record { as_many = len; driven = λ i low. none i }

-- the pins of one cell more
pub driven_more : (cells : List CellName) (k : ℕ) (c : CellName) (inputs : ℕ) (old new : List Bool) → slice_get cells k ≡ Some c
    → AreDriven (take k cells) inputs old → length new ≡ length old
    → ((i : ℕ) → i < length old → has_mark new i ≡ (has_mark old i || drives i c.pins)) → AreDriven (take (k + 1) cells) inputs new
driven_more cells k c inputs old new here before len marked = record {
  as_many = len ∙ before.as_many;
  driven = λ i low.
      let within : i < length old = omega (arith, low, before.as_many) in
      marked i within ∙ ap (λ (b : Bool). b || drives i c.pins) (before.driven i low)
      ∙ sym (any_next (λ (x : CellName). drives i x.pins) cells k c here);
}

-- no pin of a cell as yet
pub marked_none : (marks : List Bool) (i : ℕ) → has_mark marks i ≡ (has_mark marks i || drives i [])
marked_none marks i = or_none (has_mark marks i)

-- one pin more
pub marked_more : (pins : List PinName) (k i : ℕ) (p : PinName) (first old new : Bool) → slice_get pins k ≡ Some p → old ≡ (first || drives i (take k pins))
    → new ≡ (old || is_source_of i p.role) → new ≡ (first || drives i (take (k + 1) pins))
marked_more pins k i p first old new here before turn =
    turn ∙ ap (λ (b : Bool). b || is_source_of i p.role) before ∙ or_turn first (drives i (take k pins)) (is_source_of i p.role)
    ∙ ap (λ (b : Bool). first || b) (sym (any_next (λ (x : PinName). is_source_of i x.role) pins k p here))

or_true : (a : Bool) → true ≡ (a || true)
or_true true = refl
or_true false = refl

-- a mark at an input
pub mark_put : (marks new : List Bool) (input i : ℕ) → input < length marks → new ≡ slice_set marks input true
    → has_mark new i ≡ (has_mark marks i || (input == i))
mark_put marks new input i low is =
    ap (λ (m : List Bool). has_mark m i) is ∙ elim (same_or i input) [
      | inl e ↦
          let same : input ≡ i = sym e in
          let yes : (input == i) ≡ true = grind (arith, nat_tests) in
          ap (has_mark (slice_set marks input true)) e ∙ get_or-set_same marks input true false low ∙ or_true (has_mark marks i)
          ∙ ap (λ (b : Bool). has_mark marks i || b) (sym yes)
      | inr n ↦
          let other : input ≢ i = λ e. n (sym e) in
          let no : (input == i) ≡ false = grind (arith, nat_tests) in
          get_or-set_other marks input i true false n ∙ or_none (has_mark marks i) ∙ ap (λ (b : Bool). has_mark marks i || b) (sym no)
    ]

-- none at one past them
pub mark_past : (marks : List Bool) (input i : ℕ) → length marks ≤ input → i < length marks → has_mark marks i ≡ (has_mark marks i || (input == i))
mark_past marks input i far low =
    let other : input ≢ i = omega (arith, far, low) in
    let no : (input == i) ≡ false = grind (arith, nat_tests) in
    or_none (has_mark marks i) ∙ ap (λ (b : Bool). has_mark marks i || b) (sym no)

kept_where : {A : Type 0} (b : Bool) (x : A) → cond b (x ∷ []) [] ≡ where_true b x
kept_where true x = refl
kept_where false x = refl

-- what is kept of a list and one item more
pub filter_next : {A : Type 0} (f : A → Bool) (xs : List A) (k : ℕ) (x : A) → slice_get xs k ≡ Some x
    → filter f (take (k + 1) xs) ≡ filter f (take k xs) ++ where_true (f x) x
filter_next {A} f xs k x here =
    filter_more f xs k x (slice_get_within xs k x here)
    ∙ ap (λ (y : A). filter f (take k xs) ++ cond (f y) (y ∷ []) []) (get_or_from_slice_get xs k x x here)
    ∙ ap (λ (ys : List A). filter f (take k xs) ++ ys) (kept_where (f x) x)

kept_those : {A : Type 0} (P : A → Type 0) (b : Bool) (x : A) (xs ys : List A) → P x → AreThose P xs ys
    → AreThose P (cond b (x ∷ xs) xs) (cond b (x ∷ ys) ys)
kept_those P true x xs ys holds those = Taken x xs ys holds those
kept_those P false x xs ys holds those = those

left_those : {A : Type 0} (P : A → Type 0) (b : Bool) (x : A) (xs ys : List A) → ¬ P x → AreThose P xs ys → AreThose P (cond b (x ∷ xs) xs) ys
left_those P true x xs ys not those = Left_out x xs ys not those
left_those P false x xs ys not those = those

-- those of what is kept of a list
pub those_kept : {A : Type 0} (P : A → Type 0) (f : A → Bool) (xs ys : List A) → AreThose P xs ys → AreThose P (filter f xs) (filter f ys)
those_kept P f _ _ All_seen = All_seen
those_kept P f _ _ (Taken x xs ys holds rest) = kept_those P (f x) x (filter f xs) (filter f ys) holds (those_kept P f xs ys rest)
those_kept P f _ _ (Left_out x xs ys not rest) = left_those P (f x) x (filter f xs) (filter f ys) not (those_kept P f xs ys rest)

kept_same : {A : Type 0} (f g : A → Bool) (xs : List A) → ((x : A) → In x xs → f x ≡ g x) → filter f xs ≡ filter g xs
kept_same f g [] same = refl
kept_same {A} f g (x ∷ xs) same =
    ap (λ (b : Bool). cond b (x ∷ filter f xs) (filter f xs)) (same x (inl refl))
    ∙ ap (λ (ys : List A). cond (g x) (x ∷ ys) ys) (kept_same f g xs (λ y there. same y (inr there)))

same_begun : (l : Linked) (p : Points) (s : Start) → ArePointsOf l p → IsStartIn l.design s → has_begun p s ≡ begins l.names s
same_begun l p (RegStart r) are low = refl
same_begun l p (InputStart i) are low =
    ap (λ (n : ℕ). nat_lt i n || has_mark p.driven i) are.ports
    ∙ ap (λ (b : Bool). nat_lt i (length l.names.ins) || b) (are.driven.driven i low)

-- the starts among those of the registers and inputs of which it holds
pub begun_those : (l : Linked) (p : Points) (P : Start → Type 0) (xs found : List Start) → ArePointsOf l p → AreThose P (start_points l.design) xs
    → found ≡ filter (has_begun p) xs → AreThose P (all_starts l) found
begun_those l p P xs found are those is =
    let low : All (IsStartIn l.design) xs = points_in l.design P xs those in
    let same : filter (has_begun p) xs ≡ filter (begins l.names) xs =
    kept_same (has_begun p) (begins l.names) xs (λ s there. same_begun l p s are (All-contains (IsStartIn l.design) xs s low (Contains-from_In xs s there))) in
    subst (AreThose P (all_starts l)) (sym (is ∙ same)) (those_kept P (begins l.names) (start_points l.design) xs those)
