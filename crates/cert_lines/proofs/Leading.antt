-- Where a text breaks off, told by its parts.
use Rattle.std.proofs.Common.{inl, inr, ◌⊎◌, ◌≡◌, ◌≢◌, ℕ, ◌+◌, List, [], ◌∷◌, ◌++◌, length, refl, sym, ap, ◌∙◌, subst, append_assoc}
use Rattle.std.proofs.Common.{append-nil, length-append, arith}
use Rattle.std.proofs.lemmas.List.{append_cancel_left}
use Rattle.cert_lines.specs.declared.faults.Fault.{Fault}
use Rattle.cert_lines.specs.declared.faults.Fault.TheVariants.{Form, Memory}
use Rattle.cert_lines.specs.Texts.{BeginsIn, IsWhole, StopsAt, Sticks, IsFault}

onto : (h k : ℕ) (a b : List ℕ) → h ≡ k → ((r : List ℕ) × (a ≡ b ++ r)) ⊎ ((r : List ℕ) × (b ≡ a ++ r))
    → ((r : List ℕ) × (h ∷ a ≡ k ∷ (b ++ r))) ⊎ ((r : List ℕ) × (k ∷ b ≡ h ∷ (a ++ r)))
onto h k a b same (inl f) = inl (f.0, let e = f.1 in cc)
onto h k a b same (inr f) = inr (f.0, let e = f.1 in cc)

-- of two fronts of one list, one is a front of the other
pub fronts : (a b x y : List ℕ) → a ++ x ≡ b ++ y → ((r : List ℕ) × (a ≡ b ++ r)) ⊎ ((r : List ℕ) × (b ≡ a ++ r))
fronts [] b x y e = inr (b, refl)
fronts (h ∷ a) [] x y e = inl (h ∷ a, refl)
fronts (h ∷ a) (k ∷ b) x y e =
    let same : h ≡ k = cc in
    let tails : a ++ x ≡ b ++ y = cc in
    onto h k a b same (fronts a b x y tails)

-- the text of a value tells it, whatever follows
abbrev pub Tells : {V : Type 0} → (V → Type 0) → (V → List ℕ) → Type 0
Tells {V} Fits text = (v u : V) → Fits v → Fits u → (x y : List ℕ) → text v ++ x ≡ text u ++ y → v ≡ u

-- after `p`, texts of the one kind go on with a text of the other
pub record Leads {V : Type 0} {W : Type 0} (Fits : V → Type 0) (text : V → List ℕ) (FitsW : W → Type 0) (textW : W → List ℕ) (p : List ℕ) : Type 0 where
  pub whole : IsWhole p
  pub into : (v : V) → Fits v → (y r : List ℕ) → p ++ y ≡ text v ++ r → (w : W) × FitsW w × (s : List ℕ) × (y ≡ textW w ++ s)
  pub onto : (w : W) → FitsW w → (v : V) × Fits v × (s : List ℕ) × (text v ≡ p ++ (textW w ++ s))

pub whole_later : (p front : List ℕ) → IsWhole p → IsWhole front → IsWhole (p ++ front)
whole_later p front w (inl none) = subst IsWhole (sym (append-nil p) ∙ ap (λ y. p ++ y) (sym none)) w
whole_later p front w (inr f) = inr (p ++ f.0, ap (λ y. p ++ y) f.1 ∙ sym (append_assoc p f.0 (10 ∷ [])))

begins_later : {V : Type 0} {W : Type 0} (Fits : V → Type 0) (text : V → List ℕ) (FitsW : W → Type 0) (textW : W → List ℕ) (p : List ℕ)
    → Leads Fits text FitsW textW p
    → (x : List ℕ) → BeginsIn FitsW textW x → BeginsIn Fits text (p ++ x)
begins_later Fits text FitsW textW p leads x b =
    let (more, w, fw, is) = b in
    let (v, fv, s, made) = leads.onto w fw in
    let cut : (p ++ x) ++ (more ++ s) ≡ p ++ ((x ++ more) ++ s) = append_assoc p x (more ++ s) ∙ ap (λ z. p ++ z) (sym (append_assoc x more s)) in
    (more ++ s, v, fv, cut ∙ ap (λ z. p ++ (z ++ s)) is ∙ sym made)

none_later : {V : Type 0} {W : Type 0} (Fits : V → Type 0) (text : V → List ℕ) (FitsW : W → Type 0) (textW : W → List ℕ) (p : List ℕ)
    → Leads Fits text FitsW textW p
    → (rest : List ℕ) → ((w : W) → FitsW w → (s : List ℕ) → rest ≢ textW w ++ s) → (v : V) → Fits v → (r : List ℕ) → p ++ rest ≢ text v ++ r
none_later Fits text FitsW textW p leads rest none v fv r e = let (w, fw, s, is) = leads.into v fv rest r e in none w fw s is

breaks_later : {V : Type 0} {W : Type 0} (Fits : V → Type 0) (text : V → List ℕ) (FitsW : W → Type 0) (textW : W → List ℕ) (p : List ℕ)
    → Leads Fits text FitsW textW p
    → (x tail : List ℕ) → ((w : W) → FitsW w → (s : List ℕ) → x ++ tail ≢ textW w ++ s) → (BeginsIn FitsW textW x → ⊥) → BeginsIn Fits text (p ++ x) → ⊥
breaks_later {W = W} Fits text FitsW textW p leads x tail none breaks b =
    let (more, v, fv, is) = b in
    let whole : p ++ (x ++ more) ≡ text v ++ [] = sym (append_assoc p x more) ∙ is ∙ sym (append-nil (text v)) in
    let (w, fw, s, at) = leads.into v fv (x ++ more) [] whole in
    by w fw s (fronts x (textW w) more s at)
  where
    by : (w : W) → FitsW w → (s : List ℕ) → ((r : List ℕ) × (x ≡ textW w ++ r)) ⊎ ((r : List ℕ) × (textW w ≡ x ++ r)) → ⊥
    by w fw s (inl f) = none w fw (f.0 ++ tail) (ap (λ z. z ++ tail) f.1 ∙ append_assoc (textW w) f.0 tail)
    by w fw s (inr f) = breaks (f.0, w, fw, sym f.1)

stops_later : {V : Type 0} {W : Type 0} (Fits : V → Type 0) (text : V → List ℕ) (FitsW : W → Type 0) (textW : W → List ℕ) (p : List ℕ)
    → Leads Fits text FitsW textW p
    → (rest : List ℕ) (at : ℕ) → ((w : W) → FitsW w → (s : List ℕ) → rest ≢ textW w ++ s) → StopsAt FitsW textW rest at
    → StopsAt Fits text (p ++ rest) (length p + at)
stops_later Fits text FitsW textW p leads rest at none (inl b) = inl (record {
  front = p ++ b.front;
  line = b.line;
  rest = b.rest;
  cut = ap (λ y. p ++ y) b.cut ∙ sym (append_assoc p b.front (b.line ++ b.rest));
  place = ap (λ n. length p + n) b.place ∙ sym (length-append p b.front);
  whole = whole_later p b.front leads.whole b.whole;
  one = b.one;
  begins = begins_later Fits text FitsW textW p leads b.front b.begins;
  breaks =
      λ g.
      breaks_later Fits text FitsW textW p leads (b.front ++ b.line) b.rest
      (λ w fw s e. none w fw s (b.cut ∙ sym (append_assoc b.front b.line b.rest) ∙ e)) b.breaks
      (subst (BeginsIn Fits text) (append_assoc p b.front b.line) g);
})
stops_later Fits text FitsW textW p leads rest at none (inr e) =
    inr (ap (λ n. length p + n) e.0 ∙ sym (length-append p rest), begins_later Fits text FitsW textW p leads rest e.1)

-- the part is missing, so the whole is
pub sticks_later : {V : Type 0} {W : Type 0} (Fits : V → Type 0) (text : V → List ℕ) (FitsW : W → Type 0) (textW : W → List ℕ) (p : List ℕ)
    → Leads Fits text FitsW textW p
    → (rest bytes : List ℕ) (at : ℕ) → bytes ≡ p ++ rest → Sticks FitsW textW rest at → Sticks Fits text bytes (length p + at)
sticks_later Fits text FitsW textW p leads rest bytes at is s = subst (λ (b : List ℕ). Sticks Fits text b (length p + at)) (sym is) (record {
  none = none_later Fits text FitsW textW p leads rest s.none;
  stops = stops_later Fits text FitsW textW p leads rest at s.none s.stops;
})

pub fault_later : {V : Type 0} {W : Type 0} (Fits : V → Type 0) (text : V → List ℕ) (FitsW : W → Type 0) (textW : W → List ℕ) (p : List ℕ)
    → Leads Fits text FitsW textW p
    → (rest bytes : List ℕ) (now place : ℕ) → bytes ≡ p ++ rest → now + length rest ≡ place + length bytes → (f : Fault)
    → IsFault FitsW textW rest now f → IsFault Fits text bytes place f
fault_later Fits text FitsW textW p leads rest bytes now place is left (Form at) e =
    let long : length bytes ≡ length p + length rest = ap length is ∙ length-append p rest in
    let here : at ≡ now + e.0 = e.1 in
    (length p + e.0, omega arith, sticks_later Fits text FitsW textW p leads rest bytes e.0 is e.2)
fault_later Fits text FitsW textW p leads rest bytes now place is left Memory e = tt

-- the values whose texts go on after `p`: what they agree on, and what is left of their texts
abbrev pub IsPast : {V : Type 0} → (V → Type 0) → (V → List ℕ) → List ℕ → (V → Type 0) → (V → List ℕ) → Type 0
IsPast {V} Fits text p Agree suffix = (v : V) → Fits v → (y r : List ℕ) → p ++ y ≡ text v ++ r → Agree v × (y ≡ suffix v ++ r)

-- each value that agrees goes on with a part
abbrev pub HasPart : {V : Type 0} {W : Type 0} → (V → Type 0) → (V → Type 0) → (V → List ℕ) → (W → Type 0) → (W → List ℕ) → (V → W) → (V → List ℕ) → Type 0
HasPart {V} {W} Fits Agree suffix FitsW textW part after = (v : V) → Fits v → Agree v → FitsW (part v) × (suffix v ≡ textW (part v) ++ after v)

-- one more part was passed
pub past_next : {V : Type 0} {W : Type 0} (Fits : V → Type 0) (text : V → List ℕ) (FitsW : W → Type 0) (textW : W → List ℕ) → Tells FitsW textW
    → (p : List ℕ) (Agree : V → Type 0) (suffix : V → List ℕ) → IsPast Fits text p Agree suffix
    → (part : V → W) (after : V → List ℕ) → HasPart Fits Agree suffix FitsW textW part after
    → (w : W) → FitsW w → IsPast Fits text (p ++ textW w) (λ v. Agree v × (part v ≡ w)) after
past_next Fits text FitsW textW tells p Agree suffix past part after has w fw = λ v fv y r e.
    let whole : p ++ (textW w ++ y) ≡ text v ++ r = sym (append_assoc p (textW w) y) ∙ e in
    let (agrees, is) = past v fv (textW w ++ y) r whole in
    let (fits, cut) = has v fv agrees in
    let both : textW w ++ y ≡ textW (part v) ++ (after v ++ r) = is ∙ ap (λ z. z ++ r) cut ∙ append_assoc (textW (part v)) (after v) r in
    let same : w ≡ part v = tells w (part v) fw fits y (after v ++ r) both in
    ((agrees, sym same), append_cancel_left (textW w) y (after v ++ r) (both ∙ ap (λ z. textW z ++ (after v ++ r)) (sym same)))

pub past_start : {V : Type 0} (Fits : V → Type 0) (text : V → List ℕ) → IsPast Fits text [] (λ v. Unit {0}) text
past_start Fits text = λ v fv y r e. (tt, e)

-- after `p` comes the part
pub leads_past : {V : Type 0} {W : Type 0} (Fits : V → Type 0) (text : V → List ℕ) (FitsW : W → Type 0) (textW : W → List ℕ)
    → (p : List ℕ) (Agree : V → Type 0) (suffix : V → List ℕ) → IsPast Fits text p Agree suffix
    → (part : V → W) (after : V → List ℕ) → HasPart Fits Agree suffix FitsW textW part after → IsWhole p
    → ((w : W) → FitsW w → (v : V) × Fits v × (s : List ℕ) × (text v ≡ p ++ (textW w ++ s))) → Leads Fits text FitsW textW p
leads_past Fits text FitsW textW p Agree suffix past part after has whole make = record {
  whole = whole;
  into = λ v fv y r e.
      let (agrees, is) = past v fv y r e in
      let (fits, cut) = has v fv agrees in
      (part v, fits, after v ++ r, is ∙ ap (λ z. z ++ r) cut ∙ append_assoc (textW (part v)) (after v) r);
  onto = make;
}
