-- Texts of one kind, one after another.
use Rattle.std.proofs.Common.{inl, ◌≡◌, ℕ, zero, suc, ◌+◌, ◌-◌, ◌<◌, List, [], ◌∷◌, ◌++◌, length, refl, sym, ap, ◌∙◌, append_assoc, append-nil, arith}
use Rattle.std.specs.List.{AllByRecursion}
use Rattle.std.proofs.lemmas.List.{append_cancel_left}
use Rattle.cert_lines.specs.declared.faults.Fault.{Fault}
use Rattle.cert_lines.specs.Texts.{IsWhole, IsFault, AreMany, many_text}
use Rattle.cert_lines.proofs.Leading.{Tells, Leads, whole_later, fault_later}

many_same : {V : Type 0} (Fits : V → Type 0) (text : V → List ℕ) → Tells Fits text → (vs us : List V) → AllByRecursion Fits vs
    → AllByRecursion Fits us → length vs ≡ length us → (x y : List ℕ) → many_text text vs ++ x ≡ many_text text us ++ y → vs ≡ us
many_same Fits text tells [] [] fv fu len x y e = refl
many_same Fits text tells [] (u ∷ us) fv fu len x y e = absurd (omega arith)
many_same Fits text tells (v ∷ vs) [] fv fu len x y e = absurd (omega arith)
many_same Fits text tells (v ∷ vs) (u ∷ us) fv fu len x y e =
    let both : text v ++ (many_text text vs ++ x) ≡ text u ++ (many_text text us ++ y) =
    sym (append_assoc (text v) (many_text text vs) x) ∙ e ∙ append_assoc (text u) (many_text text us) y in
    let same : v ≡ u = tells v u fv.0 fu.0 (many_text text vs ++ x) (many_text text us ++ y) both in
    let rest : many_text text vs ++ x ≡ many_text text us ++ y =
    append_cancel_left (text v) (many_text text vs ++ x) (many_text text us ++ y)
    (both ∙ ap (λ z. text z ++ (many_text text us ++ y)) (sym same)) in
    let others = many_same Fits text tells vs us fv.1 fu.1 (omega arith) x y rest in
    cc

pub many_tells : {V : Type 0} (Fits : V → Type 0) (text : V → List ℕ) → Tells Fits text → (n : ℕ) → Tells (AreMany n Fits) (many_text text)
many_tells Fits text tells n vs us fv fu x y e = many_same Fits text tells vs us fv.fit fu.fit (fv.count ∙ sym fu.count) x y e

pub many_whole : {V : Type 0} (text : V → List ℕ) → ((v : V) → IsWhole (text v)) → (vs : List V) → IsWhole (many_text text vs)
many_whole text whole [] = inl refl
many_whole text whole (v ∷ vs) = whole_later (text v) (many_text text vs) (whole v) (many_whole text whole vs)

many_into : {V : Type 0} (Fits : V → Type 0) (text : V → List ℕ) → Tells Fits text → (done vs : List V) → AllByRecursion Fits done
    → AllByRecursion Fits vs → length done < length vs
    → (y r : List ℕ) → many_text text done ++ y ≡ many_text text vs ++ r → (w : V) × Fits w × (s : List ℕ) × (y ≡ text w ++ s)
many_into Fits text tells [] [] fd fv less y r e = absurd (omega arith)
many_into Fits text tells [] (v ∷ vs) fd fv less y r e = (v, fv.0, many_text text vs ++ r, e ∙ append_assoc (text v) (many_text text vs) r)
many_into Fits text tells (d ∷ done) [] fd fv less y r e = absurd (omega arith)
many_into Fits text tells (d ∷ done) (v ∷ vs) fd fv less y r e =
    let both : text d ++ (many_text text done ++ y) ≡ text v ++ (many_text text vs ++ r) =
    sym (append_assoc (text d) (many_text text done) y) ∙ e ∙ append_assoc (text v) (many_text text vs) r in
    let same : d ≡ v = tells d v fd.0 fv.0 (many_text text done ++ y) (many_text text vs ++ r) both in
    let rest : many_text text done ++ y ≡ many_text text vs ++ r =
    append_cancel_left (text d) (many_text text done ++ y) (many_text text vs ++ r)
    (both ∙ ap (λ z. text z ++ (many_text text vs ++ r)) (sym same)) in
    many_into Fits text tells done vs fd.1 fv.1 (omega arith) y r rest

-- so many times one value
pub record IsFilled {V : Type 0} (Fits : V → Type 0) (n : ℕ) : Type 0 where
  pub vs : List V
  pub many : AreMany n Fits vs

pub filled : {V : Type 0} (Fits : V → Type 0) (v0 : V) → Fits v0 → (n : ℕ) → IsFilled Fits n
filled Fits v0 f0 zero = record { vs = []; many = record { count = refl; fit = tt } }
filled Fits v0 f0 (suc n) =
    let rest = filled Fits v0 f0 n in
    record { vs = v0 ∷ rest.vs; many = record { count = ap suc rest.many.count; fit = (f0, rest.many.fit) } }

many_made : {V : Type 0} (Fits : V → Type 0) (text : V → List ℕ) (v0 : V) → Fits v0 → (done : List V) → AllByRecursion Fits done → (k : ℕ) (w : V) → Fits w
    → (vs : List V) × (length vs ≡ length done + suc k) × AllByRecursion Fits vs × (s : List ℕ) × (many_text text vs ≡ many_text text done ++ (text w ++ s))
many_made Fits text v0 f0 [] fd k w fw =
    let rest = filled Fits v0 f0 k in
    let n = rest.many.count in
    (w ∷ rest.vs, omega arith, (fw, rest.many.fit), many_text text rest.vs, refl)
many_made Fits text v0 f0 (d ∷ done) fd k w fw =
    let (vs, len, fit, s, is) = many_made Fits text v0 f0 done fd.1 k w fw in
    (d ∷ vs, omega (arith, len), (fd.0, fit), s, ap (λ z. text d ++ z) is ∙ sym (append_assoc (text d) (many_text text done) (text w ++ s)))

-- after some of them comes one
pub many_leads : {V : Type 0} (Fits : V → Type 0) (text : V → List ℕ) → Tells Fits text → ((v : V) → IsWhole (text v)) → (v0 : V) → Fits v0
    → (n : ℕ) (done : List V) → AllByRecursion Fits done → length done < n → Leads (AreMany n Fits) (many_text text) Fits text (many_text text done)
many_leads Fits text tells whole v0 f0 n done fd less = record {
  whole = many_whole text whole done;
  into = λ vs many y r e. let count = many.count in many_into Fits text tells done vs fd many.fit (omega arith) y r e;
  onto = λ w fw.
      let (vs, len, fit, s, is) = many_made Fits text v0 f0 done fd (n - length done - 1) w fw in
      (vs, record { count = omega arith; fit = fit }, s, is);
}

-- one is missing after some of them
pub many_fault : {V : Type 0} (Fits : V → Type 0) (text : V → List ℕ) → Tells Fits text → ((v : V) → IsWhole (text v)) → (v0 : V) → Fits v0
    → (n : ℕ) (done : List V) → AllByRecursion Fits done → length done < n → (rest bytes : List ℕ) (now place : ℕ) → bytes ≡ many_text text done ++ rest
    → now + length rest ≡ place + length bytes → (f : Fault) → IsFault Fits text rest now f → IsFault (AreMany n Fits) (many_text text) bytes place f
many_fault Fits text tells whole v0 f0 n done fd less rest bytes now place is left f e =
    fault_later (AreMany n Fits) (many_text text) Fits text (many_text text done)
    (many_leads Fits text tells whole v0 f0 n done fd less) rest bytes now place is left f e

-- one more
pub all_push : {V : Type 0} (Fits : V → Type 0) (done : List V) (v : V) → AllByRecursion Fits done → Fits v → AllByRecursion Fits (done ++ v ∷ [])
all_push Fits [] v fd fv = (fv, tt)
all_push Fits (d ∷ done) v fd fv = (fd.0, all_push Fits done v fd.1 fv)

pub many_push : {V : Type 0} (text : V → List ℕ) (done : List V) (v : V) (rest : List ℕ)
    → many_text text done ++ (text v ++ rest) ≡ many_text text (done ++ v ∷ []) ++ rest
many_push text [] v rest = ap (λ z. z ++ rest) (sym (append-nil (text v)))
many_push text (d ∷ done) v rest =
    append_assoc (text d) (many_text text done) (text v ++ rest) ∙ ap (λ z. text d ++ z) (many_push text done v rest)
    ∙ sym (append_assoc (text d) (many_text text (done ++ v ∷ [])) rest)
