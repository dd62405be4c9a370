-- What the whole bytes are, by what was read of them.
use Rattle.std.proofs.Common.{inl, ◌≡◌, ℕ, ◌+◌, ◌<◌, List, [], ◌∷◌, ◌++◌, length, refl, sym, ap, ◌∙◌}
use Rattle.std.proofs.Common.{subst, append_assoc, append-nil, length-append, arith}
use Rattle.std.proofs.lemmas.List.{append_cancel_left}
use Rattle.cert_values.specs.declared.certs.Cert.{Cert}
use Rattle.cert_lines.specs.declared.faults.Fault.TheVariants.{Form}
use Rattle.cert_lines.specs.Texts.{BeginsIn, StopsAt, IsFault}
use Rattle.cert_lines.proofs.LineTexts.{line_of}
use Rattle.cert_text.specs.Certs.{cert_bytes, IsSpellable, Spells}
use Rattle.cert_text.specs.Causes.{IsOtherVersion, IsFormFault}
use Rattle.cert_text.proofs.CertTexts.{cert_tells, cert_whole, one_version}

-- the whole bytes are the text of a certificate
pub spells_all : (c : Cert) (bytes rest : List ℕ) → IsSpellable c → bytes ≡ cert_bytes c ++ rest → rest ≡ [] → Spells bytes c
spells_all c bytes rest fits is none = record { is = is ∙ ap (λ z. cert_bytes c ++ z) none ∙ append-nil (cert_bytes c); fits = fits }

-- one certificate is spelled
pub spells_one : (bytes : List ℕ) (c d : Cert) → Spells bytes c → Spells bytes d → c ≡ d
spells_one bytes c d sc sd = cert_tells c d sc.fits sd.fits [] [] (ap (λ z. z ++ []) (sym sc.is ∙ sd.is))

-- bytes stand after a whole certificate
none_spelled : (c : Cert) (bytes rest : List ℕ) → IsSpellable c → bytes ≡ cert_bytes c ++ rest → 0 < length rest → (d : Cert) → ¬ Spells bytes d
none_spelled c bytes rest fits is some d spells =
    let same : c ≡ d = cert_tells c d fits spells.fits rest [] (sym is ∙ spells.is ∙ sym (append-nil (cert_bytes d))) in
    let none : rest ≡ [] = append_cancel_left (cert_bytes c) rest [] (sym is ∙ spells.is ∙ ap cert_bytes (sym same) ∙ sym (append-nil (cert_bytes c))) in
    let e = ap length none in
    absurd (omega arith)

after_breaks : (c : Cert) (line : List ℕ) → IsSpellable c → 0 < length line → BeginsIn IsSpellable cert_bytes (cert_bytes c ++ line) → ⊥
after_breaks c line fits some (more, d, fd, is) =
    none_spelled c (cert_bytes d) (line ++ more) fits (sym is ∙ append_assoc (cert_bytes c) line more) (longer line more some) d
    (record { is = refl; fits = fd })
  where
    longer : (a b : List ℕ) → 0 < length a → 0 < length (a ++ b)
    longer [] b s = absurd (omega arith)
    longer (x ∷ a) b s = omega arith

pub trailing : (c : Cert) (bytes rest : List ℕ) (place : ℕ) → IsSpellable c → bytes ≡ cert_bytes c ++ rest → 0 < length rest
    → place + length rest ≡ length bytes → ((number : ℕ) → ¬ IsOtherVersion bytes number) → IsFormFault bytes place
trailing c bytes rest place fits is some left version =
    let l = line_of rest some in
    let long : length bytes ≡ length (cert_bytes c) + length rest = ap length is ∙ length-append (cert_bytes c) rest in
    record {
      none = none_spelled c bytes rest fits is some;
      version = version;
      stops = inl (record {
        front = cert_bytes c;
        line = l.line;
        rest = l.rest;
        cut = is ∙ ap (λ z. cert_bytes c ++ z) l.is;
        place = omega arith;
        whole = cert_whole c;
        one = l.one;
        begins = ([], c, fits, append-nil (cert_bytes c));
        breaks = after_breaks c l.line fits l.some;
      });
    }

-- no certificate begins the bytes
pub form_fault : (bytes : List ℕ) (offset : ℕ) → IsFault IsSpellable cert_bytes bytes 0 (Form offset)
    → ((number : ℕ) → ¬ IsOtherVersion bytes number) → IsFormFault bytes offset
form_fault bytes offset e version = record {
  none = λ c spells. e.2.none c spells.fits [] (spells.is ∙ sym (append-nil (cert_bytes c)));
  version = version;
  stops = let same : offset ≡ e.0 = omega (arith, e.1) in subst (λ (o : ℕ). StopsAt IsSpellable cert_bytes bytes o) (sym same) e.2.stops;
}

-- a certificate's first line spells its version, and no other
pub not_other : (bytes : List ℕ) (number : ℕ) (c : Cert) → IsOtherVersion bytes number → ¬ Spells bytes c
not_other bytes number c other spells = other.other (one_version c number other.rest spells.fits.version other.small (sym spells.is ∙ other.is))
