use Rattle.std.proofs.Common.{◌≡◌, ◌≢◌, ◌∷◌, ◌++◌, [], ℕ, List, map, ap, sym, subst, ◌∙◌, append-nil}
use Rattle.std.specs.Prelude.{OnOk, IfErr, slice_index}
use Rattle.std.specs.Borrow.{Bor}
use Rattle.dimacs_text.specs.Tokens.{Placed, placed_in, placed_words, header, words_of}
use Rattle.dimacs_text.specs.Faults.{IsStop}
use Rattle.dimacs_text.specs.Readings.{IsRead}
use Rattle.dimacs_text.specs.declared.tokens.Token.{Token}
use Rattle.dimacs_text.proofs.Heading.{comment_says, header_says, words_say}
use Rattle.dimacs_text.proofs.Placing.{now_of}
use Rattle.dimacs_text.proofs.formulas.read_line.Goals as goal

pub returns-then-first-eq99-clause-ok : goal.returns-then-first-eq99-clause-ok
returns-then-first-eq99-clause-ok c placed so =
    let none = comment_says c.args.at c.args.line.now (sym c.byte_at-first.ensures ∙ c.if-first-eq99.true) in
    subst (λ (ps : List Placed). IsRead ps c.args.reading.now) (sym (ap (λ (ps : List Placed). placed ++ ps) none ∙ append-nil placed)) so

pub returns-then-first-eq112-clause-ok : goal.returns-then-first-eq112-clause-ok
returns-then-first-eq112-clause-ok c placed so =
    let line = c.args.line.now in
    let head : c.header.result ≡ header (words_of line) =
    c.header.ensures.is ∙ (ap (λ (ws : List (Bor (List ℕ))). header (map now_of ws)) c.deref.ensures.value ∙ ap header c.in_ok-words.ensures) in
    let says : placed_in c.args.at line ≡ (c.args.at, c.header.result) ∷ [] =
    header_says c.args.at line (sym c.byte_at-first.ensures ∙ c.if-first-eq112.true) ∙ ap (λ (t : Token). (c.args.at, t) ∷ []) (sym head) in
    subst (λ (ps : List Placed). OnOk c.take.result (IsRead (placed ++ ps) c.take.new.self)) (sym says) (c.take.ensures.ok placed so)

pub returns-then-first-eq112-clause-err : goal.returns-then-first-eq112-clause-err
returns-then-first-eq112-clause-err c placed so =
    let line = c.args.line.now in
    let head : c.header.result ≡ header (words_of line) =
    c.header.ensures.is ∙ (ap (λ (ws : List (Bor (List ℕ))). header (map now_of ws)) c.deref.ensures.value ∙ ap header c.in_ok-words.ensures) in
    let says : placed_in c.args.at line ≡ (c.args.at, c.header.result) ∷ [] =
    header_says c.args.at line (sym c.byte_at-first.ensures ∙ c.if-first-eq112.true) ∙ ap (λ (t : Token). (c.args.at, t) ∷ []) (sym head) in
    subst (λ (ps : List Placed). IfErr c.take.result (IsStop (placed ++ ps))) (sym says) (c.take.ensures.err placed so)

pub returns-clause-ok : goal.returns-clause-ok
returns-clause-ok c placed so =
    let line = c.args.line.now in
    let first : slice_index line 0 ≢ 99 = λ e. c.if-first-eq99.false (c.byte_at-first.ensures ∙ e) in
    let other : slice_index line 0 ≢ 112 = λ e. c.if-first-eq112.false (c.byte_at-first.ensures ∙ e) in
    let says = words_say c.args.at line first other
    ∙ ap (placed_words c.args.at) (sym (ap (map now_of) c.deref-2.ensures.value ∙ c.in_ok-words.ensures)) in
    subst (λ (ps : List Placed). OnOk c.read_words.result (IsRead (placed ++ ps) c.read_words.new.reading)) (sym says) (c.read_words.ensures.ok placed so)

pub returns-clause-err : goal.returns-clause-err
returns-clause-err c placed so =
    let line = c.args.line.now in
    let first : slice_index line 0 ≢ 99 = λ e. c.if-first-eq99.false (c.byte_at-first.ensures ∙ e) in
    let other : slice_index line 0 ≢ 112 = λ e. c.if-first-eq112.false (c.byte_at-first.ensures ∙ e) in
    let says = words_say c.args.at line first other
    ∙ ap (placed_words c.args.at) (sym (ap (map now_of) c.deref-2.ensures.value ∙ c.in_ok-words.ensures)) in
    subst (λ (ps : List Placed). IfErr c.read_words.result (IsStop (placed ++ ps))) (sym says) (c.read_words.ensures.err placed so)
