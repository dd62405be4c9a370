-- Facts of the results of calls.
use Rattle.std.specs.Prelude.{Result, Ok, Err, IfOk, IfErr, OnOk}

pub if_ok : {T E : Type 0} (r : Result T E) {P Q : T → Type 0} → IfOk r P → ((x : T) → P x → Q x) → IfOk r Q
if_ok (Ok x) p f = f x p
if_ok (Err e) p f = p

pub if_err : {T E : Type 0} (r : Result T E) {P Q : E → Type 0} → IfErr r P → ((e : E) → P e → Q e) → IfErr r Q
if_err (Ok x) p f = p
if_err (Err e) p f = f e p

pub on_ok : {T E : Type 0} (r : Result T E) {P Q : Type 0} → OnOk r P → (P → Q) → OnOk r Q
on_ok (Ok x) p f = f p
on_ok (Err e) p f = p
