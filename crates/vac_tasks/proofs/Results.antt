-- From the result of a call to the result that is answered.
use Rattle.std.proofs.Common.{Result, Ok, Err, IfOk}

pub if_ok : {A E : Type 0} (P Q : A → Type 0) (r : Result A E) → ((v : A) → P v → Q v) → IfOk r (λ v. P v) →
    IfOk r (λ v. Q v)
if_ok P Q (Ok v) f h = f v h
if_ok P Q (Err e) f h = tt
