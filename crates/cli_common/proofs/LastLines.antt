-- The last lines of a program.
use Rattle.std.proofs.Common.{List, [], ℕ, sym, subst, ◌∙◌, append-nil, Option, Some, None}
use Rattle.std.specs.Prelude.{Result, Ok, Err, OnOk, OnErr}
use Rattle.std.specs.Io.KnownBytes.{Appends}
use Rattle.vac_lines.specs.Writing.{AppendsPrefix}
use Rattle.vac_lines.proofs.Written.{whole}

-- where nothing was written, a prefix of no line was
pub nothing : (held : Option (List ℕ)) → AppendsPrefix held held []
nothing None = (0, tt)
nothing (Some bytes) = (0, sym (append-nil bytes))

-- a text was written or a prefix of it was
pub either_way : {T E : Type 0} (r : Result T E) (held holds : Option (List ℕ)) (text : List ℕ) →
    OnOk r (Appends held holds text) → OnErr r (AppendsPrefix held holds text) → AppendsPrefix held holds text
either_way (Ok x) held holds text ok err = whole held holds text ok
either_way (Err e) held holds text ok err = err

-- where nothing was written first
pub nothing_then : (held middle holds : Option (List ℕ)) (text : List ℕ) → Appends held middle [] →
    AppendsPrefix middle holds text → AppendsPrefix held holds text
nothing_then None middle holds text none more = (0, tt)
nothing_then (Some h) None holds text none more = absurd none
nothing_then (Some h) (Some m) holds text none more = subst (λ (bytes : List ℕ). AppendsPrefix (Some bytes) holds text)
    (none ∙ append-nil h) more

-- what follows from a success, and from an error
pub on_ok : {T E : Type 0} (P Q : Type 0) (r : Result T E) → (P → Q) → OnOk r P → OnOk r Q
on_ok P Q (Ok t) f h = f h
on_ok P Q (Err e) f h = tt

pub on_err : {T E : Type 0} (P Q : Type 0) (r : Result T E) → (P → Q) → OnErr r P → OnErr r Q
on_err P Q (Ok t) f h = tt
on_err P Q (Err e) f h = f h
