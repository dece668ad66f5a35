-- The effect of a call that may be refused memory.
use Rattle.std.specs.Prelude.{◌≡◌, Result, MatchResult}

-- the step was taken; or the call was refused, and `new` is the same as `old`
abbrev pub OrSame : {T E X : Type 0} → Result T E → (X → X → Type 0) → X → X → Type 0
OrSame result Step old new = MatchResult result (λ _. Step old new) (λ _. new ≡ old)

-- `new` is the wanted value; or the call was refused, and `new` is the same as `old`
abbrev pub Becomes : {T E X : Type 0} → Result T E → X → X → X → Type 0
Becomes result old new wanted = MatchResult result (λ _. new ≡ wanted) (λ _. new ≡ old)
