-- The greatest value of a function on the first elements of a list.
use Rattle.std.proofs.Common.{◌≡◌, ℕ, ◌+◌, ◌<◌, max, List, length, take, get_or, refl, ap, ◌∙◌}
use Rattle.std.proofs.lemmas.List.{take_more}
use Rattle.std.proofs.lemmas.List.Recursion.{max_push}
use Rattle.judge_coverage.specs.Coverage.{greatest}

-- one element more
pub greatest_more : {A : Type 0} (f : A → ℕ) (xs : List A) (i : ℕ) (d : A) → i < length xs →
    greatest f (take (i + 1) xs) ≡ max (greatest f (take i xs)) (f (get_or xs i d))
greatest_more f xs i d l =
    ap (greatest f) (take_more xs i d l)
    ∙ max_push (greatest f) f refl (λ x ys. refl) (take i xs) (get_or xs i d)
