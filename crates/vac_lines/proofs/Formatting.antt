-- Texts that a formatter wrote to a buffer.
use Rattle.std.proofs.Common.{◌≡◌, ◌∙◌, ℕ, List, [], ◌++◌, Option, None, Some, IfSome, Result, Ok, Err, OnOk, ap, is_ok}
use Rattle.std.proofs.Common.{cond}
use Rattle.std.specs.Fmt.{WritesText}
use Rattle.std.proofs.lemmas.Fmt.{contents_after_writes}

-- a writer whose calls append has the text behind what it had
pub text_written : {W : Type 0} (took : W → List ℕ → W → Type 0) (contents : W → List ℕ)
    (appends : (w : W) (bs : List ℕ) (v : W) → took w bs v → contents v ≡ contents w ++ bs)
    (w v : W) (o : Option (List ℕ)) → WritesText took w o v → IfSome o (λ text. contents v ≡ contents w ++ text)
text_written took contents appends w v None h = tt
text_written took contents appends w v (Some bs) h = contents_after_writes took contents appends w bs v h

-- such a text, appended to another buffer by one more call
pub text_appended : {T E : Type 0} (r : Result T E) (o : Option (List ℕ)) (old new short start : List ℕ) → start ≡ [] →
    IfSome o (λ text. short ≡ start ++ text) → new ≡ cond (is_ok r) (old ++ short) old →
    OnOk r (IfSome o (λ text. new ≡ old ++ text))
text_appended (Ok t) None old new short start e h n = tt
text_appended (Ok t) (Some text) old new short start e h n = n ∙ ap (λ s. old ++ s) (h ∙ ap (λ s. s ++ text) e)
text_appended (Err f) o old new short start e h n = tt
