-- The word that a probe found, as the exchange of a lock takes it over.
use Rattle.std.proofs.Common.{◌≡◌, sym, ap, ◌∙◌, ℕ, Result, Ok, Err}
use Rattle.stm_core.specs.Client.{Step, probed, locked, word_before}
use Rattle.stm_core.specs.Event.{lock}
use Rattle.stm_region.specs.Shown.{RegionShown, ClientShown, Exchanged, KeepsProbe}

one_word : (j k w n : ℕ) → probed j w ≡ probed k n → w ≡ n
one_word j k w n e = cc

-- the step is a probe that found this word
pub found_it : (last : Step) (j w : ℕ) → last ≡ probed j w → KeepsProbe w last
found_it last j w is = λ k n e. one_word j k w n (sym is ∙ e)

-- the word is the one that the last step, a probe, found
pub word_is : (last : Step) (k n word : ℕ) → last ≡ probed k n → KeepsProbe word last → word ≡ word_before last
word_is last k n word is keeps = keeps k n is ∙ sym (ap word_before is)

no_probe : {A : Type 0} (k w m j n : ℕ) → locked k w m ≡ probed j n → A
no_probe k w m j n e = cc

-- after an exchange the last step is no probe
pub exchanged : {U : Type 0} (result : Result U ℕ) (r : RegionShown) (k w word : ℕ) (c c' : ClientShown) →
    Exchanged r (lock k) w result c c' → KeepsProbe word c'.value.attempt.last
exchanged (Ok u) r k w word c c' is = λ j n e. no_probe _ _ _ j n
    (sym (ap (λ (x : ClientShown). x.value.attempt.last) is) ∙ e)
exchanged (Err found) r k w word c c' is = λ j n e. no_probe _ _ _ j n
    (sym (ap (λ (x : ClientShown). x.value.attempt.last) is.1) ∙ e)
