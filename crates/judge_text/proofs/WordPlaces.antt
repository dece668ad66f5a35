-- The words of a line, as a function takes them.
use Rattle.std.proofs.Common.{◌≡◌, ℕ, ◌-◌, ◌<◌, suc, zero, List, [], ◌∷◌, length, take, drop, get_or, refl}
use Rattle.std.proofs.Common.{ap, ◌∙◌, sym, arith, Bor}
use Rattle.std.proofs.lemmas.List.{take-map, length-map}
use Rattle.vac_lines.specs.Lines.{texts}
use Rattle.judge_text.specs.Lines.{operation_words, word_at}

-- the word at a place
pub word_now : (ws : List (Bor (List ℕ))) (i : ℕ) (d : Bor (List ℕ)) → i < length ws →
    word_at (texts ws) i ≡ (get_or ws i d).now
word_now [] i d l = absurd (omega arith)
word_now (w ∷ ws) zero d l = refl
word_now (w ∷ ws) (suc i) d l = word_now ws i d (omega arith)

drop_now : (n : ℕ) (ws : List (Bor (List ℕ))) → drop n (texts ws) ≡ texts (drop n ws)
drop_now zero ws = refl
drop_now (suc n) [] = refl
drop_now (suc n) (w ∷ ws) = drop_now n ws

pub long : (ws : List (Bor (List ℕ))) → length (texts ws) ≡ length ws
long ws = length-map ws (λ w. w.now)

-- the words between END and the arrow
pub between : (ws : List (Bor (List ℕ))) →
    texts (take (length ws - 2 - 3) (drop 3 ws)) ≡ operation_words (texts ws)
between ws =
    let n = length ws - 2 - 3 in
    let same : length (texts ws) ≡ length ws = long ws in
    let few : n ≡ length (texts ws) - 5 = omega arith in
    sym (take-map (λ w. w.now) n (drop 3 ws))
    ∙ ap (take n) (sym (drop_now 3 ws))
    ∙ ap (λ k. take k (drop 3 (texts ws))) few
