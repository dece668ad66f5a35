-- The line of a trip.
use Rattle.std.proofs.Common.{◌≡◌, ℕ, ◌≤◌, ◌%◌, ◌/◌, ◌==◌, true, false, List, ◌∷◌, length, refl, Ok, Bor, arith}
use Rattle.std.proofs.lemmas.List.{length-map}
use Rattle.std.proofs.lemmas.Bool.Decides.{nat_tests}
use Rattle.vac_model.specs.declared.tasks.Task.TheVariants.{Trip}
use Rattle.vac_lines.specs.Lines.{texts}
use Rattle.vac_lines.specs.LineTable.{◌>>=◌, are_pairs, asks_of, at_id, trip_line}

-- 1 to 32 pairs of words
are_asked : (pairs : List (Bor (List ℕ))) → (length pairs == 0) ≡ false → length pairs % 2 ≡ 0 → length pairs / 2 ≤ 32 →
    are_pairs (texts pairs) ≡ true
are_asked pairs some even few =
    let same = length-map pairs (λ (w : Bor (List ℕ)). w.now) in
    grind (arith, nat_tests)

-- the task of a trip's line
pub trip_asked : (words : List (Bor (List ℕ))) (customer : Bor (List ℕ)) (pairs : List (Bor (List ℕ))) →
    words ≡ customer ∷ pairs
    → (length pairs == 0) ≡ false → length pairs % 2 ≡ 0 → length pairs / 2 ≤ 32
    → trip_line (texts words) ≡ (at_id customer.now >>= λ id. asks_of (texts pairs) >>= λ asks. Ok (Trip id asks))
trip_asked words customer pairs e some even few = rw e (rw (are_asked pairs some even few) refl)
