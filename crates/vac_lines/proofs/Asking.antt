-- Reading the asks of a trip, two words at a time.
use Rattle.std.proofs.Common.{◌≡◌, ℕ, ◌<◌, List, [], ◌∷◌, ◌++◌, length, refl, ap, ◌∙◌, Result, Ok, Err, Bor, arith}
use Rattle.std.proofs.lemmas.List.{map-append}
use Rattle.vac_model.specs.declared.items.Kind.{Kind}
use Rattle.vac_lines.specs.declared.fault.LineFault.{LineFault}
use Rattle.vac_lines.specs.Lines.{texts}
use Rattle.vac_lines.specs.LineTable.{read_each, at_place, two_by_two, asks_of}
use Rattle.vac_lines.proofs.WordReading.{put_behind, one_read, fault_read}

abbrev ask_at : List ℕ × List ℕ → Result (Kind × ℕ) LineFault
ask_at pair = at_place pair.0 pair.1

-- the next two words are the next pair
next_pair : (rest part after : List (Bor (List ℕ))) (kind id : List ℕ) → rest ≡ part ++ after →
    texts part ≡ kind ∷ id ∷ []
    → asks_of (texts rest) ≡ read_each ask_at ((kind, id) ∷ two_by_two (texts after))
next_pair rest part after kind id e f =
    ap (λ (ws : List (Bor (List ℕ))). asks_of (texts ws)) e ∙
    ap asks_of (map-append (λ (w : Bor (List ℕ)). w.now) part after)
    ∙ ap (λ (ws : List (List ℕ)). asks_of (ws ++ texts after)) f

-- one more ask was read
pub ask_read : (rest part after : List (Bor (List ℕ))) (kind id : List ℕ) (ask : Kind × ℕ) (front : List (Kind × ℕ))
    (all : Result (List (Kind × ℕ)) LineFault)
    → rest ≡ part ++ after → texts part ≡ kind ∷ id ∷ [] → at_place kind id ≡ Ok ask →
    all ≡ put_behind front (asks_of (texts rest))
    → all ≡ put_behind (front ++ ask ∷ []) (asks_of (texts after))
ask_read rest part after kind id ask front all e f g h =
    one_read ask_at (kind, id) (two_by_two (texts after)) ask front all g
    (h ∙ ap (put_behind front) (next_pair rest part after kind id e f))

-- the next ask has a fault
pub ask_fault : (rest part after : List (Bor (List ℕ))) (kind id : List ℕ) (fault : LineFault) (front : List (Kind × ℕ))
    (all : Result (List (Kind × ℕ)) LineFault)
    → rest ≡ part ++ after → texts part ≡ kind ∷ id ∷ [] → at_place kind id ≡ Err fault →
    all ≡ put_behind front (asks_of (texts rest)) → all ≡ Err fault
ask_fault rest part after kind id fault front all e f g h =
    fault_read ask_at (kind, id) (two_by_two (texts after)) fault front all g
    (h ∙ ap (put_behind front) (next_pair rest part after kind id e f))

-- fewer than two words are no pair
pub no_pair_left : (rest : List (Bor (List ℕ))) → length rest < 2 → asks_of (texts rest) ≡ Ok []
no_pair_left [] h = refl
no_pair_left (w ∷ []) h = refl
no_pair_left (v ∷ w ∷ ws) h = absurd (omega arith)
