-- Which calls have a place in the order: those before a place, and some beyond it.
use Rattle.std.specs.Prelude.{◌≡◌, ◌==◌, ◌||◌, ℕ, Bool, List, nat_lt}
use Rattle.std.specs.List.{list_any}

-- the call at this place has a place in the order
abbrev pub is_made : ℕ → List ℕ → ℕ → Bool
is_made low beyond place = nat_lt place low || list_any (λ other. other == place) beyond

-- besides those calls, this one has a place
abbrev pub MarksOneMore : ℕ → List ℕ → ℕ → ℕ × List ℕ → Type 0
MarksOneMore low beyond place marks = (other : ℕ) →
    is_made marks.0 marks.1 other ≡ (is_made low beyond other || other == place)
