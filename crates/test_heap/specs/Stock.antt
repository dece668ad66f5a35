-- For tests: the words of a heap of seven blocks, all of them taken.
use Rattle.std.specs.Prelude.{ℕ, List, [], ◌∷◌, ◌++◌}

-- the roots: words 1 to 4 point to the tables
abbrev pub roots : List ℕ
roots = 0 ∷ 16 ∷ 0 ∷ 32 ∷ 40 ∷ 0 ∷ 0 ∷ 0 ∷ []

-- the heads of the eight free lists, all of them empty
abbrev pub heads : List ℕ
heads = 0 ∷ 0 ∷ 0 ∷ 0 ∷ 0 ∷ 0 ∷ 0 ∷ 0 ∷ []

-- the items: cars 1 and 2, and room 9
abbrev pub items : List ℕ
items =
    1 ∷ 0 ∷ 24 ∷ 0 ∷ 2 ∷ 3 ∷ 5 ∷ 50 ∷
    2 ∷ 0 ∷ 0 ∷ 1 ∷ 0 ∷ 6 ∷ 6 ∷ 60 ∷
    9 ∷ 0 ∷ 0 ∷ 0 ∷ 1 ∷ 3 ∷ 4 ∷ 70 ∷ []

-- customers 7 and 8, and the bookings of customer 7: two units of car 1 and one of room 9
abbrev pub customers : List ℕ
customers =
    7 ∷ 0 ∷ 48 ∷ 0 ∷ 56 ∷ 0 ∷ 0 ∷ 0 ∷
    8 ∷ 0 ∷ 0 ∷ 1 ∷ 0 ∷ 0 ∷ 0 ∷ 0 ∷
    0 ∷ 1 ∷ 90 ∷ 64 ∷ 2 ∷ 0 ∷ 0 ∷ 0 ∷
    2 ∷ 9 ∷ 75 ∷ 0 ∷ 1 ∷ 0 ∷ 0 ∷ 0 ∷ []

-- the words of the whole heap: roots, heads, items, customers with their bookings
abbrev pub stock_words : List ℕ
stock_words = roots ++ heads ++ items ++ customers
