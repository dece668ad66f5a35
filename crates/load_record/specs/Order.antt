-- The order in which the calls of all clients are written.
use Rattle.std.specs.Prelude.{◌≡◌, ℕ, suc, ◌||◌, ◌&&◌, Bool, false, eqb, ltb}
use Rattle.std.specs.Prelude.{List, [], ◌∷◌, map, slice_index_or, slice_set}
use Rattle.std.specs.List.{AllPairs}
use Rattle.stm_object.specs.Places.{rank_of}
use Rattle.vac_manager.specs.declared.note.CompletedCall.{CompletedCall}

-- a recorded call, with the number of its client
pub record Entry : Type 0 where
  pub client : ℕ
  pub note : CompletedCall

-- the calls of a client, each with the client's number
abbrev pub entries_of : ℕ → List CompletedCall → List Entry
entries_of client notes = map (λ n. record { client = client; note = n }) notes

-- the entries of each client; the clients are numbered from `first` on
abbrev pub entries_from : ℕ → List (List CompletedCall) → List (List Entry)
entries_from first [] = []
entries_from first (notes ∷ others) = entries_of first notes ∷ entries_from (suc first) others

-- the list at this position, empty if there is none
abbrev pub list_at : {X : Type 0} → List (List X) → ℕ → List X
list_at lists place = slice_index_or lists place []

-- x was the first element of one of the lists, and was removed from it
pub record TakesFirst {X : Type 0} (x : X) (lists others : List (List X)) : Type 0 where
  pub place : ℕ
  pub rest : List X
  pub first : list_at lists place ≡ x ∷ rest
  pub left : others ≡ slice_set lists place rest

-- the result has exactly the elements of all lists, each once, and those of each list in their
-- order
abbrev pub Interleaves : {X : Type 0} → List (List X) → List X → Type 0
Interleaves lists [] = (place : ℕ) → list_at lists place ≡ []
Interleaves {X} lists (x ∷ all) =
    (others : List (List X)) × TakesFirst x lists others × Interleaves others all

-- a is written before b: by renewal, then by version with the writer of a version before its
-- readers, then by the begin of the calls
abbrev pub precedes : CompletedCall → CompletedCall → Bool
precedes a b =
    ltb a.place.renewal b.place.renewal
    || (eqb a.place.renewal b.place.renewal
    && (ltb (rank_of a.place) (rank_of b.place)
    || (eqb (rank_of a.place) (rank_of b.place) && ltb a.begin b.begin)))

-- no call precedes a call that stands before it in the list
abbrev pub AreOrdered : List CompletedCall → Type 0
AreOrdered notes = AllPairs (λ earlier later. precedes later earlier ≡ false) notes

-- in each list, no call precedes a call that stands before it
abbrev pub EachOrdered : List (List CompletedCall) → Type 0
EachOrdered lists = (place : ℕ) → AreOrdered (list_at lists place)

-- the list has the recorded calls of all clients, numbered from 0, each once and those of each
-- client in their order; the whole list is ordered if the calls of each client are
pub record IsMerged (kept : List (List CompletedCall)) (all : List Entry) : Type 0 where
  pub each_once : Interleaves (entries_from 0 kept) all
  pub ordered : EachOrdered kept → AreOrdered (map (λ e. e.note) all)
