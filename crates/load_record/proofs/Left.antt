-- What is left of the clients' calls, place by place.
use Rattle.std.proofs.Common.{◌≡◌, ◌∙◌, ◌<◌, ◌≤◌, inl, inr, refl, sym, ap, subst, arith, ℕ, false, List, [], ◌∷◌}
use Rattle.std.proofs.Common.{get_or, set, take, drop, length, ◌-◌, length-drop}
use Rattle.std.proofs.lemmas.List.{get_or-map, length-map, map-set, get_or_past, take_all}
use Rattle.std.proofs.lemmas.Bool.{cases_lt}
use Rattle.vac_manager.specs.declared.note.CompletedCall.{CompletedCall}
use Rattle.load_record.specs.declared.merging.RemainingCalls.{RemainingCalls}
use Rattle.load_record.specs.Order.{Entry, entries_of, list_at, precedes}
use Rattle.load_record.specs.Picking.{Picks}
use Rattle.load_record.specs.Rests.{left_of, BeginsWith, IsLeast}

pub left_at : (rests : List RemainingCalls) (place : ℕ) (r : RemainingCalls) → place < length rests →
    r ≡ get_or rests place r →
    list_at (left_of rests) place ≡ entries_of r.client r.notes.now
left_at rests place r low is =
    get_or-map (λ x. entries_of x.client x.notes.now) rests place r [] low ∙ ap (λ x. entries_of x.client x.notes.now)
    (sym is)

-- nothing stands past the end
pub past_end : (rests : List RemainingCalls) (place : ℕ) → length rests ≤ place → list_at (left_of rests) place ≡ []
past_end rests place high = get_or_past (left_of rests) place []
    (subst (λ (n : ℕ). n ≤ place) (sym (length-map rests (λ x. entries_of x.client x.notes.now))) high)

-- a call that is picked
module _ (rests : List RemainingCalls) (place client : ℕ) (note : CompletedCall) (after : RemainingCalls)
    (same : after.client ≡ client)
    (begins : BeginsWith (left_of rests) place note) (least : IsLeast (left_of rests) (length rests) note) where
  least_of_all : (k : ℕ) (first : Entry) (more : List Entry) → list_at (left_of rests) k ≡ first ∷ more →
      precedes first.note note ≡ false
  least_of_all k first more e = elim (cases_lt k (length rests)) [
    | inl less ↦ least k first.note less (first, more, e, refl)
    | inr past ↦ absurd (let h : first ∷ more ≡ [] = sym e ∙ past_end rests k past in cc)
  ]

  left_after : left_of (set rests place after) ≡ set (left_of rests) place (entries_of client after.notes.now)
  left_after =
      map-set (λ x. entries_of x.client x.notes.now) rests place after
      ∙ ap (λ (n : ℕ). set (left_of rests) place (entries_of n after.notes.now)) same

  pub picked : (notes : List CompletedCall) → list_at (left_of rests) place ≡ entries_of client notes →
      after.notes.now ≡ drop 1 notes
      → Picks (record { client = client; note = note }) (left_of rests) (left_of (set rests place after))
  picked [] at tail = absurd (let h : begins.0 ∷ begins.1 ≡ [] = sym begins.2 ∙ at in cc)
  picked (n ∷ notes) at tail =
      let head : begins.0 ≡ record { client = client; note = n } =
      (let h : begins.0 ∷ begins.1 ≡ entries_of client (n ∷ notes) = sym begins.2 ∙ at in cc) in
      let same_note : n ≡ note = sym (ap (λ e. e.note) head) ∙ begins.3 in
      record {
        takes = record {
          place = place;
          rest = entries_of client notes;
          first = at ∙ ap (λ (m : CompletedCall). entries_of client (m ∷ notes)) same_note;
          left = left_after ∙ ap (λ (l : List CompletedCall). set (left_of rests) place (entries_of client l)) tail;
        };
        least = least_of_all;
      }

-- what stands behind a place
pub taken_end : {X : Type 0} (xs : List X) (i : ℕ) → take (length xs - i) (drop i xs) ≡ drop i xs
taken_end xs i = let len = length-drop i xs in take_all (length xs - i) (drop i xs) (omega arith)
