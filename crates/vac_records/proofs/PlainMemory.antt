-- Plain memory of words that represent a state.
use Rattle.std.proofs.Common.{◌≡◌, ◌≤◌, ◌+◌, ◌*◌, ℕ, List, [], Option, ap, arith, inl, inr, length, slice_index, sym}
use Rattle.std.proofs.Common.{unwrap_or, ◌∙◌}
use Rattle.std.proofs.lemmas.List.{get_or_past}
use Rattle.std.proofs.lemmas.Bool.{cases_lt}
use Rattle.tx_memory.specs.View.{memory}
use Rattle.tx_memory.specs.Plain.{flat_view, numbered}
use Rattle.tx_memory.specs.PlainSeen.{get_at, get_behind}
use Rattle.vac_model.specs.State.{empty_state}
use Rattle.vac_model.proofs.Empty.{empty-small}
use Rattle.vac_records.specs.Items.{mem}
use Rattle.vac_records.specs.Represents.{Represents}
use Rattle.vac_records.specs.InMemory.{HoldsState}

-- the words of plain memory over any image of its size
flat_at : (xs image : List ℕ) (a : ℕ) → length image ≡ length xs → memory image (numbered 0 xs) a ≡ slice_index xs a
flat_at xs image a e = elim (cases_lt a (length xs)) [
  | inl inside ↦ ap (λ (o : Option ℕ). unwrap_or o (slice_index image a)) (get_at xs a inside)
  | inr behind ↦ ap (λ (o : Option ℕ). unwrap_or o (slice_index image a)) (get_behind xs 0 a (omega arith)) ∙
      (get_or_past image a 0 (omega arith) ∙ sym (get_or_past xs a 0 behind))
]

pub flat_mem : (xs image : List ℕ) → length image ≡ length xs → mem (flat_view xs) image ≡ slice_index xs
flat_mem xs image e = λ i a. flat_at xs image a e i

-- words that represent the state with no entries
pub free_holds : (xs : List ℕ) (blocks : ℕ) → blocks ≤ 262144 → length xs ≡ 16 + 8 * blocks →
    Represents (λ (a : ℕ). slice_index xs a) (length xs) [] (empty_state blocks) → HoldsState (flat_view xs)
free_holds xs blocks few size free = record {
  inside = omega (arith, size);
  small = omega (arith, size);
  under = λ image i. (
    empty_state blocks,
    rw (flat_mem xs image i.sees.fits, i.sees.fits) (record {
      represents = free;
      small = empty-small blocks few;
    }),
  );
}
