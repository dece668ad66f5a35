-- The result of a search through the words of a memory.
use Rattle.std.proofs.Common.{◌≡◌, ◌≢◌, ℕ, ◌+◌, ◌<◌, ◌≤◌, ◌⊎◌, inl, inr, List, Option, Some, None, IfSome, slice_index, refl, sym, ◌∙◌, arith}
use Rattle.tx_memory.specs.View.{View, Sees, Loaded, mem}
use Rattle.tx_memory.specs.Seen.{same_or}
use Rattle.stm_object.specs.Steps.{WroteNothing, WordStep, then_read, read_by, read_step}

-- the address is the first from `from` on and below `end` that has this word; None means that no
-- such address has it
abbrev pub IsFirstWithWord : (ℕ → ℕ) → ℕ → ℕ → ℕ → Option ℕ → Type 0
IsFirstWithWord m from end word None = (a : ℕ) → from ≤ a → a < end → m a ≢ word
IsFirstWithWord m from end word (Some b) = (from ≤ b) × (b < end) × (m b ≡ word)
    × ((a : ℕ) → from ≤ a → a < b → m a ≢ word)

-- only reads were made, and the search has this result under each image that the memory may stand
-- on
pub record Searched (s s' : View) (from end word : ℕ) (found : Option ℕ) : Type 0 where
  pub only : WroteNothing s s'
  pub range : IfSome found (λ a. (from ≤ a) × (a < end))
  pub first : (image : List ℕ) → Sees s' image → IsFirstWithWord (mem s image) from end word found

-- the next address has another word, so the search goes on behind it
pub passed : {s s' s'' : View} {from a v word : ℕ} → Searched s s' from a word None →
    Loaded s' s'' a v → v ≢ word → Searched s s'' from (a + 1) word None
passed {s} {s'} {s''} {from} {a} {v} {word} h l other = record {
  only = then_read s s' s'' h.only (read_by l);
  range = tt;
  first = λ image i b ge less. elim (same_or b a) [
    | inl here ↦ (
        let is : mem s' image a ≡ v = l.answer image i in
        let same : mem s' image a ≡ mem s image a = rw h.only.writes refl in
        λ e. other (sym is ∙ (same ∙ rw (sym here) e)))
    | inr else ↦ h.first image (l.kept.seen image i) b ge (omega (arith, less, else))
  ];
}

-- the next address has the word, so the search ends there
pub met : {s s' s'' : View} {from a end word : ℕ} → Searched s s' from a word None →
    Loaded s' s'' a word → from ≤ a → a < end → Searched s s'' from end word (Some a)
met {s} {s'} {s''} {from} {a} {end} {word} h l ge less = record {
  only = then_read s s' s'' h.only (read_by l);
  range = (ge, less);
  first = λ image i.
      let same : mem s' image a ≡ mem s image a = rw h.only.writes refl in
      (ge, less, sym same ∙ l.answer image i, h.first image (l.kept.seen image i));
}

same_first : (m m' : ℕ → ℕ) (from end word : ℕ) (found : Option ℕ) →
    ((a : ℕ) → a < end → m a ≡ m' a) → IsFirstWithWord m' from end word found →
    IsFirstWithWord m from end word found
same_first m m' from end word None same h = λ a ge less e. h a ge less (sym (same a less) ∙ e)
same_first m m' from end word (Some b) same h = (
  h.0,
  h.1,
  same b h.1 ∙ h.2,
  λ a ge less e. h.3 a ge less (sym (same a (omega (arith, less, h.1))) ∙ e),
)

-- a search, as one step on the words
pub find_step : {n : ℕ} {s s' : View} {from end word : ℕ} {found : Option ℕ} →
    Searched s s' from end word found → end ≤ n →
    WordStep n s s' (λ xs. IsFirstWithWord (λ a. slice_index xs a) from end word found) (λ xs. xs)
find_step {s = s} {from = from} {end = end} {word = word} {found = found} h le =
    read_step h.only (λ image i xs are.
    same_first (λ a. slice_index xs a) (mem s image) from end word found
    (λ a less. are.each a (omega (arith, less, le))) (h.first image i))

-- the slot for the word in this range: the first address that has the word, or, if none has it,
-- the first address that has 0; None means that no address has either
abbrev pub IsSlot : (ℕ → ℕ) → ℕ → ℕ → ℕ → Option ℕ → Type 0
IsSlot m from end word None =
    IsFirstWithWord m from end word None × IsFirstWithWord m from end 0 None
IsSlot m from end word (Some b) =
    IsFirstWithWord m from end word (Some b)
    ⊎ (IsFirstWithWord m from end word None × IsFirstWithWord m from end 0 (Some b))

-- only reads were made, and the search for a slot has this result under each image that the memory
-- may stand on
pub record SoughtSlot (s s' : View) (from end word : ℕ) (found : Option ℕ) : Type 0 where
  pub only : WroteNothing s s'
  pub range : IfSome found (λ a. (from ≤ a) × (a < end))
  pub slot : (image : List ℕ) → Sees s' image → IsSlot (mem s image) from end word found

-- the search for the word finds it
pub found_one : {s s' : View} {from end word a : ℕ} → Searched s s' from end word (Some a) →
    SoughtSlot s s' from end word (Some a)
found_one h = record { only = h.only; range = h.range; slot = λ image i. inl (h.first image i) }

-- the search for the word finds nothing, and the search for 0 follows
pub found_free : {s s' s'' : View} {from end word : ℕ} {found : Option ℕ} →
    Searched s s' from end word None → Searched s' s'' from end 0 found →
    SoughtSlot s s'' from end word found
found_free {s} {s'} {s''} {from} {end} {word} {found = None} h k = record {
  only = then_read s s' s'' h.only k.only;
  range = k.range;
  slot = λ image i.
      let same : (a : ℕ) → a < end → mem s image a ≡ mem s' image a =
      λ a less. rw h.only.writes refl in (
        h.first image (k.only.kept.seen image i),
        same_first (mem s image) (mem s' image) from end 0 None same (k.first image i),
      );
}
found_free {s} {s'} {s''} {from} {end} {word} {found = Some b} h k = record {
  only = then_read s s' s'' h.only k.only;
  range = k.range;
  slot = λ image i.
      let same : (a : ℕ) → a < end → mem s image a ≡ mem s' image a =
      λ a less. rw h.only.writes refl in
      inr (
        h.first image (k.only.kept.seen image i),
        same_first (mem s image) (mem s' image) from end 0 (Some b) same (k.first image i),
      );
}

same_slot : (m m' : ℕ → ℕ) (from end word : ℕ) (found : Option ℕ) →
    ((a : ℕ) → a < end → m a ≡ m' a) → IsSlot m' from end word found → IsSlot m from end word found
same_slot m m' from end word None same h = (
  same_first m m' from end word None same h.0,
  same_first m m' from end 0 None same h.1,
)
same_slot m m' from end word (Some b) same (inl h) =
    inl (same_first m m' from end word (Some b) same h)
same_slot m m' from end word (Some b) same (inr h) = inr (
  same_first m m' from end word None same h.0,
  same_first m m' from end 0 (Some b) same h.1,
)

-- the search for a slot, as one step on the words
pub seek_step : {n : ℕ} {s s' : View} {from end word : ℕ} {found : Option ℕ} →
    SoughtSlot s s' from end word found → end ≤ n →
    WordStep n s s' (λ xs. IsSlot (λ a. slice_index xs a) from end word found) (λ xs. xs)
seek_step {s = s} {from = from} {end = end} {word = word} {found = found} h le =
    read_step h.only (λ image i xs are.
    same_slot (λ a. slice_index xs a) (mem s image) from end word found
    (λ a less. are.each a (omega (arith, less, le))) (h.slot image i))
