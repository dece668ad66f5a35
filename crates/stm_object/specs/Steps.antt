-- The effects of loads and stores on the words of a memory, step by step: the effect of a body
-- follows from those of its loads and stores.
use Rattle.std.proofs.Common.{◌≡◌, ℕ, suc, ◌<◌, ◌≤◌, inl, inr, List, [], ◌∷◌, length, slice_index, slice_set, refl, sym, subst, ◌∙◌, arith, length-set, get_or-set_same, get_or-set_other}
use Rattle.tx_memory.specs.View.{View, Sees, RestsOn, IsWrite, Kept, Loaded, Stored, mem}
use Rattle.tx_memory.specs.Seen.{same_or, some_le}
use Rattle.stm_object.specs.Object.{Specification, Shows, IsFitting, IsBeginning}
use Rattle.stm_object.specs.Bodies.{HasValue, HasEffect}

-- the first n words of the memory are these
pub record Are (xs : List ℕ) (m : ℕ → ℕ) (n : ℕ) : Type 0 where
  pub count : length xs ≡ n
  pub each : (a : ℕ) → a < n → slice_index xs a ≡ m a

-- an object whose value is its words, by the number of words, the fitting words, the entries, the
-- statement of an entry about the words before it, the words after it, and the entry as numbers
abbrev pub words_object : (size : ℕ) (E : Type 0) (fits : List ℕ → Type 0) (is : E → Type 0)
    (finds : E → List ℕ → Type 0) (after : E → List ℕ → List ℕ) (code : E → List ℕ) →
    Specification E
words_object size E fits is finds after code = record {
  Value = List ℕ;
  IsSize = λ n. n ≡ size;
  Holds = λ m n xs. fits xs × Are xs m n;
  Begins = λ xs. Unit {0};
  IsEntry = is;
  Finds = finds;
  after = after;
  code = code;
}

-- the statement that the memory holds fitting words depends only on these words
pub words_local : (fits : List ℕ → Type 0) (m m' : ℕ → ℕ) (n : ℕ) (xs : List ℕ) →
    ((a : ℕ) → a < n → m' a ≡ m a) → fits xs × Are xs m n → fits xs × Are xs m' n
words_local fits m m' n xs same h = (
  h.0,
  record { count = h.1.count; each = λ a less. h.1.each a less ∙ sym (same a less) },
)

-- nothing was written from view s to view s'
pub record WroteNothing (s s' : View) : Type 0 where
  pub kept : Kept s s'
  pub writes : s'.writes ≡ s.writes

kept_then : (s s' s'' : View) → Kept s s' → Kept s' s'' → Kept s s''
kept_then s s' s'' k l = record {
  size = l.size ∙ k.size;
  seen = λ image i. k.seen image (l.seen image i);
}

-- two parts of a body that only read make a part that only reads
pub then_read : (s s' s'' : View) → WroteNothing s s' → WroteNothing s' s'' → WroteNothing s s''
then_read s s' s'' o p = record {
  kept = kept_then s s' s'' o.kept p.kept;
  writes = p.writes ∙ o.writes;
}

-- a load only reads
pub read_by : {s s' : View} {a v : ℕ} → Loaded s s' a v → WroteNothing s s'
read_by l = record { kept = l.kept; writes = l.writes }

-- a step from s to s': `holds` is true of the n words before, and `makes` gives the words after
pub record WordStep (n : ℕ) (s s' : View) (holds : List ℕ → Type 0) (makes : List ℕ → List ℕ)
    : Type 0 where
  pub kept : Kept s s'
  pub does : (image : List ℕ) → Sees s' image → (xs : List ℕ) → Are xs (mem s image) n →
      holds xs × Are (makes xs) (mem s' image) n

-- a step that only reads leaves the words as they were
pub read_step : {n : ℕ} {s s' : View} {holds : List ℕ → Type 0} → WroteNothing s s' →
    ((image : List ℕ) → Sees s' image → (xs : List ℕ) → Are xs (mem s image) n → holds xs) →
    WordStep n s s' holds (λ xs. xs)
read_step {s = s} {s' = s'} o told = record {
  kept = o.kept;
  does = λ image i xs h. (told image i xs h, rw o.writes h);
}

-- a load returns the word at its address
pub load_step : {n a v : ℕ} {s s' : View} → Loaded s s' a v → a < n →
    WordStep n s s' (λ xs. slice_index xs a ≡ v) (λ xs. xs)
load_step l less = read_step (read_by l) (λ image i xs h. h.each _ less ∙ l.answer image i)

wrote : (xs : List ℕ) (m m' : ℕ → ℕ) (n i v : ℕ) → Are xs m n → IsWrite m m' i v →
    Are (slice_set xs i v) m' n
wrote xs m m' n i v h w = record {
  count = length-set xs i v ∙ h.count;
  each = λ a l. elim (same_or a i) [
    | inl here ↦ (
        let less : i < length xs = omega (arith, here, l, h.count) in
        rw here (get_or-set_same xs i v 0 less ∙ sym w.here))
    | inr else ↦ get_or-set_other xs i a v 0 else ∙ h.each a l ∙ sym (w.others a else)
  ];
}

-- a store sets the word at its address
pub store_step : {n a v : ℕ} {s s' : View} → Stored s s' a v →
    WordStep n s s' (λ xs. Unit {0}) (λ xs. slice_set xs a v)
store_step {n = n} {a = a} {v = v} {s = s} {s' = s'} st = record {
  kept = st.kept;
  does = λ image i xs h. (tt, wrote xs (mem s image) (mem s' image) n a v h (st.written image));
}

-- two steps, one after the other, are one step
pub two_steps : {n : ℕ} {s s' s'' : View} {holds holds' : List ℕ → Type 0}
    {makes makes' : List ℕ → List ℕ} → WordStep n s s' holds makes
    → WordStep n s' s'' holds' makes' →
    WordStep n s s'' (λ xs. holds xs × holds' (makes xs)) (λ xs. makes' (makes xs))
two_steps {s = s} {s' = s'} {s'' = s''} {makes = makes} p q = record {
  kept = kept_then s s' s'' p.kept q.kept;
  does = λ image i xs h.
      let first = p.does image (q.kept.seen image i) xs h in
      let second = q.does image i (makes xs) first.1 in
      ((first.0, second.0), second.1);
}

-- a step with a consequence of its statement
pub so_step : {n : ℕ} {s s' : View} {holds : List ℕ → Type 0} {makes : List ℕ → List ℕ}
    (so : List ℕ → Type 0) → WordStep n s s' holds makes →
    ((xs : List ℕ) → length xs ≡ n → holds xs → so xs) → WordStep n s s' so makes
so_step so p follows = record {
  kept = p.kept;
  does = λ image i xs h. let d = p.does image i xs h in (follows xs h.count d.0, d.1);
}

-- the effect of a body is that of its entry if, on fitting words, the entry finds what it says,
-- the words after the entry fit, and the steps of the body make these words
pub has_done : {E : Type 0} (n : ℕ) (fits : List ℕ → Type 0) (is : E → Type 0)
    (finds : E → List ℕ → Type 0) (after : E → List ℕ → List ℕ) (code : E → List ℕ)
    (keeps : (e : E) (xs : List ℕ) → fits xs → finds e xs → fits (after e xs)) (e : E)
    {s s' : View} {holds : List ℕ → Type 0} {makes : List ℕ → List ℕ} → is e →
    ((xs : List ℕ) → fits xs → length xs ≡ n) → WordStep n s s' holds makes →
    ((xs : List ℕ) → fits xs → holds xs → finds e xs × (makes xs ≡ after e xs)) →
    HasEffect (words_object n E fits is finds after code) s s' e
has_done n fits is finds after code keeps e {s} {s'} {holds} {makes} may size p shown = (
  may,
  λ image xs i h.
      let count : length image ≡ n = sym h.1.count ∙ size xs h.0 in
      let here : Are xs (mem s image) n =
      subst (λ (k : ℕ). Are xs (mem s image) k) count h.1 in
      let d = p.does image i xs here in
      let found = shown xs h.0 d.0 in (
        found.0,
        (
          keeps e xs h.0 found.0,
          subst (λ (ys : List ℕ). Are ys (mem s' image) (length image)) found.1
              (subst (λ (k : ℕ). Are (makes xs) (mem s' image) k) (sym count) d.1),
        ),
      ),
)

-- an inequality that holds on all fitting words for which the step's statement is true holds,
-- because the memory may stand on some image
pub known_le : {E : Type 0} {n : ℕ} {fits : List ℕ → Type 0} {is : E → Type 0}
    {finds : E → List ℕ → Type 0} {after : E → List ℕ → List ℕ} {code : E → List ℕ} {s s' : View}
    {holds : List ℕ → Type 0} {makes : List ℕ → List ℕ} (a b : ℕ) →
    HasValue (words_object n E fits is finds after code) s → WordStep n s s' holds makes →
    ∥ ((image : List ℕ) × RestsOn s' image) ∥₁ → ((xs : List ℕ) → fits xs → holds xs → a ≤ b) →
    a ≤ b
known_le {n = n} {s = s} a b held p some follows = some_le a b some (λ w.
    let under = held.under w.0 (p.kept.seen w.0 w.1.sees) in
    let count : length w.0 ≡ n = w.1.size ∙ (p.kept.size ∙ held.size) in
    let here : Are under.0 (mem s w.0) n =
    subst (λ (k : ℕ). Are under.0 (mem s w.0) k) count under.1.1 in
    follows under.0 under.1.0 (p.does w.0 w.1.sees under.0 here).0)

same_list : (xs ys : List ℕ) → length xs ≡ length ys →
    ((a : ℕ) → a < length ys → slice_index xs a ≡ slice_index ys a) → xs ≡ ys
same_list [] [] l same = refl
same_list [] (y ∷ ys) l same = absurd (omega (arith, l))
same_list (x ∷ xs) [] l same = absurd (omega (arith, l))
same_list (x ∷ xs) (y ∷ ys) l same =
    let head : x ≡ y = same 0 (omega arith) in
    let tail : xs ≡ ys =
    same_list xs ys (omega (arith, l)) (λ a less. same (suc a) (omega (arith, less))) in
    rw (head, tail) refl

module _ {E : Type 0} (n : ℕ) (fits : List ℕ → Type 0) (is : E → Type 0)
    (finds : E → List ℕ → Type 0) (after : E → List ℕ → List ℕ) (code : E → List ℕ) where
  -- the value that an image holds is its words
  pub shows_its_words : (image xs : List ℕ) →
      Shows (words_object n E fits is finds after code) image xs → xs ≡ image
  shows_its_words image xs h = same_list xs image h.1.count h.1.each

  pub fits_its_words : (image xs : List ℕ) →
      Shows (words_object n E fits is finds after code) image xs → fits image
  fits_its_words image xs h = subst fits (shows_its_words image xs h) h.0

  -- an image of fitting words holds them
  pub shows_words : (image : List ℕ) → fits image →
      Shows (words_object n E fits is finds after code) image image
  shows_words image f = (f, record { count = refl; each = λ a less. refl })

  -- an image of fitting words fits
  pub fits_words : (image : List ℕ) → fits image →
      IsFitting (words_object n E fits is finds after code) image
  fits_words image f = record { value = image; shown = shows_words image f }

  -- a memory may be opened on an image that fits
  pub begins_words : (image : List ℕ) → fits image →
      IsBeginning (words_object n E fits is finds after code) image
  begins_words image f = record { value = image; shown = shows_words image f; begins = tt }
