-- The attempts that write the initial words stand first, in their order: no attempt sorts before them, and attempts
-- that tie with them keep their order.
use Rattle.std.proofs.Common.{◌≡◌, ◌∙◌, ◌<◌, ◌≤◌, ◌&&◌, not, refl, sym, ap, arith, ℕ, suc, Bool, true, false, cond}
use Rattle.std.proofs.Common.{List, [], ◌∷◌, ◌++◌, length, get_or, map, append_assoc, subst}
use Rattle.std.specs.Prelude.{filter}
use Rattle.std.specs.List.{All}
use Rattle.std.specs.List.Sorted.{ties, IsStableBy}
use Rattle.std.specs.Cmp.{IsStrictWeakOrder, IsTotalOrder, then_total, on_total, nat_cmp_total}
use Rattle.std.specs.Ordering.{is_lt}
use Rattle.std.proofs.lemmas.Bool.Decides.{nat_tests}
use Rattle.std.proofs.lemmas.List.Elements.{filter-append}
use Rattle.std.proofs.lemmas.List.Sorted.{ranks_by, sorted_far}
use Rattle.stm_object.specs.Places.{rank_of}
use Rattle.vac_manager.specs.declared.note.TracedAttempt.{TracedAttempt}
use Rattle.load_record.specs.declared.lines.Line.{Line}
use Rattle.load_record.specs.Laying.{IsLaidFirst}
use Rattle.load_record.specs.Lines.{AttemptEntry, line_entry}
use Rattle.load_record.specs.AttemptOrder.{compare, EntriesAreOrdered}
use Rattle.load_record.specs.Pages.{attempt_entries_of}

-- ---- the elements that tie with a least one

module _ {X : Type 0} (lt : X → X → Bool) (o : IsStrictWeakOrder lt) (m : X) (low : (y : X) → lt y m ≡ false) where
  -- no element is less than one before it
  abbrev pub Rises : List X → Type 0
  Rises xs = (i j : ℕ) (d : X) → i ≤ j → j < length xs → lt (get_or xs j d) (get_or xs i d) ≡ false

  above_if : (x y : X) → lt m x ≡ true → lt y x ≡ false → (b : Bool) → lt m y ≡ b → b ≡ true
  above_if x y e f true g = refl
  above_if x y e f false g = absurd (let never : true ≡ false = sym e ∙ o.chain m y x g f in cc)

  -- an element that is not less than one above the least is above it too
  above : (x y : X) → lt m x ≡ true → lt y x ≡ false → lt m y ≡ true
  above x y e f = above_if x y e f (lt m y) refl

  untied : (y : X) → lt m y ≡ true → ties lt m y ≡ false
  untied y e = ap (λ b. not b && not (lt y m)) e

  pub tied : (y : X) → lt m y ≡ false → ties lt m y ≡ true
  tied y e = ap (λ b. not b && not (lt y m)) e ∙ ap not (low y)

  none_tie : (x : X) → lt m x ≡ true → (ys : List X) →
      ((j : ℕ) (d : X) → j < length ys → lt (get_or ys j d) x ≡ false) → filter (ties lt m) ys ≡ []
  none_tie x e [] h = refl
  none_tie x e (y ∷ ys) h =
      let off = untied y (above x y e (h 0 y (omega arith))) in
      ap (λ b. cond b (y ∷ filter (ties lt m) ys) (filter (ties lt m) ys)) off
      ∙ none_tie x e ys (λ j d l. h (suc j) d (omega (arith, l)))

  -- a list that rises begins with the elements that tie with the least one
  pub lead : (ys : List X) → Rises ys → (rest : List X) × (ys ≡ filter (ties lt m) ys ++ rest)
  lead [] h = ([], refl)
  lead (y ∷ ys) h =
      go (lt m y) refl (lead ys (λ i j d le l. h (suc i) (suc j) d (omega (arith, le)) (omega (arith, l))))
    where
      go : (b : Bool) → lt m y ≡ b → (rest : List X) × (ys ≡ filter (ties lt m) ys ++ rest) →
          (rest : List X) × (y ∷ ys ≡ filter (ties lt m) (y ∷ ys) ++ rest)
      go true e more =
          let off = ap (λ b. cond b (y ∷ filter (ties lt m) ys) (filter (ties lt m) ys)) (untied y e)
          ∙ none_tie y e ys (λ j d l. h 0 (suc j) d (omega arith) (omega (arith, l))) in
          (y ∷ ys, ap (λ l. l ++ (y ∷ ys)) (sym off))
      go false e more = (
        more.0,
        ap (λ l. y ∷ l) more.1
            ∙ ap (λ b. cond b (y ∷ filter (ties lt m) ys) (filter (ties lt m) ys) ++ more.0) (sym (tied y e)),
      )

filtered : {X Y : Type 0} (f : X → Y) (p : Y → Bool) (xs : List X) →
    filter p (map f xs) ≡ map f (filter (λ x. p (f x)) xs)
filtered f p [] = refl
filtered f p (x ∷ xs) = go (p (f x)) (filtered f p xs)
  where
    go : (b : Bool) → filter p (map f xs) ≡ map f (filter (λ x. p (f x)) xs) →
        cond b (f x ∷ filter p (map f xs)) (filter p (map f xs))
        ≡ map f (cond b (x ∷ filter (λ x. p (f x)) xs) (filter (λ x. p (f x)) xs))
    go true e = ap (λ l. f x ∷ l) e
    go false e = e

-- ---- the order of attempts

-- an entry is written before another
abbrev pub entry_before : AttemptEntry → AttemptEntry → Bool
entry_before x y = is_lt (compare x.attempt y.attempt)

compare_total : IsTotalOrder compare
compare_total =
    then_total (then_total (then_total (on_total (λ (a : TracedAttempt). a.place.renewal) nat_cmp_total)
    (on_total (λ (a : TracedAttempt). rank_of a.place) nat_cmp_total))
    (on_total (λ (a : TracedAttempt). a.begin) nat_cmp_total)) (on_total (λ (a : TracedAttempt). a.end) nat_cmp_total)

pub entry_order : IsStrictWeakOrder entry_before
entry_order = ranks_by compare_total (λ (e : AttemptEntry). e.attempt)

-- no attempt sorts before one that was committed before all others
least : (a b : TracedAttempt) → IsLaidFirst a → is_lt (compare b a) ≡ false
least a b h =
    let renewal : a.place.renewal ≡ 0 = ap (λ p. p.renewal) h.place in
    let rank : rank_of a.place ≡ 0 = ap rank_of h.place in
    let begin = h.begin in
    let end = h.end in
    grind (arith, nat_tests, renewal, rank, begin, end)

-- they tie with each other
laid_tie : (m : AttemptEntry) → IsLaidFirst m.attempt → (laid : List TracedAttempt) → All (λ a. IsLaidFirst a) laid →
    filter (ties entry_before m) (attempt_entries_of 0 laid) ≡ attempt_entries_of 0 laid
laid_tie m is [] h = refl
laid_tie m is (a ∷ laid) h =
    let e : AttemptEntry = record { client = 0; attempt = a } in
    let rest = filter (ties entry_before m) (attempt_entries_of 0 laid) in
    let tie = tied entry_before entry_order m (λ y. least m.attempt y.attempt is) e
    (least a m.attempt (h 0 a (omega arith))) in
    ap (λ b. cond b (e ∷ rest) rest) tie
    ∙ ap (λ l. e ∷ l) (laid_tie m is laid (λ k d l. h (suc k) d (omega (arith, l))))

-- lines that tie keep their order
abbrev pub AreStable : List Line → List Line → Type 0
AreStable before after = IsStableBy (λ x y. is_lt (compare x.attempt.now y.attempt.now)) before after

-- the entries of the attempts that were laid, and others after them
abbrev pub BeginWith : List TracedAttempt → List AttemptEntry → Type 0
BeginWith laid all = (rest : List AttemptEntry) × (all ≡ attempt_entries_of 0 laid ++ rest)

module _ (laid : List TracedAttempt) (others : List AttemptEntry) (all sorted : List Line)
    (before : All (λ a. IsLaidFirst a) laid)
    (parts : map line_entry all ≡ attempt_entries_of 0 laid ++ others) (stable : AreStable all sorted)
    (order : EntriesAreOrdered (map line_entry sorted)) where
  behind_first : (l : Line) (a : TracedAttempt) → line_entry l ≡ record { client = 0; attempt = a } → IsLaidFirst a →
      BeginWith laid (map line_entry sorted)
  behind_first l a same is =
      let m = line_entry l in
      let mine : IsLaidFirst m.attempt = subst (λ (e : AttemptEntry). IsLaidFirst e.attempt) (sym same) is in
      let kept : filter (ties entry_before m) (map line_entry sorted)
      ≡ filter (ties entry_before m) (map line_entry all) =
      filtered line_entry (ties entry_before m) sorted ∙ ap (map line_entry) (stable l)
      ∙ sym (filtered line_entry (ties entry_before m) all) in
      let front = lead entry_before entry_order m (λ y. least m.attempt y.attempt mine) (map line_entry sorted)
      (sorted_far entry_before entry_order (map line_entry sorted) order) in
      let tied = filter (ties entry_before m) others in
      let first : filter (ties entry_before m) (map line_entry all) ≡ attempt_entries_of 0 laid ++ tied =
      ap (filter (ties entry_before m)) parts ∙ filter-append (ties entry_before m) (attempt_entries_of 0 laid) others
      ∙ ap (λ t. t ++ tied) (laid_tie m mine laid before) in (
        tied ++ front.0,
        front.1 ∙ ap (λ t. t ++ front.0) (kept ∙ first)
            ∙ append_assoc (attempt_entries_of 0 laid) tied front.0,
      )

-- the entries of sorted lines begin with the attempts that were laid
pub laid_first : (laid : List TracedAttempt) (others : List AttemptEntry) (all sorted : List Line) →
    All (λ a. IsLaidFirst a) laid → map line_entry all ≡ attempt_entries_of 0 laid ++ others → AreStable all sorted →
    EntriesAreOrdered (map line_entry sorted) → BeginWith laid (map line_entry sorted)
laid_first [] others all sorted before parts stable order = (map line_entry sorted, refl)
laid_first (a ∷ laid) others [] sorted before parts stable order =
    absurd (let never : [] ≡ record { client = 0; attempt = a } ∷ (attempt_entries_of 0 laid ++ others) = parts in cc)
laid_first (a ∷ laid) others (l ∷ all) sorted before parts stable order =
    let same : line_entry l ≡ record { client = 0; attempt = a } = cc in
    behind_first (a ∷ laid) others (l ∷ all) sorted before parts stable order l a same (before 0 a (omega arith))
