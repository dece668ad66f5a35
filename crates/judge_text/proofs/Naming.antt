-- The verdict that the calls of an object have no linearization names one of them.
use Rattle.std.proofs.Common.{◌≡◌, ℕ, ◌+◌, ◌<◌, suc, zero, Bool, true, false, cond, Some, List, [], ◌∷◌, ◌++◌, length}
use Rattle.std.proofs.Common.{map, filter, flat_map, get_or, refl, sym, ap, ◌∙◌, subst, arith, append_assoc}
use Rattle.std.specs.Prelude.{All, slice_get}
use Rattle.std.specs.List.{Contains}
use Rattle.std.specs.Str.{bytes_eq}
use Rattle.std.proofs.lemmas.Slice.Eq.{bytes_eq-Decides}
use Rattle.std.proofs.lemmas.List.Concat.{flat_map-cons}
use Rattle.std.proofs.lemmas.List.Elements.{All-head, All-filter, All-get_or, All-contains_itself, filter_passes}
use Rattle.std.proofs.lemmas.List.Sorted.{All-permutation}
use Rattle.judge_object.specs.Rules.{Rules, IsAnswerOf}
use Rattle.judge_object.specs.Call.{Call, is_completed}
use Rattle.judge_object.specs.declared.line.Line.{Line}
use Rattle.judge_search.specs.declared.stuck.Stuck.{Stuck}
use Rattle.judge_search.specs.Calls.{call_of, calls_of, soonest_of, rest_of, tries_from, can_come}
use Rattle.judge_search.specs.Point.{made_of}
use Rattle.judge_search.specs.Sorting.{AreSortOf}
use Rattle.judge_search.specs.Stuck.{AreStuck, told, with_reply}
use Rattle.judge_search.proofs.Right.{of_answer}
use Rattle.judge_search.proofs.Soonest.{same_calls}
use Rattle.judge_search.proofs.Sorted.{call_here, length_calls}
use Rattle.judge_search.proofs.Tries.{at, all_choices, may_begin}
use Rattle.judge_object.specs.Linear.{IsCallAt}
use Rattle.judge_text.specs.Many.{part}
use Rattle.judge_text.specs.ByObject.{AreBlocked}
use Rattle.judge_text.specs.Runs.{name_of, lines_for}
use Rattle.judge_text.specs.declared.parts.Blocked.{Blocked}
use Rattle.judge_text.specs.declared.by_object.Verdict.{Verdict}
use Rattle.judge_text.specs.declared.by_object.Verdict.TheVariants as verdict
use Rattle.judge_text.specs.Classing.{object_of, for_object}
use Rattle.judge_text.proofs.Blocking.{line_at}
use Rattle.judge_text.proofs.ByNames.{part_lines}
use Rattle.judge_object.specs.Orders.{IsLinearizable}
use Rattle.judge_object.specs.Relaxed.{relax}
use Rattle.judge_object.specs.declared.level.Level.{Level}
use Rattle.judge_text.specs.declared.counting.Counts.{Counts}
use Rattle.judge_text.specs.declared.settings.Settings.{Settings}
use Rattle.judge_text.specs.declared.judging.TextVerdict.{TextVerdict}
use Rattle.judge_text.specs.declared.judging.TextVerdict.TheVariants.{Fault, Judged}
use Rattle.judge_text.specs.Language.{Language}
use Rattle.judge_text.specs.Reading.{AreNumbered}
use Rattle.judge_text.specs.Judging.{IsVerdictOnText, IsJudgedText}
use Rattle.judge_text.specs.Texts.{number_at, object_at, named_text, stuck_line, stuck_text, part_text}
use Rattle.judge_text.specs.Texts.{IsBlockedText, IsTextOn, IsTextOf}
use Rattle.judge_text.specs.Naming.{NamesBlocked, NamesBy, NamesIfBlocked}

true_false : true ≡ false → ⊥
true_false e = cc

none_some : {A : Type 0} (x : A) (xs : List A) → [] ≡ x ∷ xs → ⊥
none_some x xs e = cc

head_same : {A : Type 0} (x y : A) (xs ys : List A) → x ∷ xs ≡ y ∷ ys → x ≡ y
head_same x y xs ys e = cc

-- what is known of the element at a position
get_map : {A B : Type 0} (f : A → B) (xs : List A) (place : ℕ) (d : B) (x : A) → place < length xs →
    get_or (map f xs) place d ≡ f (get_or xs place x)
get_map f [] place d x l = absurd (omega arith)
get_map f (y ∷ ys) zero d x l = refl
get_map f (y ∷ ys) (suc place) d x l = get_map f ys place d x (omega arith)

module _ {O : Type 0} where
  -- a completed call that may come next is among the completed ones
  some_completed : (calls : List (Call O)) (call : Call O) → Contains calls call → is_completed call ≡ true →
      filter is_completed calls ≡ [] → ⊥
  some_completed [] call h t none = let l = h.1 in absurd (omega arith)
  some_completed (x ∷ xs) call (zero, l, same) t none =
      let e : is_completed x ≡ true = ap is_completed same ∙ t in
      none_some x (filter is_completed xs) (sym (rw e at none))
  some_completed (x ∷ xs) call (suc place, l, same) t none =
      go (is_completed x) none (λ e. some_completed xs call (place, (omega arith), same) t e)
    where
      go : (b : Bool) → cond b (x ∷ filter is_completed xs) (filter is_completed xs) ≡ [] →
          (filter is_completed xs ≡ [] → ⊥) → ⊥
      go true e more = none_some x (filter is_completed xs) (sym e)
      go false e more = more e

  numbers_kept : (lines : List (Line O)) →
      map (λ (line : Line O). line.number) (soonest_of lines) ≡ map (λ (line : Line O). line.number) lines
  numbers_kept [] = refl
  numbers_kept (x ∷ xs) = ap (λ l. x.number ∷ l) (numbers_kept xs)

  names_kept : (name : O → List ℕ) (lines : List (Line O)) →
      map (λ (line : Line O). name line.op) (soonest_of lines) ≡ map (λ (line : Line O). name line.op) lines
  names_kept name [] = refl
  names_kept name (x ∷ xs) = ap (λ l. name x.op ∷ l) (names_kept name xs)

  -- a line that is there, by its number
  record IsNumbered (lines : List (Line O)) (line : Line O) : Type 0 where
    place : ℕ
    is : slice_get (calls_of lines) place ≡ Some (call_of line)
    number : line.number ≡ place + 1

  numbered_at : (number : ℕ) (lines : List (Line O)) (line : Line O) → AreNumbered number lines →
      (h : Contains lines line) → (slice_get (calls_of lines) h.0 ≡ Some (call_of line)) × (line.number ≡ number + h.0)
  numbered_at number [] line n h = let l = h.1 in absurd (omega arith)
  numbered_at number (x ∷ xs) line n (zero, l, same) = (
    ap (λ (y : Line O). Some (call_of y)) same,
    (let e : line.number ≡ x.number = ap (λ (y : Line O). y.number) (sym same) in
        let f : x.number ≡ number = n.0 in omega arith),
  )
  numbered_at number (x ∷ xs) line n (suc place, l, same) =
      let more = numbered_at (number + 1) xs line n.1 (place, (omega arith), same) in
      (more.0, (let e = more.1 in omega arith))

  is_numbered : (lines : List (Line O)) (line : Line O) → AreNumbered 1 lines → Contains lines line →
      IsNumbered lines line
  is_numbered lines line n h =
      let at_place = numbered_at 1 lines line n h in
      record { place = h.0; is = at_place.0; number = (let e = at_place.1 in omega arith) }

module _ {S O R : Type 0} (X : Rules S O R) where
  -- the first of the calls that are found blocked
  record IsFirstStuck (s : S) (calls : List (Call O)) (first : Stuck R) : Type 0 where
    within : first.place < length calls
    completed : is_completed (at X calls first.place) ≡ true
    other : IsAnswerOf X first.expected (at X calls first.place).reply → ⊥

  first_stuck : (s : S) (made : ℕ → Bool) (calls : List (Call O)) (first : Stuck R) (rest : List (Stuck R)) →
      AreStuck X s made calls (first ∷ rest) →
      AreBlocked X (record { rest = rest_of made 0 calls; state = s }) →
      IsFirstStuck s calls first
  first_stuck s made calls first rest are blocked =
      go (filter is_completed (tries_from made calls 0))
      (filter_passes is_completed (tries_from made calls 0)) are.told_are
    where
      within : first.place < length calls
      within = All-head (λ (one : Stuck R). one.place < length calls) first rest are.within

      go : (ys : List (Call O)) → All (λ y. is_completed y ≡ true) ys →
          map (told X calls) (first ∷ rest) ≡ map (with_reply X s) ys → IsFirstStuck s calls first
      go [] all e = absurd (none_some (told X calls first) (map (told X calls) rest) (sym e))
      go (y ∷ ys) all e =
          let same = head_same (told X calls first) (with_reply X s y) (map (told X calls) rest)
          (map (with_reply X s) ys) e in
          let call : at X calls first.place ≡ y = ap (λ (p : Call O × R). p.0) same in
          let reply : first.expected ≡ (X.run s y.op).1 = ap (λ (p : Call O × R). p.1) same in
          let completed : is_completed (at X calls first.place) ≡ true =
          ap is_completed call ∙ All-head (λ (z : Call O). is_completed z ≡ true) y ys all in
          let may = may_begin X made calls first.place within
          (All-head (λ (one : Stuck R). can_come X made calls one.place ≡ true) first rest are.can) in
          let own : first.expected ≡ (X.run s (at X calls first.place).op).1 =
          reply ∙ ap (λ (z : Call O). (X.run s z.op).1) (sym call) in
          record {
            within = within;
            completed = completed;
            other = λ answer. true_false
                (sym (of_answer X (X.run s (at X calls first.place).op).1 (at X calls first.place).reply
                (subst (λ r. IsAnswerOf X r (at X calls first.place).reply) own answer))
                ∙ blocked.none (at X calls first.place) may completed);
          }

  -- a completed call is found blocked
  some_stuck : (s : S) (made : ℕ → Bool) (calls : List (Call O)) →
      AreStuck X s made calls [] →
      AreBlocked X (record { rest = rest_of made 0 calls; state = s }) → ⊥
  some_stuck s made calls are blocked =
      go (filter is_completed (tries_from made calls 0)) refl are.told_are
    where
      go : (ys : List (Call O)) → filter is_completed (tries_from made calls 0) ≡ ys →
          [] ≡ map (with_reply X s) ys → ⊥
      go [] e none =
          some_completed (tries_from made calls 0) blocked.call
          (all_choices X made calls blocked.call blocked.may) blocked.completed e
      go (y ∷ ys) e none = none_some (with_reply X s y) (map (with_reply X s) ys) none

module _ {S O R : Type 0} (X : Rules S O R) (name : O → List ℕ) where
  -- a call that is kept of those of an object is one of a line of the history for that object
  record IsKept (lines kept : List (Line O)) (for : List ℕ) (place : ℕ) : Type 0 where
    line : Line O
    number : IsNumbered lines line
    call : at X (calls_of kept) place ≡ call_of line
    own : name line.op ≡ for
    number_is : number_at kept place ≡ line.number
    name_is : object_at name kept place ≡ for

  is_kept : (lines kept : List (Line O)) (for : List ℕ) (place : ℕ) → AreNumbered 1 lines →
      AreSortOf (lines_for name for lines) kept → place < length (calls_of kept) →
      IsKept lines kept for place
  is_kept lines kept for place numbered sort within =
      let items = sort.0 in
      let calls : calls_of kept ≡ calls_of items = ap calls_of sort.2 ∙ same_calls items in
      let long : length (calls_of kept) ≡ length items = ap length calls ∙ length_calls X items in
      let there : place < length items = omega arith in
      let line = line_at items place there in
      let test = λ (l : Line O). bytes_eq (name_of name l) for in
      let inside = λ (l : Line O). Contains lines l in
      let passes = λ (l : Line O). test l ≡ true in
      let among : Contains lines line.0 =
      subst inside (sym line.1) (All-get_or inside items place line.0 there
      (All-permutation inside (lines_for name for lines) items sort.1
      (All-filter test inside lines (All-contains_itself lines)))) in
      let passed : test line.0 ≡ true =
      subst passes (sym line.1) (All-get_or passes items place line.0 there
      (All-permutation passes (lines_for name for lines) items sort.1 (filter_passes test lines))) in
      let own : name line.0.op ≡ for = (bytes_eq-Decides (name line.0.op) for).0 passed in
      record {
        line = line.0;
        number = is_numbered lines line.0 numbered among;
        call = ap (λ cs. at X cs place) calls ∙ call_here X items place line.0 there line.1;
        own = own;
        number_is =
            ap (λ ls. get_or ls place 0) (ap (map (λ (l : Line O). l.number)) sort.2 ∙ numbers_kept items)
            ∙ get_map (λ (l : Line O). l.number) items place 0 line.0 there
            ∙ ap (λ (l : Line O). l.number) (sym line.1);
        name_is =
            ap (λ ls. get_or ls place []) (ap (map (λ (l : Line O). name l.op)) sort.2 ∙ names_kept name items)
            ∙ get_map (λ (l : Line O). name l.op) items place [] line.0 there
            ∙ ap (λ (l : Line O). name l.op) (sym line.1)
            ∙ own;
      }

  -- the text begins with the first of the calls that are found blocked
  blocked_text : (kept : List (Line O)) (first : Stuck R) (rest : List (Stuck R)) (number : ℕ) (for : List ℕ) →
      number_at kept first.place ≡ number → object_at name kept first.place ≡ for →
      part_text name kept (first ∷ rest) ++ flat_map (stuck_text X kept) (first ∷ rest)
      ≡ named_text number for ++ stuck_line X number first.expected ++ flat_map (stuck_text X kept) rest
  blocked_text kept first rest number for n o =
      ap (λ t. part_text name kept (first ∷ rest) ++ t) (flat_map-cons (stuck_text X kept) first rest)
      ∙ sym (append_assoc (part_text name kept (first ∷ rest)) (stuck_text X kept first)
      (flat_map (stuck_text X kept) rest))
      ∙ ap (λ k. named_text k (object_at name kept first.place) ++ stuck_line X k first.expected
      ++ flat_map (stuck_text X kept) rest) n
      ∙ ap (λ k. named_text number k ++ stuck_line X number first.expected
      ++ flat_map (stuck_text X kept) rest) o

  module _ (L : Language O R) where
    names_blocked : (s : List ℕ → S) (bytes : List ℕ) (how : Settings) (counts : Counts) (blocked : Blocked O S)
        (text : List ℕ) →
        IsJudgedText X name L how s bytes counts (verdict.NotLinearizable blocked) →
        IsBlockedText X name blocked text → NamesBlocked X name L how.level s bytes text
    names_blocked s bytes how counts blocked text j b = go b.stuck b.are b.is
      where
        lines : List (Line O)
        lines = j.judged.lines

        same : calls_of lines ≡ relax how.level j.calls
        same = j.judged.relaxed

        kept : List (Line O)
        kept = blocked.calls.lines.items

        made : ℕ → Bool
        made = made_of blocked.point

        state : S
        state = blocked.point.machine

        go : (stuck : List (Stuck R)) → AreStuck X state made (calls_of kept) stuck →
            text ≡ part_text name kept stuck ++ flat_map (stuck_text X kept) stuck →
            NamesBlocked X name L how.level s bytes text
        go [] are is = absurd (some_stuck X state made (calls_of kept) are j.judged.judged.1.is.stuck)
        go (first ∷ rest) are is =
            let for = j.judged.judged.1.for in
            let found = first_stuck X state made (calls_of kept) first rest are j.judged.judged.1.is.stuck in
            let here = is_kept lines kept for first.place j.judged.numbered j.judged.judged.1.is.kept found.within in
            record {
              calls = j.calls;
              are = j.are;
              for = for;
              none = λ order. j.judged.judged.1.is.none (subst (IsLinearizable X (s for))
                  (part_lines name for lines)
                  (subst (λ cs. IsLinearizable X (s for) (part name for cs)) (sym same) order));
              place = here.number.place;
              call = call_of here.line;
              is = subst (λ cs. IsCallAt cs here.number.place (call_of here.line)) same here.number.is;
              own = here.own;
              completed = ap is_completed (sym here.call) ∙ found.completed;
              expected = first.expected;
              other = λ answer. found.other
                  (subst (λ (c : Call O). IsAnswerOf X first.expected c.reply) (sym here.call) answer);
              rest = flat_map (stuck_text X kept) rest;
              text_is = is ∙ blocked_text kept first rest (here.number.place + 1) for
                  (here.number_is ∙ here.number.number) here.name_is;
            }

    names_by : (s : List ℕ → S) (bytes : List ℕ) (how : Settings) (counts : Counts) (v : Verdict O S)
        (text : List ℕ) → IsJudgedText X name L how s bytes counts v → IsTextOn X name counts v text →
        NamesBy X name L how.level s bytes v text
    names_by s bytes how counts (verdict.NotLinearizable blocked) text j b =
        names_blocked s bytes how counts blocked text j b
    names_by s bytes how counts verdict.Linearizable text j b = tt
    names_by s bytes how counts (verdict.OutOfTurn place) text j b = tt
    names_by s bytes how counts (verdict.Unknown open_) text j b = tt
    names_by s bytes how counts verdict.Touching text j b = tt

module _ {S O R : Type 0} (X : Rules S O R) (name : O → List ℕ)
    (naming : List (Call O) → (List ℕ → List ℕ) → Type 0) (L : Language O R) where
  pub names_if_blocked : (s : List ℕ → S) (bytes : List ℕ) (how : Settings) (v : TextVerdict O S) (text : List ℕ) →
      IsVerdictOnText X name naming L s bytes how v → IsTextOf X name v text →
      NamesIfBlocked X name L how.level s bytes v text
  names_if_blocked s bytes how (Judged names counts v) text j b =
      names_by X (for_object (object_of names) name) L s bytes how counts v text j.1 b
  names_if_blocked s bytes how (Fault number fault) text j b = tt
