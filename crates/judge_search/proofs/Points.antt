-- Results of the search for a place among the calls of a history.
use Rattle.std.proofs.Common.{◌≡◌, ◌⊎◌, ℕ, ◌+◌, ◌<◌, ◌≤◌, ◌==◌, ◌||◌, ◌&&◌, suc, zero, Bool, true, false, not}
use Rattle.std.proofs.Common.{cond, Option, Some, None, List, [], ◌∷◌, length, take, get_or, refl, sym, ap, ◌∙◌, inl}
use Rattle.std.proofs.Common.{inr, arith, nat_lt, nat_le, add-one, ◌-◌, subst}
use Rattle.std.specs.List.{list_any}
use Rattle.std.specs.Prelude.{IfSome, ◌^◌}
use Rattle.std.proofs.lemmas.List.{length-map}
use Rattle.std.proofs.lemmas.List.Folds.{list_any-append}
use Rattle.std.proofs.lemmas.Bool.{cases_lt}
use Rattle.std.proofs.lemmas.Bool.Decides.{nat_tests}
use Rattle.judge_object.specs.declared.span.TheConstants.{NEVER}
use Rattle.judge_object.specs.Call.{Call}
use Rattle.judge_object.specs.Rules.{is_right, given_text}
use Rattle.judge_object.specs.declared.line.Line.{Line}
use Rattle.judge_search.specs.Configurations.{Configuration, fits, after_call, without_next, answered}
use Rattle.judge_search.specs.declared.calls.Calls.{Calls}
use Rattle.judge_search.specs.declared.point.Point.{Point}
use Rattle.judge_search.specs.Marks.{is_made, MarksOneMore}
use Rattle.judge_search.specs.Point.{made_of, point_views, RunsTo}
use Rattle.judge_search.specs.Views.{TellsLeft, TellsNext, LedTo}
use Rattle.judge_search.specs.Calls.{call_of, calls_of, has_ended, are_sorted, rest_of, can_come, tries_from, IsTry}
use Rattle.judge_search.specs.Calls.{TellsTry, TellsTryBefore}
use Rattle.judge_search.proofs.Tries.{at, may_begin, tries_step, tries_none, tries_skip, front_more, of_stands}
use Rattle.judge_search.proofs.Tries.{stands_of}
use Rattle.judge_search.proofs.Tries.{rest_made}
use Rattle.judge_search.proofs.Sorted.{sorted_of, begin_later, call_here, long_calls, begun_early, begun_late, all_made}
use Rattle.judge_search.proofs.Soonest.{same_default}
use Rattle.judge_search.proofs.Sorted.{never_left, some_left}
use Rattle.judge_object.specs.Rules.{Rules}

module _ {S O R : Type 0} (X : Rules S O R) where
  -- where all calls have a place, none is left to try
  pub tries_made_all : (made : ℕ → Bool) (cs : List (Call O)) (from : ℕ) → ((p : ℕ) → p < length cs → made p ≡ true) →
      tries_from made cs from ≡ []
  tries_made_all made cs from h =
      elim (cases_lt from (length cs)) [
        | inl l ↦
            let more : (m : ℕ) × (length cs ≡ from + m) = rest_to from (length cs) (let g : from ≤ length cs =
            omega arith in g) in
            (tries_skip X) made cs from more.0 (λ p g. h p (let e = more.1 in omega arith))
            ∙ (tries_none X) made cs (from + more.0) (let e = more.1 in omega arith)
        | inr l ↦ (tries_none X) made cs from l
      ]
    where
      rest_to : (a b : ℕ) → a ≤ b → (m : ℕ) × (b ≡ a + m)
      rest_to zero b l = (b, omega arith)
      rest_to (suc a) zero l = absurd (omega arith)
      rest_to (suc a) (suc b) l = let r = rest_to a b (omega arith) in (r.0, (let e = r.1 in omega arith))

  -- the tries begin at the first call that has no place
  pub tries_start : (made : ℕ → Bool) (cs : List (Call O)) (from first start : ℕ) →
      ((p : ℕ) → p < first → made p ≡ true)
      → (start ≡ from) ⊎ ((start ≡ first) × (from ≤ first)) → tries_from made cs from ≡ tries_from made cs start
  tries_start made cs from first start h (inl e) = ap (tries_from made cs) (sym e)
  tries_start made cs from first start h (inr e) =
      let more = rest_to from first e.1 in
      (tries_skip X) made cs from more.0 (λ p g. h p (let f = more.1 in omega arith))
      ∙ ap (tries_from made cs) (sym more.1 ∙ sym e.0)
    where
      rest_to : (a b : ℕ) → a ≤ b → (m : ℕ) × (b ≡ a + m)
      rest_to zero b l = (b, omega arith)
      rest_to (suc a) zero l = absurd (omega arith)
      rest_to (suc a) (suc b) l = let r = rest_to a b (omega arith) in (r.0, (let e = r.1 in omega arith))

  -- none before a place is none before an earlier one
  pub front_less : (test : (Call O) → Bool) (made : ℕ → Bool) (i : ℕ) (cs : List (Call O)) (p q : ℕ) → p ≤ q
      → list_any test (rest_of made i (take q cs)) ≡ false → list_any test (rest_of made i (take p cs)) ≡ false
  front_less test made i cs zero q l h = refl
  front_less test made i cs (suc p) zero l h = absurd (omega arith)
  front_less test made i [] (suc p) (suc q) l h = refl
  front_less test made i (c ∷ cs) (suc p) (suc q) l h = go (made i)
      (front_less test made (suc i) cs p q (omega arith)) h
    where
      both : (a b : Bool) → (a || b) ≡ false → (a ≡ false) × (b ≡ false)
      both true b h = cc
      both false b h = (refl, h)

      go : (b : Bool) → (list_any test (rest_of made (suc i) (take q cs)) ≡ false →
          list_any test (rest_of made (suc i) (take p cs)) ≡ false)
          → list_any test (cond b (rest_of made (suc i) (take q cs)) (c ∷ rest_of made (suc i) (take q cs))) ≡ false
          → list_any test (cond b (rest_of made (suc i) (take p cs)) (c ∷ rest_of made (suc i) (take p cs))) ≡ false
      go true more h = more h
      go false more h =
          let two = both (test c) (list_any test (rest_of made (suc i) (take q cs))) h in
          ap (λ t. t || list_any test (rest_of made (suc i) (take p cs))) two.0 ∙ more two.1

  -- one more call before a place does not pass the test, or has a place
  pub front_next : (test : (Call O) → Bool) (made : ℕ → Bool) (cs : List (Call O)) (p : ℕ) → p < length cs →
      (made p ≡ true) ⊎ (test (at X cs p) ≡ false)
      → list_any test (rest_of made 0 (take p cs)) ≡ false → list_any test (rest_of made 0 (take (p + 1) cs)) ≡ false
  front_next test made cs p l e h =
      ap (λ n. list_any test (rest_of made 0 (take n cs))) (add-one p)
      ∙ ap (list_any test) (front_more X made 0 cs p p (omega arith) l)
      ∙ list_any-append test (rest_of made 0 (take p cs)) (cond (made p) [] (at X cs p ∷ []))
      ∙ ap (λ b. b || list_any test (cond (made p) [] (at X cs p ∷ []))) h
      ∙ last e
    where
      out : (b : Bool) → test (at X cs p) ≡ false → list_any test (cond b [] (at X cs p ∷ [])) ≡ false
      out true e = refl
      out false e = ap (λ t. t || false) e

      last : (made p ≡ true) ⊎ (test (at X cs p) ≡ false) → list_any test (cond (made p) [] (at X cs p ∷ [])) ≡ false
      last (inl e) = ap (λ b. list_any test (cond b [] (at X cs p ∷ []))) e
      last (inr e) = out (made p) e

  -- a call before a place that passes the test and has none
  pub front_has : (test : (Call O) → Bool) (made : ℕ → Bool) (i : ℕ) (cs : List (Call O)) (e p j : ℕ) → j ≡ i + e →
      e < p →
      e < length cs → made j ≡ false → test (at X cs e) ≡ true
      → list_any test (rest_of made i (take p cs)) ≡ true
  front_has test made i [] e p j x l k f t = absurd (omega arith)
  front_has test made i (c ∷ cs) e zero j x l k f t = absurd (omega arith)
  front_has test made i (c ∷ cs) zero (suc p) j x l k f t =
      ap (λ b. list_any test (cond b (rest_of made (suc i) (take p cs)) (c ∷ rest_of made (suc i) (take p cs))))
      (ap made (let y : i ≡ j = omega arith in y) ∙ f)
      ∙ ap (λ b. b || list_any test (rest_of made (suc i) (take p cs))) t
  front_has test made i (c ∷ cs) (suc e) (suc p) j x l k f t =
      go (made i) (front_has test made (suc i) cs e p j (omega arith) (omega arith) (omega arith) f t)
    where
      or_true : (b : Bool) → (b || true) ≡ true
      or_true true = refl
      or_true false = refl

      go : (b : Bool) → list_any test (rest_of made (suc i) (take p cs)) ≡ true →
          list_any test (cond b (rest_of made (suc i) (take p cs)) (c ∷ rest_of made (suc i) (take p cs))) ≡ true
      go true h = h
      go false h = ap (λ t. test c || t) h ∙ or_true (test c)

  -- what is known of a search among the calls from the first on that has no place
  pub record IsFirstLeft (made : ℕ → Bool) (lines : List (Line O)) (first : ℕ) (line : Line O) : Type 0 where
    pub sorted : are_sorted lines ≡ true
    pub within : first < length lines
    pub is : line ≡ get_or lines first line
    pub below : (p : ℕ) → p < first → made p ≡ true
    pub left : made first ≡ false

  cannot : (made : ℕ → Bool) (cs : List (Call O)) (p : ℕ) → (made p ≡ true) ⊎
      (list_any (λ (o : Call O). nat_lt o.end (at X cs p).begin) (rest_of made 0 cs) ≡ true)
      ⊎ (list_any (λ (o : Call O). o.client == (at X cs p).client) (rest_of made 0 (take p cs)) ≡ true) →
      (can_come X) made cs p ≡ false
  cannot made cs p (inl e) = rw e refl
  cannot made cs p (inr (inl e)) = ap (λ m. not (made p) && m)
      (ap (λ b. not b && not (list_any (λ (o : Call O). o.client == (at X cs p).client) (rest_of made 0 (take p cs))))
      e) ∙
      and_false (made p)
    where
      and_false : (b : Bool) → (not b && false) ≡ false
      and_false true = refl
      and_false false = refl
  cannot made cs p (inr (inr e)) =
      ap (λ b. not (made p) && (not (list_any (λ (o : Call O). nat_lt o.end (at X cs p).begin) (rest_of made 0 cs)) &&
      not b))
      e
      ∙ none (made p) (list_any (λ (o : Call O). nat_lt o.end (at X cs p).begin) (rest_of made 0 cs))
    where
      none : (a b : Bool) → (not a && (not b && false)) ≡ false
      none true b = refl
      none false true = refl
      none false false = refl

  -- a call that cannot come is passed over
  pub tries_pass : (made : ℕ → Bool) (lines : List (Line O)) (first : ℕ) (line : Line O) (p : ℕ) (next : Line O) →
      IsFirstLeft made lines first line → p < length lines → next ≡ get_or lines p next
      → (made p ≡ true) ⊎ (line.end < next.begin) ⊎ (list_any (λ (o : Call O). o.client ==
      next.client) (rest_of made 0 (take p (calls_of lines))) ≡ true)
      → tries_from made (calls_of lines) p ≡ tries_from made (calls_of lines) (p + 1)
  tries_pass made lines first line p next f l e why =
      let cs = calls_of lines in
      (tries_step X) made cs p (long_calls X lines p l)
      ∙ ap (λ b. cond b (at X cs p ∷ tries_from made cs (suc p)) (tries_from made cs (suc p)))
      (cannot made cs p (told why))
      ∙ ap (tries_from made cs) (sym (add-one p))
    where
      told : (made p ≡ true) ⊎ (line.end < next.begin) ⊎ (list_any (λ (o : Call O). o.client ==
          next.client) (rest_of made 0 (take p (calls_of lines))) ≡ true)
          → (made p ≡ true) ⊎ (list_any (λ (o : Call O). nat_lt o.end (at X (calls_of lines) p).begin)
          (rest_of made 0 (calls_of lines)) ≡ true)
          ⊎ (list_any (λ (o : Call O). o.client == (at X (calls_of lines) p).client)
          (rest_of made 0 (take p (calls_of lines))) ≡ true)
      told (inl h) = inl h
      told (inr (inl h)) = inr (inl (ap (λ (c : Call O). list_any (λ (o : Call O). nat_lt o.end c.begin)
          (rest_of made 0 (calls_of lines))) (call_here X lines p next l e)
          ∙ (begun_late X) made lines first line next.begin (sorted_of lines f.sorted) f.within f.is f.below f.left h))
      told (inr (inr h)) = inr (inr (ap (λ (c : Call O). list_any (λ (o : Call O). o.client ==
          c.client) (rest_of made 0 (take p (calls_of lines)))) (call_here X lines p next l e) ∙ h))

  -- and one that can is the next try
  pub tries_found : (made : ℕ → Bool) (lines : List (Line O)) (first : ℕ) (line : Line O) (from p : ℕ) (next : Line O) →
      IsFirstLeft made lines first line → p < length lines → next ≡ get_or lines p next
      → tries_from made (calls_of lines) from ≡ tries_from made (calls_of lines) p → made p ≡ false →
      next.begin ≤ line.end
      → list_any (λ (o : Call O). o.client == next.client) (rest_of made 0 (take p (calls_of lines))) ≡ false →
      (IsTry X) made (calls_of lines) from p
  tries_found made lines first line from p next f l e same free early none =
      let cs = calls_of lines in
      let here = (call_here X) lines p next l e in
      let can = (of_stands X) made cs p (record {
        free = free;
        none = ap (λ (c : Call O). list_any (λ (o : Call O). o.client == c.client) (rest_of made 0 (take p cs))) here ∙
            none;
        early = ap (λ (c : Call O). list_any (λ (o : Call O). nat_lt o.end c.begin) (rest_of made 0 cs)) here
            ∙ (begun_early X) made lines first line next.begin
            (sorted_of lines f.sorted) f.within f.is f.below f.left early;
      }) in
      record {
        is = same ∙ (tries_step X) made cs p (long_calls X lines p l)
            ∙ ap (λ b. cond b (at X cs p ∷ tries_from made cs (suc p)) (tries_from made cs (suc p))) can
            ∙ ap (λ n. (at X) cs p ∷ tries_from made cs n) (sym (add-one p));
        can = can;
        within = (long_calls X) lines p l;
      }

  -- where a line says that it and those of its kind after it begin too late, none of those may come next
  pub tries_jump : (made : ℕ → Bool) (lines : List (Line O)) (first : ℕ) (line : Line O) (p n : ℕ) (next : Line O) →
      IsFirstLeft made lines first line → p + n ≤ length lines → next ≡ get_or lines p next
      → ((j : ℕ) (d : Line O) → p ≤ j → j < p + n →
      has_ended (get_or lines j d) ≡ has_ended (get_or lines p d))
      → line.end < next.soonest → tries_from made (calls_of lines) p ≡ tries_from made (calls_of lines) (p + n)
  tries_jump made lines first line p zero next f l e alike far =
      ap (tries_from made (calls_of lines)) (let z : p ≡ p + zero = omega arith in z)
  tries_jump made lines first line p (suc n) next f l e alike far =
      let j = p + n in
      let within : j < length lines = omega arith in
      let d = get_or lines j next in
      let own : d ≡ get_or lines j d = same_default lines j next d within in
      let early : (get_or lines p d).soonest ≤ (get_or lines j d).begin =
      begin_later lines p j d (sorted_of lines f.sorted) (omega arith) within (alike j d (omega arith) (omega arith)) in
      let here : next ≡ get_or lines p d = e ∙ same_default lines p next d (omega arith) in
      let soon : next.soonest ≡ (get_or lines p d).soonest = ap (λ (x : Line O). x.soonest) here in
      let late : d.begin ≡ (get_or lines j d).begin = ap (λ (x : Line O). x.begin) own in
      tries_jump made lines first line p n next f (omega arith) e
      (λ i d m k. alike i d m (omega arith)) far
      ∙ tries_pass made lines first line j d f within own (inr (inl (omega arith)))
      ∙ ap (tries_from made (calls_of lines)) (let z : j + 1 ≡ p + suc n = omega arith in z)

  -- none before a place is left of those that pass a test
  pub none_front : (test : (Call O) → Bool) (made : ℕ → Bool) (cs : List (Call O)) (p : ℕ) → p ≤ length cs →
      ((j : ℕ) → j < p → (made j ≡ true) ⊎ (test (at X cs j) ≡ false))
      → list_any test (rest_of made 0 (take p cs)) ≡ false
  none_front test made cs zero l h = refl
  none_front test made cs (suc p) l h =
      ap (λ n. list_any test (rest_of made 0 (take n cs))) (sym (add-one p))
      ∙ front_next test made cs p (omega arith) (h p (omega arith))
      (none_front test made cs p (omega arith) (λ j k. h j (omega arith)))

  -- a try from one place on is one from another on, where the tries are the same
  pub try_from : (made : ℕ → Bool) (cs : List (Call O)) (from start place : ℕ) →
      tries_from made cs from ≡ tries_from made cs start → (IsTry X) made cs start place → (IsTry X) made cs from place
  try_from made cs from start place e t = record {
    is = e ∙ t.is;
    can = t.can;
    within = t.within;
  }

  pub try_completed : (made : ℕ → Bool) (cs : List (Call O)) (from start completed : ℕ) (r : Option ℕ) (place : ℕ) →
      r ≡ Some place → tries_from made cs from ≡ tries_from made cs start → TellsTryBefore X made cs start completed r →
      TellsTry X made cs from (Some place)
  try_completed made cs from start completed None place s e t = cc
  try_completed made cs from start completed (Some p) place s e t =
      subst (λ q. IsTry X made cs from q) (let f : p ≡ place = cc in f) (try_from made cs from start p e t)

  -- where none of the completed calls is to be tried, the pending ones are
  pub try_pending : (made : ℕ → Bool) (cs : List (Call O)) (from start completed pending : ℕ) (none r : Option ℕ) →
      none ≡ None → tries_from made cs from ≡ tries_from made cs start → TellsTryBefore X made cs start completed none →
      (pending ≡ start) ⊎ ((pending ≡ completed) × (start ≤ completed)) →
      TellsTryBefore X made cs pending (length cs) r → TellsTry X made cs from r
  try_pending made cs from start completed pending (Some p) r n e t w h = cc
  try_pending made cs from start completed pending None r n e t w h = go r h
    where
      same : tries_from made cs from ≡ tries_from made cs pending
      same =
          elim w [
            | inl f ↦ e ∙ ap (tries_from made cs) (sym f)
            | inr f ↦ e ∙ t f.1 ∙ ap (tries_from made cs) (sym f.0)
          ]

      go : (r : Option ℕ) → TellsTryBefore X made cs pending (length cs) r → TellsTry X made cs from r
      go (Some p) h = try_from made cs from pending p same h
      go None h =
          elim (cases_lt (length cs) pending) [
            | inl l ↦ same ∙ (tries_none X) made cs pending (omega arith)
            | inr l ↦ same ∙ h l ∙ (tries_none X) made cs (length cs) (omega arith)
          ]

  -- whether a completed call is left
  pub tells_all : (made : ℕ → Bool) (cs : List (Call O)) → ((p : ℕ) → p < length cs → made p ≡ true) →
      TellsLeft (answered (rest_of made 0 cs)) true
  tells_all made cs h = (
    (λ e. ap answered (all_made X made 0 cs (λ p l. h p (omega arith)))),
    (λ e. absurd (true_false e)),
  )
    where
      true_false : true ≡ false → ⊥
      true_false e = cc

  pub tells_first : (made : ℕ → Bool) (lines : List (Line O)) (first : ℕ) (line : Line O) →
      IsFirstLeft made lines first line → TellsLeft (answered (rest_of made 0 (calls_of lines))) (nat_le NEVER line.end)
  tells_first made lines first line f = (
    (λ x. (never_left X) made lines first line (sorted_of lines f.sorted) f.within f.is f.below f.left
        (is_pending line.end x)),
    (λ x. (some_left X) made lines first line f.within f.is f.below f.left (is_over line.end x)),
  )
    where
      is_pending : (e : ℕ) → nat_le NEVER e ≡ true → nat_lt e NEVER ≡ false
      is_pending e h = grind (arith, nat_tests)

      is_over : (e : ℕ) → nat_le NEVER e ≡ false → nat_lt e NEVER ≡ true
      is_over e h = grind (arith, nat_tests)

  -- what making the call at a place leads to
  pub led_not : (s : S) (lines : List (Line O)) (p : ℕ) (line : Line O) (next : S) (reply : R) → p < length lines →
      line ≡ get_or lines p line
      → X.run s line.op ≡ (next, reply) → (is_right X) (given_text line.reply) reply ≡ false →
      (fits X) s (at X (calls_of lines) p) ≡ false
  led_not s lines p line next reply l e r w =
      ap (fits X s) (call_here X lines p line l e) ∙ ap (λ (x : S × R). (is_right X) (given_text line.reply) x.1) r ∙ w

  pub led_on : (made more : ℕ → Bool) (s : S) (lines : List (Line O)) (p : ℕ) (line : Line O) (next : S) (reply : R)
      → p < length lines → line ≡ get_or lines p line
      → X.run s line.op ≡ (next, reply) → (is_right X) (given_text line.reply) reply ≡ true →
      (can_come X) made (calls_of lines) p ≡ true
      → ((j : ℕ) → more j ≡ (made j || j == p))
      → (fits X s (at X (calls_of lines) p) ≡ true)
      × (◌≡◌ {A = (Configuration S O)} (record { rest = rest_of more 0 (calls_of lines); state = next })
      (after_call X (record { rest = rest_of made 0 (calls_of lines); state = s }) (at X (calls_of lines) p)))
      × ((j : ℕ) → more j ≡ (made j || j == p))
  led_on made more s lines p line next reply l e r w can m =
      let cs = calls_of lines in
      let state : next ≡ (X.run s (at X cs p).op).0 = sym (ap (λ (c : Call O). (X.run s c.op).0)
      (call_here X lines p line l e)
      ∙ ap (λ (x : S × R). x.0) r) in (
        ap (fits X s) (call_here X lines p line l e) ∙ ap (λ (x : S × R). (is_right X) (given_text line.reply) x.1) r ∙
            w,
        ap (λ x. record { rest = x; state = next }) (rest_made X made more cs p (long_calls X lines p l) can m)
            ∙ ap (λ x. record { rest = without_next (at X cs p).client (rest_of made 0 cs); state = x }) state,
        m,
      )

  -- what is next for a search, from what is next among the calls
  pub told_next : (calls : Calls O) (point : Point S) (from : ℕ) (r : Option ℕ) →
      (TellsTry X) (made_of point) (calls_of calls.lines.items) from r
      → IfSome r (λ p. p < 2 ^ 64 - 1) → TellsNext (point_views X calls) point from r
  told_next calls point from None t s = t
  told_next calls point from (Some p) t s = record {
    is = t.is;
    may = (may_begin X) (made_of point) (calls_of calls.lines.items) p t.within t.can;
    can = t.can;
    left = (stands_of X (made_of point) (calls_of calls.lines.items) p t.can).free;
    within = (let l : p < length (calls_of calls.lines.items) = t.within in
        let e : length (calls_of calls.lines.items) ≡ length calls.lines.items = length-map calls.lines.items call_of in
        omega arith);
    small = (let l : p < 2 ^ 64 - 1 = s in omega arith);
  }

  -- what making the call at a place leads to, from a point
  pub point_not : (calls : Calls O) (point : Point S) (p : ℕ) (line : Line O)
      (made : S × R)
      → p < length calls.lines.items → line ≡ get_or calls.lines.items p line
      → (RunsTo X) calls point p made → (is_right X) (given_text line.reply) made.1 ≡ false →
      (LedTo X) (point_views X calls) point p None
  point_not calls point p line made l e ran w =
      led_not point.machine calls.lines.items p line made.0 made.1 l e
      (sym (ap (λ (c : Call O). X.run point.machine c.op) (call_here X calls.lines.items p line l e)) ∙ ran) w

  pub point_on : (calls : Calls O) (point next : Point S) (low : ℕ) (beyond : List ℕ)
      (p : ℕ)
      (line : Line O) (reply : R) → point.low ≡ low → point.beyond.items ≡ beyond
      → p < length calls.lines.items → line ≡ get_or calls.lines.items p line
      → (RunsTo X) calls point p (next.machine, reply) → (is_right X) (given_text line.reply) reply ≡ true →
      (can_come X) (is_made low beyond) (calls_of calls.lines.items) p ≡ true
      → MarksOneMore low beyond p (next.low, next.beyond.items) → (LedTo X) (point_views X calls) point p (Some next)
  point_on calls point next low beyond p line reply el eb l e ran w can m =
      let lines = calls.lines.items in
      let s = point.machine in
      let at_low = λ (P : ℕ → List ℕ → Type 0) (h : P low beyond).
      subst (λ n. P n point.beyond.items) (sym el) (subst (P low) (sym eb) h) in
      led_on (made_of point) (made_of next) s lines p line next.machine reply l e
      (sym (ap (λ (c : Call O). X.run s c.op) (call_here X lines p line l e)) ∙ ran) w
      (at_low (λ n b. (can_come X) (is_made n b) (calls_of lines) p ≡ true) can)
      (at_low (λ n b. MarksOneMore n b p (next.low, next.beyond.items)) m)
