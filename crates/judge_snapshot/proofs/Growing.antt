-- The version histories after a commit are those that some choice of a snapshot allows.
use Rattle.std.proofs.Common.{◌≡◌, ◌⊎◌, ℕ, ◌<◌, ◌≤◌, ◌&&◌, suc, zero, Bool, true, false, cond, List, [], ◌∷◌}
use Rattle.std.proofs.Common.{length, refl, sym, ap, ◌∙◌, subst, inl, inr, arith, take, drop, get_or}
use Rattle.std.specs.Prelude.{nat_le, not}
use Rattle.std.specs.List.{list_any}
use Rattle.std.proofs.lemmas.Bool.{cases_lt}
use Rattle.judge_object.specs.declared.span.Span.{Span}
use Rattle.judge_object.specs.Rules.{Rules, is_right}
use Rattle.judge_object.specs.Call.{Call, span_of}
use Rattle.judge_search.proofs.Right.{answer_of, of_answer}
use Rattle.judge_snapshot.specs.WriteSets.{WriteSets, AreWriteSets}
use Rattle.judge_snapshot.specs.Snapshots.{Transaction, snapshot, written, state_of}
use Rattle.judge_snapshot.specs.Snapshots.{MayCommit}
use Rattle.judge_snapshot.specs.Possible.{Past, can_commit, grown, longer, repeats, all_longer}
use Rattle.judge_snapshot.proofs.Tests.{In, false_true, both, and_of, not_true, true_not, by_test, test_of, either_true}
use Rattle.judge_snapshot.proofs.Tests.{each_of, of_each}
use Rattle.judge_snapshot.proofs.Places.{drop_at}

module _ {S O R W : Type 0} (X : Rules S O R) (V : WriteSets S O W) (needs : Span → Span → Bool) where
  pub may_of : (past : Past S W) (t : Transaction O) → can_commit X V needs past t ≡ true →
      MayCommit X V needs past.first past.versions t
  may_of past t e =
      let w = written X V past.first past.versions t in
      let r = (X.run (snapshot X V past.first past.versions t) t.call.op).1 in
      let a = nat_le t.missed (length past.versions) in
      let b = is_right X t.call.reply r in
      let c = not (list_any (λ v. V.conflicts v.written w) (take t.missed past.versions)) in
      let d = not (list_any (λ v. needs v.span (span_of t.call)) (take t.missed past.versions)) in
      let three = both (a && b && c) d e in
      let two = both (a && b) c three.0 in
      let one = both a b two.0 in
      record {
        within = by_test t.missed (length past.versions) one.0;
        reply = answer_of X r t.call.reply one.1;
        apart = each_of (λ v. V.conflicts v.written w) (take t.missed past.versions)
            (not_true (list_any (λ v. V.conflicts v.written w) (take t.missed past.versions)) two.1);
        fresh = each_of (λ v. needs v.span (span_of t.call)) (take t.missed past.versions)
            (not_true (list_any (λ v. needs v.span (span_of t.call)) (take t.missed past.versions)) three.1);
      }

  pub of_may : (past : Past S W) (t : Transaction O) → MayCommit X V needs past.first past.versions t →
      can_commit X V needs past t ≡ true
  of_may past t h =
      let w = written X V past.first past.versions t in
      let r = (X.run (snapshot X V past.first past.versions t) t.call.op).1 in
      let a = nat_le t.missed (length past.versions) in
      let b = is_right X t.call.reply r in
      let c = not (list_any (λ v. V.conflicts v.written w) (take t.missed past.versions)) in
      let d = not (list_any (λ v. needs v.span (span_of t.call)) (take t.missed past.versions)) in
      and_of (a && b && c) d
      (and_of (a && b) c
      (and_of a b (test_of t.missed (length past.versions) h.within) (of_answer X r t.call.reply h.reply))
      (true_not (list_any (λ v. V.conflicts v.written w) (take t.missed past.versions))
      (of_each (λ v. V.conflicts v.written w) (take t.missed past.versions) h.apart)))
      (true_not (list_any (λ v. needs v.span (span_of t.call)) (take t.missed past.versions))
      (of_each (λ v. needs v.span (span_of t.call)) (take t.missed past.versions) h.fresh))

  abbrev take_it : Past S W → Call O → ℕ → Bool
  take_it past call n = can_commit X V needs past (record { call = call; missed = n }) && not
      (repeats X V needs past call n n)

  -- a past that a call makes longer
  pub record Grows (pasts : List (Past S W)) (call : Call O) (to : Past S W) : Type 0 where
    pub from : Past S W
    pub missed : ℕ
    pub is : In from pasts
    pub can : can_commit X V needs from (record { call = call; missed = missed }) ≡ true
    pub gives : to ≡ grown X V needs from (record { call = call; missed = missed })

  in_longer : (pasts : List (Past S W)) (past : Past S W) (call : Call O) (n : ℕ) (others : List (Past S W))
      (to : Past S W) → In to (longer X V needs past call n others) →
      Grows (past ∷ pasts) call to ⊎ In to others
  in_longer pasts past call zero others to h = inr h
  in_longer pasts past call (suc n) others to h =
      go (take_it past call n) refl
      (in_longer pasts past call n others to) h
    where
      go : (b : Bool) → take_it past call n ≡ b →
          (In to (longer X V needs past call n others) → Grows (past ∷ pasts) call to ⊎ In to others) →
          In to (cond b (grown X V needs past (record { call = call; missed = n }) ∷ longer X V needs past call n
          others)
          (longer X V needs past call n others)) →
          Grows (past ∷ pasts) call to ⊎ In to others
      go true e more (inl is) = inl (record {
        from = past;
        missed = n;
        is = inl refl;
        can = (both (can_commit X V needs past (record { call = call; missed = n }))
            (not (repeats X V needs past call n n)) e).0;
        gives = is;
      })
      go true e more (inr h) = more h
      go false e more h = more h

  grows_more : (past : Past S W) (pasts : List (Past S W)) (call : Call O) (to : Past S W) →
      Grows pasts call to → Grows (past ∷ pasts) call to
  grows_more past pasts call to h =
      record { from = h.from; missed = h.missed; is = inr h.is; can = h.can; gives = h.gives }

  pub in_all : (pasts : List (Past S W)) (call : Call O) (to : Past S W) → In to (all_longer X V needs pasts call) →
      Grows pasts call to
  in_all [] call to h = absurd h
  in_all (past ∷ pasts) call to h =
      elim (in_longer pasts past call (suc (length past.versions)) (all_longer X V needs pasts call) to h) [
        | inl g ↦ g
        | inr g ↦ grows_more past pasts call to (in_all pasts call to g)
      ]

  -- and what becomes of a past is there
  stays : (past : Past S W) (call : Call O) (n : ℕ) (others : List (Past S W)) (to : Past S W) → In to others →
      In to (longer X V needs past call n others)
  stays past call zero others to h = h
  stays past call (suc n) others to h =
      go (take_it past call n) (stays past call n others to h)
    where
      go : (b : Bool) → In to (longer X V needs past call n others) →
          In to (cond b (grown X V needs past (record { call = call; missed = n }) ∷ longer X V needs past call n
          others)
          (longer X V needs past call n others))
      go true h = inr h
      go false h = h

  -- a call that misses fewer may commit with the same writes
  record Repeated (past : Past S W) (call : Call O) (n to : ℕ) : Type 0 where
    missed : ℕ
    less : missed < to
    can : can_commit X V needs past (record { call = call; missed = missed }) ≡ true
    same : V.same (written X V past.first past.versions (record { call = call; missed = missed }))
        (written X V past.first past.versions (record { call = call; missed = n })) ≡ true

  repeated : (past : Past S W) (call : Call O) (n to : ℕ) → repeats X V needs past call n to ≡ true →
      Repeated past call n to
  repeated past call n zero e = absurd (false_true e)
  repeated past call n (suc m) e =
      elim (either_true (can_commit X V needs past (record { call = call; missed = m }))
      (V.same (written X V past.first past.versions (record { call = call; missed = m }))
      (written X V past.first past.versions (record { call = call; missed = n })))
      (repeats X V needs past call n m) e) [
        | inl h ↦ record { missed = m; less = omega arith; can = h.0; same = h.1 }
        | inr h ↦ let more = repeated past call n m h in record {
          missed = more.missed;
          less = (let l = more.less in omega (arith, l));
          can = more.can;
          same = more.same;
        }
      ]

  module _ (laws : AreWriteSets X V) where
    longer_in : (past : Past S W) (call : Call O) (n : ℕ) (others : List (Past S W)) (missed : ℕ) → missed < n →
        can_commit X V needs past (record { call = call; missed = missed }) ≡ true →
        In (grown X V needs past (record { call = call; missed = missed })) (longer X V needs past call n others)
    longer_in past call zero others missed l e = absurd (omega arith)
    longer_in past call (suc n) others missed l e =
        elim (cases_lt missed n) [
          | inl h ↦ go (take_it past call n) missed (longer_in past call n others missed h e)
          | inr h ↦
              let same : missed ≡ n = omega arith in
              last (subst (λ m. can_commit X V needs past (record { call = call; missed = m }) ≡ true) same e)
              missed same (repeats X V needs past call n n) refl (longer_in past call n others)
        ]
      where
        go : (b : Bool) (m : ℕ) →
            In (grown X V needs past (record { call = call; missed = m })) (longer X V needs past call n others) →
            In (grown X V needs past (record { call = call; missed = m }))
            (cond b (grown X V needs past (record { call = call; missed = n }) ∷ longer X V needs past call n others)
            (longer X V needs past call n others))
        go true m h = inr h
        go false m h = h

        last : can_commit X V needs past (record { call = call; missed = n }) ≡ true → (missed : ℕ) → missed ≡ n →
            (r : Bool) → repeats X V needs past call n n ≡ r →
            ((m : ℕ) → m < n → can_commit X V needs past (record { call = call; missed = m }) ≡ true →
            In (grown X V needs past (record { call = call; missed = m })) (longer X V needs past call n others)) →
            In (grown X V needs past (record { call = call; missed = missed }))
            (longer X V needs past call (suc n) others)
        last can missed same false r less =
            subst (λ m. In (grown X V needs past (record { call = call; missed = m }))
            (longer X V needs past call (suc n) others)) (sym same) (rw (can, r) (inl refl))
        last can missed same true r less =
            let h = repeated past call n n r in
            let writes = laws.equal (written X V past.first past.versions (record { call = call; missed = h.missed }))
            (written X V past.first past.versions (record { call = call; missed = n })) h.same in
            let gives : grown X V needs past (record { call = call; missed = h.missed }) ≡
            grown X V needs past (record { call = call; missed = n }) =
            ap (λ (w : W). record {
              first = past.first;
              versions = record {
                state = V.install w (state_of past.first past.versions);
                written = w;
                span = span_of call;
              } ∷ past.versions;
            }) writes in
            subst (λ m. In (grown X V needs past (record { call = call; missed = m }))
            (longer X V needs past call (suc n) others)) (sym same)
            (subst (λ (p : Past S W). In p (longer X V needs past call (suc n) others)) gives
            (go (take_it past call n) h.missed (less h.missed h.less h.can)))

    pub all_in : (pasts : List (Past S W)) (past : Past S W) (t : Transaction O) → In past pasts →
        t.missed ≤ length past.versions → can_commit X V needs past t ≡ true →
        In (grown X V needs past t) (all_longer X V needs pasts t.call)
    all_in [] past t h l e = absurd h
    all_in (other ∷ pasts) past t (inl same) l e =
        subst (λ (p : Past S W). In (grown X V needs past t)
        (longer X V needs p t.call (suc (length p.versions)) (all_longer X V needs pasts t.call))) same
        (longer_in past t.call (suc (length past.versions)) (all_longer X V needs pasts t.call) t.missed
        (omega arith) e)
    all_in (other ∷ pasts) past t (inr h) l e =
        stays other t.call (suc (length other.versions)) (all_longer X V needs pasts t.call) (grown X V needs past t)
        (all_in pasts past t h l e)

  -- the version histories from a position on
  pub all_at : (pasts : List (Past S W)) (i : ℕ) (x : Past S W) (call : Call O) (others : List (Past S W)) →
      i < length pasts → x ≡ get_or pasts i x → others ≡ all_longer X V needs (drop (suc i) pasts) call →
      longer X V needs x call (suc (length x.versions)) others ≡ all_longer X V needs (drop i pasts) call
  all_at pasts i x call others l e f =
      ap (longer X V needs x call (suc (length x.versions))) f
      ∙ ap (λ (p : Past S W). longer X V needs p call (suc (length p.versions))
      (all_longer X V needs (drop (suc i) pasts) call)) e
      ∙ sym (ap (λ ps. all_longer X V needs ps call) (drop_at pasts i x l))
