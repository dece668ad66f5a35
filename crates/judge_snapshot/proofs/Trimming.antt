-- Versions that no later call can have as its snapshot may be forgotten.
use Rattle.std.proofs.Common.{◌≡◌, ℕ, ◌<◌, ◌≤◌, ◌==◌, ◌||◌, Bool, true, false, List, [], ◌∷◌, ◌++◌}
use Rattle.std.proofs.Common.{length, map, Some, refl, sym, ap, ◌∙◌, subst, inl, inr, arith, take, drop}
use Rattle.std.specs.Prelude.{nat_lt, codes, ⊤}
use Rattle.std.proofs.lemmas.Bool.{cases_lt}
use Rattle.judge_object.specs.declared.span.Span.{Span}
use Rattle.judge_object.specs.Rules.{Rules, IsAnswerOf}
use Rattle.judge_object.specs.Call.{Call, span_of}
use Rattle.judge_object.specs.Linear.{GiveReplies}
use Rattle.judge_snapshot.specs.WriteSets.{WriteSets, AreWriteSets}
use Rattle.judge_snapshot.specs.Snapshots.{Transaction, Version, Each, calls_of, snapshot, written, version, state_of}
use Rattle.judge_snapshot.specs.Snapshots.{MayCommit, MayCommitAll, strong_needs}
use Rattle.judge_snapshot.specs.Possible.{Past, grown, all_longer, answered}
use Rattle.judge_snapshot.specs.Trimmed.{Claim, claim_call, calls_in, trim, trimmed}
use Rattle.judge_snapshot.proofs.Tests.{In, image, in_map, false_true, lt_test}
use Rattle.judge_snapshot.proofs.Growing.{may_of, of_may, in_all, all_in}
use Rattle.judge_snapshot.proofs.Possible.{no_ok}
use Rattle.judge_snapshot.proofs.Keeping.{Keeps, Old, old_rest, keep_less, same_state, same_take, longer_join}
use Rattle.judge_snapshot.proofs.Keeping.{missed_old, no_more}

needs_before : (earlier call : Span) → earlier.end < call.begin → strong_needs earlier call ≡ false → ⊥
needs_before earlier call l e = go (earlier.client == call.client) e
  where
    go : (b : Bool) → (b || nat_lt earlier.end call.begin) ≡ false → ⊥
    go true e = false_true (sym e)
    go false e = false_true (sym e ∙ lt_test earlier.end call.begin l)

module _ {O : Type 0} where
  -- each claim of an order names a time from which on those behind it begin
  abbrev pub InHorizons : List (Claim O) → Type 0
  InHorizons [] = ⊤
  InHorizons (c ∷ order) = Each (λ d. c.horizon ≤ d.call.begin) order × InHorizons order

module _ {S O R W : Type 0} (X : Rules S O R) (V : WriteSets S O W) where
  abbrev May : Past S W → Transaction O → Type 0
  May past t = MayCommit X V strong_needs past.first past.versions t

  abbrev tx : Claim O → ℕ → Transaction O
  tx c missed = record { call = c.call; missed = missed }

  module _ (full cut : Past S W) (c : Claim O) (order : List (Claim O)) (k : Keeps full cut (c ∷ order))
      (missed : ℕ) (l : missed ≤ length cut.versions) where
    state : snapshot X V full.first full.versions (tx c missed) ≡ snapshot X V cut.first cut.versions (tx c missed)
    state =
        ap (λ vs. state_of full.first (drop missed vs)) k.is
        ∙ same_state full.first cut.first cut.versions k.forgotten missed k.first l

    seen : take missed full.versions ≡ take missed cut.versions
    seen = ap (take missed) k.is ∙ same_take cut.versions k.forgotten missed l

    newest : state_of full.first full.versions ≡ state_of cut.first cut.versions
    newest =
        ap (state_of full.first) k.is
        ∙ same_state full.first cut.first cut.versions k.forgotten 0 k.first (omega arith)

    -- a transaction may commit in a past if it may in what is kept of it
    more_may : May cut (tx c missed) → May full (tx c missed)
    more_may h = record {
      within = subst (λ vs. missed ≤ length vs) (sym k.is)
          (let more = longer_join cut.versions k.forgotten in omega (arith, l, more));
      reply = subst (λ (s : S). IsAnswerOf X (X.run s c.call.op).1 c.call.reply) (sym state) h.reply;
      apart = subst (λ (s : S). Each (λ (v : Version S W). V.conflicts v.written (V.writes s c.call.op) ≡ false)
          (take missed full.versions)) (sym state)
          (subst (Each (λ (v : Version S W).
          V.conflicts v.written (written X V cut.first cut.versions (tx c missed)) ≡ false)) (sym seen) h.apart);
      fresh = subst (Each (λ (v : Version S W). strong_needs v.span (span_of c.call) ≡ false)) (sym seen) h.fresh;
    }

    less_may : May full (tx c missed) → May cut (tx c missed)
    less_may h = record {
      within = l;
      reply = subst (λ (s : S). IsAnswerOf X (X.run s c.call.op).1 c.call.reply) state h.reply;
      apart = subst (Each (λ (v : Version S W).
          V.conflicts v.written (written X V cut.first cut.versions (tx c missed)) ≡ false)) seen
          (subst (λ (s : S). Each (λ (v : Version S W). V.conflicts v.written (V.writes s c.call.op) ≡ false)
          (take missed full.versions)) state h.apart);
      fresh = subst (Each (λ (v : Version S W). strong_needs v.span (span_of c.call) ≡ false)) seen h.fresh;
    }

    same_version : version X V full.first full.versions (tx c missed) ≡
        version X V cut.first cut.versions (tx c missed)
    same_version =
        ap (λ (s : S). record {
          state = V.install (V.writes s c.call.op) (state_of full.first full.versions);
          written = V.writes s c.call.op;
          span = span_of c.call;
        }) state
        ∙ ap (λ (s : S). record {
          state = V.install (written X V cut.first cut.versions (tx c missed)) s;
          written = written X V cut.first cut.versions (tx c missed);
          span = span_of c.call;
        }) newest

    keep_grown : Keeps (grown X V strong_needs full (tx c missed))
        (grown X V strong_needs cut (tx c missed)) order
    keep_grown = record {
      forgotten = k.forgotten;
      is = ap (λ v. v ∷ full.versions) same_version
          ∙ ap (λ vs. version X V cut.first cut.versions (tx c missed) ∷ vs) k.is;
      first = k.first;
      old = old_rest k.forgotten c order k.old;
    }

  -- a transaction that may commit misses no forgotten version
  few_missed : (full cut : Past S W) (c : Claim O) (order : List (Claim O)) → Keeps full cut (c ∷ order) →
      (missed : ℕ) → May full (tx c missed) → missed ≤ length cut.versions
  few_missed full cut c order k missed h =
      elim (cases_lt (length cut.versions) missed) [
        | inl l ↦ absurd (go k.forgotten k.is k.old l)
        | inr l ↦ omega (arith, l)
      ]
    where
      go : (ws : List (Version S W)) → full.versions ≡ cut.versions ++ ws → Old ws (c ∷ order) →
          length cut.versions < missed → ⊥
      go [] e o l =
          no_more cut.versions [] missed l (subst (λ vs. missed ≤ length vs) e h.within) refl
      go (w ∷ ws) e o l =
          needs_before w.span (span_of c.call) o.0
          (missed_old (λ v. strong_needs v.span (span_of c.call) ≡ false) cut.versions w ws missed l
          (subst (λ vs. Each (λ (v : Version S W). strong_needs v.span (span_of c.call) ≡ false) (take missed vs)) e
          h.fresh))

  -- ---- orders

  pub record Choice (pasts : List (Past S W)) (order : List (Claim O)) : Type 0 where
    pub from : Past S W
    pub transactions : List (Transaction O)
    pub is : In from pasts
    pub calls : calls_of transactions ≡ calls_in order
    pub may : (full : Past S W) → Keeps full from order →
        MayCommitAll X V strong_needs full.first full.versions transactions

  extend : (pasts : List (Past S W)) (c : Claim O) (order : List (Claim O)) →
      Each (λ d. c.horizon ≤ d.call.begin) order →
      Choice (map (trim c.horizon) (all_longer X V strong_needs pasts c.call)) order → Choice pasts (c ∷ order)
  extend pasts c order b h =
      let i = image (trim c.horizon) (all_longer X V strong_needs pasts c.call) h.from h.is in
      let g = in_all X V strong_needs pasts c.call i.from i.is in
      let ok = may_of X V strong_needs g.from (tx c g.missed) g.can in
      record {
        from = g.from;
        transactions = tx c g.missed ∷ h.transactions;
        is = g.is;
        calls = ap (λ l. c.call ∷ l) h.calls;
        may = λ full k. (
          more_may full g.from c order k g.missed ok.within ok,
          h.may (grown X V strong_needs full (tx c g.missed))
              (subst (λ (p : Past S W). Keeps (grown X V strong_needs full (tx c g.missed)) p order)
              (sym (i.gives ∙ ap (trim c.horizon) g.gives))
              (keep_less (grown X V strong_needs full (tx c g.missed))
              (grown X V strong_needs g.from (tx c g.missed)) order c.horizon
              (keep_grown full g.from c order k g.missed ok.within) b)),
        );
      }

  pub chosen : (past : Past S W) (pasts : List (Past S W)) (order : List (Claim O)) → InHorizons order →
      GiveReplies (trimmed X V) (past ∷ pasts) (map claim_call order) → Choice (past ∷ pasts) order
  chosen past pasts [] b h =
      record { from = past; transactions = []; is = inl refl; calls = refl; may = λ full k. tt }
  chosen past pasts (c ∷ order) b h =
      extend (past ∷ pasts) c order b.0
      (go (map (trim c.horizon) (all_longer X V strong_needs (past ∷ pasts) c.call)) h.0 h.1
      (λ p ps g. chosen p ps order b.1 g))
    where
      go : (nexts : List (Past S W)) →
          IsAnswerOf (trimmed X V) (answered X V strong_needs (past ∷ pasts) nexts).1 (Some (codes "ok")) →
          GiveReplies (trimmed X V) (answered X V strong_needs (past ∷ pasts) nexts).0 (map claim_call order) →
          ((p : Past S W) (ps : List (Past S W)) → GiveReplies (trimmed X V) (p ∷ ps) (map claim_call order) →
          Choice (p ∷ ps) order) → Choice nexts order
      go [] a g more = absurd (no_ok a)
      go (next ∷ nexts) a g more = more next nexts g

  pub replies : AreWriteSets X V → (order : List (Claim O)) → InHorizons order →
      (pasts : List (Past S W)) (full past : Past S W)
      (transactions : List (Transaction O)) → calls_of transactions ≡ calls_in order → In past pasts →
      Keeps full past order → MayCommitAll X V strong_needs full.first full.versions transactions →
      GiveReplies (trimmed X V) pasts (map claim_call order)
  replies laws [] b pasts full past ts e h k m = tt
  replies laws (c ∷ order) b pasts full past [] e h k m = absurd (none_cons c.call (calls_in order) e)
    where
      none_cons : (x : Call O) (xs : List (Call O)) → ◌≡◌ {A = List (Call O)} [] (x ∷ xs) → ⊥
      none_cons x xs e = cc
  replies laws (c ∷ order) b pasts full past (t ∷ ts) e h k m =
      let call : t.call ≡ c.call = first_same t.call c.call (calls_of ts) (calls_in order) e in
      let is : t ≡ tx c t.missed = ap (λ (x : Call O). record { call = x; missed = t.missed }) call in
      let may : May full (tx c t.missed) = subst (May full) is m.0 in
      let l = few_missed full past c order k t.missed may in
      let own : May past (tx c t.missed) = less_may full past c order k t.missed l may in
      let grows = all_in X V strong_needs laws pasts past (tx c t.missed) h l
      (of_may X V strong_needs past (tx c t.missed) own) in
      let rest : MayCommitAll X V strong_needs full.first
      (version X V full.first full.versions (tx c t.missed) ∷ full.versions) ts =
      subst (λ (x : Transaction O). MayCommitAll X V strong_needs full.first
      (version X V full.first full.versions x ∷ full.versions) ts) is m.1 in
      go (map (trim c.horizon) (all_longer X V strong_needs pasts c.call))
      (in_map (trim c.horizon) (all_longer X V strong_needs pasts c.call)
      (grown X V strong_needs past (tx c t.missed)) grows)
      (λ nexts g. replies laws order b.1 nexts (grown X V strong_needs full (tx c t.missed))
      (trim c.horizon (grown X V strong_needs past (tx c t.missed))) ts
      (rest_same t.call c.call (calls_of ts) (calls_in order) e) g
      (keep_less (grown X V strong_needs full (tx c t.missed))
      (grown X V strong_needs past (tx c t.missed)) order c.horizon
      (keep_grown full past c order k t.missed l) b.0) rest)
    where
      first_same : (x y : Call O) (xs ys : List (Call O)) → x ∷ xs ≡ y ∷ ys → x ≡ y
      first_same x y xs ys e = cc

      rest_same : (x y : Call O) (xs ys : List (Call O)) → x ∷ xs ≡ y ∷ ys → xs ≡ ys
      rest_same x y xs ys e = cc

      go : (nexts : List (Past S W)) →
          In (trim c.horizon (grown X V strong_needs past (tx c t.missed))) nexts →
          ((nexts : List (Past S W)) →
          In (trim c.horizon (grown X V strong_needs past (tx c t.missed))) nexts →
          GiveReplies (trimmed X V) nexts (map claim_call order)) →
          IsAnswerOf (trimmed X V) (answered X V strong_needs pasts nexts).1 (Some (codes "ok"))
          × GiveReplies (trimmed X V) (answered X V strong_needs pasts nexts).0 (map claim_call order)
      go [] g more = absurd g
      go (next ∷ nexts) g more = (refl, more (next ∷ nexts) g)
