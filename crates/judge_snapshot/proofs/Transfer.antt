-- Transactions may commit with other intervals if these need no more versions.
use Rattle.std.proofs.Common.{◌≡◌, ℕ, ◌≤◌, suc, zero, Bool, false, List, [], ◌∷◌, length, map, refl, ap, ◌∙◌, subst}
use Rattle.std.proofs.Common.{take, drop}
use Rattle.std.specs.Prelude.{⊤}
use Rattle.judge_object.specs.declared.span.Span.{Span}
use Rattle.judge_object.specs.Rules.{Rules, IsAnswerOf}
use Rattle.judge_object.specs.Call.{Call}
use Rattle.judge_snapshot.specs.WriteSets.{WriteSets}
use Rattle.judge_snapshot.specs.Snapshots.{Transaction, Version, Each, MayCommitAll, state_of, version}

-- a call with another client and interval
abbrev pub spanned : {O : Type 0} → Span → Call O → Call O
spanned span c = record { client = span.client; begin = span.begin; end = span.end; op = c.op; reply = c.reply }

module _ {S O R W P : Type 0} (X : Rules S O R) (V : WriteSets S O W) (needs less : Span → Span → Bool)
    (c : P → Call O) (a b : P → Span) where
  abbrev pub tx : (P → Span) → P × ℕ → Transaction O
  tx f q = record { call = spanned (f q.0) (c q.0); missed = q.1 }

  -- if a call needs no version of another one with the first intervals, it needs none with the second
  abbrev pub Pairs : List (P × ℕ) → Type 0
  Pairs [] = ⊤
  Pairs (q ∷ qs) =
      Each (λ r. needs (a q.0) (a r.0) ≡ false → less (b q.0) (b r.0) ≡ false) qs × Pairs qs

  -- versions that differ only in their intervals
  abbrev pub Rel : List (Version S W) → List (Version S W) → List (P × ℕ) → Type 0
  Rel [] [] qs = ⊤
  Rel [] (w ∷ ws) qs = ⊥
  Rel (v ∷ vs) [] qs = ⊥
  Rel (v ∷ vs) (w ∷ ws) qs =
      (v.state ≡ w.state) × (v.written ≡ w.written)
      × Each (λ r. needs v.span (a r.0) ≡ false → less w.span (b r.0) ≡ false) qs × Rel vs ws qs

  rel_rest : (vs ws : List (Version S W)) (q : P × ℕ) (qs : List (P × ℕ)) → Rel vs ws (q ∷ qs) → Rel vs ws qs
  rel_rest [] [] q qs r = tt
  rel_rest [] (w ∷ ws) q qs r = r
  rel_rest (v ∷ vs) [] q qs r = r
  rel_rest (v ∷ vs) (w ∷ ws) q qs r = (r.0, r.1, r.2.1, rel_rest vs ws q qs r.3)

  rel_length : (vs ws : List (Version S W)) (qs : List (P × ℕ)) → Rel vs ws qs → length vs ≡ length ws
  rel_length [] [] qs r = refl
  rel_length [] (w ∷ ws) qs r = absurd r
  rel_length (v ∷ vs) [] qs r = absurd r
  rel_length (v ∷ vs) (w ∷ ws) qs r = ap suc (rel_length vs ws qs r.3)

  rel_state : (s : S) (vs ws : List (Version S W)) (qs : List (P × ℕ)) (missed : ℕ) → Rel vs ws qs →
      state_of s (drop missed vs) ≡ state_of s (drop missed ws)
  rel_state s [] [] qs missed r = refl
  rel_state s [] (w ∷ ws) qs missed r = absurd r
  rel_state s (v ∷ vs) [] qs missed r = absurd r
  rel_state s (v ∷ vs) (w ∷ ws) qs zero r = r.0
  rel_state s (v ∷ vs) (w ∷ ws) qs (suc missed) r = rel_state s vs ws qs missed r.3

  rel_now : (s : S) (vs ws : List (Version S W)) (qs : List (P × ℕ)) → Rel vs ws qs → state_of s vs ≡ state_of s ws
  rel_now s [] [] qs r = refl
  rel_now s [] (w ∷ ws) qs r = absurd r
  rel_now s (v ∷ vs) [] qs r = absurd r
  rel_now s (v ∷ vs) (w ∷ ws) qs r = r.0

  rel_apart : (x : W) (vs ws : List (Version S W)) (qs : List (P × ℕ)) (missed : ℕ) → Rel vs ws qs →
      Each (λ v. V.conflicts v.written x ≡ false) (take missed vs) →
      Each (λ v. V.conflicts v.written x ≡ false) (take missed ws)
  rel_apart x [] [] qs missed r h = h
  rel_apart x [] (w ∷ ws) qs missed r h = absurd r
  rel_apart x (v ∷ vs) [] qs missed r h = absurd r
  rel_apart x (v ∷ vs) (w ∷ ws) qs zero r h = tt
  rel_apart x (v ∷ vs) (w ∷ ws) qs (suc missed) r h = (
    subst (λ y. V.conflicts y x ≡ false) r.1 h.0,
    rel_apart x vs ws qs missed r.3 h.1,
  )

  rel_fresh : (q : P × ℕ) (vs ws : List (Version S W)) (qs : List (P × ℕ)) (missed : ℕ) → Rel vs ws (q ∷ qs) →
      Each (λ v. needs v.span (a q.0) ≡ false) (take missed vs) →
      Each (λ v. less v.span (b q.0) ≡ false) (take missed ws)
  rel_fresh q [] [] qs zero r h = tt
  rel_fresh q [] [] qs (suc missed) r h = tt
  rel_fresh q [] (w ∷ ws) qs missed r h = absurd r
  rel_fresh q (v ∷ vs) [] qs missed r h = absurd r
  rel_fresh q (v ∷ vs) (w ∷ ws) qs zero r h = tt
  rel_fresh q (v ∷ vs) (w ∷ ws) qs (suc missed) r h = (r.2.0 h.0, rel_fresh q vs ws qs missed r.3 h.1)

  pub transferred : (s : S) (vs ws : List (Version S W)) (qs : List (P × ℕ)) → Rel vs ws qs → Pairs qs →
      MayCommitAll X V needs s vs (map (tx a) qs) → MayCommitAll X V less s ws (map (tx b) qs)
  transferred s vs ws [] r p h = tt
  transferred s vs ws (q ∷ qs) r p h =
      let state = rel_state s vs ws (q ∷ qs) q.1 r in
      let writes : V.writes (state_of s (drop q.1 vs)) (c q.0).op ≡ V.writes (state_of s (drop q.1 ws)) (c q.0).op =
      ap (λ (t : S). V.writes t (c q.0).op) state in (
        record {
          within = subst (λ n. q.1 ≤ n) (rel_length vs ws (q ∷ qs) r) h.0.within;
          reply = subst (λ (t : S). IsAnswerOf X (X.run t (c q.0).op).1 (c q.0).reply) state h.0.reply;
          apart = subst (λ (x : W). Each (λ (v : Version S W). V.conflicts v.written x ≡ false) (take q.1 ws)) writes
              (rel_apart (V.writes (state_of s (drop q.1 vs)) (c q.0).op) vs ws (q ∷ qs) q.1 r h.0.apart);
          fresh = rel_fresh q vs ws qs q.1 r h.0.fresh;
        },
        transferred s (version X V s vs (tx a q) ∷ vs) (version X V s ws (tx b q) ∷ ws) qs (
          ap (λ (x : W). V.install x (state_of s vs)) writes
              ∙ ap (V.install (V.writes (state_of s (drop q.1 ws)) (c q.0).op)) (rel_now s vs ws (q ∷ qs) r),
          writes,
          p.0,
          rel_rest vs ws q qs r,
        ) p.1 h.1,
      )
