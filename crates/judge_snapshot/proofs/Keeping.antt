-- Version histories without the versions that no later call can have as its snapshot.
use Rattle.std.proofs.Common.{◌≡◌, ℕ, ◌<◌, ◌≤◌, suc, zero, Bool, true, false, cond, List, [], ◌∷◌, ◌++◌}
use Rattle.std.proofs.Common.{length, refl, sym, ap, ◌∙◌, arith, take, drop}
use Rattle.std.specs.Prelude.{nat_lt, ⊤}
use Rattle.judge_snapshot.specs.Snapshots.{Version, Each, state_of}
use Rattle.judge_snapshot.specs.Possible.{Past}
use Rattle.judge_snapshot.specs.Trimmed.{Claim, trim, trim_versions}
use Rattle.judge_snapshot.proofs.Tests.{lt_from}

ends_before : {O : Type 0} (end horizon : ℕ) (order : List (Claim O)) → end < horizon →
    Each (λ (c : Claim O). horizon ≤ c.call.begin) order → Each (λ (c : Claim O). end < c.call.begin) order
ends_before end horizon [] l h = tt
ends_before end horizon (c ∷ order) l h =
    (let b = h.0 in omega (arith, l, b), ends_before end horizon order l h.1)

module _ {S W : Type 0} where
  state_join : (first : S) (middle : S) (ws zs : List (Version S W)) → state_of first zs ≡ middle →
      state_of first (ws ++ zs) ≡ state_of middle ws
  state_join first middle [] zs e = e
  state_join first middle (w ∷ ws) zs e = refl

  append_twice : (xs ys zs : List (Version S W)) → xs ++ (ys ++ zs) ≡ (xs ++ ys) ++ zs
  append_twice [] ys zs = refl
  append_twice (x ∷ xs) ys zs = ap (λ l. x ∷ l) (append_twice xs ys zs)

  pub same_state : (first cut : S) (vs ws : List (Version S W)) (missed : ℕ) → state_of first ws ≡ cut →
      missed ≤ length vs → state_of first (drop missed (vs ++ ws)) ≡ state_of cut (drop missed vs)
  same_state first cut [] ws zero e l = e
  same_state first cut [] ws (suc missed) e l = absurd (omega arith)
  same_state first cut (v ∷ vs) ws zero e l = refl
  same_state first cut (v ∷ vs) ws (suc missed) e l = same_state first cut vs ws missed e (omega arith)

  pub same_take : (vs ws : List (Version S W)) (missed : ℕ) → missed ≤ length vs →
      take missed (vs ++ ws) ≡ take missed vs
  same_take [] [] zero l = refl
  same_take [] (w ∷ ws) zero l = refl
  same_take [] ws (suc missed) l = absurd (omega arith)
  same_take (v ∷ vs) ws zero l = refl
  same_take (v ∷ vs) ws (suc missed) l = ap (λ l. v ∷ l) (same_take vs ws missed (omega arith))

  pub longer_join : (vs ws : List (Version S W)) → length vs ≤ length (vs ++ ws)
  longer_join [] ws = omega arith
  longer_join (v ∷ vs) ws = let more = longer_join vs ws in omega (arith, more)

  -- a call whose snapshot misses a forgotten version
  pub missed_old : (P : Version S W → Type 0) (vs : List (Version S W)) (w : Version S W)
      (ws : List (Version S W)) (missed : ℕ) → length vs < missed → Each P (take missed (vs ++ w ∷ ws)) → P w
  missed_old P vs w ws zero l h = absurd (omega arith)
  missed_old P [] w ws (suc missed) l h = h.0
  missed_old P (v ∷ vs) w ws (suc missed) l h = missed_old P vs w ws missed (omega arith) h.1

  pub no_more : (vs ws : List (Version S W)) (missed : ℕ) → length vs < missed → missed ≤ length (vs ++ ws) →
      ws ≡ [] → ⊥
  no_more [] ws missed l h e = let n : length ws ≡ 0 = ap length e in absurd (omega (arith, n))
  no_more (v ∷ vs) ws zero l h e = absurd (omega arith)
  no_more (v ∷ vs) ws (suc missed) l h e = no_more vs ws missed (omega arith) (omega arith) e

module _ {S O W : Type 0} where
  -- all later calls begin after the newest of these versions ended
  abbrev pub Old : List (Version S W) → List (Claim O) → Type 0
  Old [] order = ⊤
  Old (w ∷ ws) order = Each (λ c. w.span.end < c.call.begin) order

  pub old_rest : (ws : List (Version S W)) (c : Claim O) (order : List (Claim O)) → Old ws (c ∷ order) → Old ws order
  old_rest [] c order h = tt
  old_rest (w ∷ ws) c order h = h.1

  -- a past and what is kept of it
  pub record Keeps (full cut : Past S W) (order : List (Claim O)) : Type 0 where
    pub forgotten : List (Version S W)
    pub is : full.versions ≡ cut.versions ++ forgotten
    pub first : state_of full.first forgotten ≡ cut.first
    pub old : Old forgotten order

  -- versions, and what is kept of them
  record Cut (first : S) (versions : List (Version S W)) (to : Past S W) (order : List (Claim O)) : Type 0 where
    forgotten : List (Version S W)
    is : versions ≡ to.versions ++ forgotten
    state : state_of first forgotten ≡ to.first
    old : Old forgotten order

  cut_of : (horizon : ℕ) (first : S) (versions : List (Version S W)) (order : List (Claim O)) →
      Each (λ (c : Claim O). horizon ≤ c.call.begin) order →
      Cut first versions (trim_versions horizon first versions) order
  cut_of horizon first [] order h = record { forgotten = []; is = refl; state = refl; old = tt }
  cut_of horizon first (v ∷ versions) order h =
      go (nat_lt v.span.end horizon) refl (cut_of horizon first versions order h)
    where
      go : (b : Bool) → nat_lt v.span.end horizon ≡ b →
          Cut first versions (trim_versions horizon first versions) order →
          Cut first (v ∷ versions) (cond {A = Past S W} b (record { first = v.state; versions = [] })
          (record {
            first = (trim_versions horizon first versions).first;
            versions = v ∷ (trim_versions horizon first versions).versions;
          })) order
      go true e c = record {
        forgotten = v ∷ versions;
        is = refl;
        state = refl;
        old = ends_before v.span.end horizon order (lt_from v.span.end horizon e) h;
      }
      go false e c = record {
        forgotten = c.forgotten;
        is = ap (λ l. v ∷ l) c.is;
        state = c.state;
        old = c.old;
      }

  -- what is kept of what is kept
  old_join : (ws zs : List (Version S W)) (order : List (Claim O)) → Old ws order → Old zs order →
      Old (ws ++ zs) order
  old_join [] zs order g h = h
  old_join (w ∷ ws) zs order g h = g

  pub keep_less : (full cut : Past S W) (order : List (Claim O)) (horizon : ℕ) → Keeps full cut order →
      Each (λ (c : Claim O). horizon ≤ c.call.begin) order → Keeps full (trim horizon cut) order
  keep_less full cut order horizon k h =
      let c = cut_of horizon cut.first cut.versions order h in
      record {
        forgotten = c.forgotten ++ k.forgotten;
        is = k.is ∙ ap (λ l. l ++ k.forgotten) c.is
            ∙ sym (append_twice (trim horizon cut).versions c.forgotten k.forgotten);
        first = state_join full.first cut.first c.forgotten k.forgotten k.first ∙ c.state;
        old = old_join c.forgotten k.forgotten order c.old k.old;
      }
