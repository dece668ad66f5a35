-- The records of all clients beside the story, step by step.
use Rattle.std.proofs.Common.{◌≡◌, ◌≢◌, ℕ, suc, ◌+◌, ◌-◌, ◌<◌, ◌⊎◌, inl, inr, ⊎_elim, true, List, [], ◌∷◌, ◌++◌, length}
use Rattle.std.proofs.Common.{length-append, set, refl, sym, ◌∙◌, subst, arith}
use mathlib.Core.Option.{some}
use mathlib.Core.Logic.{dite}
use native.Mathlib.Decide.{ℕ_discrete}
use lib.ListN.{get_elem?}
use Rattle.tx_memory.specs.Image.{In}
use Rattle.stm_core.specs.Client.{Client, Record, decided, RecordLaw}
use Rattle.stm_core.specs.Version.{At, IsOpen}
use Rattle.stm_core.specs.Records.{IsTold, IsFiled, Filed, HasWriter}
use Rattle.stm_core.proofs.Lists.{set_here, set_else, same_at, at_longer, at_snoc, in_range, who_set}

module _ (lawful : RecordLaw) (size renewal : ℕ) where
  -- one record beside a story that has changed at other versions only
  pub told_on : (story story' : List (List (ℕ × ℕ))) (r : Record) → IsTold lawful size renewal story r →
      (r.writer ≡ true → 0 < r.version → get_elem? story (r.version - 1) ≡ some r.writes →
      get_elem? story' (r.version - 1) ≡ some r.writes) → IsTold lawful size renewal story' r
  told_on story story' r it f = record {
    abides = it.abides;
    present = it.present;
    reads = it.reads;
    writes = it.writes;
    once = it.once;
    reader = it.reader;
    writer =
        λ w. let q = it.writer w in (q.0, f w q.0 q.1);
  }

  pub filed_on : (story story' : List (List (ℕ × ℕ))) (v : Client) → IsFiled lawful size renewal story v →
      ((r : Record) → In r v.records → r.writer ≡ true → 0 < r.version →
      get_elem? story (r.version - 1) ≡ some r.writes → get_elem? story' (r.version - 1) ≡ some r.writes)
      → (decided v ≡ true → get_elem? story (v.attempt.wv - 1) ≡ some v.attempt.writes →
      get_elem? story' (v.attempt.wv - 1) ≡ some v.attempt.writes) → IsFiled lawful size renewal story' v
  filed_on story story' v it f g = record {
    ordered = it.ordered;
    told = λ r i. told_on story story' r (it.told r i) (f r i);
    reads = it.reads;
    aborted = it.aborted;
    writes = it.writes;
    abides =
        it.abides;
    commits = λ d. g d (it.commits d);
    gone = it.gone;
  }

  -- one client's step, and the story's
  pub record Filing (story story' : List (List (ℕ × ℕ))) (clock' : ℕ) (cs : List Client) (id : ℕ) (w : Client) :
      Type 0 where
    pub mine : IsFiled lawful size renewal story' w
    pub others : (i : ℕ) (o : Client) → At cs i o → i ≢ id → IsFiled lawful size renewal story' o
    pub versions : length story' ≡ clock'
    pub unwritten_mine : (i : ℕ) (o : Client) (r : Record) → At cs i o → i ≢ id → In r o.records → r.writer ≡ true →
        IsOpen w → r.version ≢ w.attempt.wv
    pub unwritten_else : (i : ℕ) (o : Client) (r : Record) → At cs i o → i ≢ id → In r w.records → r.writer ≡ true →
        IsOpen o → r.version ≢ o.attempt.wv
    pub unwritten_self : (r : Record) → In r w.records → r.writer ≡ true → IsOpen w → r.version ≢ w.attempt.wv
    pub empty_mine : IsOpen w → get_elem? story' (w.attempt.wv - 1) ≡ some []
    pub empty_else : (i : ℕ) (o : Client) → At cs i o → i ≢ id → IsOpen o →
        get_elem? story' (o.attempt.wv - 1) ≡ some []
    pub once : (i : ℕ) (o : Client) (r x : Record) → At cs i o → i ≢ id → In r w.records → In x o.records →
        r.writer ≡ true → x.writer ≡ true → r.version ≢ x.version
    pub complete : (u : ℕ) (ws : List (ℕ × ℕ)) → get_elem? story' u ≡ some ws → ws ≢ []
        → ((r : Record) × In r w.records × (r.writer ≡ true) × (r.version ≡ suc u)) ⊎
        ((i : ℕ) × (o : Client) × (r : Record) × At cs i o × (i ≢ id) × In r o.records × (r.writer ≡ true) ×
        (r.version ≡ suc u))

  module _ (story story' : List (List (ℕ × ℕ))) (clock clock' : ℕ) (cs : List Client) (id : ℕ) (v w : Client)
      (h : Filed lawful size renewal story clock cs) (at : At cs id v) (g : Filing story story' clock' cs id w) where
    pub filing_keeps : Filed lawful size renewal story' clock' (set cs id w)
    filing_keeps = record {
      filed = λ i o e. who_set cs id w (λ j c. IsFiled lawful size renewal story' c) g.mine
          (λ j c f n. g.others j c f n) i o e;
      versions = g.versions;
      unwritten = λ i j o p r e f m t op. who_set cs id w (λ y c. In r c.records → r.version ≢ p.attempt.wv)
          (λ m'. who_set cs id w (λ z c. IsOpen c → r.version ≢ c.attempt.wv) (λ op'. g.unwritten_self r m' t op')
          (λ z c at' n op'. g.unwritten_else z c r at' n m' t op') j p f op)
          (λ y c at' n m'. who_set cs id w (λ z d. IsOpen d →
          r.version ≢ d.attempt.wv) (λ op'. g.unwritten_mine y c r at' n m' t op')
          (λ z d at'' n' op'. h.unwritten y z c d r at' at'' m' t op') j p f op) i o e m;
      empty = λ i o e op. who_set cs id w (λ y c. IsOpen c → get_elem? story' (c.attempt.wv - 1) ≡ some []) g.empty_mine
          (λ y c at' n. g.empty_else y c at' n) i o e op;
      once = λ i j o p r x e f n m m' t t'. who_set cs id w (λ y c. y ≢ j → In r c.records → r.version ≢ x.version)
          (λ n' a. who_set cs id w (λ z d. id ≢ z → In x d.records → r.version ≢ x.version) (λ q b. absurd (q refl))
          (λ z d at' q q' b. g.once z d r x at' q a b t t') j p f n' m')
          (λ y c at' q n' a. who_set cs id w (λ z d. y ≢ z → In x d.records →
          r.version ≢ x.version) (λ q' b. λ s. g.once y c x r at' q b a t' t (sym s))
          (λ z d at'' p' q' b. h.once y z c d r x at' at'' q' a b t t') j p f n' m') i o e n m;
      complete = λ u ws e n. ⊎_elim (λ q. (id, w, q.0, set_here cs id v w at, q.1, q.2, q.3))
          (λ q. (q.0, q.1, q.2, set_else cs id q.0 w q.1 q.4 q.3, q.5, q.6, q.7)) (g.complete u ws e n);
    }

  module _ (story : List (List (ℕ × ℕ))) (clock : ℕ) (cs : List Client) (id : ℕ) (v : Client)
      (h : Filed lawful size renewal story clock cs) (at : At cs id v) where
    -- the client that has a writer's record is this one or another
    pub split_writer : (u : ℕ) → HasWriter cs u → ((r : Record) × In r v.records × (r.writer ≡ true) ×
        (r.version ≡ u)) ⊎ ((i : ℕ) × (o : Client) × (r : Record) × At cs i o × (i ≢ id) × In r o.records ×
        (r.writer ≡ true) × (r.version ≡ u))
    split_writer u q = dite (ℕ_discrete q.0 id) (λ e. inl (
      q.2,
      subst (λ (c : Client). In q.2 c.records) (same_at cs id q.1 v (subst (λ n. At cs n q.1) e q.3) at) q.4,
      q.5,
      q.6,
    )) (λ n. inr (q.0, q.1, q.2, q.3, n, q.4, q.5, q.6))

    -- a step that writes nothing into the story, and makes no writer's record
    pub stay_keeps : (w : Client) → IsFiled lawful size renewal story w →
        ((r : Record) → In r w.records → r.writer ≡ true → In r v.records) →
        ((r : Record) → In r v.records → In r w.records) → (IsOpen w → IsOpen v × (w.attempt.wv ≡ v.attempt.wv)) →
        Filed lawful size renewal story clock (set cs id w)
    stay_keeps w filed back forth open' = filing_keeps story story clock clock cs id v w h at record {
      mine = filed;
      others = λ i o e n. h.filed i o e;
      versions = h.versions;
      unwritten_mine = λ i o r e n m t op. let q = open' op in λ s. h.unwritten i id o v r e at m t q.0 (s ∙ q.1);
      unwritten_else = λ i o r e n m t op. h.unwritten id i v o r at e (back r m t) t op;
      unwritten_self = λ r m t op. let q = open' op in λ s. h.unwritten id id v v r at at (back r m t) t q.0 (s ∙ q.1);
      empty_mine = λ op. let q = open' op in rw q.1 (h.empty id v at q.0);
      empty_else = λ i o e n op. h.empty i o e op;
      once = λ i o r x e n m m' t t'. h.once id i v o r x at e (λ s. n (sym s)) (back r m t) m' t t';
      complete = λ u ws e n. ⊎_elim (λ q. inl (q.0, forth q.0 q.1, q.2, q.3)) (λ q. inr q)
          (split_writer (suc u) (h.complete u ws e n));
    }

    at_last : (l : List (List (ℕ × ℕ))) (x : List (ℕ × ℕ)) → get_elem? (l ++ x ∷ []) (length l) ≡ some x
    at_last [] x = refl
    at_last (y ∷ ys) x = at_last ys x

    -- a tick that is not decided yet
    pub ticked_keeps : (w : Client) → IsFiled lawful size renewal (story ++ [] ∷ []) w → w.records ≡ v.records →
        w.attempt.wv ≡ clock + 1 → Filed lawful size renewal (story ++ [] ∷ []) (clock + 1) (set cs id w)
    ticked_keeps w filed records wv = filing_keeps story (story ++ [] ∷ []) clock (clock + 1) cs id v w h at record {
      mine = filed;
      others = λ i o e n. longer o (h.filed i o e);
      versions = length-append story ([] ∷ []) ∙ (let q = h.versions in omega arith);
      unwritten_mine = λ i o r e n m t op. above i o r e m t;
      unwritten_else = λ i o r e n m t op. h.unwritten id i v o r at e (subst (In r) records m) t op;
      unwritten_self = λ r m t op. above id v r at (subst (In r) records m) t;
      empty_mine = λ op. subst (λ n. get_elem? (story ++ [] ∷ []) n ≡ some [])
          (h.versions ∙ sym (let q : w.attempt.wv - 1 ≡ clock = omega (arith, wv) in q)) (at_last story []);
      empty_else = λ i o e n op. at_longer story [] [] (o.attempt.wv - 1) (h.empty i o e op);
      once = λ i o r x e n m m' t t'. h.once id i v o r x at e (λ s. n (sym s)) (subst (In r) records m) m' t t';
      complete = λ u ws e n. ⊎_elim (λ old. ⊎_elim (λ q. inl (q.0, subst (In q.0) (sym records) q.1, q.2, q.3))
          (λ q. inr q) (split_writer (suc u) (h.complete u ws old n))) (λ new. absurd (n (sym new)))
          (at_snoc story [] ws u e);
    }
      where
        longer : (o : Client) → IsFiled lawful size renewal story o → IsFiled lawful size renewal (story ++ [] ∷ []) o
        longer o it = filed_on story (story ++ [] ∷ []) o it
            (λ r i t z p. at_longer story [] r.writes (r.version - 1) p)
            (λ d p. at_longer story [] o.attempt.writes (o.attempt.wv - 1) p)

        above : (i : ℕ) (o : Client) (r : Record) → At cs i o → In r o.records → r.writer ≡ true →
            r.version ≢ w.attempt.wv
        above i o r e m t s = let q = ((h.filed i o e).told r m).writer t in
            (let l = in_range story (r.version - 1) r.writes q.1 in let k = h.versions in let z = q.0 in
            omega (arith, wv, s))
