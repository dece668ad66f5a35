-- One word written by one client.
use Rattle.std.proofs.Common.{◌≡◌, ℕ, zero, suc, ◌+◌, ◌/◌, ◌<◌, true, false, eqb, eq-eqb, ne_eqb, Some, None, ◌≢◌, ◌||◌}
use Rattle.std.proofs.Common.{inl, List, [], ◌∷◌, ◌++◌, length, refl, sym, ap, ◌∙◌, subst, arith}
use Rattle.std.proofs.lemmas.Bool.Decides.{nat_tests}
use mathlib.Core.Option.{some, some-injective, some-ne-none}
use lib.ListN.{get_elem?}
use Rattle.tx_memory.specs.Image.{In}
use Rattle.stm_core.specs.Client.{Client, running, committed, locked, ticked, word_before, without, writes_to}
use Rattle.stm_core.specs.Core.{IsFreeHanded}
use Rattle.stm_core.specs.Event.{begin, probe, lock, tick, put as put_word, release, give_back, after, stepping}
use Rattle.stm_core.specs.Event.{holding, committed_by, versioned, with_ticks}
use Rattle.stm_region.specs.Shown.{RegionShown, ClientShown, IsAllowed, acted, bounds, unplaced}
use Rattle.std.specs.FinMap.{empty, get, get-empty, entries, entries-insert, len-entries, len-empty, put}
use Rattle.std.specs.Ordering.{nat_cmp}
use Rattle.std.proofs.lemmas.Cmp.{nat_cmp_total}
use Rattle.stm_logs.specs.Log.{log_pairs, empty_log}
use Rattle.stm_logs.specs.Held.{with_word}
use Rattle.stm_core.proofs.Conditions.{MayWrite, may_act_so}
use Rattle.stm_core.specs.Guards.{Holds, stripe_of}

no_length : (xs : List (ℕ × ℕ)) → length xs ≡ 0 → xs ≡ []
no_length [] e = refl
no_length (x ∷ xs) e = absurd (omega arith)

none_entries : entries (empty {X = ℕ} {R = nat_cmp}) ≡ []
none_entries = no_length _ (sym (len-entries (empty {X = ℕ} {R = nat_cmp})) ∙ len-empty nat_cmp ℕ)

pub one_pair : (a l v : ℕ) → log_pairs (with_word empty_log a l v) ≡ (a, v) ∷ []
one_pair a l v = entries-insert nat_cmp_total empty a v ∙ ap (put nat_cmp a v) none_entries

same_number : (n : ℕ) → eqb n n ≡ true
same_number n = eq-eqb n n refl

abbrev Free : List ℕ → List (ℕ × ℕ) → List (ℕ × ℕ) → Type 0
Free tag reads writes = Unit {0}

-- a client that has taken one lock
pub record HasOne (k from : ℕ) (v : Client) : Type 0 where
  pub alive : v.is_gathered ≡ false
  pub phase : v.attempt.phase ≡ running
  pub none : v.attempt.wv ≡ 0
  pub ticks : v.attempt.ticks ≡ 0
  pub next : v.attempt.next_from ≡ from
  pub reads : v.attempt.reads ≡ []
  pub old : ℕ
  pub held : v.attempt.held ≡ (k, old) ∷ []

locked_one : (r : RegionShown) (c d : ClientShown) (k n w : ℕ) → IsFreeHanded c.value
    → d ≡ acted r (lock k) (word_before (acted r (probe k) w (acted r begin n c)).value.attempt.last)
    (acted r (probe k) w (acted r begin n c)) → HasOne k n d.value
locked_one r c d k n w free e = subst (λ (x : ClientShown). HasOne k n x.value) (sym e)
    (subst (λ v. HasOne k n v) (sym taken) record {
      alive = free.0;
      phase = refl;
      none = refl;
      ticks = refl;
      next = refl;
      reads = refl;
      old = w / 2;
      held =
          ap (λ (h : List (ℕ × ℕ)). h ++ (k, w / 2) ∷ []) free.1;
    })
  where
    b : Client
    b = (acted r (probe k) w (acted r begin n c)).value

    taken : after (unplaced r.renewal) (stripe_of r.stripes) (lock k) w b ≡ stepping (locked k w w)
        (holding k (w / 2) b)
    taken = rw (same_number w) refl

pub took_one : (r : RegionShown) (c c' c'' d d' : ClientShown) (k j n m w : ℕ) → IsFreeHanded c.value → n ≡ m → j ≡ k →
    c' ≡ acted r begin m c → c'' ≡ acted r (probe k) w c' → d' ≡ acted r (lock j)
    (word_before c''.value.attempt.last) c'' → d ≡ d' → HasOne k n d.value
took_one r c c' c'' d d' k j n m w free q same e e' e'' left = locked_one r c d k n w free
    (left ∙ e'' ∙ ap (λ (i : ℕ). acted r (lock i) (word_before c''.value.attempt.last) c'') same
    ∙ ap (λ (x : ClientShown). acted r (lock k) (word_before x.value.attempt.last) x)
    (e' ∙ ap (acted r (probe k) w) (e ∙ ap (λ (i : ℕ). acted r begin i c) (sym q))))

one_there : (p q : ℕ × ℕ) → In q (p ∷ []) → p ≡ q
one_there p q (zero, e) = some-injective p q e
one_there p q (suc j, e) = absurd (some-ne-none q (sym e))

eqb_or : (a b : ℕ) → (eqb a b || false) ≡ true → a ≡ b
eqb_or a b e = grind (arith, nat_tests)

one_may_write : (lk : ℕ → ℕ) (size k old a x : ℕ) → a < size → k ≡ lk a → MayWrite lk size ((k, old) ∷ []) ((a, x) ∷ [])
one_may_write lk size k old a x l e = record {
  some = λ z. cc;
  once = refl;
  inside = λ b t. (let q = eqb_or a b t in omega arith);
  locks = record {
    every = λ b t. (old, (0, ap (λ (n : ℕ). some (n, old)) (e ∙ ap lk (eqb_or a b t))));
    only = λ j u m. (a, rw (same_number a) refl, sym e ∙ ap (λ (p : ℕ × ℕ). p.0) (one_there (k, old) (j, u) m));
  };
}

pub may_tick : (r : RegionShown) (d : ClientShown) (k n a x : ℕ) (tag : List ℕ) (pairs : List (ℕ × ℕ)) →
    HasOne k n d.value → n < r.last → a < r.size → k ≡ stripe_of r.stripes a → pairs ≡ (a, x) ∷ [] →
    IsAllowed Free r (tick n tag pairs) d
may_tick r d k n a x tag pairs h below inside is one = (
  h.alive,
  may_act_so (stripe_of r.stripes) Free (bounds r) d.value.attempt (tick n tag pairs) (
    (h.phase, h.none),
    sym h.next,
    below,
    (let t = h.ticks in omega arith),
    rw (h.held, one)
        (one_may_write (stripe_of r.stripes) r.size k h.old a x inside is),
    tt,
  ),
)

-- a running client that holds one lock
pub record HasLock (k : ℕ) (v : Client) : Type 0 where
  pub alive : v.is_gathered ≡ false
  pub phase : v.attempt.phase ≡ running
  pub old : ℕ
  pub held : v.attempt.held ≡ (k, old) ∷ []

holds_one : (held : List (ℕ × ℕ)) (k old : ℕ) → held ≡ (k, old) ∷ [] → Holds held k
holds_one held k old e = (old, (0, ap (λ (h : List (ℕ × ℕ)). get_elem? h 0) e))

pub has_lock : (k n : ℕ) (v : Client) → HasOne k n v → HasLock k v
has_lock k n v h = record { alive = h.alive; phase = h.phase; old = h.old; held = h.held }

pub may_give_back : (r : RegionShown) (d : ClientShown) (k : ℕ) → HasLock k d.value → IsAllowed Free r (give_back k) d
may_give_back r d k h = (
  h.alive,
  may_act_so (stripe_of r.stripes) Free (bounds r) d.value.attempt (give_back k)
      (inl h.phase, holds_one d.value.attempt.held k h.old h.held),
)

pub lost_one : (r : RegionShown) (c d : ClientShown) (k n m : ℕ) (tag : List ℕ) (pairs : List (ℕ × ℕ)) →
    HasOne k n c.value → m ≢ n → d ≡ acted r (tick n tag pairs) m c → HasLock k d.value
lost_one r c d k n m tag pairs h ne e = subst (λ (x : ClientShown). HasLock k x.value) (sym e)
    (subst (λ v. HasLock k v) (sym lost) record { alive = h.alive; phase = h.phase; old = h.old; held = h.held })
  where
    lost : after (unplaced r.renewal) (stripe_of r.stripes) (tick n tag pairs) m c.value ≡ with_ticks
        (c.value.attempt.ticks + 1) m (stepping (ticked n m) c.value)
    lost = rw (ne_eqb m n ne) refl

-- a decided client with one word to write
pub record HasDecided (k a x : ℕ) (v : Client) : Type 0 where
  pub alive : v.is_gathered ≡ false
  pub phase : v.attempt.phase ≡ committed
  pub writes : v.attempt.writes ≡ (a, x) ∷ []
  pub stored : v.attempt.stored ≡ []
  pub old : ℕ
  pub held : v.attempt.held ≡ (k, old) ∷ []

pub won_one : (r : RegionShown) (c d : ClientShown) (k n a x : ℕ) (tag : List ℕ) (pairs : List (ℕ × ℕ)) →
    HasOne k n c.value → pairs ≡ (a, x) ∷ [] → d ≡ acted r (tick n tag pairs) n c → HasDecided k a x d.value
won_one r c d k n a x tag pairs h one e = subst (λ (y : ClientShown). HasDecided k a x y.value) (sym e)
    (subst (λ v. HasDecided k a x v) (sym won) record {
      alive = h.alive;
      phase = refl;
      writes = one;
      stored = refl;
      old = h.old;
      held = h.held;
    })
  where
    won : after (unplaced r.renewal) (stripe_of r.stripes) (tick n tag pairs) n c.value ≡ with_ticks
        (c.value.attempt.ticks + 1) n (stepping (ticked n n)
        (committed_by (unplaced r.renewal) (versioned (unplaced r.renewal) (n + 1) tag pairs c.value)))
    won = rw (same_number n, h.reads) refl

pub may_put : (r : RegionShown) (d : ClientShown) (k a x : ℕ) → HasDecided k a x d.value → k ≡ stripe_of r.stripes a →
    IsAllowed Free r (put_word a x) d
may_put r d k a x h is = (
  h.alive,
  may_act_so (stripe_of r.stripes) Free (bounds r) d.value.attempt (put_word a x) (
    h.phase,
    (0, ap (λ (w : List (ℕ × ℕ)). get_elem? w 0) h.writes),
    subst (Holds d.value.attempt.held) is (holds_one d.value.attempt.held k h.old h.held),
    λ m. some-ne-none a (sym (subst (λ (w : List ℕ). get_elem? w m.0 ≡ some a) h.stored m.1)),
  ),
)

pub may_release : (r : RegionShown) (d e : ClientShown) (k a x : ℕ) → HasDecided k a x d.value →
    e ≡ acted r (put_word a x) 0 d → IsAllowed Free r (release k) e
may_release r d e k a x h q = subst (λ (y : ClientShown). IsAllowed Free r (release k) y) (sym q) (
  h.alive,
  may_act_so (stripe_of r.stripes) Free (bounds r) (acted r (put_word a x) 0 d).value.attempt (release k) (
    h.phase,
    holds_one d.value.attempt.held k h.old h.held,
    λ b z t. (0, rw h.stored (ap some (eqb_or a b (subst (λ w. writes_to w b ≡ true) h.writes t)))),
  ),
)

one_gone : (k old : ℕ) → without ((k, old) ∷ []) k ≡ []
one_gone k old = rw (same_number k) refl

-- a client that gives its one lock back, or releases it, holds none
pub given_free : (r : RegionShown) (d e : ClientShown) (k : ℕ) → HasLock k d.value → e ≡ acted r (give_back k) 0 d →
    IsFreeHanded e.value
given_free r d e k h q = subst (λ (y : ClientShown). IsFreeHanded y.value) (sym q) (
  h.alive,
  ap (λ (l : List (ℕ × ℕ)). without l k) h.held ∙ one_gone k h.old,
)

pub released_free : (r : RegionShown) (d e f : ClientShown) (k a x : ℕ) → HasDecided k a x d.value →
    e ≡ acted r (put_word a x) 0 d → f ≡ acted r (release k) 0 e → IsFreeHanded f.value
released_free r d e f k a x h q q' = subst (λ (y : ClientShown). IsFreeHanded y.value)
    (sym (q' ∙ ap (acted r (release k) 0) q)) (
      h.alive,
      ap (λ (l : List (ℕ × ℕ)). without l k) h.held ∙
          one_gone k h.old,
    )

pub not_there : (a l : ℕ) → get {R = nat_cmp} (empty {X = ℕ}) a ≡ Some l → ⊥
not_there a l e = some_none l (sym (get-empty nat_cmp a) ∙ e)
  where
    some_none : (l : ℕ) → None ≡ Some l → ⊥
    some_none l e = cc
