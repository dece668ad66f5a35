-- A client that holds nothing begins anew, or is no client any more.
use Rattle.std.proofs.Common.{◌≡◌, ℕ, ◌≤◌, ◌<◌, inr, false, List, [], set, ap, ◌∙◌, subst, arith}
use mathlib.Core.Logic.{dite}
use native.Mathlib.Decide.{ℕ_discrete}
use Rattle.tx_memory.specs.Image.{In}
use Rattle.stm_core.specs.Client.{Client, Record, decided, version_of}
use Rattle.stm_core.specs.Version.{World, At, Claims, Saw, IsSound}
use Rattle.stm_core.proofs.Lists.{same_at, clash, nothing_in}
use Rattle.stm_core.proofs.Turns.{Heart, turn_keeps}

module _ (lk : ℕ → ℕ) (s : World) (cs : List Client) (id : ℕ) (v w : Client) (h : Heart lk s cs) (at : At cs id v)
    (empty : v.attempt.held ≡ []) (empty' : w.attempt.held ≡ []) (wv : w.attempt.wv ≡ 0) (phase : decided w ≡ false)
    (rv : w.attempt.rv ≤ s.clock) (floor : w.floor ≤ s.clock)
    (claims : (b a x : ℕ) → Claims w b a x → Claims v b a x) (records : (r : Record) → In r w.records →
    In r v.records) where
  me : IsSound lk s v
  me = h.version.sound id v at

  no_version : 0 < w.attempt.wv → ⊥
  no_version z = (let e = wv in omega arith)

  none : (k u : ℕ) → In (k, u) w.attempt.held → ⊥
  none k u g = nothing_in (k, u) (subst (In (k, u)) empty' g)

  pub clear_keeps : Saw lk s w.attempt.rv w.attempt.last → Heart lk s (set cs id w)
  clear_keeps saw = turn_keeps lk s s cs id v w h at record {
    sound = record {
      rv = rv;
      wv = (let e = wv in omega arith);
      floor = floor;
      recorded = λ r i. me.recorded r (records r i);
      agrees = λ b a x p. me.agrees b a x (claims b a x p);
      locked = λ o. absurd (no_version o.0);
      pending = λ d. clash d phase;
      above = λ k u g. absurd (none k u g);
      saw = saw;
    };
    booked = record {
      later = λ z. absurd (no_version z);
      listed = λ k u g. absurd (none k u g);
      unwritten = λ o. absurd (no_version o.0);
      told = λ d. clash d phase;
      values = λ d. clash d phase;
    };
    others = λ i o e n. h.version.sound i o e;
    others_booked = λ i o e n. h.books.booked i o e;
    story = h.books.story;
    steady = h.books.steady;
    versions = h.version.versions;
    own = λ i o e n z. absurd (no_version z);
    free = h.version.free;
    holder = λ k odd. let q = h.version.holder k odd in
        dite (ℕ_discrete q.0 id) (λ e. absurd (nothing_in (k, version_of (s.lock k))
        (subst (In (k, version_of (s.lock k))) (ap (λ (c : Client). c.attempt.held)
        (same_at cs id q.1 v (subst (λ n. At cs n q.1) e q.2) at) ∙
        empty) q.3))) (λ n. inr (q.0, q.1, q.2, n, q.3));
    alone = λ i o k m n e ne a b. none k n b;
    kept = λ k u g. absurd (none k u g);
    kept_else = λ i o k u e n g. h.version.kept i o k u e g;
    apart_mine = λ i o b a x e n c op l. h.version.apart id i v o b a x at e (claims b a x c) op l;
    apart_else = λ i o b a x e n c op. absurd (no_version op.0);
    apart_self = λ b a x c op. absurd (no_version op.0);
  }
