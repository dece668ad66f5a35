-- A configuration at which a read has a position covers the one before it, and nodes that cover all
-- that comes after them bound how many calls are placed.
use Rattle.std.proofs.Common.{◌≡◌, ◌≢◌, ℕ, ◌+◌, ◌≤◌, ◌==◌, suc, zero, true, false, cond, List, [], ◌∷◌, ◌++◌, length}
use Rattle.std.proofs.Common.{refl, sym, ap, ◌∙◌, subst, inl, inr, arith}
use Rattle.std.specs.List.{Contains}
use Rattle.std.proofs.lemmas.List.Elements.{Contains-append_cases}
use Rattle.judge_object.specs.Rules.{Rules}
use Rattle.judge_object.specs.Call.{Call}
use Rattle.judge_object.specs.Orders.{of_client}
use Rattle.judge_search.specs.Configurations.{Configuration, IsFirst, MayBegin, Goes, CallsReach, without_next}
use Rattle.judge_search.specs.Configurations.{after_call, answered, weight, PlacesAtMost}
use Rattle.judge_search.specs.Frontier.{IsReadOnly, LeadsAsFar, Covers, IsCovered, AreNextCovered}
use Rattle.judge_search.proofs.Each.{test}
use Rattle.judge_search.proofs.Left.{each_without, answered_without}

module _ {O : Type 0} where
  -- the next calls of two clients are taken out in either order
  swapped : (j k : ℕ) → j ≢ k → (cs : List (Call O)) →
      without_next j (without_next k cs) ≡ without_next k (without_next j cs)
  swapped j k d [] = refl
  swapped j k d (c ∷ cs) =
      elim (test c.client k) [
        | inl t ↦ elim (test c.client j) [
          | inl u ↦ absurd (d (sym u.1 ∙ t.1))
          | inr u ↦ rw (t.0, u.0) (rw t.0 refl)
        ]
        | inr t ↦ elim (test c.client j) [
          | inl u ↦ rw (t.0, u.0) refl
          | inr u ↦ rw (t.0, u.0) (rw t.0 (ap (λ l. c ∷ l) (swapped j k d cs)))
        ]
      ]

  -- the calls of a client are the same without another client's next one
  others_kept : (j k : ℕ) → j ≢ k → (cs : List (Call O)) → of_client k (without_next j cs) ≡ of_client k cs
  others_kept j k d [] = refl
  others_kept j k d (c ∷ cs) =
      elim (test c.client j) [
        | inl t ↦ elim (test c.client k) [
          | inl u ↦ absurd (d (sym t.1 ∙ u.1))
          | inr u ↦ rw (t.0, u.0) refl
        ]
        | inr t ↦ elim (test c.client k) [
          | inl u ↦ rw (t.0, u.0) (ap (λ l. c ∷ l) (others_kept j k d cs))
          | inr u ↦ rw (t.0, u.0) (others_kept j k d cs)
        ]
      ]

  same_head : (c d : Call O) (cs ds : List (Call O)) → c ∷ cs ≡ d ∷ ds → c ≡ d
  same_head c d cs ds e = cc

  -- two calls of one client that are the first of it are one
  one_first : (rest : List (Call O)) (c d : Call O) → c.client ≡ d.client → IsFirst rest c → IsFirst rest d → c ≡ d
  one_first rest c d e f g =
      same_head c d f.tail g.tail (sym f.is ∙ ap (λ k. of_client k rest) e ∙ g.is)

module _ {S O R : Type 0} (X : Rules S O R) where
  -- so a call that may come next still may when another client's has a position
  may_still : (rest : List (Call O)) (c : Call O) (j : ℕ) → j ≢ c.client → MayBegin rest c →
      MayBegin (without_next j rest) c
  may_still rest c j d m = record {
    first = record { tail = m.first.tail; is = others_kept j c.client d rest ∙ m.first.is };
    early = each_without X (λ other. c.begin ≤ other.end) j rest m.early;
  }

  -- the configuration without a call, in the same state
  abbrev left_out : Configuration S O → Call O → Configuration S O
  left_out at read = record { rest = without_next read.client at.rest; state = at.state }

  -- what follows a configuration follows it too once a read has a position there
  reads_early : (calls : List (Call O)) (at to : Configuration S O) (read : Call O) → MayBegin at.rest read →
      IsReadOnly X read → CallsReach X at calls to → LeadsAsFar X (left_out at read) (length calls) to
  reads_early [] at to read may only r =
      let less : answered at.rest ≡ weight read + answered (without_next read.client at.rest) =
      answered_without X at.rest read may.first in
      let same : answered at.rest ≡ answered to.rest = ap (λ (x : Configuration S O). answered x.rest) r in
      record {
        calls = [];
        to = left_out at read;
        reaches = refl;
        few = omega arith;
        far = omega arith;
      }
  reads_early (c ∷ calls) at to read may only r =
      elim (test c.client read.client) [
        | inl t ↦
            let one : c ≡ read = one_first at.rest c read t.1 r.0.may.first may.first in
            let kept : (X.run at.state c.op).0 ≡ at.state =
            subst (λ (x : Call O). (X.run at.state x.op).0 ≡ at.state) (sym one)
            (only at.state (subst (λ x. Goes X at x) one r.0).fit) in
            let same : after_call X at c ≡ left_out at read =
            ap (λ k. record { rest = without_next k at.rest; state = (X.run at.state c.op).0 }) t.1
            ∙ ap (λ s. record { rest = without_next read.client at.rest; state = s }) kept in
            record {
              calls = calls;
              to = to;
              reaches = subst (λ x. CallsReach X x calls to) same r.1;
              few = omega arith;
              far = omega arith;
            }
        | inr t ↦
            let d : read.client ≢ c.client = λ e. t.1 (sym e) in
            let more = reads_early calls (after_call X at c) to read (may_still at.rest read c.client t.1 may) only r.1
            in
            let same : left_out (after_call X at c) read ≡ after_call X (left_out at read) c =
            ap (λ l. record { rest = l; state = (X.run at.state c.op).0 })
            (swapped read.client c.client d at.rest) in
            record {
              calls = c ∷ more.calls;
              to = more.to;
              reaches = (
                record { may = may_still at.rest c read.client d r.0.may; fit = r.0.fit },
                subst (λ x. CallsReach X x more.calls more.to) same more.reaches,
              );
              few = let f = more.few in omega arith;
              far = more.far;
            }
      ]

  pub read_covers : (at : Configuration S O) (read : Call O) → Goes X at read → IsReadOnly X read →
      Covers X (after_call X at read) at
  read_covers at read goes only calls to r =
      subst (λ x. LeadsAsFar X x (length calls) to)
      (sym (ap (λ s. record { rest = without_next read.client at.rest; state = s }) (only at.state goes.fit)))
      (reads_early calls at to read goes.may only r)

  pub covers_itself : (at : Configuration S O) → Covers X at at
  covers_itself at calls to r = record {
    calls = calls;
    to = to;
    reaches = r;
    few = omega arith;
    far = omega arith;
  }

  pub covers_all : (a b c : Configuration S O) → Covers X a b → Covers X b c → Covers X a c
  covers_all a b c f g calls to r =
      let m = g calls to r in
      let n = f m.calls m.to m.reaches in
      record {
        calls = n.calls;
        to = n.to;
        reaches = n.reaches;
        few = let x = n.few in let y = m.few in omega arith;
        far = let x = n.far in let y = m.far in omega arith;
      }

  -- if each call leads from the due configurations to one that is covered, no more calls are placed
  -- from there than are placed there or from those ahead
  module _ (total most : ℕ) (due ahead : List (Configuration S O))
      (closed : (here : Configuration S O) → Contains due here → AreNextCovered X (due ++ ahead) here)
      (own : (here : Configuration S O) → Contains due here → total ≤ most + answered here.rest)
      (bound : (here : Configuration S O) → Contains ahead here → PlacesAtMost X total most here) where
    bounded : (n : ℕ) (calls : List (Call O)) → length calls ≤ n → (here to : Configuration S O) →
        Contains (due ++ ahead) here → CallsReach X here calls to → total ≤ most + answered to.rest
    bounded n [] l here to i r =
        elim (Contains-append_cases due ahead here i) [
          | inl d ↦ subst (λ (x : Configuration S O). total ≤ most + answered x.rest) r (own here d)
          | inr a ↦ bound here a [] to r
        ]
    bounded zero (c ∷ calls) l here to i r = absurd (omega arith)
    bounded (suc n) (c ∷ calls) l here to i r =
        elim (Contains-append_cases due ahead here i) [
          | inl d ↦
              let next = closed here d c r.0 in
              let led = next.covers calls to r.1 in
              let far = led.far in
              let all = bounded n led.calls (let f = led.few in omega arith) next.one led.to next.is led.reaches in
              omega arith
          | inr a ↦ bound here a (c ∷ calls) to r
        ]

    pub bounded_all : (here : Configuration S O) → Contains (due ++ ahead) here → PlacesAtMost X total most here
    bounded_all here i calls to r = bounded (length calls) calls (omega arith) here to i r
