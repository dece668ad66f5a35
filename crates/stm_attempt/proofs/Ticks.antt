-- Ticks that were lost, and the one that is won.
use Rattle.std.proofs.Common.{◌≡◌, ◌≢◌, ◌⊎◌, inl, inr, zero, suc, refl, sym, ap, ◌∙◌, ℕ, ◌+◌, ◌<◌, Bool, true, false}
use Rattle.std.proofs.Common.{cond, List, eq-eqb, arith}
use Rattle.std.proofs.lemmas.Bool.{ne_eqb}
use Rattle.stm_core.specs.Client.{Client, running, committed, is_committed, decided, ticked, inserted}
use Rattle.stm_core.specs.Event.{tick, after, won, versioned, committed_by, stepping, with_ticks, forgetting}
use Rattle.stm_region.specs.Shown.{RegionShown, unplaced}
use Rattle.stm_core.specs.Guards.{stripe_of}
use Rattle.stm_region.specs.Findings.{IsLoneOpen}
use Rattle.stm_attempt.specs.Committing.{HasWonLock, HasLostTick, ticked_record}
use Rattle.stm_attempt.specs.CommitParts.{HasTicked, HasFailed, is_at_once}
use Rattle.stm_attempt.proofs.Named.{apart, same_attempt}
use Rattle.stm_core.proofs.Conditions.{IsReading}

-- the client's value without what a lost tick changes
abbrev pub unticked : Client → Client
unticked v = record v { attempt = record (forgetting v.attempt) { ticks = 0; next_from = 0; steps = 0 } }

-- where it has a write version, that lies above its read version
abbrev pub IsLater : Client → Type 0
IsLater v = 0 < v.attempt.wv → v.attempt.rv < v.attempt.wv

-- so many ticks were made, and all were lost, the last one to this version
pub record IsTicking (v v' : Client) (count from : ℕ) : Type 0 where
  pub same : unticked v' ≡ unticked v
  pub ticks : v'.attempt.ticks ≡ count
  pub next : v'.attempt.next_from ≡ from
  pub steps : v'.attempt.steps ≡ v.attempt.steps + count
  pub lost : 0 < count → (before : ℕ) × (v'.attempt.last ≡ ticked before from) × (before ≢ from)
  pub unlost : count ≡ 0 → v'.attempt.last ≡ v.attempt.last

-- a write version lies above the read version
above : (v' : Client) (rv from : ℕ) → v'.attempt.wv ≡ from + 1 → v'.attempt.rv ≡ rv → IsLater v' → rv < from + 1
above v' rv from wv same later = let less = later (omega (arith, wv)) in omega (arith, wv, same, less)

-- the tick was won
module _ (region : RegionShown) (tag : List ℕ) (writes : List (ℕ × ℕ)) (v w : Client) (count from : ℕ)
    (ticking : IsTicking v w count from) (reading : IsReading v.attempt) where
  abbrev with_version : Client
  with_version = versioned (unplaced region.renewal) (from + 1) tag writes w

  -- the same by whether it decides
  won_by : (d : Bool) (v' : Client) → v' ≡ with_ticks (w.attempt.ticks + 1) from
      (stepping (ticked from from) (cond d (committed_by (unplaced region.renewal) with_version) with_version)) →
      d ≡ is_at_once v (from + 1) → IsLater v' → (v.attempt.lone ≡ true → decided v' ≡ true) →
      HasTicked region tag writes v v' (from + 1)
  won_by true v' stepped at_once later lone = record {
    same = same_attempt v v' (ap apart stepped ∙ ap apart ticking.same);
    held = ap (λ (x : Client). x.attempt.held) stepped ∙ ap (λ (x : Client). x.attempt.held) ticking.same;
    versioned = ap (λ (x : Client). x.attempt.wv) stepped;
    tagged = ap (λ (x : Client). x.attempt.tag) stepped;
    writing = ap (λ (x : Client). x.attempt.writes) stepped;
    known = ap (λ (x : Client). x.floor) stepped;
    unstored = ap (λ (x : Client). x.attempt.stored) stepped;
    unvalidated = ap (λ (x : Client). x.attempt.passed) stepped;
    unplaced = ap (λ (x : Client). x.attempt.ticked_at) stepped;
    phase = ap (λ (x : Client). x.attempt.phase) stepped ∙ ap (λ (t : Bool). cond t committed running) at_once;
    records = ap (λ (x : Client). x.records) stepped ∙ ap (λ (x : Client). inserted
        (ticked_record region tag x writes (from + 1)) x.records) ticking.same ∙
        ap (λ (t : Bool). cond t (inserted (ticked_record region tag v writes (from + 1)) v.records) v.records) at_once;
    later = above v' v.attempt.rv from (ap (λ (x : Client). x.attempt.wv) stepped) (ap
        (λ (x : Client). x.attempt.rv) stepped ∙ ap (λ (x : Client). x.attempt.rv) ticking.same) later;
    lone = lone;
  }
  won_by false v' stepped at_once later lone = record {
    same = same_attempt v v' (ap apart stepped ∙ ap apart ticking.same);
    held = ap (λ (x : Client). x.attempt.held) stepped ∙ ap (λ (x : Client). x.attempt.held) ticking.same;
    versioned = ap (λ (x : Client). x.attempt.wv) stepped;
    tagged = ap (λ (x : Client). x.attempt.tag) stepped;
    writing = ap (λ (x : Client). x.attempt.writes) stepped;
    known = ap (λ (x : Client). x.floor) stepped;
    unstored = ap (λ (x : Client). x.attempt.stored) stepped;
    unvalidated = ap (λ (x : Client). x.attempt.passed) stepped;
    unplaced = ap (λ (x : Client). x.attempt.ticked_at) stepped;
    phase = ap (λ (x : Client). x.attempt.phase) stepped ∙ ap (λ (x : Client). x.attempt.phase) ticking.same ∙
        reading.0 ∙ ap (λ (t : Bool). cond t committed running) at_once;
    records = ap (λ (x : Client). x.records) stepped ∙ ap (λ (x : Client). x.records) ticking.same ∙
        ap (λ (t : Bool). cond t (inserted (ticked_record region tag v writes (from + 1)) v.records) v.records) at_once;
    later = above v' v.attempt.rv from (ap (λ (x : Client). x.attempt.wv) stepped) (ap
        (λ (x : Client). x.attempt.rv) stepped ∙ ap (λ (x : Client). x.attempt.rv) ticking.same) later;
    lone = lone;
  }

  pub has_won : (v' : Client) → v' ≡ after (unplaced region.renewal) (stripe_of region.stripes)
      (tick from tag writes) from w → IsLater v' → (v.attempt.lone ≡ true → decided v' ≡ true) →
      HasTicked region tag writes v v' (from + 1)
  has_won v' stepped later lone = won_by (is_at_once w (from + 1)) v' (stepped ∙
      ap (λ (t : Bool). with_ticks (w.attempt.ticks + 1) from
      (stepping (ticked from from) (cond t (won (unplaced region.renewal) (from + 1) tag writes w) w)))
      (eq-eqb from from refl)) (ap (λ (x : Client). is_at_once x (from + 1)) ticking.same) later lone

-- no tick was made yet
pub ticking_none : (v : Client) (from : ℕ) → v.attempt.ticks ≡ 0 → v.attempt.next_from ≡ from → IsTicking v v 0 from
ticking_none v from none next = record {
  same = refl;
  ticks = none;
  next = next;
  steps = omega arith;
  lost = λ some. absurd (omega (arith, some));
  unlost = λ _. refl;
}

-- no tick was won
pub has_lost : (v w : Client) (count from : ℕ) → IsTicking v w count from → v.is_gathered ≡ false →
    IsReading v.attempt → HasFailed v w
has_lost v w count from ticking out reading = record {
  same = same_attempt v w (ap apart ticking.same);
  records = ap (λ (x : Client). x.records) ticking.same;
  held = ap (λ (x : Client). x.attempt.held) ticking.same;
  floor = ap (λ (x : Client). x.floor) ticking.same;
  able = (
    ap (λ (x : Client). x.is_gathered) ticking.same ∙ out,
    inl (ap (λ (x : Client). x.attempt.phase) ticking.same ∙ reading.0),
  );
  unversioned = ap (λ (x : Client). x.attempt.wv) ticking.same ∙ reading.1;
}

-- a tick more was lost
pub lost_on : (region : RegionShown) (tag : List ℕ) (writes : List (ℕ × ℕ)) (v w d : Client) (count from found : ℕ) →
    IsTicking v w count from → found ≢ from → d ≡ after (unplaced region.renewal) (stripe_of region.stripes)
    (tick from tag writes) found w → IsTicking v d (count + 1) found
lost_on region tag writes v w d count from found ticking other e =
    let stepped : d ≡ with_ticks (w.attempt.ticks + 1) found (stepping (ticked from found) w) =
    e ∙ ap (λ (t : Bool). with_ticks (w.attempt.ticks + 1) found
    (stepping (ticked from found) (cond t (won (unplaced region.renewal) (from + 1) tag writes w) w)))
    (ne_eqb found from other) in
    record {
      same = ap unticked stepped ∙ ticking.same;
      ticks = ap (λ (x : Client). x.attempt.ticks) stepped ∙ ap (λ (n : ℕ). n + 1) ticking.ticks;
      next = ap (λ (x : Client). x.attempt.next_from) stepped;
      steps = let a : d.attempt.steps ≡ w.attempt.steps + 1 = ap (λ (x : Client). x.attempt.steps) stepped in let b =
          ticking.steps in omega (arith, a, b);
      lost = λ _. (from, ap (λ (x : Client). x.attempt.last) stepped, λ same. other (sym same));
      unlost = λ none. absurd (omega (arith, none));
    }

-- a lone attempt is not decided before a tick is won
pub still_open : (v w : Client) (count from : ℕ) → IsTicking v w count from → IsReading v.attempt →
    v.attempt.lone ≡ true → IsLoneOpen w
still_open v w count from ticking reading lone = (
  ap (λ (x : Client). x.attempt.lone) ticking.same ∙ lone,
  ap is_committed (ap (λ (x : Client). x.attempt.phase) ticking.same ∙ reading.0),
)

-- what was lost was not won
pub not_won : {A : Type 0} → false ≡ true → A
not_won e = cc

-- a clock that was found at this version was found by a lock's exchange, or by a tick that lost
pub spent_shown : (v w : Client) (count from : ℕ) → IsTicking v w count from → HasWonLock v →
    HasWonLock w ⊎ HasLostTick from w
spent_shown v w zero from ticking won = inl (won.0, won.1, ticking.unlost refl ∙ won.2)
spent_shown v w (suc n) from ticking won = inr (ticking.lost (omega arith))
