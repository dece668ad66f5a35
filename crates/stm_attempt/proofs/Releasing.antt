-- Locks that are released after the stores.
use Rattle.std.proofs.Common.{◌≡◌, false, sym, ap, subst, ◌∙◌, ℕ, suc, ◌+◌, ◌-◌, List, [], ◌∷◌, ◌++◌, append_assoc}
use Rattle.std.proofs.Common.{length, take, arith, Some, refl}
use Rattle.std.proofs.lemmas.List.{length-map}
use Rattle.std.proofs.Math.Seq.{take-length}
use Rattle.std.specs.FinMap.{get}
use Rattle.tx_memory.specs.Image.{In}
use Rattle.stm_core.specs.Client.{Client, Stamp, without, writes_to, committed, RecordLaw}
use Rattle.stm_core.specs.Event.{release, after, Bounds}
use Rattle.stm_logs.specs.Log.{LogValue, log_locks}
use Rattle.stm_logs.proofs.RisingLemmas.{Rising, In as Among}
use Rattle.stm_attempt.specs.Begun.{addresses}
use Rattle.stm_attempt.specs.Committing.{settling}
use Rattle.stm_attempt.specs.CommitParts.{IsAllStored}
use Rattle.stm_logs.proofs.LockLemmas.{locks_rise, locks_in}
use Rattle.stm_attempt.proofs.Locks.{rising_behind, gives_first, among_middle}
use Rattle.stm_core.proofs.Conditions.{may_act_so}
use Rattle.stm_core.specs.Guards.{Holds, May}

-- the locks of the rest are still to be released, after those that are gone
pub record IsReleasing (v v' : Client) (rest all : List ℕ) : Type 0 where
  pub gone : List ℕ
  pub order : gone ++ rest ≡ all
  pub same : settling v' ≡ settling v
  pub stored : v'.attempt.stored ≡ v.attempt.stored
  pub held : addresses v'.attempt.held ≡ rest
  pub steps : v'.attempt.steps + length rest ≡ v.attempt.steps + length v.attempt.held

-- before the first release
pub releasing_none : (v : Client) (rest all : List ℕ) → rest ≡ all → addresses v.attempt.held ≡ all →
    IsReleasing v v rest all
releasing_none v rest all is held = record {
  gone = [];
  order = is;
  same = refl;
  stored = refl;
  held = held ∙ sym is;
  steps =
      let pairs : length (addresses v.attempt.held) ≡ length v.attempt.held =
      length-map v.attempt.held (λ (p : ℕ × ℕ). p.0) in
      let locks : length (addresses v.attempt.held) ≡ length rest = ap length (held ∙ sym is) in
      omega (arith, pairs, locks);
}

module _ (lawful : RecordLaw) (t : Stamp) (lk : ℕ → ℕ) (b : Bounds) (w : LogValue) (v0 v : Client) (k : ℕ)
    (now rest : List ℕ) (releasing : IsReleasing v0 v now (log_locks w)) (next : now ≡ k ∷ rest) where
  order : releasing.gone ++ k ∷ rest ≡ log_locks w
  order = ap (λ (xs : List ℕ). releasing.gone ++ xs) (sym next) ∙ releasing.order

  rises : Rising (λ (x : ℕ). x) (k ∷ rest)
  rises = rising_behind releasing.gone (k ∷ rest) (subst (λ (xs : List ℕ). Rising (λ (x : ℕ). x) xs) (sym order)
      (locks_rise w))

  first : Holds v.attempt.held k × (addresses (without v.attempt.held k) ≡ rest)
  first =
      let given = gives_first v.attempt.held k (suc (length rest)) rest (λ e. absurd (omega arith))
      (releasing.held ∙ next ∙ ap (λ (xs : List ℕ). k ∷ xs) (sym (take-length rest))) rises in
      let one : suc (length rest) - 1 ≡ length rest = omega arith in
      (given.0, given.1 ∙ ap (λ (n : ℕ). take n rest) one ∙ take-length rest)

  pub release_logged : (a : ℕ) × (get w.locks a ≡ Some k)
  release_logged = locks_in w k (subst (λ (xs : List ℕ). Among k xs) order (among_middle releasing.gone k rest))

  pub may_release : (v0.is_gathered ≡ false) × (v0.attempt.phase ≡ committed) → IsAllStored v0 →
      May lawful lk b (release k) v
  may_release decided stored =
      let writes : v.attempt.writes ≡ v0.attempt.writes = ap (λ (x : Client). x.attempt.writes) releasing.same in
      let kept : v.attempt.stored ≡ v0.attempt.stored = releasing.stored in (
        ap (λ (x : Client). x.is_gathered) releasing.same ∙ decided.0,
        may_act_so lk lawful b v.attempt (release k) (
          ap (λ (x : Client). x.attempt.phase) releasing.same ∙ decided.1,
          first.0,
          λ a is written. subst (In a) (sym kept) (stored a (ap (λ (ps : List (ℕ × ℕ)). writes_to ps a) (sym writes) ∙
              written)),
        ),
      )

  pub released_one : (v' : Client) → v' ≡ after t lk (release k) 0 v → IsReleasing v0 v' rest (log_locks w)
  released_one v' e = record {
    gone = releasing.gone ++ k ∷ [];
    order = append_assoc releasing.gone (k ∷ []) rest ∙ order;
    same = ap settling e ∙ releasing.same;
    stored = ap (λ (x : Client). x.attempt.stored) e ∙ releasing.stored;
    held = ap (λ (x : Client). addresses x.attempt.held) e ∙ first.1;
    steps =
        let s : v'.attempt.steps ≡ v.attempt.steps + 1 = ap (λ (x : Client). x.attempt.steps) e in
        let n : length now ≡ suc (length rest) = ap length next in
        omega (arith, releasing.steps);
  }
