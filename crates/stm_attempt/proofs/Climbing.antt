-- Locks that are taken in ascending order.
use Rattle.std.proofs.Common.{◌≡◌, refl, sym, ap, subst, ◌∙◌, ℕ, zero, ◌+◌, ◌<◌, Bool, cond, false, eqb, eq-eqb, List}
use Rattle.std.proofs.Common.{[]}
use Rattle.std.proofs.Common.{◌∷◌, ◌++◌, arith}
use Rattle.std.proofs.lemmas.Bool.{ne_eqb}
use Rattle.std.proofs.lemmas.List.{map-append}
use Rattle.tx_memory.specs.Image.{In}
use Rattle.stm_core.specs.LockWord.{free_word}
use Rattle.tx_memory.specs.Paired.{in_later}
use Rattle.stm_core.specs.Client.{Client, probed, locked, writes_to, word_before, version_of, IsFree, Stamp, RecordLaw}
use Rattle.stm_core.specs.Event.{probe, lock, after, stepping, holding, failing, Bounds}
use Rattle.stm_attempt.specs.Conflicts.{SaysHeld}
use Rattle.stm_attempt.specs.Begun.{address_of, addresses}
use Rattle.stm_attempt.specs.Committing.{settling}
use Rattle.stm_attempt.specs.CommitParts.{IsAbove, HasTaken}
use Rattle.stm_core.proofs.Conditions.{IsReading, may_act_so}
use Rattle.stm_core.specs.Guards.{May}

pub not_mine : (held : List (ℕ × ℕ)) (k : ℕ) → ((j u : ℕ) → In (j, u) held → j < k) → writes_to held k ≡ false
not_mine [] k above = refl
not_mine (p ∷ ps) k above =
    let less : p.0 < k = above p.0 p.1 (zero, refl) in
    let other : eqb p.0 k ≡ false = ne_eqb p.0 k (λ e. absurd (omega arith)) in
    rw other (not_mine ps k (λ j u i. above j u (in_later _ _ _ i)))

-- a value of the client is as its probe left it
pub left_by : {X : Type 0} (x y z : X) → y ≡ z → x ≡ y → x ≡ z
left_by x y z is left = left ∙ is

module _ (lawful : RecordLaw) (t : Stamp) (lk : ℕ → ℕ) (b : Bounds) (v w : Client) (k n : ℕ)
    (stepped : w ≡ after t lk (probe k) n v) (above : IsAbove v k) where
  pub held_shown : SaysHeld n → (k ≡ k) × (w.attempt.last ≡ probed k n) × SaysHeld n × (w.attempt.mine ≡ false)
  held_shown h = (
    refl,
    ap (λ (x : Client). x.attempt.last) stepped,
    h,
    ap (λ (x : Client). x.attempt.mine) stepped ∙
        not_mine v.attempt.held k above,
  )

  pub may_lock : v.is_gathered ≡ false → IsReading v.attempt → k < b.stripes → (u : ℕ) → n ≡ free_word u →
      May lawful lk b (lock k) w
  may_lock out reading range u free =
      let is_free : IsFree n = omega arith in (
        ap (λ (x : Client). x.is_gathered) stepped ∙ out,
        may_act_so lk lawful b w.attempt (lock k) (
          (
            ap (λ (x : Client). x.attempt.phase) stepped ∙ reading.0,
            ap (λ (x : Client). x.attempt.wv) stepped ∙
                reading.1,
          ),
          range,
          (n, ap (λ (x : Client). x.attempt.last) stepped, is_free),
          λ j u' i. above j u' (subst (λ (h : List (ℕ × ℕ)). In (j, u') h)
              (ap (λ (x : Client). x.attempt.held) stepped) i),
        ),
      )

  -- the lock was free as its probe found it: it is held, by the exchange of that word
  module _ (d : Client) (exchanged : d ≡ after t lk (lock k) (word_before w.attempt.last) w) where
    abbrev locked_word : ℕ
    locked_word = word_before w.attempt.last

    taken : d ≡ stepping (locked k locked_word locked_word) (holding k (version_of locked_word) w)
    taken = exchanged ∙ ap (λ (won : Bool). stepping (locked k locked_word locked_word)
        (cond won (holding k (version_of locked_word) w) (failing w))) (eq-eqb locked_word locked_word refl)

    pub has_taken : HasTaken v d k
    has_taken = record {
      same = ap settling taken ∙ ap settling stepped;
      stored = ap (λ (x : Client). x.attempt.stored) taken ∙ ap (λ (x : Client). x.attempt.stored) stepped;
      held = ap (λ (x : Client). addresses x.attempt.held) taken ∙ map-append address_of w.attempt.held
          ((k, version_of locked_word) ∷ []) ∙ ap (λ (x : Client). addresses x.attempt.held ++ k ∷ []) stepped;
      won = (k, locked_word, ap (λ (x : Client). x.attempt.last) taken);
      steps = let a : d.attempt.steps ≡ w.attempt.steps + 1 = ap (λ (x : Client). x.attempt.steps) taken in
          let b : w.attempt.steps ≡ v.attempt.steps + 1 = ap (λ (x : Client). x.attempt.steps) stepped in
          omega (arith, a, b);
    }

    pub has_taken_left : (u : Client) → u ≡ d → HasTaken v u k
    has_taken_left u left = subst (λ (x : Client). HasTaken v x k) (sym left) has_taken
