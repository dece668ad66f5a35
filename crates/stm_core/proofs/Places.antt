-- A list of events up to a place: what is allowed there, and what the proofs of the core say of it.
use Rattle.std.proofs.Common.{◌≡◌, ℕ, zero, suc, ◌+◌, ◌-◌, ◌<◌, ◌≤◌, true, false, cond, get_or, List, []}
use Rattle.std.proofs.Common.{◌∷◌, length, refl, sym, ap, ◌∙◌, subst, arith}
use mathlib.Core.Option.{some, some-injective, some-ne-none}
use lib.ListN.{get_elem?}
use Rattle.stm_core.specs.Client.{Client, RecordLaw, running, writes_to, old_version}
use Rattle.stm_core.specs.Event.{begin, gone}
use Rattle.stm_core.specs.Core.{Core, Event, acts, client_of, played, Leads, Allowed, opened}
use Rattle.stm_core.specs.Version.{At}
use Rattle.stm_core.specs.Invariant.{Rule}
use Rattle.stm_core.specs.Listed.{is_begin_of, begins, IsStepOf, core_at}
use Rattle.stm_core.proofs.Lists.{by_bool, clash, in_range}
use Rattle.stm_core.proofs.Held.{old_in}
use Rattle.stm_core.proofs.Conditions.{out_test, CanPlay, can_play}
use Rattle.stm_core.proofs.Playing.{Led, led_all, led_opening}
use Rattle.stm_core.specs.Causes.{IsHolder}

-- the first elements of a list
abbrev pub upto : {A : Type 0} → List A → ℕ → List A
upto l zero = []
upto [] (suc n) = []
upto (x ∷ l) (suc n) = x ∷ upto l n

pub upto_at : {A : Type 0} (l : List A) (n m : ℕ) (x : A) → get_elem? (upto l n) m ≡ some x → get_elem? l m ≡ some x
upto_at l zero m x e = absurd (some-ne-none x (sym e))
upto_at [] (suc n) m x e = absurd (some-ne-none x (sym e))
upto_at (y ∷ l) (suc n) zero x e = e
upto_at (y ∷ l) (suc n) (suc m) x e = upto_at l n m x e

pub upto_length : {A : Type 0} (l : List A) (n : ℕ) → n ≤ length l → length (upto l n) ≡ n
upto_length l zero h = refl
upto_length [] (suc n) h = absurd (omega arith)
upto_length (x ∷ l) (suc n) h = ap suc (upto_length l n (omega arith))

pub upto_begins : (k : ℕ) (es : List Event) (n m : ℕ) → m ≤ n → begins k (upto es n) m ≡ begins k es m
upto_begins k es n zero h = refl
upto_begins k es zero (suc m) h = absurd (omega arith)
upto_begins k [] (suc n) (suc m) h = refl
upto_begins k (x ∷ es) (suc n) (suc m) h =
    ap (λ b. cond (is_begin_of k x) 1 0 + b) (upto_begins k es n m (omega arith))

-- one event more begins an attempt of its client, or of none
pub begins_next : (k : ℕ) (es : List Event) (n : ℕ) (x : Event) → get_elem? es n ≡ some x →
    begins k es (suc n) ≡ begins k es n + cond (is_begin_of k x) 1 0
begins_next k [] n x e = absurd (some-ne-none x (sym e))
begins_next k (y ∷ es) zero x e =
    subst (λ z. cond (is_begin_of k y) 1 0 + 0 ≡ 0 + cond (is_begin_of k z) 1 0) (some-injective y x e)
    (let z : cond (is_begin_of k y) 1 0 + 0 ≡ 0 + cond (is_begin_of k y) 1 0 = omega arith in z)
begins_next k (y ∷ es) (suc n) x e = (let h = begins_next k es n x e in omega (arith, h))

-- who stands at a place of the list of clients
pub get_at : (l : List Client) (i : ℕ) (w : Client) → get_elem? l i ≡ some w → get_or l i gone ≡ w
get_at [] i w e = absurd (some-ne-none w (sym e))
get_at (x ∷ l) zero w e = some-injective x w e
get_at (x ∷ l) (suc i) w e = get_at l i w e

pub client_is : (c : Core) (i : ℕ) (w : Client) → At c.clients i w → client_of c (suc i) ≡ w
client_is c i w e =
    let number : i ≡ suc i - 1 = omega arith in subst (λ m. get_or c.clients m gone ≡ w) number (get_at c.clients i w e)

module _ (lawful : RecordLaw) (lk : ℕ → ℕ) where
  -- who holds a lock is out, and has a number
  pub holder_is : (c : Core) → Rule lawful lk c → (i l : ℕ) (w : Client) → At c.clients i w →
      writes_to w.attempt.held l ≡ true → IsHolder c (suc i) l
  holder_is c rule i l w at holds =
      let number : i ≡ suc i - 1 = omega arith in
      let is = client_is c i w at in
      let out : w.is_gathered ≡ false = by_bool w.is_gathered
      (λ g. clash holds (ap (λ (z : Client). writes_to z.attempt.held l) (rule.past.are_gone i w at g)))
      (λ g. g) in (
        (out_test c (suc i)).complete (
          (let z : 0 < suc i = omega arith in z),
          subst (λ m. get_elem? c.clients m ≡ some (client_of c (suc i))) number
              (subst (λ z. get_elem? c.clients i ≡ some z) (sym is) at),
          subst (λ (z : Client). z.is_gathered ≡ false) (sym is) out,
        ),
        subst (λ (z : Client). (u : ℕ) × Rattle.tx_memory.specs.Image.In (l, u) z.attempt.held) (sym is)
            (old_version w.attempt.held l, old_in w.attempt.held l holds),
      )

  -- the event at a place is allowed there, and leads to the core at the next place
  pub next_is : (es : List Event) (n : ℕ) (x : Event) (c d : Core) → Leads lawful lk c es d → get_elem? es n ≡ some x →
      Allowed lawful lk x (core_at lk c es n) × (core_at lk c es (suc n) ≡ played lk x (core_at lk c es n))
  next_is [] n x c d h e = absurd (some-ne-none x (sym e))
  next_is (y ∷ es) zero x c d h e = subst (λ z. Allowed lawful lk z c × (played lk y c ≡ played lk z c))
      (some-injective y x e) (h.0, refl)
  next_is (y ∷ es) (suc n) x c d h e = next_is es n x (played lk y c) d h.1 e

  pub upto_leads : (es : List Event) (n : ℕ) (c d : Core) → n ≤ length es → Leads lawful lk c es d →
      Leads lawful lk c (upto es n) (core_at lk c es n)
  upto_leads es zero c d h l = refl
  upto_leads [] (suc n) c d h l = absurd (omega arith)
  upto_leads (x ∷ es) (suc n) c d h l = (l.0, upto_leads es n (played lk x c) d (omega arith) l.1)

  -- a list of events from an opening on
  module _ (image : List ℕ) (last stripes : ℕ) (es : List Event) (end : Core)
      (leads : Leads lawful lk (opened image last stripes) es end) where
    abbrev pub begun : Core
    begun = opened image last stripes

    abbrev pub at : ℕ → Core
    at n = core_at lk (opened image last stripes) es n

    pub led : (n : ℕ) → n ≤ length es → Led lawful lk begun (upto es n) (at n)
    led n h = led_all lawful lk (upto es n) [] begun begun (at n) (led_opening lawful lk image last stripes)
        (upto_leads es n begun end h leads)

    pub rule_at : (n : ℕ) → n ≤ length es → Rule lawful lk (at n)
    rule_at n h = (led n h).beside.rule

    pub count_at : (n : ℕ) → n ≤ length es → (at n).events ≡ n
    count_at n h = (led n h).trace.count ∙ upto_length es n h

    -- the number of a client's attempt is how often it has begun
    pub number_at : (n : ℕ) → n ≤ length es → (i : ℕ) (v : Client) → At (at n).clients i v → v.is_gathered ≡ false →
        begins (suc i) es n ≡ v.attempt.number
    number_at n h i v at' out =
        sym (upto_begins (suc i) es n n (let z : n ≤ n = omega arith in z))
        ∙ (ap (begins (suc i) (upto es n)) (sym (upto_length es n h)) ∙ (led n h).trace.number i v at' out)

    -- a running attempt has begun before
    pub began_before : (n : ℕ) → n ≤ length es → (i : ℕ) (v : Client) → At (at n).clients i v →
        v.attempt.phase ≡ running →
        IsStepOf es (suc i) v.attempt.number v.attempt.began_at begin × (v.attempt.began_at < n)
    began_before n h i v at' run =
        let q = (led n h).trace.runs i v at' run in
        let less : v.attempt.began_at < length (upto es n) =
        in_range (upto es n) v.attempt.began_at (acts (suc i) begin) q.0.0 in
        let less' : v.attempt.began_at < n = (let z = upto_length es n h in omega (arith, z, less)) in (
          (
            upto_at es n v.attempt.began_at (acts (suc i) begin) q.0.0,
            sym (upto_begins (suc i) es n (suc v.attempt.began_at) (omega arith)) ∙ q.0.1,
          ),
          less',
        )

    -- what the event at a place needs is there
    pub may_at : (n : ℕ) (x : Event) → get_elem? es n ≡ some x → CanPlay lawful lk x (at n)
    may_at n x e = can_play lawful lk x (at n) (next_is es n x begun end leads e).0

    pub after_at : (n : ℕ) (x : Event) → get_elem? es n ≡ some x → at (suc n) ≡ played lk x (at n)
    after_at n x e = (next_is es n x begun end leads e).1
