-- The order of the running core beside the core's history: a record comes to the same position in
-- both, and a core has one history.
use Rattle.std.proofs.Common.{◌≡◌, ℕ, suc, ◌+◌, ⊎_elim, cond, eqb, ltb, List, [], ◌∷◌, length, map, refl, sym, ap, ◌∙◌}
use Rattle.std.proofs.Common.{subst, arith, add-one, zero, ◌-◌, ◌<◌, ◌≤◌, true, false, get_or}
use Rattle.std.proofs.lemmas.Bool.Decides.{nat_tests}
use Rattle.std.specs.List.{insert, list_all}
use Rattle.tx_memory.specs.Image.{In}
use Rattle.stm_core.specs.Client.{Client, Record, Stamp}
use Rattle.stm_core.specs.Event.{decision, Action, tick, validate, versioned, decides_at_once, passes, writer_record}
use Rattle.stm_core.specs.Core.{Core}
use Rattle.stm_core.specs.History.{ByPoint}
use Rattle.stm_core.specs.Theorem.{IsHistory}
use Rattle.stm_replay.specs.Seat.{blank}
use Rattle.stm_replay.specs.Placing.{Placed, place_among, put_in}
use Rattle.stm_replay.specs.Running.{Running, entry_of_record, entered}
use Rattle.stm_core.proofs.Lists.{nothing_in, by_bool}
use Rattle.stm_core.proofs.Orders.{in_cons}
use Rattle.stm_core.proofs.Steps.{by_case}
use Rattle.stm_core.proofs.Dating.{placed}
use Rattle.stm_core.proofs.Playing.{filed}

abbrev pub points_of : List Record → List ℕ
points_of h = map (λ (r : Record). r.point) h

-- the order of a history
abbrev pub order_of : List Record → Placed
order_of h = record { entries = map entry_of_record h; points = points_of h }

later_all : (p : ℕ) (h : List Record) → ((x : Record) → In x h → p < x.point) → list_all (ltb p) (points_of h) ≡ true
later_all p [] f = refl
later_all p (x ∷ h) f = let e : ltb p x.point ≡ true = (let l = f x (0, refl) in grind (arith, nat_tests)) in
    rw e (later_all p h (λ y i. f y (suc i.0, i.1)))

-- a record placed by its point is inserted at its position among the points
placed_map : {X : Type 0} (f : Record → X) (r : Record) (h : List Record) → ByPoint h →
    map f (placed r h) ≡ insert (map f h) (place_among (points_of h) r.point) (f r)
placed_map f r [] o = refl
placed_map f r (x ∷ h) o = by_bool (ltb r.point x.point)
    (λ e. let all : list_all (ltb r.point) (points_of h) ≡ true =
    later_all r.point h (λ y i. (let a = o.0 y i in let b : r.point < x.point = grind (arith, nat_tests) in
    omega arith)) in rw (e, all) refl)
    (λ e. rw (e, add-one (place_among (points_of h) r.point)) (ap (λ l. f x ∷ l) (placed_map f r h o.1)))

-- the position found from the back: all points from there on are later, and the one before is not
pub place_found : (l : List ℕ) (p n : ℕ) → n ≤ length l → ((i : ℕ) → n ≤ i → i < length l → p < get_or l i 0) →
    (0 < n → get_or l (n - 1) 0 ≤ p) → n ≡ place_among l p
place_found [] p n w f g = omega arith
place_found (x ∷ xs) p zero w f g = let all : list_all (ltb p) (x ∷ xs) ≡ true =
    later (x ∷ xs) (λ i l. f i (omega arith) l) in rw all refl
  where
    later : (l : List ℕ) → ((i : ℕ) → i < length l → p < get_or l i 0) → list_all (ltb p) l ≡ true
    later [] k = refl
    later (y ∷ l) k = let e : ltb p y ≡ true = (let a = k 0 (omega arith) in grind (arith, nat_tests)) in
        rw e (later l (λ i m. k (suc i) (omega arith)))
place_found (x ∷ xs) p (suc n) w f g =
    let last : get_or (x ∷ xs) n 0 ≤ p = subst (λ m. get_or (x ∷ xs) m 0 ≤ p) (let e : suc n - 1 ≡ n = omega arith in
    e) (g (omega arith)) in
    let some : list_all (ltb p) (x ∷ xs) ≡ false = earlier (x ∷ xs) n (omega arith) last in
    rw (some, add-one (place_among xs p)) (ap suc (place_found xs p n (omega arith)
    (λ i a b. f (suc i) (omega arith) (omega arith)) (λ a. before n a last)))
  where
    earlier : (l : List ℕ) (i : ℕ) → i < length l → get_or l i 0 ≤ p → list_all (ltb p) l ≡ false
    earlier [] i a b = absurd (omega arith)
    earlier (y ∷ l) zero a b = let e : ltb p y ≡ false = grind (arith, nat_tests) in rw e refl
    earlier (y ∷ l) (suc i) a b = by_bool (ltb p y) (λ e. rw e (earlier l i (omega arith) b)) (λ e. rw e refl)

    before : (n : ℕ) → 0 < n → get_or (x ∷ xs) n 0 ≤ p → get_or xs (n - 1) 0 ≤ p
    before zero a b = absurd (omega arith)
    before (suc n) a b = subst (λ m. get_or xs m 0 ≤ p) (let e : n ≡ suc n - 1 = omega arith in e) b

-- a record without what the running core does not keep
abbrev pub as_kept : Record → Record
as_kept r = record r { attempt = 0 }

-- the kept part of a client decides the kept part of the same record
pub decision_shown : (t : Stamp) (e : Action) (n : ℕ) (v : Client) →
    decision t e n (blank v) ≡ map as_kept (decision t e n v)
decision_shown t (tick from tag writes) n v =
    let r : Record = writer_record t (versioned t (from + 1) tag writes v).attempt in
    by_case (λ b. cond b (cond (decides_at_once (versioned t (from + 1) tag writes v)) (as_kept r ∷ []) []) [] ≡ map
    as_kept (cond b (cond (decides_at_once (versioned t (from + 1) tag writes v)) (r ∷ []) []) [])) (eqb n from)
    (λ e. by_case (λ b. cond b (as_kept r ∷ []) [] ≡ map as_kept (cond b (r ∷ []) []))
    (decides_at_once (versioned t (from + 1) tag writes v)) (λ z. refl) (λ z. refl))
    (λ e. refl)
decision_shown t (validate k) n v =
    let r : Record = writer_record t v.attempt in
    by_case (λ b. cond b (cond (eqb (v.attempt.passed + 1) (length v.attempt.reads)) (as_kept r ∷ []) []) [] ≡ map
    as_kept (cond b (cond (eqb (v.attempt.passed + 1) (length v.attempt.reads)) (r ∷ []) []) [])) (passes k n v)
    (λ e. by_case (λ b. cond b (as_kept r ∷ []) [] ≡ map as_kept (cond b (r ∷ []) []))
    (eqb (v.attempt.passed + 1) (length v.attempt.reads)) (λ z. refl) (λ z. refl))
    (λ e. refl)
decision_shown t _ n v = refl

-- a decision comes to the same position in the order as in the history
pub entered_order : (kept rs : List Record) → kept ≡ map as_kept rs → (s : Running) (h : List Record) → ByPoint h →
    s.order ≡ order_of h → (entered kept s).order ≡ order_of (filed rs h)
entered_order kept rs same s h by o = subst (λ l. (entered l s).order ≡ order_of (filed rs h)) (sym same) (go rs)
  where
    go : (l : List Record) → (entered (map as_kept l) s).order ≡ order_of (filed l h)
    go [] = o
    go (r ∷ l) = ap (put_in (entry_of_record r) r.point) o ∙ (λ i. record {
      entries = sym (placed_map entry_of_record r h by) i;
      points = sym (placed_map (λ (x : Record). x.point) r h by) i;
    })

-- if two lists begin with the same record, the first one is by point steps, and its records are
-- records of the second, then the rest of the second has the rest of the first
behind_first : (x y : Record) (h g : List Record) → x ≡ y → ByPoint (x ∷ h) →
    ((r : Record) → In r (x ∷ h) → In r (y ∷ g)) → (r : Record) → In r h → In r g
behind_first x y h g same o f r i = ⊎_elim (λ e. absurd (let a = o.0 r i in let c : x.point ≡ r.point =
    ap (λ (z : Record). z.point) (same ∙ e) in omega arith)) (λ j. j) (in_cons y r g (f r (suc i.0, i.1)))

-- two lists by point steps with the same records are the same list
one_list : (h g : List Record) → ByPoint h → ByPoint g → ((r : Record) → In r h → In r g) →
    ((r : Record) → In r g → In r h) → h ≡ g
one_list [] [] o p f b = refl
one_list [] (y ∷ g) o p f b = absurd (nothing_in y (b y (0, refl)))
one_list (x ∷ h) [] o p f b = absurd (nothing_in x (f x (0, refl)))
one_list (x ∷ h) (y ∷ g) o p f b =
    let rest : h ≡ g = one_list h g o.1 p.1 (behind_first x y h g same o f) (behind_first y x g h (sym same) p b) in
    λ i. same i ∷ rest i
  where
    same : x ≡ y
    same = ⊎_elim (λ e. sym e) (λ j. ⊎_elim (λ e. e) (λ k. absurd (let a = p.0 x j in let c = o.0 y k in omega arith))
        (in_cons x y h (b y (0, refl)))) (in_cons y x g (f x (0, refl)))

-- a core has one history
pub one_history : (c : Core) (h g : List Record) → IsHistory c h → IsHistory c g → h ≡ g
one_history c h g a b = one_list h g a.ascending b.ascending (λ r i. let q = a.only r i in
    b.every q.0 q.1 r q.2 q.3) (λ r i. let q = b.only r i in a.every q.0 q.1 r q.2 q.3)
