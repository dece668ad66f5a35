-- Walks of lists: free blocks and bookings.
use Rattle.std.proofs.Common.{◌≡◌, inl, inr, ℕ, ◌+◌, ◌^◌, ◌<◌, ◌≤◌, Bool, true, cond, List, [], ◌∷◌, zero, suc, length}
use Rattle.std.proofs.Common.{refl, ap, subst, arith, nat_eq}
use Rattle.std.specs.Prelude.{Ok, Err}
use Rattle.std.proofs.lemmas.Bool.Decides.{nat_tests}
use Rattle.std.proofs.lemmas.Bool.{cases_lt}
use Rattle.tx_alloc.specs.Pool.{IsBlock, held, Free}
use Rattle.tx_alloc.proofs.Chains.{held_first}
use Rattle.tx_alloc.specs.Rows.{Rows, times}
use Rattle.tx_alloc.proofs.Times.{times_first}
use Rattle.vac_bookings.specs.Bookings.{Linked, place_code}
use Rattle.vac_audit.specs.Walk.{walk_free, walk_bookings, is_in_order, is_booking}
use Rattle.vac_audit.proofs.Sound.{Each, IsBookingRow}
use Rattle.vac_audit.specs.declared.Flaw.TheVariants.{Shared, Order, Bookings}
use Rattle.vac_audit.proofs.Steps.{both_ok, test_ok, test_with, enter_ok, enter_end, enter_block, then_with, IsFresh}

-- a walk reached more blocks, each for the first time; `count` says how often it reached each
-- block
pub record Reaches (n : ℕ) (seen seen' : List ℕ) (count : ℕ → ℕ) (many : ℕ) : Type 0 where
  pub counts : (x : ℕ) → held x seen' ≡ count x + held x seen
  pub once : (x : ℕ) → 0 < count x → held x seen' ≡ 1
  pub blocks : (x : ℕ) → 0 < count x → IsBlock n x
  pub more : length seen' ≡ many + length seen

pub record FreeWalked (m : ℕ → ℕ) (n a : ℕ) (seen seen' : List ℕ) (bs : List ℕ) : Type 0 where
  pub free : Free m n (m a) bs
  pub reaches : Reaches n seen seen' (λ x. held x bs) (length bs)

pub none_reached : (n : ℕ) (seen : List ℕ) → Reaches n seen seen (λ x. 0) 0
none_reached n seen = record {
  counts = λ x. omega arith;
  once = λ x l. absurd (omega arith);
  blocks = λ x l. absurd (omega arith);
  more = omega arith;
}

-- one block, and then more
pub one_reached : (n : ℕ) (seen seen' : List ℕ) (p : ℕ) (count : ℕ → ℕ) (many : ℕ) → IsBlock n p → held p seen ≡ 0 →
    Reaches n (p ∷ seen) seen' count many
    → Reaches n seen seen' (λ x. cond (nat_eq p x) 1 0 + count x) (suc many)
one_reached n seen seen' p count many block fresh h = record {
  counts = λ x. omega (arith, h.counts x);
  once = λ x l. elim (cases_lt 0 (count x)) [
    | inl some ↦ h.once x some
    | inr none ↦ (
        let e : p ≡ x = grind (arith, nat_tests) in
        let f : held x seen ≡ 0 = subst (λ (z : ℕ). held z seen ≡ 0) e fresh in
        let t : nat_eq p x ≡ true = grind (arith, nat_tests) in
        omega (arith, h.counts x, ap (λ (b : Bool). cond {A = ℕ} b 1 0) t))
  ];
  blocks = λ x l. elim (cases_lt 0 (count x)) [
    | inl some ↦ h.blocks x some
    | inr none ↦ (let e : p ≡ x = grind (arith, nat_tests) in subst (λ (z : ℕ). IsBlock n z) e block)
  ];
  more = omega (arith, h.more);
}

pub free_walked : (m : ℕ → ℕ) (n levels a : ℕ) (seen : List ℕ) (x : List ℕ × List ℕ) →
    walk_free m n levels a seen ≡ Ok x → FreeWalked m n a seen x.1 x.0
free_walked m n zero a seen x e = absurd (let q : Err (Shared a) ≡ Ok x = e in cc)
free_walked m n (suc levels) a seen x e = enter_ok _ m n a seen _ _ x e
    (λ z q. let r : ([], seen) ≡ x = cc in
    subst (λ (y : List ℕ × List ℕ). FreeWalked m n a seen y.1 y.0) r
    (record { free = z; reaches = none_reached n seen }))
    (λ p h q. both_ok _ (walk_free m n levels p (p ∷ seen)) _ x q (λ y f g.
    let r : (p ∷ y.0, y.1) ≡ x = cc in
    let w = free_walked m n levels p (p ∷ seen) y f in
    subst (λ (y : List ℕ × List ℕ). FreeWalked m n a seen y.1 y.0) r
    (record { free = (h.at, h.block, w.free); reaches = one_reached n seen y.1 p _ _ h.block h.fresh w.reaches })))

-- the walk of free blocks that exist and were not reached
pub record FreeFound (m : ℕ → ℕ) (n levels a : ℕ) (seen bs : List ℕ) : Type 0 where
  pub seen' : List ℕ
  pub is : walk_free m n levels a seen ≡ Ok (bs, seen')
  pub reaches : Reaches n seen seen' (λ x. held x bs) (length bs)

pub free_found : (m : ℕ → ℕ) (n levels a : ℕ) (seen bs : List ℕ) → Free m n (m a) bs → length bs < levels →
    ((x : ℕ) → 0 < held x bs → held x bs + held x seen ≡ 1) → FreeFound m n levels a seen bs
free_found m n zero a seen bs f l d = absurd (omega arith)
free_found m n (suc levels) a seen [] f l d = record {
  seen' = seen;
  is = enter_end m n a seen _ _ _ f refl;
  reaches = none_reached n seen;
}
free_found m n (suc levels) a seen (b ∷ bs) (e, bb, f) l d =
    let here : 0 < held b (b ∷ bs) = held_first b bs in
    let one : held b (b ∷ bs) ≡ 1 + held b bs = grind (arith, nat_tests) in
    let fresh : IsFresh m n a seen b = record { at = e; block = bb; fresh = omega (arith, d b here) } in
    let w = free_found m n levels b (b ∷ seen) bs f (omega arith) (λ x o. omega (arith, d x (omega (arith, o)))) in
    record {
      seen' = w.seen';
      is = enter_block m n a seen _ _ b _ fresh (then_with (walk_free m n levels b (b ∷ seen)) _ (
        bs,
        w.seen',
      ) _ w.is refl);
      reaches = one_reached n seen w.seen' b _ _ fresh.block fresh.fresh w.reaches;
    }

pub record ListWalked (m : ℕ → ℕ) (n : ℕ) (tables : ℕ → Rows) (a lo : ℕ) (seen seen' : List ℕ) (rs : Rows) :
    Type 0 where
  pub linked : Linked m n (m a) lo rs
  pub rows : Each (IsBookingRow m tables) rs
  pub reaches : Reaches n seen seen' (λ x. times x rs) (length rs)

-- the word of the kind is the first one
pub kind_word : (m : ℕ → ℕ) (p : ℕ) → m (p + 0) ≡ m p
kind_word m p = ap m (omega arith)

-- the meaning of the tests of a booking
pub record InOrder (m : ℕ → ℕ) (p lo : ℕ) : Type 0 where
  pub kind : m p < 3
  pub some : 1 ≤ m (p + 1)
  pub few : m (p + 1) < 2 ^ 32
  pub low : lo ≤ place_code m p

pub in_order : (m : ℕ → ℕ) (p lo : ℕ) → is_in_order m p lo ≡ true → InOrder m p lo
in_order m p lo e = record {
  kind = grind (arith, nat_tests);
  some = grind (arith, nat_tests);
  few = grind (arith, nat_tests);
  low = grind (arith, nat_tests);
}

pub order_test : (m : ℕ → ℕ) (p lo : ℕ) → InOrder m p lo → is_in_order m p lo ≡ true
order_test m p lo h = let a = h.kind in let b = h.some in let c = h.few in let d = h.low in grind (arith, nat_tests)

pub is_row : (m : ℕ → ℕ) (tables : ℕ → Rows) (p : ℕ) → is_booking m tables p ≡ true → 1 ≤ m (p + 1) →
    IsBookingRow m tables (place_code m p, p)
is_row m tables p e i = record {
  id = i;
  some = grind (arith, nat_tests);
  few = grind (arith, nat_tests);
  sum = grind (arith, nat_tests);
  item = grind (arith, nat_tests);
}

pub row_test : (m : ℕ → ℕ) (tables : ℕ → Rows) (k p : ℕ) → IsBookingRow m tables (k, p) → is_booking m tables p ≡ true
row_test m tables k p h = let a = h.some in let b = h.few in let c = h.sum in let d = h.item in grind (arith, nat_tests)

pub list_walked : (m : ℕ → ℕ) (n : ℕ) (tables : ℕ → Rows) (levels a lo : ℕ) (seen : List ℕ) (x : Rows × List ℕ) →
    walk_bookings m n tables levels a lo seen ≡ Ok x → ListWalked m n tables a lo seen x.1 x.0
list_walked m n tables zero a lo seen x e = absurd (let q : Err (Shared a) ≡ Ok x = e in cc)
list_walked m n tables (suc levels) a lo seen x e = enter_ok _ m n a seen _ _ x e
    (λ z q. let r : ([], seen) ≡ x = cc in
    subst (λ (y : Rows × List ℕ). ListWalked m n tables a lo seen y.1 y.0) r
    (record { linked = z; rows = tt; reaches = none_reached n seen }))
    (λ p h q. test_ok _ (is_in_order m p lo) (Order p) _ x q
    (λ t q'. test_ok _ (is_booking m tables p) (Bookings p) _ x q' (λ u q''.
    both_ok _ (walk_bookings m n tables levels (p + 3) (place_code m p + 1) (p ∷ seen)) _ x q'' (λ y f g.
    let r : ((place_code m p, p) ∷ y.0, y.1) ≡ x = cc in
    let w = list_walked m n tables levels (p + 3) (place_code m p + 1) (p ∷ seen) y f in
    let i = in_order m p lo t in
    subst (λ (y : Rows × List ℕ). ListWalked m n tables a lo seen y.1 y.0) r (record {
      linked = (
        record {
          at = h.at;
          block = h.block;
          kind = omega (arith, i.kind, kind_word m p);
          id = i.few;
          key = refl;
          low = i.low;
        },
        w.linked,
      );
      rows = (is_row m tables p u i.some, w.rows);
      reaches = one_reached n seen y.1 p _ _ h.block h.fresh w.reaches;
    })))))

pub record ListFound (m : ℕ → ℕ) (n : ℕ) (tables : ℕ → Rows) (levels a lo : ℕ) (seen : List ℕ) (rs : Rows) :
    Type 0 where
  pub seen' : List ℕ
  pub is : walk_bookings m n tables levels a lo seen ≡ Ok (rs, seen')
  pub reaches : Reaches n seen seen' (λ x. times x rs) (length rs)

pub list_found : (m : ℕ → ℕ) (n : ℕ) (tables : ℕ → Rows) (levels a lo : ℕ) (seen : List ℕ) (rs : Rows) →
    Linked m n (m a) lo rs → Each (IsBookingRow m tables) rs → length rs < levels
    → ((x : ℕ) → 0 < times x rs → times x rs + held x seen ≡ 1) → ListFound m n tables levels a lo seen rs
list_found m n tables zero a lo seen rs f o l d = absurd (omega arith)
list_found m n tables (suc levels) a lo seen [] f o l d = record {
  seen' = seen;
  is = enter_end m n a seen _ _ _ f refl;
  reaches = none_reached n seen;
}
list_found m n tables (suc levels) a lo seen ((k, b) ∷ rs) (h, f) (r, o) l d =
    let here : 0 < times b ((k, b) ∷ rs) = times_first k b rs in
    let one : times b ((k, b) ∷ rs) ≡ 1 + times b rs = grind (arith, nat_tests) in
    let fresh : IsFresh m n a seen b = record { at = h.at; block = h.block; fresh = omega (arith, d b here) } in
    let key : place_code m b ≡ k = h.key in
    let f' : Linked m n (m (b + 3)) (place_code m b + 1) rs = rw key f in
    let w = list_found m n tables levels (b + 3) (place_code m b + 1) (b ∷ seen) rs f' o (omega arith)
    (λ x o'. omega (arith, d x (omega (arith, o')))) in
    let t : is_in_order m b lo ≡ true = order_test m b lo (record {
      kind = omega (arith, h.kind, kind_word m b);
      some = r.id;
      few = h.id;
      low = rw key h.low;
    }) in
    let u : is_booking m tables b ≡ true = row_test m tables k b r in
    record {
      seen' = w.seen';
      is = enter_block m n a seen _ _ b _ fresh (test_with (is_in_order m b lo) (Order b) _ _ t
          (test_with (is_booking m tables b) (Bookings b) _ _ u
          (then_with (walk_bookings m n tables levels (b + 3) (place_code m b + 1) (b ∷ seen)) _ (rs, w.seen') _ w.is
          (ap (λ (z : ℕ). Ok ((z, b) ∷ rs, w.seen')) key))));
      reaches = one_reached n seen w.seen' b _ _ fresh.block fresh.fresh w.reaches;
    }
