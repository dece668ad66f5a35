-- Parts of linearizations: calls are left out or get another operation and reply, in the same order.
use Rattle.std.proofs.Common.{◌≡◌, ℕ, ◌≤◌, ◌<◌, ◌==◌, Bool, true, false, cond, suc, zero, List, [], ◌∷◌, ◌++◌, refl}
use Rattle.std.proofs.Common.{sym, ap, ◌∙◌, subst, arith, Option, Some, None, ◌⊎◌, inl, inr, append_assoc}
use Rattle.std.specs.Prelude.{is_some, nat_lt}
use Rattle.std.specs.List.{filter_map, cons_option}
use Rattle.std.proofs.lemmas.Bool.Decides.{nat_tests}
use Rattle.judge_object.specs.declared.span.TheConstants.{NEVER}
use Rattle.judge_object.specs.Laws.{IsAt}
use Rattle.judge_object.specs.Rules.{Rules, IsAnswerOf}
use Rattle.judge_object.specs.Call.{Call, EachCall, is_completed}
use Rattle.judge_object.specs.Linear.{GiveReplies, CallsTakeTime, CallsAreSequential}
use Rattle.judge_object.specs.Linear.{CallsKeepPrecedence}
use Rattle.judge_object.specs.Orders.{of_client, IsOrderOf, IsLinearizable}

none_some : {X : Type 0} (x : X) → None ≡ Some x → ⊥
none_some x e = cc

some_same : {X : Type 0} (x y : X) → Some x ≡ Some y → x ≡ y
some_same x y e = cc

either : (i j : ℕ) → (i < j) ⊎ ((i ≡ j) ⊎ (j < i))
either zero zero = inr (inl refl)
either zero (suc j) = inl (omega arith)
either (suc i) zero = inr (inr (omega arith))
either (suc i) (suc j) = elim (either i j) [
  | inl less ↦ inl (omega (arith, less))
  | inr more ↦ elim more [
    | inl same ↦ inr (inl (ap suc same))
    | inr less ↦ inr (inr (omega (arith, less)))
  ]
]

pub filter_append : {X Y : Type 0} (f : X → Option Y) (xs ys : List X) →
    filter_map f (xs ++ ys) ≡ filter_map f xs ++ filter_map f ys
filter_append f [] ys = refl
filter_append f (x ∷ xs) ys =
    elim (f x) as
    (λ o. cons_option o (filter_map f (xs ++ ys)) ≡ cons_option o (filter_map f xs) ++ filter_map f ys) [
      | None ↦ filter_append f xs ys
      | Some y ↦ ap (λ l. y ∷ l) (filter_append f xs ys)
    ]

own_client : (n : ℕ) → (n == n) ≡ true
own_client n = grind (arith, nat_tests)

module _ {O : Type 0} where
  each_client : (P : Call O → Type 0) (k : ℕ) (cs : List (Call O)) → EachCall P cs → EachCall P (of_client k cs)
  each_client P k [] h = tt
  each_client P k (c ∷ cs) h =
      elim (c.client == k) as (λ b. EachCall P (cond b (c ∷ of_client k cs) (of_client k cs))) [
        | true ↦ (h.0, each_client P k cs h.1)
        | false ↦ each_client P k cs h.1
      ]

  tail_of : (P : Call O → Type 0) (b : Bool) (c : Call O) (cs : List (Call O)) → EachCall P (cond b (c ∷ cs) cs) →
      EachCall P cs
  tail_of P true c cs h = h.1
  tail_of P false c cs h = h

  head_of : (P : Call O → Type 0) (b : Bool) (c : Call O) (cs : List (Call O)) → b ≡ true →
      EachCall P (cond b (c ∷ cs) cs) → P c
  head_of P true c cs e h = h.0
  head_of P false c cs e h = absurd (let never : false ≡ true = e in cc)

  each_from : (P : Call O → Type 0) (cs : List (Call O)) → ((k : ℕ) → EachCall P (of_client k cs)) → EachCall P cs
  each_from P [] h = tt
  each_from P (c ∷ cs) h = (
    head_of P (c.client == c.client) c (of_client c.client cs) (own_client c.client) (h c.client),
    each_from P cs (λ k. tail_of P (c.client == k) c (of_client k cs) (h k)),
  )

  each_front : (P : Call O → Type 0) (xs ys : List (Call O)) → EachCall P (xs ++ ys) → EachCall P xs
  each_front P [] ys h = tt
  each_front P (x ∷ xs) ys h = (h.0, each_front P xs ys h.1)

  -- what holds of each call of a history holds of each call of an order of the history
  pub each_ordered : (P : Call O → Type 0) (calls order : List (Call O)) → IsOrderOf calls order → EachCall P calls →
      EachCall P order
  each_ordered P calls order h each =
      each_front P order h.left (each_from P (order ++ h.left) (λ k.
      subst (EachCall P) (sym (h.merges k)) (each_client P k calls each)))

-- a call in the place of another: of the same client, at the same time
pub record Replaces {O : Type 0} (c d : Call O) : Type 0 where
  pub client : d.client ≡ c.client
  pub begin : d.begin ≡ c.begin
  pub end : d.end ≡ c.end

-- a state follows the state after a call, if the part of the call is made from it; a part without a known reply may be
-- left out
abbrev pub Follows : {S O R : Type 0} → Rules S O R → (S → S → Type 0) → S → S → Option (Call O) → Type 0
Follows X Rel s p None = Rel s p
Follows X Rel s p (Some d) = (IsAnswerOf X (X.run p d.op).1 d.reply × Rel s (X.run p d.op).0)
    ⊎ ((is_some d.reply ≡ false) × Rel s p)

abbrev pub step_from : (ℕ → ℕ) → ℕ → ℕ
step_from from zero = zero
step_from from (suc i) = suc (from i)

step_grows : (from : ℕ → ℕ) → ((i j : ℕ) → i < j → from i < from j) → (i j : ℕ) → i < j →
    step_from from i < step_from from j
step_grows from grows zero zero h = absurd (omega (arith, h))
step_grows from grows zero (suc j) h = omega arith
step_grows from grows (suc i) zero h = absurd (omega (arith, h))
step_grows from grows (suc i) (suc j) h =
    let less : i < j = omega (arith, h) in
    let more = grows i j less in omega (arith, more)

other_client : (a b : ℕ) → (a ≡ b → ⊥) → (a == b) ≡ false
other_client a b h = elim (either a b) [
  | inl less ↦ grind (arith, nat_tests, less)
  | inr more ↦ elim more [
    | inl same ↦ absurd (h same)
    | inr less ↦ grind (arith, nat_tests, less)
  ]
]

same_number : (a b : ℕ) → (a == b) ≡ true → a ≡ b
same_number a b e = grind (arith, nat_tests, e)

-- calls in the place of some of others, in their order
record Embeds {O : Type 0} (cs ds : List (Call O)) : Type 0 where
  pub from : ℕ → ℕ
  pub grows : (i j : ℕ) → i < j → from i < from j
  pub at : (i : ℕ) (d : Call O) → IsAt ds i d → (c : Call O) × (IsAt cs (from i) c) × Replaces c d

module _ {O : Type 0} where
  no_calls : Embeds {O = O} [] []
  no_calls = record { from = λ i. i; grows = λ i j h. h; at = λ i d h. absurd (none_some d h) }

  left_out : (c : Call O) (cs ds : List (Call O)) → Embeds cs ds → Embeds (c ∷ cs) ds
  left_out c cs ds e = record {
    from = λ i. suc (e.from i);
    grows = λ i j h. let less = e.grows i j h in omega (arith, less);
    at = e.at;
  }

  step_at : (c d : Call O) (cs ds : List (Call O)) (e : Embeds cs ds) → Replaces c d → (i : ℕ) (x : Call O) →
      IsAt (d ∷ ds) i x → (y : Call O) × (IsAt (c ∷ cs) (step_from e.from i) y) × Replaces y x
  step_at c d cs ds e r zero x h = (c, refl, subst (Replaces c) (some_same d x h) r)
  step_at c d cs ds e r (suc i) x h = e.at i x h

  one_more : (c d : Call O) (cs ds : List (Call O)) → Embeds cs ds → Replaces c d → Embeds (c ∷ cs) (d ∷ ds)
  one_more c d cs ds e r = record {
    from = step_from e.from;
    grows = step_grows e.from e.grows;
    at = step_at c d cs ds e r;
  }

  module _ (cs ds : List (Call O)) (e : Embeds cs ds) where
    take_time : CallsTakeTime cs → CallsTakeTime ds
    take_time h i a at =
        let x = e.at i a at in
        let was = h (e.from i) x.0 x.1 in
        omega (arith, was, x.2.begin, x.2.end)

    are_sequential : CallsAreSequential cs → CallsAreSequential ds
    are_sequential h i j a b at bt less client =
        let x = e.at i a at in
        let y = e.at j b bt in
        let was = h (e.from i) (e.from j) x.0 y.0 x.1 y.1 (e.grows i j less)
        (sym x.2.client ∙ client ∙ y.2.client) in
        omega (arith, was, x.2.end, y.2.begin)

    keep_precedence : CallsKeepPrecedence cs → CallsKeepPrecedence ds
    keep_precedence h i j a b at bt less =
        let x = e.at i a at in
        let y = e.at j b bt in
        let before : x.0.end < y.0.begin = omega (arith, less, x.2.end, y.2.begin) in
        let was = h (e.from i) (e.from j) x.0 y.0 x.1 y.1 before in
        ordered i j was
      where
        ordered : (i j : ℕ) → e.from i < e.from j → i < j
        ordered i j h = elim (either i j) [
          | inl less ↦ less
          | inr more ↦ elim more [
            | inl same ↦ let e : e.from i ≡ e.from j = ap e.from same in absurd (omega (arith, e, h))
            | inr less ↦ let e = e.grows j i less in absurd (omega (arith, e, h))
          ]
        ]

  -- what holds of the call at each position holds of each call
  each_at : (P : Call O → Type 0) (cs : List (Call O)) → ((i : ℕ) (c : Call O) → IsAt cs i c → P c) → EachCall P cs
  each_at P [] h = tt
  each_at P (c ∷ cs) h = (h zero c refl, each_at P cs (λ i d at. h (suc i) d at))

  pub each_both : (P Q : Call O → Type 0) (cs : List (Call O)) → EachCall P cs → EachCall Q cs →
      EachCall (λ c. P c × Q c) cs
  each_both P Q [] p q = tt
  each_both P Q (c ∷ cs) p q = ((p.0, q.0), each_both P Q cs p.1 q.1)

  each_then : (P Q : Call O → Type 0) → ((c : Call O) → P c → Q c) → (cs : List (Call O)) → EachCall P cs →
      EachCall Q cs
  each_then P Q f [] h = tt
  each_then P Q f (c ∷ cs) h = (f c h.0, each_then P Q f cs h.1)

  each_join : (P : Call O → Type 0) (xs ys : List (Call O)) → EachCall P xs → EachCall P ys → EachCall P (xs ++ ys)
  each_join P [] ys p q = q
  each_join P (x ∷ xs) ys p q = (p.0, each_join P xs ys p.1 q)

  -- none of these calls is of a client
  none_of_client : (k : ℕ) (cs : List (Call O)) → EachCall (λ b. b.client ≡ k → ⊥) cs → of_client k cs ≡ []
  none_of_client k [] h = refl
  none_of_client k (c ∷ cs) h =
      ap (λ t. cond t (c ∷ of_client k cs) (of_client k cs)) (other_client c.client k h.0) ∙ none_of_client k cs h.1

  client_append : (k : ℕ) (xs ys : List (Call O)) → of_client k (xs ++ ys) ≡ of_client k xs ++ of_client k ys
  client_append k [] ys = refl
  client_append k (x ∷ xs) ys =
      let rest = client_append k xs ys in
      elim (x.client == k) as (λ b. cond b (x ∷ of_client k (xs ++ ys)) (of_client k (xs ++ ys))
      ≡ cond b (x ∷ of_client k xs) (of_client k xs) ++ of_client k ys) [
        | true ↦ ap (λ l. x ∷ l) rest
        | false ↦ rest
      ]

  -- lists of which each client's calls are those of one list, behind those of another
  abbrev Splits : List (Call O) → List (Call O) → List (Call O) → Type 0
  Splits all kept left = (k : ℕ) → of_client k all ≡ of_client k kept ++ of_client k left

  keep_one : (d : Call O) (all kept left : List (Call O)) → Splits all kept left → Splits (d ∷ all) (d ∷ kept) left
  keep_one d all kept left h k =
      let rest = h k in
      elim (d.client == k) as (λ b. cond b (d ∷ of_client k all) (of_client k all)
      ≡ cond b (d ∷ of_client k kept) (of_client k kept) ++ of_client k left) [
        | true ↦ ap (λ l. d ∷ l) rest
        | false ↦ rest
      ]

  both_empty : (xs ys : List (Call O)) → [] ≡ xs ++ ys → (xs ≡ []) × (ys ≡ [])
  both_empty [] ys e = (refl, sym e)
  both_empty (x ∷ xs) ys e = absurd (let never : [] ≡ x ∷ (xs ++ ys) = e in cc)

  leave_one : (d : Call O) (all kept left : List (Call O)) → of_client d.client all ≡ [] → Splits all kept left →
      Splits (d ∷ all) kept (d ∷ left)
  leave_one d all kept left none h k = go (d.client == k) refl
    where
      go : (b : Bool) → (d.client == k) ≡ b → of_client k (d ∷ all) ≡ of_client k kept ++ of_client k (d ∷ left)
      go false e =
          ap (λ t. cond t (d ∷ of_client k all) (of_client k all)) e ∙ h k
          ∙ ap (λ l. of_client k kept ++ l) (sym (ap (λ t. cond t (d ∷ of_client k left) (of_client k left)) e))
      go true e =
          let empty : of_client k all ≡ [] = subst (λ n. of_client n all ≡ []) (same_number d.client k e) none in
          let both = both_empty (of_client k kept) (of_client k left) (sym empty ∙ h k) in
          ap (λ t. cond t (d ∷ of_client k all) (of_client k all)) e ∙ ap (λ l. d ∷ l) empty
          ∙ sym (ap (λ l. l ++ of_client k (d ∷ left)) both.0
          ∙ ap (λ t. cond t (d ∷ of_client k left) (of_client k left)) e ∙ ap (λ l. d ∷ l) both.1)

module _ {O : Type 0} (f : Call O → Option (Call O)) (spans : (c d : Call O) → f c ≡ Some d → Replaces c d) where
  -- the part of a pending call is pending
  stays : (c d : Call O) → f c ≡ Some d → is_completed c ≡ false → is_completed d ≡ false
  stays c d e never = ap (λ n. nat_lt n NEVER) ((spans c d e).end) ∙ never

  filter_client : (k : ℕ) (cs : List (Call O)) → of_client k (filter_map f cs) ≡ filter_map f (of_client k cs)
  filter_client k [] = refl
  filter_client k (c ∷ cs) = go (f c) refl (c.client == k) refl (filter_client k cs)
    where
      go : (o : Option (Call O)) → f c ≡ o → (b : Bool) → (c.client == k) ≡ b →
          of_client k (filter_map f cs) ≡ filter_map f (of_client k cs) →
          of_client k (cons_option o (filter_map f cs)) ≡
          filter_map f (cond b (c ∷ of_client k cs) (of_client k cs))
      go None e true t h = rw e h
      go None e false t h = h
      go (Some d) e true t h =
          let same : (d.client == k) ≡ true = ap (λ n. n == k) ((spans c d e).client) ∙ t in
          rw (e, same) (ap (λ l. d ∷ l) h)
      go (Some d) e false t h =
          let same : (d.client == k) ≡ false = ap (λ n. n == k) ((spans c d e).client) ∙ t in
          rw same h

  pending_option : (c : Call O) (o : Option (Call O)) → f c ≡ o → is_completed c ≡ false → (rest : List (Call O)) →
      EachCall (λ d. is_completed d ≡ false) rest → EachCall (λ d. is_completed d ≡ false) (cons_option o rest)
  pending_option c None e h rest more = more
  pending_option c (Some d) e h rest more = (stays c d e h, more)

  all_pending : (cs : List (Call O)) → EachCall (λ c. is_completed c ≡ false) cs →
      EachCall (λ d. is_completed d ≡ false) (filter_map f cs)
  all_pending [] h = tt
  all_pending (c ∷ cs) h = pending_option c (f c) refl h.0 (filter_map f cs) (all_pending cs h.1)

  -- an order of the parts, without some of the last ones
  order_part : (calls order kept left : List (Call O)) → IsOrderOf calls order → Splits (filter_map f order) kept left →
      EachCall (λ d. is_completed d ≡ false) left → IsOrderOf (filter_map f calls) kept
  order_part calls order kept left h splits pending = record {
    left = left ++ filter_map f h.left;
    merges = λ k.
        client_append k kept (left ++ filter_map f h.left)
        ∙ ap (λ l. of_client k kept ++ l) (client_append k left (filter_map f h.left))
        ∙ sym (append_assoc (of_client k kept) (of_client k left) (of_client k (filter_map f h.left)))
        ∙ ap (λ l. l ++ of_client k (filter_map f h.left)) (sym (splits k))
        ∙ sym (client_append k (filter_map f order) (filter_map f h.left))
        ∙ ap (of_client k) (sym (filter_append f order h.left))
        ∙ filter_client k (order ++ h.left) ∙ ap (filter_map f) (h.merges k) ∙ sym (filter_client k calls);
    never = each_join (λ d. is_completed d ≡ false) left (filter_map f h.left) pending (all_pending h.left h.never);
  }

  -- no part of these calls is of the client
  none_left : (k : ℕ) (cs : List (Call O)) → of_client k cs ≡ [] → of_client k (filter_map f cs) ≡ []
  none_left k cs e = filter_client k cs ∙ ap (filter_map f) e

  module _ {S R : Type 0} (X : Rules S O R) (Rel : S → S → Type 0) (Fit : Call O → Type 0)
      (pends : (c d : Call O) → Fit c → f c ≡ Some d → is_some d.reply ≡ false → is_completed d ≡ false)
      (last : (c d b : Call O) → Fit c → Fit b → f c ≡ Some d → is_some d.reply ≡ false → c.end ≤ b.begin → ⊥)
      (steps : (s p : S) (c : Call O) → Rel s p → Fit c → IsAnswerOf X (X.run s c.op).1 c.reply →
      Follows X Rel (X.run s c.op).0 p (f c)) where
    -- the parts of calls that are in order, and what is left out of them
    record Parts (p : S) (cs : List (Call O)) : Type 0 where
      pub kept : List (Call O)
      pub left : List (Call O)
      pub embeds : Embeds cs kept
      pub replies : GiveReplies X p kept
      pub pending : EachCall (λ d. is_completed d ≡ false) left
      pub splits : Splits (filter_map f cs) kept left

    -- no later call is of the client of a call whose part may be left out
    alone : (c d : Call O) (cs : List (Call O)) → f c ≡ Some d → is_some d.reply ≡ false → EachCall Fit (c ∷ cs) →
        CallsAreSequential (c ∷ cs) → of_client d.client cs ≡ []
    alone c d cs e never fit turns =
        let same = (spans c d e).client in
        none_of_client d.client cs (each_then (λ b. Fit b × (b.client ≡ d.client → c.end ≤ b.begin))
        (λ b. b.client ≡ d.client → ⊥) (λ b both client. last c d b fit.0 both.0 e never (both.1 client)) cs
        (each_both Fit (λ b. b.client ≡ d.client → c.end ≤ b.begin) cs fit.1
        (each_at (λ b. b.client ≡ d.client → c.end ≤ b.begin) cs (λ j b at client.
        turns zero (suc j) c b refl at (omega arith) (sym same ∙ sym client)))))

    with_part : (s p : S) (c : Call O) (cs : List (Call O)) (o : Option (Call O)) → f c ≡ o → EachCall Fit (c ∷ cs) →
        CallsAreSequential (c ∷ cs) → Follows X Rel s p o → ((q : S) → Rel s q → Parts q cs) → Parts p (c ∷ cs)
    with_part s p c cs None e fit turns next rest =
        let r = rest p next in record {
          kept = r.kept;
          left = r.left;
          embeds = left_out c cs r.kept r.embeds;
          replies = r.replies;
          pending = r.pending;
          splits = λ k. ap (λ x. of_client k (cons_option x (filter_map f cs))) e ∙ r.splits k;
        }
    with_part s p c cs (Some d) e fit turns next rest = elim next [
      | inl done ↦
          let r = rest (X.run p d.op).0 done.1 in record {
            kept = d ∷ r.kept;
            left = r.left;
            embeds = one_more c d cs r.kept r.embeds (spans c d e);
            replies = (done.0, r.replies);
            pending = r.pending;
            splits = λ k. ap (λ x. of_client k (cons_option x (filter_map f cs))) e
                ∙ keep_one d (filter_map f cs) r.kept r.left r.splits k;
          }
      | inr never ↦
          let r = rest p never.1 in record {
            kept = r.kept;
            left = d ∷ r.left;
            embeds = left_out c cs r.kept r.embeds;
            replies = r.replies;
            pending = (pends c d fit.0 e never.0, r.pending);
            splits = λ k. ap (λ x. of_client k (cons_option x (filter_map f cs))) e
                ∙ leave_one d (filter_map f cs) r.kept r.left
                (none_left d.client cs (alone c d cs e never.0 fit turns)) r.splits k;
          }
    ]

    parts : (s p : S) (cs : List (Call O)) → Rel s p → EachCall Fit cs → GiveReplies X s cs → CallsAreSequential cs →
        Parts p cs
    parts s p [] rel fit h turns = record {
      kept = [];
      left = [];
      embeds = no_calls;
      replies = tt;
      pending = tt;
      splits = λ k. refl;
    }
    parts s p (c ∷ cs) rel fit h turns =
        with_part (X.run s c.op).0 p c cs (f c) refl fit turns (steps s p c rel fit.0 h.0)
        (λ q next. parts (X.run s c.op).0 q cs next fit.1 h.1
        (λ i j a b at bt less. turns (suc i) (suc j) a b at bt (omega (arith, less))))

    -- the part of a linearizable history is linearizable, from a state that follows
    pub part_linearizable : (s p : S) (calls : List (Call O)) → Rel s p → EachCall Fit calls →
        IsLinearizable X s calls → IsLinearizable X p (filter_map f calls)
    part_linearizable s p calls rel fit h =
        let l = h.linearization in
        let found = parts s p h.order rel (each_ordered Fit calls h.order h.orders fit) l.replies l.clients in
        record {
          order = found.kept;
          orders = order_part calls h.order found.kept found.left h.orders found.splits found.pending;
          linearization = record {
            replies = found.replies;
            times = take_time h.order found.kept found.embeds l.times;
            clients = are_sequential h.order found.kept found.embeds l.clients;
            precedence = keep_precedence h.order found.kept found.embeds l.precedence;
          };
        }
