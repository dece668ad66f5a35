-- A history is strong snapshot isolated if and only if its commits are linearizable with fewer versions.
use Rattle.std.proofs.Common.{◌≡◌, ℕ, ◌<◌, ◌≤◌, suc, zero, false, List, [], ◌∷◌, ◌++◌, map, Some, None, refl, sym, ap}
use Rattle.std.proofs.Common.{◌∙◌, subst, inl, inr}
use Rattle.std.proofs.lemmas.List.{map-append}
use Rattle.judge_object.specs.Rules.{Rules}
use Rattle.judge_object.specs.Call.{Call, EachCall, is_completed}
use Rattle.judge_object.specs.Linear.{IsCallAt, CallsTakeTime, CallsAreSequential, CallsKeepPrecedence}
use Rattle.judge_object.specs.Linear.{GiveReplies}
use Rattle.judge_object.specs.Orders.{IsMerge, IsOrderOf, IsLinearizable}
use Rattle.judge_object.proofs.Merges.{parted}
use Rattle.judge_search.proofs.Clients.{each_order}
use Rattle.judge_search.proofs.Places.{Precedes, precedes_from}
use Rattle.judge_search.proofs.Each.{Each as Every}
use Rattle.judge_snapshot.specs.WriteSets.{WriteSets, AreWriteSets}
use Rattle.judge_snapshot.specs.Snapshots.{Each, calls_of}
use Rattle.judge_snapshot.specs.Snapshots.{IsStrongSnapshotIsolated}
use Rattle.judge_snapshot.specs.Possible.{Past, past_of}
use Rattle.judge_snapshot.specs.Trimmed.{Claim, claim_call, calls_in, IsInHorizon, HorizonsHold, trimmed}
use Rattle.judge_snapshot.specs.Trimmed.{StrongIsTrimmed}
use Rattle.judge_snapshot.proofs.Tests.{In}
use Rattle.judge_snapshot.proofs.Keeping.{Keeps}
use Rattle.judge_snapshot.proofs.Trimming.{InHorizons, chosen, replies}
use Rattle.judge_snapshot.proofs.Lifted.{given, merge_map}

none_some : {X : Type 0} (x : X) → None ≡ Some x → ⊥
none_some x e = cc

some_same : {X : Type 0} (x y : X) → Some x ≡ Some y → x ≡ y
some_same x y e = cc

every_front : {X : Type 0} (P : X → Type 0) (xs ys : List X) → Every P (xs ++ ys) → Every P xs
every_front P [] ys h = tt
every_front P (x ∷ xs) ys h = (h.0, every_front P xs ys h.1)

module _ {O : Type 0} where
  -- the call of a claim
  abbrev plain : Call (Claim O) → Call O
  plain c = record {
    client = c.client;
    begin = c.begin;
    end = c.end;
    op = c.op.call.op;
    reply = c.op.call.reply;
  }

  abbrev op_of : Call (Claim O) → Claim O
  op_of c = c.op

  abbrev IsClaim : Call (Claim O) → Type 0
  IsClaim c = claim_call c.op ≡ c

  keeps : (c : Call (Claim O)) → (plain c).client ≡ c.client
  keeps c = refl

  plains : (cs : List (Claim O)) → map plain (map claim_call cs) ≡ calls_in cs
  plains [] = refl
  plains (c ∷ cs) = ap (λ l. c.call ∷ l) (plains cs)

  ops : (ds : List (Call (Claim O))) → Every IsClaim ds → map claim_call (map op_of ds) ≡ ds
  ops [] h = refl
  ops (d ∷ ds) h = ap (λ c. c ∷ map claim_call (map op_of ds)) h.0 ∙ ap (λ l. d ∷ l) (ops ds h.1)

  every_claim : (cs : List (Claim O)) → Every IsClaim (map claim_call cs)
  every_claim [] = tt
  every_claim (c ∷ cs) = (refl, every_claim cs)

  -- ---- facts of each claim

  every_of : (P : Claim O → Type 0) (cs : List (Claim O)) → Each P cs → Every (λ d. P d.op) (map claim_call cs)
  every_of P [] h = tt
  every_of P (c ∷ cs) h = (h.0, every_of P cs h.1)

  each_of : (P : Claim O → Type 0) (cs : List (Claim O)) → Every (λ d. P d.op) (map claim_call cs) → Each P cs
  each_of P [] h = tt
  each_of P (c ∷ cs) h = (h.0, each_of P cs h.1)

  each_then : (P Q : Claim O → Type 0) → ((c : Claim O) → P c → Q c) → (cs : List (Claim O)) → Each P cs → Each Q cs
  each_then P Q f [] h = tt
  each_then P Q f (c ∷ cs) h = (f c h.0, each_then P Q f cs h.1)

  never_plain : (cs : List (Call (Claim O))) → EachCall (λ c. is_completed c ≡ false) cs →
      EachCall (λ c. is_completed c ≡ false) (map plain cs)
  never_plain [] h = tt
  never_plain (c ∷ cs) h = (h.0, never_plain cs h.1)

  plain_never : (cs : List (Call (Claim O))) → EachCall (λ c. is_completed c ≡ false) (map plain cs) →
      EachCall (λ c. is_completed c ≡ false) cs
  plain_never [] h = tt
  plain_never (c ∷ cs) h = (h.0, plain_never cs h.1)

  -- ---- times

  record At (ds : List (Call (Claim O))) (i : ℕ) (a : Call O) : Type 0 where
    call : Call (Claim O)
    is : IsCallAt ds i call
    gives : plain call ≡ a

  at_plain : (ds : List (Call (Claim O))) (i : ℕ) (a : Call O) → IsCallAt (map plain ds) i a → At ds i a
  at_plain [] i a e = absurd (none_some a e)
  at_plain (d ∷ ds) zero a e = record { call = d; is = refl; gives = some_same (plain d) a e }
  at_plain (d ∷ ds) (suc i) a e =
      let more = at_plain ds i a e in record { call = more.call; is = more.is; gives = more.gives }

  plain_at : (ds : List (Call (Claim O))) (i : ℕ) (d : Call (Claim O)) → IsCallAt ds i d →
      IsCallAt (map plain ds) i (plain d)
  plain_at [] i d e = absurd (none_some d e)
  plain_at (c ∷ ds) zero d e = ap (λ x. Some (plain x)) (some_same c d e)
  plain_at (c ∷ ds) (suc i) d e = plain_at ds i d e

  time_plain : (ds : List (Call (Claim O))) → CallsTakeTime ds → CallsTakeTime (map plain ds)
  time_plain ds h i a e =
      let x = at_plain ds i a e in subst (λ (d : Call O). d.begin ≤ d.end) x.gives (h i x.call x.is)

  plain_time : (ds : List (Call (Claim O))) → CallsTakeTime (map plain ds) → CallsTakeTime ds
  plain_time ds h i d e = h i (plain d) (plain_at ds i d e)

  turn_plain : (ds : List (Call (Claim O))) → CallsAreSequential ds → CallsAreSequential (map plain ds)
  turn_plain ds h i j a b d e l s =
      let x = at_plain ds i a d in
      let y = at_plain ds j b e in
      let client : x.call.client ≡ y.call.client =
      ap (λ (c : Call O). c.client) x.gives ∙ s ∙ ap (λ (c : Call O). c.client) (sym y.gives) in
      subst (λ (c : Call O). a.end ≤ c.begin) y.gives
      (subst (λ (c : Call O). c.end ≤ y.call.begin) x.gives (h i j x.call y.call x.is y.is l client))

  plain_turn : (ds : List (Call (Claim O))) → CallsAreSequential (map plain ds) → CallsAreSequential ds
  plain_turn ds h i j a b d e l s = h i j (plain a) (plain b) (plain_at ds i a d) (plain_at ds j b e) l s

  precedence_plain : (ds : List (Call (Claim O))) → CallsKeepPrecedence ds → CallsKeepPrecedence (map plain ds)
  precedence_plain ds h i j a b d e l =
      let x = at_plain ds i a d in
      let y = at_plain ds j b e in
      h i j x.call y.call x.is y.is
      (subst (λ (c : Call O). x.call.end < c.begin) (sym y.gives)
      (subst (λ (c : Call O). c.end < b.begin) (sym x.gives) l))

  plain_precedence : (ds : List (Call (Claim O))) → CallsKeepPrecedence (map plain ds) → CallsKeepPrecedence ds
  plain_precedence ds h i j a b d e l = h i j (plain a) (plain b) (plain_at ds i a d) (plain_at ds j b e) l

  -- ---- horizons

  ahead : (c : Claim O) (cs : List (Claim O)) → Every (λ (d : Call (Claim O)). c.call.begin ≤ d.end) (map claim_call cs)
      →
      Each (IsInHorizon c) cs → Each (λ d. c.horizon ≤ d.call.begin) cs
  ahead c [] p h = tt
  ahead c (d ∷ cs) p h = (h.0 p.0, ahead c cs p.1 h.1)

  in_horizons : (cs : List (Claim O)) → Precedes (map claim_call cs) → Each (λ c. Each (IsInHorizon c) cs) cs →
      InHorizons cs
  in_horizons [] p h = tt
  in_horizons (c ∷ cs) p h = (
    ahead c cs p.0 h.0.1,
    in_horizons cs p.1 (each_then (λ d. Each (IsInHorizon d) (c ∷ cs)) (λ d. Each (IsInHorizon d) cs)
        (λ d g. g.1) cs h.1),
  )

  module _ (claims : List (Claim O)) (order left : List (Call (Claim O)))
      (m : IsMerge (map claim_call claims) (order ++ left)) where
    front : map claim_call (map op_of order) ≡ order
    front =
        ops order (every_front IsClaim order left
        (each_order IsClaim (map claim_call claims) (order ++ left) m (every_claim claims)))

    each_front : (P : Claim O → Type 0) → Each P claims → Each P (map op_of order)
    each_front P h =
        each_of P (map op_of order)
        (subst (Every (λ d. P d.op)) (sym front)
        (every_front (λ d. P d.op) order left
        (each_order (λ d. P d.op) (map claim_call claims) (order ++ left) m (every_of P claims h))))

    horizons : HorizonsHold claims → CallsKeepPrecedence order → InHorizons (map op_of order)
    horizons h p =
        in_horizons (map op_of order) (subst Precedes (sym front) (precedes_from order p))
        (each_then (λ c. Each (IsInHorizon c) claims) (λ c. Each (IsInHorizon c) (map op_of order))
        (λ c g. each_front (IsInHorizon c) g) (map op_of order)
        (each_front (λ c. Each (IsInHorizon c) claims) h))

    plain_front : calls_in (map op_of order) ≡ map plain order
    plain_front = sym (plains (map op_of order)) ∙ ap (map plain) front

module _ {S O R W : Type 0} (X : Rules S O R) (V : WriteSets S O W) where
  whole : (s : S) (order : List (Claim O)) → Keeps {W = W} (past_of s) (past_of s) order
  whole s order = record { forgotten = []; is = refl; first = refl; old = tt }

  to_trimmed : AreWriteSets X V → (s : S) (claims : List (Claim O)) → HorizonsHold claims →
      IsStrongSnapshotIsolated X V s (calls_in claims) →
      IsLinearizable (trimmed X V) (past_of s ∷ []) (map claim_call claims)
  to_trimmed laws s claims hold h =
      let xs = map claim_call claims in
      let g = given plain keeps (calls_of h.order ++ h.orders.left) xs
      (subst (λ l. IsMerge l (calls_of h.order ++ h.orders.left)) (sym (plains claims)) h.orders.merges) in
      let parts = parted plain g.from (calls_of h.order) h.orders.left g.gives in
      let merges : IsMerge xs (parts.front ++ parts.back) = subst (IsMerge xs) parts.whole g.merges in
      let precedence = plain_precedence parts.front (subst CallsKeepPrecedence (sym parts.front_is) h.precedence) in
      let cs = map op_of parts.front in
      let is : map claim_call cs ≡ parts.front = front claims parts.front parts.back merges in
      record {
        order = parts.front;
        orders = record {
          left = parts.back;
          merges = merges;
          never = plain_never parts.back
              (subst (EachCall (λ c. is_completed c ≡ false)) (sym parts.back_is) h.orders.never);
        };
        linearization = record {
          replies = subst (GiveReplies (trimmed X V) (past_of s ∷ [])) is
              (replies X V laws cs (horizons claims parts.front parts.back merges hold precedence) (past_of s ∷ [])
              (past_of s) (past_of s) h.order
              (sym parts.front_is ∙ sym (plain_front claims parts.front parts.back merges)) (inl refl) (whole s cs)
              h.commits);
          times = plain_time parts.front (subst CallsTakeTime (sym parts.front_is) h.times);
          clients = plain_turn parts.front (subst CallsAreSequential (sym parts.front_is) h.clients);
          precedence = precedence;
        };
      }

  from_trimmed : (s : S) (claims : List (Claim O)) → HorizonsHold claims →
      IsLinearizable (trimmed X V) (past_of s ∷ []) (map claim_call claims) →
      IsStrongSnapshotIsolated X V s (calls_in claims)
  from_trimmed s claims hold h =
      let xs = map claim_call claims in
      let left = h.orders.left in
      let cs = map op_of h.order in
      let is : map claim_call cs ≡ h.order = front claims h.order left h.orders.merges in
      let c = chosen X V (past_of s) [] cs (horizons claims h.order left h.orders.merges hold
      h.linearization.precedence)
      (subst (GiveReplies (trimmed X V) (past_of s ∷ [])) (sym is) h.linearization.replies) in
      let calls : calls_of c.transactions ≡ map plain h.order =
      c.calls ∙ plain_front claims h.order left h.orders.merges in
      record {
        order = c.transactions;
        orders = subst (IsOrderOf (calls_in claims)) (sym calls) (record {
          left = map plain left;
          merges = subst (λ l. IsMerge l (map plain h.order ++ map plain left)) (plains claims)
              (subst (IsMerge (map plain xs)) (map-append plain h.order left)
              (merge_map plain keeps xs (h.order ++ left) h.orders.merges));
          never = never_plain left h.orders.never;
        });
        commits = c.may (past_of s) (only c.is);
        times = subst CallsTakeTime (sym calls) (time_plain h.order h.linearization.times);
        clients = subst CallsAreSequential (sym calls) (turn_plain h.order h.linearization.clients);
        precedence = subst CallsKeepPrecedence (sym calls) (precedence_plain h.order h.linearization.precedence);
      }
    where
      only : {from : Past S W} → In from (past_of s ∷ []) → Keeps (past_of s) from (map op_of h.order)
      only {from} (inl e) = subst (λ p. Keeps (past_of s) p (map op_of h.order)) (sym e) (whole s (map op_of h.order))
      only {from} (inr e) = absurd e

  pub strong_is_trimmed : AreWriteSets X V → StrongIsTrimmed X V
  strong_is_trimmed laws s claims hold = (to_trimmed laws s claims hold, from_trimmed s claims hold)
