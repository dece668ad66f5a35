-- Histories of claims: what is said of calls is said of their claims.
use Rattle.std.proofs.Common.{◌≡◌, ℕ, ◌<◌, ◌≤◌, suc, zero, false, List, [], ◌∷◌, ◌++◌}
use Rattle.std.proofs.Common.{map, Some, None, refl, sym, ap, ◌∙◌, subst, inl, inr}
use Rattle.std.specs.Prelude.{IsPermutation}
use Rattle.std.proofs.lemmas.List.{map-append}
use Rattle.std.proofs.lemmas.List.Sorted.{IsPermutation-map}
use Rattle.judge_object.specs.Call.{Call, EachCall, is_completed}
use Rattle.judge_object.specs.Linear.{IsCallAt, CallsTakeTime, CallsAreSequential, CallsKeepPrecedence}
use Rattle.judge_object.specs.Orders.{of_client, IsMerge, IsOrderOf}
use Rattle.judge_object.specs.Levels.{IsSelectionOf}
use Rattle.judge_object.proofs.Merges.{test, parted, lifted}
use Rattle.judge_search.proofs.Clients.{each_order}
use Rattle.judge_snapshot.specs.Possible.{claim}

none_some : {X : Type 0} (x : X) → None ≡ Some x → ⊥
none_some x e = cc

some_same : {X : Type 0} (x y : X) → Some x ≡ Some y → x ≡ y
some_same x y e = cc

module _ {O : Type 0} where
  -- the call of a claim
  abbrev pub unclaim : Call (Call O) → Call O
  unclaim c = c.op

  pub unclaims : (cs : List (Call O)) → map unclaim (map claim cs) ≡ cs
  unclaims [] = refl
  unclaims (c ∷ cs) = ap (λ l. c ∷ l) (unclaims cs)

  -- ---- each client's calls

  clients : (k : ℕ) (cs : List (Call O)) → of_client k (map claim cs) ≡ map claim (of_client k cs)
  clients k [] = refl
  clients k (c ∷ cs) =
      elim (test c.client k) [
        | inl t ↦ rw t.0 (ap (λ l. claim c ∷ l) (clients k cs))
        | inr t ↦ rw t.0 (clients k cs)
      ]

  merge_claims : (xs ys : List (Call O)) → IsMerge xs ys → IsMerge (map claim xs) (map claim ys)
  merge_claims xs ys m k = clients k ys ∙ ap (map claim) (m k) ∙ sym (clients k xs)

  claims_merge : (xs ys : List (Call O)) → IsMerge (map claim xs) (map claim ys) → IsMerge xs ys
  claims_merge xs ys m k =
      sym (unclaims (of_client k ys))
      ∙ ap (map unclaim) (sym (clients k ys) ∙ m k ∙ clients k xs)
      ∙ unclaims (of_client k xs)

  never_claims : (cs : List (Call O)) → EachCall (λ c. is_completed c ≡ false) cs →
      EachCall (λ c. is_completed c ≡ false) (map claim cs)
  never_claims [] h = tt
  never_claims (c ∷ cs) h = (h.0, never_claims cs h.1)

  claims_never : (cs : List (Call O)) → EachCall (λ c. is_completed c ≡ false) (map claim cs) →
      EachCall (λ c. is_completed c ≡ false) cs
  claims_never [] h = tt
  claims_never (c ∷ cs) h = (h.0, claims_never cs h.1)

  -- ---- orders of claims are claims of orders

  abbrev IsClaim : Call (Call O) → Type 0
  IsClaim c = claim c.op ≡ c

  each_claim : (cs : List (Call O)) → EachCall IsClaim (map claim cs)
  each_claim [] = tt
  each_claim (c ∷ cs) = (refl, each_claim cs)

  claims_of : (ds : List (Call (Call O))) → EachCall IsClaim ds → map claim (map unclaim ds) ≡ ds
  claims_of [] h = refl
  claims_of (d ∷ ds) h =
      ap (λ c. c ∷ map claim (map unclaim ds)) h.0 ∙ ap (λ l. d ∷ l) (claims_of ds h.1)

  -- an order of claims, by the calls
  pub record Claimed (calls : List (Call O)) (order : List (Call (Call O))) : Type 0 where
    pub from : List (Call O)
    pub gives : map claim from ≡ order
    pub orders : IsOrderOf calls from

  pub order_claims : (calls order : List (Call O)) → IsOrderOf calls order →
      IsOrderOf (map claim calls) (map claim order)
  order_claims calls order h = record {
    left = map claim h.left;
    merges = subst (IsMerge (map claim calls)) (map-append claim order h.left)
        (merge_claims calls (order ++ h.left) h.merges);
    never = never_claims h.left h.never;
  }

  pub claims_order : (calls : List (Call O)) (order : List (Call (Call O))) → IsOrderOf (map claim calls) order →
      Claimed calls order
  claims_order calls order h =
      let all = each_order IsClaim (map claim calls) (order ++ h.left) h.merges (each_claim calls) in
      let parts = parted claim (map unclaim (order ++ h.left)) order h.left (claims_of (order ++ h.left) all) in
      record {
        from = parts.front;
        gives = parts.front_is;
        orders = record {
          left = parts.back;
          merges = subst (IsMerge calls) parts.whole (claims_merge calls (map unclaim (order ++ h.left))
              (subst (IsMerge (map claim calls)) (sym (claims_of (order ++ h.left) all)) h.merges));
          never = claims_never parts.back (subst (EachCall (λ c. is_completed c ≡ false)) (sym parts.back_is) h.never);
        };
      }

  -- ---- selections

  pub record Selected (calls : List (Call O)) (order : List (Call (Call O))) : Type 0 where
    pub from : List (Call O)
    pub gives : map claim from ≡ order
    pub selects : IsSelectionOf calls from

  pub selection_claims : (calls order : List (Call O)) → IsSelectionOf calls order →
      IsSelectionOf (map claim calls) (map claim order)
  selection_claims calls order h = record {
    left = map claim h.left;
    all = subst (IsPermutation (map claim calls)) (map-append claim order h.left)
        (IsPermutation-map claim calls (order ++ h.left) h.all);
    never = never_claims h.left h.never;
  }

  pub claims_selection : (calls : List (Call O)) (order : List (Call (Call O))) →
      IsSelectionOf (map claim calls) order → Selected calls order
  claims_selection calls order h =
      let from = lifted claim calls (order ++ h.left) h.all in
      let parts = parted claim from.from order h.left from.gives in
      record {
        from = parts.front;
        gives = parts.front_is;
        selects = record {
          left = parts.back;
          all = subst (IsPermutation calls) parts.whole from.moved;
          never = claims_never parts.back (subst (EachCall (λ c. is_completed c ≡ false)) (sym parts.back_is) h.never);
        };
      }

  -- ---- times

  -- the call at a place
  record At (cs : List (Call O)) (i : ℕ) (a : Call (Call O)) : Type 0 where
    call : Call O
    is : IsCallAt cs i call
    gives : claim call ≡ a

  at_claims : (cs : List (Call O)) (i : ℕ) (a : Call (Call O)) → IsCallAt (map claim cs) i a → At cs i a
  at_claims [] i a e = absurd (none_some a e)
  at_claims (c ∷ cs) zero a e = record { call = c; is = refl; gives = some_same (claim c) a e }
  at_claims (c ∷ cs) (suc i) a e =
      let more = at_claims cs i a e in record { call = more.call; is = more.is; gives = more.gives }

  claims_at : (cs : List (Call O)) (i : ℕ) (c : Call O) → IsCallAt cs i c → IsCallAt (map claim cs) i (claim c)
  claims_at [] i c e = absurd (none_some c e)
  claims_at (d ∷ cs) zero c e = ap (λ x. Some (claim x)) (some_same d c e)
  claims_at (d ∷ cs) (suc i) c e = claims_at cs i c e

  pub time_claims : (cs : List (Call O)) → CallsTakeTime cs → CallsTakeTime (map claim cs)
  time_claims cs h i a e =
      let x = at_claims cs i a e in
      subst (λ (d : Call (Call O)). d.begin ≤ d.end) x.gives (h i x.call x.is)

  pub claims_time : (cs : List (Call O)) → CallsTakeTime (map claim cs) → CallsTakeTime cs
  claims_time cs h i c e = h i (claim c) (claims_at cs i c e)

  pub turn_claims : (cs : List (Call O)) → CallsAreSequential cs → CallsAreSequential (map claim cs)
  turn_claims cs h i j a b d e l s =
      let x = at_claims cs i a d in
      let y = at_claims cs j b e in
      let client : x.call.client ≡ y.call.client =
      ap (λ (c : Call (Call O)). c.client) x.gives ∙ s ∙ ap (λ (c : Call (Call O)). c.client) (sym y.gives) in
      subst (λ (c : Call (Call O)). a.end ≤ c.begin) y.gives
      (subst (λ (c : Call (Call O)). c.end ≤ y.call.begin) x.gives (h i j x.call y.call x.is y.is l client))

  pub claims_turn : (cs : List (Call O)) → CallsAreSequential (map claim cs) → CallsAreSequential cs
  claims_turn cs h i j a b d e l s = h i j (claim a) (claim b) (claims_at cs i a d) (claims_at cs j b e) l s

  pub precedence_claims : (cs : List (Call O)) → CallsKeepPrecedence cs → CallsKeepPrecedence (map claim cs)
  precedence_claims cs h i j a b d e l =
      let x = at_claims cs i a d in
      let y = at_claims cs j b e in
      h i j x.call y.call x.is y.is
      (subst (λ (c : Call (Call O)). x.call.end < c.begin) (sym y.gives)
      (subst (λ (c : Call (Call O)). c.end < b.begin) (sym x.gives) l))

  pub claims_precedence : (cs : List (Call O)) → CallsKeepPrecedence (map claim cs) → CallsKeepPrecedence cs
  claims_precedence cs h i j a b d e l = h i j (claim a) (claim b) (claims_at cs i a d) (claims_at cs j b e) l
