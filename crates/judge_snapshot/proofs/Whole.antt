-- The calls of commits are whole if the calls are.
use Rattle.std.proofs.Common.{◌≡◌, ℕ, List, [], ◌∷◌, ◌++◌, map, refl, sym, ap, ◌∙◌, subst}
use Rattle.judge_object.specs.declared.span.Span.{Span}
use Rattle.judge_object.specs.declared.line.Line.{Line}
use Rattle.judge_object.specs.Call.{EachCall, IsBehind, span_of}
use Rattle.judge_search.specs.Calls.{call_of, calls_of}
use Rattle.judge_search.specs.Walk.{InTurn, IsTimed, IsWhole}
use Rattle.judge_snapshot.specs.Snapshots.{Each}
use Rattle.judge_snapshot.specs.Trimmed.{Claim, claim_call, calls_in, IsInHorizon}
use Rattle.judge_snapshot.specs.Horizons.{IsHorizon, AreCommitsOf}

each_append : {A : Type 0} (P : A → Type 0) (xs : List A) (y : A) → Each P xs → P y → Each P (xs ++ y ∷ [])
each_append P [] y h g = (g, tt)
each_append P (x ∷ xs) y h g = (h.0, each_append P xs y h.1 g)

map_append : {A B : Type 0} (f : A → B) (xs : List A) (y : A) → map f (xs ++ y ∷ []) ≡ map f xs ++ f y ∷ []
map_append f [] y = refl
map_append f (x ∷ xs) y = ap (λ l. f x ∷ l) (map_append f xs y)

module _ {O : Type 0} where
  behind : (c : Claim O) (cs : List (Claim O)) → EachCall (λ later. IsBehind later c.call) (calls_in cs) →
      EachCall (λ later. IsBehind later (claim_call c)) (map claim_call cs)
  behind c [] h = tt
  behind c (d ∷ cs) h = (h.0, behind c cs h.1)

  in_turn : (cs : List (Claim O)) → InTurn (calls_in cs) → InTurn (map claim_call cs)
  in_turn [] h = tt
  in_turn (c ∷ cs) h = (h.0, behind c cs h.1, in_turn cs h.2)

  timed : (last : ℕ) (cs : List (Claim O)) → EachCall (IsTimed last) (calls_in cs) →
      EachCall (IsTimed last) (map claim_call cs)
  timed last [] h = tt
  timed last (c ∷ cs) h = (record { begins = h.0.begins; ends = h.0.ends }, timed last cs h.1)

  pub whole_claims : (cs : List (Claim O)) → IsWhole (calls_in cs) → IsWhole (map claim_call cs)
  whole_claims cs h = record { turn = in_turn cs h.turn; last = h.last; timed = timed h.last cs h.timed }

  -- ---- the commits of some lines

  -- these lines are those of the commits of the calls of other lines, with horizons in these spans
  pub record Made (spans : List Span) (lines : List (Line O)) (commits : List (Line (Claim O))) : Type 0 where
    pub claims : List (Claim O)
    pub calls : calls_in claims ≡ calls_of lines
    pub are : calls_of commits ≡ map claim_call claims
    pub horizons : Each (λ (c : Claim O). IsHorizon spans c.call.begin c.horizon) claims

  pub made_none : (spans : List Span) → Made spans [] []
  made_none spans = record { claims = []; calls = refl; are = refl; horizons = tt }

  pub made_more : (spans : List Span) (lines : List (Line O)) (commits : List (Line (Claim O))) (line : Line O)
      (commit : Line (Claim O)) (horizon : ℕ) → Made spans lines commits →
      call_of commit ≡ claim_call (record { call = call_of line; horizon = horizon }) →
      IsHorizon spans line.begin horizon → Made spans (lines ++ line ∷ []) (commits ++ commit ∷ [])
  made_more spans lines commits line commit horizon h e g =
      let claim : Claim O = record { call = call_of line; horizon = horizon } in
      record {
        claims = h.claims ++ claim ∷ [];
        calls = map_append (λ (c : Claim O). c.call) h.claims claim ∙ ap (λ l. l ++ call_of line ∷ []) h.calls
            ∙ sym (map_append call_of lines line);
        are = map_append call_of commits commit ∙ ap (λ l. l ++ call_of commit ∷ []) h.are
            ∙ ap (λ c. map claim_call h.claims ++ c ∷ []) e ∙ sym (map_append claim_call h.claims claim);
        horizons = each_append (λ (c : Claim O). IsHorizon spans c.call.begin c.horizon) h.claims claim h.horizons g;
      }

  one_horizon : (c : Claim O) (ds : List (Claim O)) → IsHorizon (map span_of (calls_in ds)) c.call.begin c.horizon →
      Each (IsInHorizon c) ds
  one_horizon c [] h = tt
  one_horizon c (d ∷ ds) h = (h.0, one_horizon c ds h.1)

  all_horizons : (cs ds : List (Claim O)) →
      Each (λ (c : Claim O). IsHorizon (map span_of (calls_in ds)) c.call.begin c.horizon) cs →
      Each (λ c. Each (IsInHorizon c) ds) cs
  all_horizons [] ds h = tt
  all_horizons (c ∷ cs) ds h = (one_horizon c ds h.0, all_horizons cs ds h.1)

  pub made_all : (spans : List Span) (lines : List (Line O)) (commits : List (Line (Claim O))) →
      Made spans lines commits → spans ≡ map span_of (calls_of lines) → AreCommitsOf lines commits
  made_all spans lines commits h e = record {
    claims = h.claims;
    calls = h.calls;
    are = h.are;
    horizons = all_horizons h.claims h.claims
        (subst (λ s. Each (λ (c : Claim O). IsHorizon s c.call.begin c.horizon) h.claims)
        (e ∙ ap (map span_of) (sym h.calls)) h.horizons);
  }
