-- Each step of a search keeps what is known of it.
use Rattle.std.proofs.Common.{◌≡◌, ℕ, ◌+◌, ◌≤◌, List, [], ◌∷◌, ◌++◌, map, refl, sym, ap, subst, arith}
use Rattle.std.specs.Prelude.{All}
use Rattle.std.specs.List.{Contains}
use Rattle.std.proofs.lemmas.List.Elements.{All-append, All-cons, All-head, All-tail, All-nil}
use Rattle.judge_object.specs.Call.{Call}
use Rattle.judge_search.specs.Configurations.{Configuration, Goes, CallsReach, after_call, answered, weight}
use Rattle.judge_search.specs.Configurations.{PlacesAtMost}
use Rattle.judge_search.specs.Walk.{IsWhole, AreChoices, IsLost, HangsOn, PathPlace, Made, PathLeads, IsWalk, Completes}
use Rattle.judge_search.proofs.Left.{whole_after, answered_after}
use Rattle.judge_object.specs.Rules.{Rules}

module _ {S O R : Type 0} (X : Rules S O R) where
  pub all_at : {X : Type 0} (P : X → Type 0) (xs : List X) (x : X) → All P xs → Contains xs x → P x
  all_at P xs x h c = subst P c.2 (h c.0 x c.1)

  pub all_map : {X : Type 0} (P Q : X → Type 0) → ((x : X) → P x → Q x) → (xs : List X) → All P xs → All Q xs
  all_map P Q f [] h = All-nil Q
  all_map P Q f (x ∷ xs) h = All-cons Q x xs (f x (All-head P x xs h)) (all_map P Q f xs (All-tail P x xs h))

  -- a bound holds of each greater number
  pub more_placed : (total m n : ℕ) (at : Configuration S O) → m ≤ n → (PlacesAtMost X) total m at →
      (PlacesAtMost X) total n at
  more_placed total m n at l h calls b r = let x : total ≤ m + answered b.rest = h calls b r in omega arith

  more_lost : (total m n : ℕ) (at : Configuration S O) (c : Call O) → m ≤ n → (IsLost X) total m at c →
      (IsLost X) total n at c
  more_lost total m n at c l h goes = more_placed total m n (after_call X at c) l (h goes)

  more_hangs : (total m n : ℕ) (at : Configuration S O) (cs : List (Call O)) → m ≤ n → (HangsOn X) total m at cs →
      (HangsOn X) total n at cs
  more_hangs total m n at cs l h most g lost own = h most (omega arith) lost own

  more_made : (total m n : ℕ) (place : PathPlace S O) → m ≤ n → (Made X) total m place → (Made X) total n place
  more_made total m n place l h = record {
    goes = h.goes;
    count = h.count;
    hangs = λ most g after lost own. h.hangs most (omega arith) after lost own;
  }

  more_leads : (total m n : ℕ) (a : Configuration S O) (path : List (PathPlace S O)) (b : Configuration S O) → m ≤ n →
      (PathLeads X) total m a path b → (PathLeads X) total n a path b
  more_leads total m n a [] b l h = h
  more_leads total m n a (p ∷ path) b l h = (
    h.0,
    more_made total m n p l h.1,
    more_leads total m n (after_call X p.at p.call) path b l h.2,
  )

  -- where the choices are all lost, no more have a place
  pub hangs_on : (total m : ℕ) (at : Configuration S O) (cs : List (Call O)) → AreChoices at.rest cs →
      (HangsOn X) total m at cs
  hangs_on total m at cs choices most l lost own [] b r = subst
      (λ (x : Configuration S O). total ≤ most + answered x.rest) r own
  hangs_on total m at cs choices most l lost own (c ∷ calls) b r =
      all_at (IsLost X total most at) cs c lost (choices c r.0.may) r.0 calls b r.1

  -- one lost call less
  hangs_less : (total m : ℕ) (at : Configuration S O) (c : Call O) (cs : List (Call O)) →
      (HangsOn X) total m at (c ∷ cs) →
      (IsLost X) total m at c → (HangsOn X) total m at cs
  hangs_less total m at c cs h lost most l others own = h most l
      (All-cons (IsLost X total most at) c cs (more_lost total m most at c l lost) others) own

  hangs_none : (total m : ℕ) (at : Configuration S O) → (HangsOn X) total m at [] → total ≤ m + answered at.rest →
      (PlacesAtMost X) total m at
  hangs_none total m at h own = h m (omega arith) (All-nil (IsLost X total m at)) own

  leads_push : (total m : ℕ) (a : Configuration S O) (path : List (PathPlace S O)) (place : PathPlace S O) →
      (PathLeads X) total m a path place.at →
      (Made X) total m place
      → (PathLeads X) total m a (path ++ place ∷ []) (after_call X place.at place.call)
  leads_push total m a [] place l made = (l, made, refl)
  leads_push total m a (p ∷ path) place l made = (
    l.0,
    l.1,
    leads_push total m
        (after_call X p.at p.call) path place l.2 made,
  )

  -- what led to a configuration by a last place
  record LedBy (total m : ℕ) (a : Configuration S O) (path : List (PathPlace S O)) (place : PathPlace S O)
      (b : Configuration S O) :
      Type 0 where
    made : (Made X) total m place
    is : (after_call X) place.at place.call ≡ b
    before : (PathLeads X) total m a path place.at

  leads_pop : (total m : ℕ) (a : Configuration S O) (path : List (PathPlace S O)) (place : PathPlace S O)
      (b : Configuration S O) →
      (PathLeads X) total m a (path ++ place ∷ []) b → LedBy total m a path place b
  leads_pop total m a [] place b l = record { made = l.1; is = l.2; before = l.0 }
  leads_pop total m a (p ∷ path) place b l =
      let rest = leads_pop total m (after_call X p.at p.call) path place b l.2 in
      record { made = rest.made; is = rest.is; before = (l.0, l.1, rest.before) }

  pub whole_leads : (total m : ℕ) (a : Configuration S O) (path : List (PathPlace S O)) (b : Configuration S O) →
      (PathLeads X) total m a path b →
      IsWhole a.rest → IsWhole b.rest
  whole_leads total m a [] b l h = subst (λ (x : Configuration S O). IsWhole x.rest) l h
  whole_leads total m a (p ∷ path) b l h =
      whole_leads total m (after_call X p.at p.call) path b l.2 (whole_after X p.at p.call
      (subst (λ (x : Configuration S O). IsWhole x.rest) l.0 h))

  abbrev calls_of : List (PathPlace S O) → List (Call O)
  calls_of path = map (λ (p : PathPlace S O). p.call) path

  -- the calls of a path lead where it leads
  pub leads_reaches : (total m : ℕ) (a : Configuration S O) (path : List (PathPlace S O)) (b : Configuration S O) →
      (PathLeads X) total m a path b →
      (CallsReach X) a (calls_of path) b
  leads_reaches total m a [] b l = l
  leads_reaches total m a (p ∷ path) b l =
      subst (λ (x : Configuration S O). (CallsReach X) x (calls_of (p ∷ path)) b) (sym l.0) (
        l.1.goes,
        leads_reaches total m (after_call X p.at p.call) path b l.2,
      )

  pub reaches_more : (a b : Configuration S O) (calls : List (Call O)) (c : Call O) → (CallsReach X) a calls b →
      (Goes X) b c →
      (CallsReach X) a (calls ++ c ∷ []) (after_call X b c)
  reaches_more a b [] c r goes = (
    subst (λ x. (Goes X) x c) (sym r) goes,
    ap (λ (x : Configuration S O). (after_call X) x c) r,
  )
  reaches_more a b (d ∷ calls) c r goes = (r.0, reaches_more (after_call X a d) b calls c r.1 goes)

  -- where nothing is left to try, no more have a place than have one, or had one before
  pub walk_dead : (start at : Configuration S O) (most placed n : ℕ) (path : List (PathPlace S O))
      (known : List (Configuration S O)) →
      (IsWalk X) start most at placed [] path known
      → most ≤ n → placed ≤ n → (PlacesAtMost X) (answered start.rest) n at
  walk_dead start at most placed n path known w l own =
      hangs_none (answered start.rest) n at (more_hangs (answered start.rest) most n at [] l w.hangs) (let c =
      w.count in
      omega arith)

  all_more : (total m n : ℕ) (known : List (Configuration S O)) → m ≤ n → All (PlacesAtMost X total m) known →
      All (PlacesAtMost X total n) known
  all_more total m n known l h = all_map (PlacesAtMost X total m) (PlacesAtMost X total n)
      (λ at p. more_placed total m n at l p) known h

  -- the search goes back by a place
  pub walk_back : (start at : Configuration S O) (most placed n : ℕ) (path : List (PathPlace S O))
      (place : PathPlace S O)
      (known : List (Configuration S O))
      → (IsWalk X) start most at placed [] (path ++ place ∷ []) known → most ≤ n → placed ≤ n
      → (IsWalk X) start n place.at place.placed place.others path (known ++ at ∷ [])
  walk_back start at most placed n path place known w l own =
      let total = answered start.rest in
      let led = leads_pop total most start path place at w.leads in
      let dead = walk_dead start at most placed n (path ++ place ∷ []) known w l own in
      let less : answered place.at.rest ≡ weight place.call + answered (after_call X place.at place.call).rest =
      (answered_after X) place.at place.call led.made.goes in
      let same : answered (after_call X place.at place.call).rest ≡ answered at.rest =
      ap (λ (x : Configuration S O). answered x.rest) led.is in
      record {
        whole = w.whole;
        leads = more_leads total most n start path place.at l led.before;
        hangs = λ number g lost mine.
            led.made.hangs number (omega arith)
            (more_placed total n number (after_call X place.at place.call) g
            (subst (PlacesAtMost X total n) (sym led.is) dead))
            lost mine;
        dead = All-append (PlacesAtMost X total n) known (at ∷ []) (all_more total most n known l w.dead)
            (All-cons (PlacesAtMost X total n) at [] dead (All-nil (PlacesAtMost X total n)));
        count = led.made.count;
        some = (let o = w.some in omega arith);
      }

  -- where it had placed no more calls
  pub back_less : (start at : Configuration S O) (most placed : ℕ) (path : List (PathPlace S O)) (place : PathPlace S O)
      (known : List (Configuration S O))
      → (IsWalk X) start most at placed [] (path ++ place ∷ []) known → place.placed ≤ placed
  back_less start at most placed path place known w =
      let total = answered start.rest in
      let led = leads_pop total most start path place at w.leads in
      let less : answered place.at.rest ≡ weight place.call + answered (after_call X place.at place.call).rest =
      (answered_after X) place.at place.call led.made.goes in
      let same : answered (after_call X place.at place.call).rest ≡ answered at.rest =
      ap (λ (x : Configuration S O). answered x.rest) led.is in
      let old = led.made.count in
      let own = w.count in
      omega arith

  -- a call that is lost is not tried again
  pub walk_lost : (start at : Configuration S O) (most placed : ℕ) (c : Call O) (tries : List (Call O))
      (path : List (PathPlace S O))
      (known : List (Configuration S O))
      → (IsWalk X) start most at placed (c ∷ tries) path known → (IsLost X) (answered start.rest) most at c →
      (IsWalk X) start most at placed tries path known
  walk_lost start at most placed c tries path known w lost = record {
    whole = w.whole;
    leads = w.leads;
    hangs = hangs_less (answered start.rest) most at c tries w.hangs lost;
    dead = w.dead;
    count = w.count;
    some = w.some;
  }

  -- and one that is not is made
  pub walk_on : (start at : Configuration S O) (most placed count : ℕ) (c : Call O) (tries ids : List (Call O))
      (path : List (PathPlace S O))
      (known : List (Configuration S O))
      → (IsWalk X) start most at placed (c ∷ tries) path known → (Goes X) at c → count ≡ placed + weight c →
      1 ≤ answered (after_call X at c).rest → AreChoices (after_call X at c).rest ids
      → (IsWalk X) start most (after_call X at c) count ids (path ++ (record {
        at = at;
        placed = placed;
        call = c;
        others = tries;
      }) ∷ []) known
  walk_on start at most placed count c tries ids path known w goes e some choices =
      let total = answered start.rest in
      let less = (answered_after X) at c goes in
      record {
        whole = w.whole;
        leads = leads_push total most start path (record { at = at; placed = placed; call = c; others = tries }) w.leads
            (record {
              goes = goes;
              count = w.count;
              hangs = λ number l gone lost own. w.hangs number l
                  (All-cons (IsLost X total number at) c tries (λ g. gone) lost)
                  own;
            });
        hangs = hangs_on total most (after_call X at c) ids choices;
        dead = w.dead;
        count = (let own = w.count in omega arith);
        some = some;
      }

  -- the start of a search
  pub walk_start : (start : Configuration S O) (ids : List (Call O)) → IsWhole start.rest → 1 ≤ answered start.rest →
      AreChoices start.rest ids → (IsWalk X) start 0 start 0 ids [] []
  walk_start start ids whole some choices = record {
    whole = whole;
    leads = refl;
    hangs = hangs_on (answered start.rest) 0 start ids choices;
    dead = All-nil (PlacesAtMost X (answered start.rest) 0);
    count = omega arith;
    some = some;
  }

  -- a path that leaves no completed call is an order
  pub walk_found : (start at : Configuration S O) (most placed : ℕ) (tries : List (Call O))
      (path : List (PathPlace S O))
      (known : List (Configuration S O)) (c : Call O)
      → (IsWalk X) start most at placed tries path known → (Goes X) at c → answered (after_call X at c).rest ≡ 0 →
      (Completes X) start (calls_of path ++ c ∷ [])
  walk_found start at most placed tries path known c w goes e = record {
    to = (after_call X) at c;
    reaches = reaches_more start at (calls_of path) c (leads_reaches (answered start.rest) most start path at w.leads)
        goes;
    done = e;
  }
