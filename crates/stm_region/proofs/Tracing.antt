-- Each step of a region, each split, gathering and renewal is one more event of the list that
-- leads to its core state.
use Rattle.std.proofs.Common.{◌≡◌, ◌≢◌, ℕ, suc, ◌+◌, ◌-◌, ◌≤◌, ◌<◌, true, false, List, [], ◌∷◌, ◌++◌, ⊎_elim, length}
use Rattle.std.proofs.Common.{set, get_or, replicate, length-set, refl, sym, ap, ◌∙◌, subst, arith}
use mathlib.Core.Option.{some}
use mathlib.Core.Logic.{dite}
use native.Mathlib.Decide.{ℕ_discrete}
use lib.ListN.{get_elem?}
use Rattle.stm_core.specs.declared.version.TheConstants.{VERSION_LIMIT}
use Rattle.stm_core.specs.declared.limits.TheConstants.{MOST_RENEWALS}
use Rattle.stm_core.specs.Client.{Client, Stamp, RecordLaw}
use Rattle.stm_core.specs.Event.{Action, after, giving, fresh, taking, renewing, gone, opener}
use Rattle.stm_core.specs.Guards.{may_act, IsLawful, May, stripe_of}
use Rattle.stm_core.specs.Core.{Core, bounds_of, found, stepped, divided, gathered, renewed, IsFreeHanded, Event, acts}
use Rattle.stm_core.specs.Core.{splits, gathers, renews, stamp_of, client_of, is_out, others_gathered, Allowed, played}
use Rattle.stm_core.specs.Core.{Leads, opened, begun_on}
use Rattle.stm_core.proofs.Conditions.{IsOut, IsAlone, out_test, and3, and5, not_test, eq_test, empty_test, lt_test}
use Rattle.stm_core.proofs.Conditions.{le_test}
use Rattle.stm_core.proofs.Lists.{in_range, same_at, clash}
use Rattle.stm_core.proofs.Renewing.{at_below}
use Rattle.stm_region.specs.Shown.{Opened, unplaced}
use Rattle.stm_region.specs.Traced.{unplaced_attempt, unplaced_client, IsShadow, Mirrors, IsTraced}
use Rattle.stm_region.proofs.Mirroring.{shadow_after, shadow_giving, shadow_fresh, shadow_taking, after_gathered}
use Rattle.stm_region.proofs.Mirroring.{mirrors_set, mirrors_both, mirrors_longer, longer_is, mirrors_opening}
use Rattle.stm_region.proofs.Mirroring.{mirrors_renewed}
use Rattle.stm_region.proofs.Mirroring.{may_shadow, lawful_shadow, found_same, WordsAfter, words_same, both_true}
use Rattle.stm_region.proofs.Mirroring.{others_are, value_there}

pub leads_more : (lawful : RecordLaw) (lk : ℕ → ℕ) (es : List Event) (e : Event) (c d : Core) → Leads lawful lk c es d →
    Allowed lawful lk e d → Leads lawful lk c (es ++ e ∷ []) (played lk e d)
leads_more lawful lk [] e c d same may = subst (λ x. Leads lawful lk x (e ∷ []) (played lk e d)) (sym same) (may, refl)
leads_more lawful lk (a ∷ es) e c d leads may = (leads.0, leads_more lawful lk es e (played lk a c) d leads.1 may)

-- the opening, before any event
pub opening_traced : (lawful : RecordLaw) (image : List ℕ) (last stripes : ℕ) →
    IsTraced lawful record { image = image; last = last; stripes = stripes; first = image; renewal = 0; start = opener }
    (opened image last stripes)
opening_traced lawful image last stripes = record {
  last = last;
  events = [];
  core = opened image last stripes;
  leads = refl;
  same = refl;
  clients = mirrors_opening;
}

module _ (lawful : RecordLaw) (o : Opened) (c : Core) (t : IsTraced lawful o c) where
  abbrev lk : ℕ → ℕ
  lk = stripe_of o.stripes

  same_bounds : bounds_of c ≡ bounds_of t.core
  same_bounds = ap bounds_of t.same

  -- the client at an index of the region, in the list's core
  module _ (id : ℕ) (v : Client) (at : get_elem? c.clients id ≡ some v) where
    there : get_elem? t.core.clients (t.clients.number id) ≡ some (t.clients.each id v at).0
    there = (t.clients.each id v at).1

    shadow : IsShadow v (t.clients.each id v at).0
    shadow = (t.clients.each id v at).2

    one_less : suc (t.clients.number id) - 1 ≡ t.clients.number id
    one_less = omega arith

    value : client_of t.core (suc (t.clients.number id)) ≡ (t.clients.each id v at).0
    value = ap (λ n. get_or t.core.clients n gone) one_less ∙ value_there t.core.clients (t.clients.number id) _ there

    is_there : get_elem? t.core.clients (suc (t.clients.number id) - 1) ≡ some
        (client_of t.core (suc (t.clients.number id)))
    is_there = subst (λ n. get_elem? t.core.clients n ≡ some (client_of t.core (suc (t.clients.number id))))
        (sym one_less) (there ∙ ap some (sym value))

    out : v.is_gathered ≡ false → IsOut t.core (suc (t.clients.number id))
    out live = (
      omega arith,
      is_there,
      ap (λ (x : Client). x.is_gathered) value ∙
          (sym (ap (λ (x : Client). x.is_gathered) shadow.0) ∙ live),
    )

    holds_none : v.attempt.held ≡ [] → (client_of t.core (suc (t.clients.number id))).attempt.held ≡ []
    holds_none e = ap (λ (x : Client). x.attempt.held) value ∙ (sym (ap (λ (x : Client). x.attempt.held) shadow.0) ∙ e)

    -- a step
    module _ (e : Action) (may : May lawful (stripe_of o.stripes) (bounds_of c) e v) where
      attempt_is : v.attempt ≡ unplaced_attempt (client_of t.core (suc (t.clients.number id))).attempt
      attempt_is = ap (λ (x : Client). x.attempt) shadow.0 ∙ ap (λ (x : Client). unplaced_attempt x.attempt) (sym value)

      step_allowed : Allowed lawful (stripe_of o.stripes) (acts (suc (t.clients.number id)) e) t.core
      step_allowed = (
        both_true (is_out t.core (suc (t.clients.number id))) _
            ((out_test t.core (suc (t.clients.number id))).complete (out may.0))
            (sym (may_shadow lk (bounds_of t.core) e (client_of t.core (suc (t.clients.number id))).attempt) ∙
            subst (λ b. may_act lk b e (unplaced_attempt (client_of t.core (suc (t.clients.number id))).attempt) ≡
            true) same_bounds (subst (λ x. may_act lk (bounds_of c) e x ≡ true) attempt_is may.1.0)),
        lawful_shadow lawful e (client_of t.core (suc (t.clients.number id))).attempt
            (subst (λ x. IsLawful lawful e x) attempt_is may.1.1),
      )

      module _ (n : ℕ) (era : n ≡ c.renewal) where
        abbrev u : Stamp
        u = unplaced n

        abbrev s : Stamp
        s = stamp_of t.core (suc (t.clients.number id))

        era' : n ≡ t.core.renewal
        era' = era ∙ ap (λ (x : Core). x.renewal) t.same

        same_found : found (stripe_of o.stripes) c e ≡ found (stripe_of o.stripes) t.core e
        same_found = ap (λ x. found lk x e) t.same ∙ found_same lk t.core c.clients c.events c.past e

        words : WordsAfter lk t.core c.clients c.events c.past u s e id (suc (t.clients.number id) - 1) v
            (client_of t.core (suc (t.clients.number id)))
        words = subst (λ x. WordsAfter lk t.core c.clients c.events c.past u s e id (suc (t.clients.number id) - 1) x
            (client_of t.core (suc (t.clients.number id)))) (sym
            (shadow.0 ∙ ap (unplaced_client v.records) (sym value)))
            (words_same lk t.core c.clients c.events c.past u s e id (suc (t.clients.number id) - 1) v.records
            (client_of t.core (suc (t.clients.number id))))

        mirrors : Mirrors (set c.clients id (after u lk e (found lk c e) v))
            (set t.core.clients (suc (t.clients.number id) - 1)
            (after s lk e (found lk t.core e) (client_of t.core (suc (t.clients.number id)))))
        mirrors = subst (λ m. Mirrors (set c.clients id (after u lk e (found lk c e) v))
            (set t.core.clients m (after s lk e (found lk t.core e) (client_of t.core (suc (t.clients.number id))))))
            (sym one_less)
            (subst (λ f. Mirrors (set c.clients id (after u lk e (found lk c e) v))
            (set t.core.clients (t.clients.number id) (after s lk e f
            (client_of t.core (suc (t.clients.number id)))))) same_found
            (subst (λ x. Mirrors (set c.clients id (after u lk e (found lk c e) v))
            (set t.core.clients (t.clients.number id) (after s lk e (found lk c e) x))) (sym value)
            (mirrors_set c.clients t.core.clients t.clients id v _ _ _ at there
            (shadow_after s lk (found lk c e) v _ shadow n era' e)
            (λ z. clash z (after_gathered s lk e (found lk c e) _ ∙
            (sym (ap (λ (x : Client). x.is_gathered) shadow.0) ∙ may.0))))))

        pub step_traced : IsTraced lawful o (stepped (unplaced n) (stripe_of o.stripes) e id v c)
        step_traced = record {
          last = t.last;
          events = t.events ++ acts (suc (t.clients.number id)) e ∷ [];
          core = played lk (acts (suc (t.clients.number id)) e) t.core;
          leads = leads_more lawful lk t.events (acts (suc (t.clients.number id)) e)
              (opened o.first t.last o.stripes) t.core t.leads step_allowed;
          same = subst (λ x. stepped u lk e id v x ≡ record (stepped s lk e (suc (t.clients.number id) - 1)
              (client_of t.core (suc (t.clients.number id))) t.core) {
                clients = (stepped u lk e id v x).clients;
                events = (stepped u lk e id v x).events;
                past =
                    (stepped u lk e id v x).past;
              }) (sym t.same) words;
          clients = mirrors;
        }

        pub step_listed : step_traced.events ≡ t.events ++ acts (suc (t.clients.number id)) e ∷ []
        unfolding step_traced
        step_listed = refl

        pub step_opened : step_traced.last ≡ t.last
        unfolding step_traced
        step_opened = refl

        pub step_numbers : (i : ℕ) → step_traced.clients.number i ≡ t.clients.number i
        unfolding step_traced mirrors mirrors_set
        step_numbers i = refl

    -- a split
    pub split_traced : IsFreeHanded v → 0 < v.grants → IsTraced lawful o (divided id v c)
    split_traced free some' =
        let k = suc (t.clients.number id) in
        let w = client_of t.core k in
        let s : IsShadow v w = subst (IsShadow v) (sym value) shadow in
        let grants : v.grants ≡ w.grants = ap (λ (x : Client). x.grants) s.0 in record {
          last = t.last;
          events = t.events ++ splits k ∷ [];
          core = divided (k - 1) w t.core;
          leads = leads_more lawful lk t.events (splits k) (opened o.first t.last o.stripes) t.core t.leads (
            (and3 (out_test t.core k) (empty_test w.attempt.held) (lt_test 0 w.grants)).complete (
              out free.0,
              holds_none free.1,
              subst (λ n. 0 < n) grants some',
            ),
            tt,
          );
          same = (λ i. record (t.same i) { clients = (divided id v c).clients; events = c.events + 1; past = c.past });
          clients = mirrors_longer (set c.clients id (giving v)) (set t.core.clients (k - 1) (giving w))
              (subst (λ m. Mirrors (set c.clients id (giving v)) (set t.core.clients m (giving w))) (sym one_less)
              (mirrors_set c.clients t.core.clients t.clients id v (giving v) _ (giving w) at there
              (shadow_giving v w s) (λ z. clash z (sym (ap (λ (x : Client). x.is_gathered) s.0) ∙ free.0))))
              (fresh v) (fresh w) (shadow_fresh v w s) refl;
        }

    pub split_listed : (free : IsFreeHanded v) (more : 0 < v.grants) →
        (split_traced free more).events ≡ t.events ++ splits (suc (t.clients.number id)) ∷ []
    unfolding split_traced
    split_listed free more = refl

    pub split_opened : (free : IsFreeHanded v) (more : 0 < v.grants) → (split_traced free more).last ≡ t.last
    unfolding split_traced
    split_opened free more = refl

    pub split_numbers : (free : IsFreeHanded v) (more : 0 < v.grants) (i : ℕ) → i < length c.clients →
        (split_traced free more).clients.number i ≡ t.clients.number i
    unfolding split_traced mirrors_longer mirrors_set
    split_numbers free more i l =
        longer_is (set c.clients id (giving v)) _ t.clients.number i
        (subst (λ n. i < n) (sym (length-set c.clients id (giving v))) l)

    -- a renewal
    pub renewal_traced : IsFreeHanded v → IsAlone c id → (last : ℕ) → 1 ≤ last → last < VERSION_LIMIT →
        o.renewal < MOST_RENEWALS → c.first ≡ o.first → c.renewal ≡ o.renewal → length c.locks ≡ o.stripes
        → IsTraced lawful record {
          image = c.cells;
          last = last;
          stripes = o.stripes;
          first = o.first;
          renewal = o.renewal + 1;
          start =
              renewing v;
        } (begun_on o.first c.cells (o.renewal + 1) last o.stripes (renewing v))
    renewal_traced free alone last low high few first renewal locks =
        let k = suc (t.clients.number id) in
        let w = client_of t.core k in
        let s : IsShadow v w = subst (IsShadow v) (sym value) shadow in
        let only : (m : ℕ) (x : Client) → get_elem? t.core.clients m ≡ some x → m ≢ t.clients.number id → x ≡ gone =
        (λ m x e ne. ⊎_elim (λ g. g) (λ q.
        let p = at_below c.clients q.0 q.1 in
        let z = t.clients.each q.0 p.0 p.1 in
        let same' : z.0 ≡ x = same_at t.core.clients m z.0 x
        (subst (λ i. get_elem? t.core.clients i ≡ some z.0) q.2 z.1) e in
        dite (ℕ_discrete q.0 id) (λ h. absurd (ne (sym q.2 ∙ ap t.clients.number h)))
        (λ h. t.clients.are_gone m x e (sym (ap (λ (i : Client). i.is_gathered) same') ∙
        (sym (ap (λ (i : Client). i.is_gathered) z.2.0) ∙ alone q.0 p.0 p.1 h)))) (t.clients.others m x e)) in
        let is_gathered : others_gathered t.core.clients (k - 1) ≡ true =
        subst (λ m. others_gathered t.core.clients m ≡ true) (sym one_less)
        (others_are t.core.clients (t.clients.number id)
        (λ m x e ne. ap (λ (y : Client). y.is_gathered) (only m x e ne))) in
        let era : t.core.renewal ≡ o.renewal = sym (ap (λ (x : Core). x.renewal) t.same) ∙ renewal in
        let few' : t.core.renewal < MOST_RENEWALS = subst (λ n. n < MOST_RENEWALS) (sym era) few in
        record {
          last = t.last;
          events = t.events ++ renews k last ∷ [];
          core = renewed (k - 1) last w t.core;
          leads = leads_more lawful lk t.events (renews k last) (opened o.first t.last o.stripes) t.core t.leads (
            both_true _ _ (both_true _ _ (both_true _ _ (both_true _ _
                (both_true _ _ ((out_test t.core k).complete (out free.0))
                ((empty_test w.attempt.held).complete (holds_none free.1))) is_gathered)
                ((le_test 1 last).complete low)) ((lt_test last VERSION_LIMIT).complete high))
                ((lt_test t.core.renewal MOST_RENEWALS).complete few'),
            tt,
          );
          same = (λ i. record {
            first = (sym first ∙ ap (λ (x : Core). x.first) t.same) i;
            past = v.records;
            last = last;
            opening = (t.same i).cells;
            renewal = sym era i + 1;
            events = 0;
            clock = 0;
            locks = replicate ((sym locks ∙ ap (λ (x : Core). length x.locks) t.same) i) 0;
            cells = (t.same i).cells;
            clients = renewing v ∷ [];
          });
          clients = subst (λ m. Mirrors (renewing v ∷ []) (set t.core.clients m (renewing w))) (sym one_less)
              (mirrors_renewed t.core.clients (t.clients.number id) v w (there ∙ ap some (sym value)) s only);
        }

    module _ (free : IsFreeHanded v) (alone : IsAlone c id) (last : ℕ) (low : 1 ≤ last) (high : last < VERSION_LIMIT)
        (few : o.renewal < MOST_RENEWALS) (first : c.first ≡ o.first) (renewal : c.renewal ≡ o.renewal)
        (locks : length c.locks ≡ o.stripes) where
      pub renewal_listed : (renewal_traced free alone last low high few first renewal locks).events
          ≡ t.events ++ renews (suc (t.clients.number id)) last ∷ []
      unfolding renewal_traced
      renewal_listed = refl

      pub renewal_opened : (renewal_traced free alone last low high few first renewal locks).last ≡ t.last
      unfolding renewal_traced
      renewal_opened = refl

      pub renewal_numbers : (renewal_traced free alone last low high few first renewal locks).clients.number 0
          ≡ t.clients.number id
      unfolding renewal_traced mirrors_renewed
      renewal_numbers = refl

  -- a gather
  pub gather_traced : (id : ℕ) (v : Client) (at : get_elem? c.clients id ≡ some v) (other : ℕ) (x : Client)
      (to : get_elem? c.clients other ≡ some x) → id ≢ other → IsFreeHanded v → IsFreeHanded x →
      IsTraced lawful o (gathered id v other x c)
  gather_traced id v at other x to ne free free' =
      let k = suc (t.clients.number id) in
      let l = suc (t.clients.number other) in
      let w = client_of t.core k in
      let y = client_of t.core l in
      let s : IsShadow v w = subst (IsShadow v) (sym (value id v at)) (shadow id v at) in
      let s' : IsShadow x y = subst (IsShadow x) (sym (value other x to)) (shadow other x to) in
      let apart : t.clients.number id ≢ t.clients.number other =
      (λ z. ne (t.clients.apart id other (in_range c.clients id v at) (in_range c.clients other x to) z)) in
      let both' : Mirrors (set (set c.clients id (taking v x)) other gone)
      (set (set t.core.clients (t.clients.number id) (taking w y)) (t.clients.number other) gone) =
      mirrors_both c.clients t.core.clients t.clients id other v (taking v x) _ (taking w y) x gone _ gone
      (λ z. ne (sym z)) at (there id v at) (shadow_taking v w x y s s')
      (λ z. clash z (sym (ap (λ (y : Client). y.is_gathered) s.0) ∙ free.0)) to (there other x to) (
        refl,
        Rattle.stm_region.specs.Traced.none,
      ) (λ z. refl) in
      record {
        last = t.last;
        events = t.events ++ gathers k l ∷ [];
        core = gathered (k - 1) w (l - 1) y t.core;
        leads = leads_more lawful lk t.events (gathers k l) (opened o.first t.last o.stripes) t.core t.leads (
          (and5 (out_test t.core k) (out_test t.core l) (not_test (eq_test k l)) (empty_test w.attempt.held)
              (empty_test y.attempt.held)).complete (
                out id v at free.0,
                out other x to free'.0,
                (λ z. apart (omega (arith, z))),
                holds_none id v at free.1,
                holds_none other x to free'.1,
              ),
          tt,
        );
        same = (λ i. record (t.same i) {
          clients = (gathered id v other x c).clients;
          events = c.events + 1;
          past = c.past;
        });
        clients = subst (λ m. Mirrors (set (set c.clients id (taking v x)) other gone)
            (set (set t.core.clients m (taking w y)) (l - 1) gone)) (sym (one_less id v at))
            (subst (λ m. Mirrors (set (set c.clients id (taking v x)) other gone)
            (set (set t.core.clients (t.clients.number id) (taking w y)) m gone))
            (sym (one_less other x to)) both');
      }

  module _ (id : ℕ) (v : Client) (at : get_elem? c.clients id ≡ some v) (other : ℕ) (x : Client)
      (to : get_elem? c.clients other ≡ some x) (ne : id ≢ other) (free : IsFreeHanded v) (free' : IsFreeHanded x) where
    pub gather_listed : (gather_traced id v at other x to ne free free').events
        ≡ t.events ++ gathers (suc (t.clients.number id)) (suc (t.clients.number other)) ∷ []
    unfolding gather_traced
    gather_listed = refl

    pub gather_opened : (gather_traced id v at other x to ne free free').last ≡ t.last
    unfolding gather_traced
    gather_opened = refl

    pub gather_numbers : (i : ℕ) → (gather_traced id v at other x to ne free free').clients.number i
        ≡ t.clients.number i
    unfolding gather_traced mirrors_both mirrors_set
    gather_numbers i = refl
