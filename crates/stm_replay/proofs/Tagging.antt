-- The tags of a list of events: numbers for them, and the tags that numbers stand for.
use Rattle.std.proofs.Common.{◌≡◌, ◌≢◌, ℕ, zero, suc, ◌+◌, ◌<◌, ◌≤◌, ⊎_elim, Bool, true, false, cond, eqb, List, []}
use Rattle.std.proofs.Common.{◌∷◌, ◌++◌, length, map, refl, sym, ap, ◌∙◌, subst, arith, nat_eq}
use Rattle.std.specs.Cmp.Lexicographic.{pointwise, same_text, other_text}
use mathlib.Core.Option.{some, some-injective}
use Rattle.tx_memory.specs.Image.{In, laid}
use Rattle.stm_core.specs.Client.{Client, Record, shed, RecordLaw}
use Rattle.stm_core.specs.Event.{tick, finish}
use Rattle.stm_core.specs.Core.{Core, Event, acts, Allowed, played, Leads, opened}
use Rattle.stm_core.specs.Version.{At}
use Rattle.stm_core.specs.Invariant.{Rule}
use Rattle.stm_core.specs.History.{Serial, ByPoint}
use Rattle.stm_core.specs.Theorem.{free_law, IsHistory, IsSerializable}
use Rattle.stm_core.specs.Guards.{stripe_of}
use Rattle.stm_replay.specs.Seat.{tag_number}
use Rattle.stm_replay.specs.Numbered.{numbered_event, numbered_record, numbered_client, numbered_core, tags_of}
use Rattle.stm_replay.specs.Numbered.{TellsApart, EveryListHasNumbers, IsLegal, LegalHistories}
use Rattle.stm_core.proofs.Lists.{nothing_in}
use Rattle.stm_core.proofs.Orders.{in_cons}
use Rattle.stm_core.proofs.Eras.{in_append}
use Rattle.stm_core.proofs.Lones.{at_map, at_unmap}
use Rattle.stm_core.proofs.Renewals.{pre}
use Rattle.stm_core.proofs.Renewing.{opening_rules}
use Rattle.stm_core.proofs.Playing.{event_keeps, every_list_is_serializable}
use Rattle.stm_core.proofs.Steps.{by_case}
use Rattle.stm_replay.proofs.Numbering.{allowed_with_numbers}
use Rattle.stm_core.proofs.Conditions.{can_play}

in_tail : {A : Type 0} (x y : A) (l : List A) → x ≢ y → In y (x ∷ l) → In y l
in_tail x y l n (zero, e) = absurd (n (some-injective x y e))
in_tail x y l n (suc j, e) = (j, e)

-- the first position of a tag
abbrev place_of : List (List ℕ) → List ℕ → ℕ
place_of [] t = 0
place_of (x ∷ xs) t = cond (pointwise nat_eq x t) 0 (place_of xs t + 1)

place_inside : (l : List (List ℕ)) (t : List ℕ) → In t l → place_of l t < length l
place_inside [] t i = absurd (nothing_in t i)
place_inside (x ∷ l) t i = by_case (λ b. cond b 0 (place_of l t + 1) < suc (length l)) (pointwise nat_eq x t)
    (λ e. omega arith) (λ e. let h = place_inside l t (in_tail x t l (other_text x t (sym e)) i) in omega arith)

tells_apart : (l : List (List ℕ)) → TellsApart (place_of l) l
tells_apart [] s t i j e = absurd (nothing_in s i)
tells_apart (x ∷ l) s t i j e =
    by_case (λ b. cond b 0 (place_of l s + 1) ≡ place_of (x ∷ l) t → s ≡ t) (pointwise nat_eq x s)
    (λ p. by_case (λ b. 0 ≡ cond b 0 (place_of l t + 1) → s ≡ t) (pointwise nat_eq x t)
    (λ q. λ z. sym (same_text x s (sym p)) ∙ same_text x t (sym q)) (λ q. λ z. absurd (omega arith)))
    (λ p. by_case (λ b. place_of l s + 1 ≡ cond b 0 (place_of l t + 1) →
    s ≡ t) (pointwise nat_eq x t) (λ q. λ z. absurd (omega arith))
    (λ q. λ z. tells_apart l s t (in_tail x s l (other_text x s (sym p)) i) (in_tail x t l (other_text x t (sym q)) j)
    (omega arith)))
    e

few_tags : (es : List Event) → length (tags_of es) ≤ length es
few_tags [] = omega arith
few_tags (acts k (tick from tag writes) ∷ es) = let h = few_tags es in omega arith
few_tags (acts k (finish tag) ∷ es) = let h = few_tags es in omega arith
few_tags (e ∷ es) = let h = few_tags es in omega arith

pub every_list_has_numbers : EveryListHasNumbers
every_list_has_numbers es = (
  place_of (tags_of es),
  tells_apart (tags_of es),
  λ t i. let a =
      place_inside (tags_of es) t i in let b = few_tags es in omega arith,
)

later_tag : (e : Event) (es : List Event) (t : List ℕ) → In t (tags_of es) → In t (tags_of (e ∷ es))
later_tag (acts k (tick from tag writes)) es t i = (suc i.0, i.1)
later_tag (acts k (finish tag)) es t i = (suc i.0, i.1)
later_tag e es t i = i

module _ (lawful : RecordLaw) (tags : List (List ℕ)) where
  -- the law that asks for one of the tags too
  abbrev pub tagged : List ℕ → List (ℕ × ℕ) → List (ℕ × ℕ) → Type 0
  tagged tag reads writes = lawful tag reads writes × In tag tags

  event_tagged : (lk : ℕ → ℕ) (e : Event) (es : List Event) (c : Core) →
      ((t : List ℕ) → In t (tags_of (e ∷ es)) → In t tags) → Allowed lawful lk e c → Allowed tagged lk e c
  event_tagged lk (acts k (tick from tag writes)) es c f h = (h.0, (h.1, f tag (0, refl)))
  event_tagged lk (acts k (finish tag)) es c f h = (h.0, (h.1, f tag (0, refl)))
  event_tagged lk e es c f h = h

  leads_tagged : (lk : ℕ → ℕ) (es : List Event) (c d : Core) → ((t : List ℕ) → In t (tags_of es) → In t tags) →
      Leads lawful lk c es d → Leads tagged lk c es d
  leads_tagged lk [] c d f h = h
  leads_tagged lk (e ∷ es) c d f h = (
    event_tagged lk e es c f h.0,
    leads_tagged lk es (played lk e c) d (λ t i. f t (later_tag e es t i)) h.1,
  )

kept : (lawful : RecordLaw) (lk : ℕ → ℕ) (es : List Event) (c d : Core) → Rule lawful lk c → Leads lawful lk c es d →
    Rule lawful lk d
kept lawful lk [] c d k h = subst (Rule lawful lk) h k
kept lawful lk (e ∷ es) c d k h = kept lawful lk es (played lk e c) d
    (event_keeps lawful lk c e k (can_play lawful lk e c h.0)) h.1

module _ (number : List ℕ → ℕ) where
  points_back : (rs : List Record) → ByPoint (map (numbered_record number) rs) → ByPoint rs
  points_back [] h = tt
  points_back (x ∷ rs) h = (
    λ r m. h.0 (numbered_record number r) (m.0, at_map (numbered_record number) rs m.0 r m.1),
    points_back rs h.1,
  )

  points_forth : (rs : List Record) → ByPoint rs → ByPoint (map (numbered_record number) rs)
  points_forth [] h = tt
  points_forth (x ∷ rs) h = (
    λ r m. let q = at_unmap (numbered_record number) rs m.0 r m.1 in
        subst (λ (z : Record). x.point < z.point) q.2 (h.0 q.0 (m.0, q.1)),
    points_forth rs h.1,
  )

  serial_back : (image : List ℕ) (rs : List Record) → Serial image (map (numbered_record number) rs) → Serial image rs
  serial_back image [] h = tt
  serial_back image (r ∷ rs) h = (h.0, serial_back (laid image r.writes) rs h.1)

  -- a history with numbers is the history of the core with numbers
  history_forth : (c : Core) (rs : List Record) → IsHistory c rs →
      IsHistory (numbered_core number c) (map (numbered_record number) rs)
  history_forth c rs h = record {
    ascending = points_forth rs h.ascending;
    every = λ i w r e m.
        let v = at_unmap (numbered_client number) c.clients i w e in
        let n = subst (λ (z : Client). In r z.records) (sym v.2) m in
        let x = at_unmap (numbered_record number) v.0.records n.0 r n.1 in
        let q = h.every i v.0 x.0 v.1 (n.0, x.1) in
        (q.0, at_map (numbered_record number) rs q.0 x.0 q.1 ∙ ap some x.2);
    only = λ r m.
        let x = at_unmap (numbered_record number) rs m.0 r m.1 in
        let q = h.only x.0 (m.0, x.1) in (
          q.0,
          numbered_client number q.1,
          at_map (numbered_client number) c.clients q.0 q.1 q.2,
          (q.3.0, at_map (numbered_record number) q.1.records q.3.0 x.0 q.3.1 ∙ ap some x.2),
        );
  }

  -- the records whose versions with numbers these are
  pulled : (c : Core) (rs : List Record) → ((r : Record) → In r rs →
      (i : ℕ) × (w : Client) × At (numbered_core number c).clients i w × In r w.records)
      → (l : List Record) × (map (numbered_record number) l ≡ rs) × ((r : Record) → In r l →
      (i : ℕ) × (v : Client) × At c.clients i v × In r v.records)
  pulled c [] f = ([], refl, λ r m. absurd (nothing_in r m))
  pulled c (r ∷ rs) f =
      let p = pulled c rs (λ x m. f x (suc m.0, m.1)) in
      let q = f r (0, refl) in
      let v = at_unmap (numbered_client number) c.clients q.0 q.1 q.2 in
      let n = subst (λ (z : Client). In r z.records) (sym v.2) q.3 in
      let x = at_unmap (numbered_record number) v.0.records n.0 r n.1 in (
        x.0 ∷ p.0,
        (λ j. x.2 j ∷ p.1 j),
        λ y m. ⊎_elim (λ e. subst (λ (z : Record). (i : ℕ) × (w : Client) ×
            At c.clients i w × In z w.records) e (q.0, v.0, v.1, (n.0, x.1))) (λ k. p.2 y k) (in_cons x.0 y p.0 m),
      )

  -- records that differ at most in their tags are equal if their tags have one number
  same_record : (tags : List (List ℕ)) → TellsApart number tags → (r x : Record) → In r.tag tags → In x.tag tags →
      numbered_record number x ≡ numbered_record number r → x ≡ r
  same_record tags h r x i j e =
      let t : x.tag ≡ r.tag = h x.tag r.tag j i (ap (λ (z : Record). tag_number z.tag) e) in
      let a : x ≡ record r { tag = x.tag } = ap (λ (z : Record). record z { tag = x.tag }) e in
      a ∙ ap (λ g. record r { tag = g }) t

module _ (lawful : RecordLaw) (image : List ℕ) (tags : List (List ℕ)) (number : List ℕ →
    ℕ) (apart : TellsApart number tags) (lk : ℕ → ℕ) (c : Core) (k : Rule (tagged lawful tags) lk c) where
  abides : (i : ℕ) (v : Client) (r : Record) → At c.clients i v → In r v.records →
      lawful r.tag r.reads r.writes × In r.tag tags
  abides i v r e m = ⊎_elim (λ p. k.past.abides r (past_of (eqb i k.past.keeper) p))
      (λ p. ((k.inv.filed.filed i (shed c.renewal v) (at_map (shed c.renewal) c.clients i v e)).told r p).abides)
      (in_append (pre (tagged lawful tags) lk c k i) (shed c.renewal v).records r (subst (In r) (k.past.kept i v e) m))
    where
      past_of : (b : Bool) → In r (cond b c.past []) → In r c.past
      past_of true p = p
      past_of false p = absurd (nothing_in r p)

  legal : (hs : List Record) → IsHistory (numbered_core number c) hs → Serial image hs →
      (rs : List Record) × IsLegal lawful image tags c rs
  legal hs h s =
      let p = pulled number c hs h.only in
      let rs = p.0 in
      let sure : (r : Record) → In r rs → lawful r.tag r.reads r.writes × In r.tag tags = λ r m. let q = p.2 r m in
      abides q.0 q.1 r q.2 q.3 in (
        rs,
        record {
          is_history = record {
            ascending = points_back number rs (subst ByPoint (sym p.1) h.ascending);
            every = λ i v r e m.
                let n = subst (In (numbered_record number r)) (sym p.1)
                (h.every i (numbered_client number v) (numbered_record number r)
                (at_map (numbered_client number) c.clients i v e) (
                  m.0,
                  at_map (numbered_record number) v.records m.0 r m.1,
                )) in
                let x = at_unmap (numbered_record number) rs n.0 (numbered_record number r) n.1 in (
                  n.0,
                  x.1 ∙ ap some (same_record number tags apart r x.0 (abides i v r e m).1
                      (sure x.0 (n.0, x.1)).1 x.2),
                );
            only = p.2;
          };
          serial = serial_back number image rs (subst (Serial image) (sym p.1) s);
          abides = λ r m. (sure r m).0;
          tagged = λ r m. (sure r m).1;
        },
      )

pub legal_histories : (lawful : RecordLaw) → LegalHistories lawful
legal_histories lawful image last stripes es c h =
    let tags = tags_of es in
    let number = place_of tags in
    let lk = stripe_of stripes in
    let k : Rule (tagged lawful tags) lk c = kept (tagged lawful tags) lk es (opened image last stripes) c
    (opening_rules (tagged lawful tags) lk image last stripes)
    (leads_tagged lawful tags lk es (opened image last stripes) c (λ t i. i) h) in
    let s : IsSerializable free_law lk (opened image last stripes) (map (numbered_event number) es)
    (numbered_core number c) = every_list_is_serializable free_law image last stripes
    (map (numbered_event number) es) (numbered_core number c)
    (allowed_with_numbers lawful number image last stripes es c h) in
    let q = legal lawful image tags number (tells_apart tags) lk c k (s.earlier ++ s.present) s.is_history s.serial in
    (q.0, q.1, λ other. history_forth other c q.0 q.1.is_history)
