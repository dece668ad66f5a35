-- The search in the index, and a node that enters it.
use Rattle.std.proofs.Common.{◌≡◌, ◌≢◌, inl, inr, ℕ, suc, ◌+◌, ◌-◌, ◌<◌, ◌≤◌, cond, nat_lt, List, [], ◌∷◌, length, set}
use Rattle.std.proofs.Common.{refl, sym, ap, ◌∙◌, arith, length-set, subst}
use Rattle.std.proofs.lemmas.Bool.{cases_lt}
use Rattle.std.proofs.lemmas.Bool.Decides.{nat_tests}
use Rattle.stm_logs.specs.Nodes.{Node, at}
use Rattle.stm_logs.specs.Index.{home, Along, IsTaken, IsOther, HasNoNumber, IsFoundNode, places_taken, IsIndexed}
use Rattle.stm_logs.specs.Index.{Answers, SameNode}
use Rattle.stm_logs.specs.Index.{Entered}
use Rattle.stm_logs.specs.Order.{SameKeys}
use Rattle.stm_logs.proofs.NodeLemmas.{same_or, put_here, put_other, field_kept, taken_put, free_place, none_taken, bit}

pub along_map : (P Q : ℕ → Type 0) (len start end : ℕ) → ((q : ℕ) → P q → Q q) → Along P len start end →
    Along Q len start end
along_map P Q len start end f a = record {
  straight = λ l q h k. f q (a.straight l q h k);
  high = λ l q h k. f q (a.high l q h k);
  low = λ l q h. f q (a.low l q h);
}

-- one place further, not past the last
pub along_on : (P : ℕ → Type 0) (len start end : ℕ) → start < len → end + 1 < len →
    (end + 1 ≡ start → (f : ℕ) × ((f < len) × ¬ (P f))) → Along P len start end → P end → Along P len start (end + 1)
along_on P len start end s m gap a here = record {
  straight = λ l q h k. elim (cases_lt end start) [
    | inl wrapped ↦ (
        let g = gap (omega arith) in
        absurd (g.1.1 (elim (cases_lt g.0 start) [
          | inl below ↦ (elim (same_or g.0 end) [
            | inl is ↦ subst P (sym is) here
            | inr ne ↦
                a.low wrapped g.0 (omega arith)
          ])
          | inr above ↦ a.high wrapped g.0 above g.1.0
        ])))
    | inr straight ↦ (elim (same_or q end) [
      | inl is ↦ subst P (sym is) here
      | inr ne ↦
          a.straight straight q h (omega arith)
    ])
  ];
  high = λ l q h k. a.high (omega arith) q h k;
  low = λ l q h. elim (same_or q end) [ inl is ↦ subst P (sym is) here | inr ne ↦ a.low (omega arith) q (omega arith) ];
}

-- past the last place comes the first
pub along_round : (P : ℕ → Type 0) (len start end : ℕ) → start < len → end < len → end + 1 ≡ len →
    (0 ≡ start → (f : ℕ) × ((f < len) × ¬ (P f))) → Along P len start end → P end → Along P len start 0
along_round P len start end s m last gap a here =
    let all : (q : ℕ) → start ≤ q → q < len → P q = λ q h k. elim (same_or q end) [
      | inl is ↦
          subst P (sym is) here
      | inr ne ↦ a.straight (omega arith) q h (omega arith)
    ] in
    record {
      straight = λ l q h k. absurd (omega arith);
      high = λ l q h k. all q h k;
      low = λ l q h. absurd (omega arith);
    }

-- what is written where node n + 1 enters at the free place q
pub record Written (ns ns' : List Node) (n q : ℕ) (y : Node) : Type 0 where
  pub len : length ns' ≡ length ns
  pub slot_here : (at ns' q).slot ≡ n + 1
  pub slot_other : (j : ℕ) → j ≢ q → (at ns' j).slot ≡ (at ns j).slot
  pub place_here : (at ns' (n + 1)).place ≡ q
  pub place_other : (j : ℕ) → j ≢ n + 1 → (at ns' j).place ≡ (at ns j).place
  pub others : (e : ℕ) → e ≢ n + 1 → SameNode (at ns e) (at ns' e)
  pub here : SameNode y (at ns' (n + 1))
  pub count : places_taken ns' ≡ places_taken ns + 1

same_home : (a b : Node) (len len' : ℕ) → SameNode a b → len' ≡ len → home b.number len' ≡ home a.number len
same_home a b len len' s e = ap (λ k. home k len') s.number ∙ ap (λ j. home a.number j) e

still_taken : (ns ns' : List Node) (n q : ℕ) (y : Node) → Written ns ns' n q y → (j : ℕ) → IsTaken ns j → IsTaken ns' j
still_taken ns ns' n q y w j t = elim (same_or j q) [
  | inl is ↦ omega (arith, w.slot_here, ap (λ k. (at ns' k).slot) is)
  | inr ne ↦ omega (arith, w.slot_other j ne)
]

pub along_at : (P : ℕ → Type 0) (len len' start start' end end' : ℕ) → len' ≡ len → start' ≡ start → end' ≡ end →
    Along P len start end → Along P len' start' end'
along_at P len len' start start' end end' a b c h = subst (λ x. Along P x start' end') (sym a)
    (subst (λ x. Along P len x end') (sym b) (subst (λ x. Along P len start x) (sym c) h))

pub entered : (ns ns' : List Node) (n q : ℕ) (y : Node) → IsIndexed ns n → n + 1 < length ns → Answers ns n y.number q →
    (at ns q).slot ≡ 0 → Written ns ns' n q y → Entered ns ns' n y
entered ns ns' n q y ix room an free w = record {
  indexed = record {
    room = omega (arith, w.len);
    limit = omega (arith, w.len, ix.limit);
    count = omega (arith, w.count, ix.count);
    places = λ e z m. elim (same_or e (n + 1)) [
      | inl is ↦ (
          let p : (at ns' e).place ≡ q = ap (λ j. (at ns' j).place) is ∙ w.place_here in
          (omega (arith, p, an.inside, w.len), ap (λ j. (at ns' j).slot) p ∙ w.slot_here ∙ sym is))
      | inr ne ↦ (
          let p = w.place_other e ne in
          let there = ix.places e z (omega arith) in
          let apart : (at ns e).place ≢ q = λ is. absurd (omega (arith, there.1, ap (λ j. (at ns j).slot) is)) in
          (omega (arith, p, there.0, w.len), ap (λ j. (at ns' j).slot) p ∙ w.slot_other _ apart ∙ there.1))
    ];
    slots = λ p l t. elim (same_or p q) [
      | inl is ↦ (
          let s : (at ns' p).slot ≡ n + 1 = ap (λ j. (at ns' j).slot) is ∙ w.slot_here in
          (omega (arith, s), ap (λ j. (at ns' j).place) s ∙ w.place_here ∙ sym is))
      | inr ne ↦ (
          let s = w.slot_other p ne in
          let there = ix.slots p (omega (arith, w.len)) (omega (arith, s)) in (
            omega (arith, s, there.0),
            ap (λ j. (at ns' j).place) s ∙
                w.place_other _ (λ is. absurd (omega (arith, there.0, is))) ∙ there.1,
          ))
    ];
    reached = λ e z m. elim (same_or e (n + 1)) [
      | inl is ↦ (
          let s : SameNode y (at ns' e) = subst (λ j. SameNode y (at ns' j)) (sym is) w.here in
          along_at (IsTaken ns') _ _ _ _ _ _ w.len (same_home y (at ns' e) _ _ s w.len)
          (ap (λ j. (at ns' j).place) is ∙ w.place_here)
          (along_map (IsTaken ns) (IsTaken ns') _ _ _ (still_taken ns ns' n q y w) (an.free free).1))
      | inr ne ↦
          along_at (IsTaken ns') _ _ _ _ _ _ w.len (same_home (at ns e) (at ns' e) _ _ (w.others e ne) w.len)
          (w.place_other e ne)
          (along_map (IsTaken ns) (IsTaken ns') _ _ _ (still_taken ns ns' n q y w) (ix.reached e z (omega arith)))
    ];
  };
  len = w.len;
  others = w.others;
  here = w.here;
}

-- a node with the slot of the place where it is put
abbrev pub placed : Node → ℕ → ℕ → ℕ → Node
placed y place slot finger = record y { place = place; slot = slot; finger = finger }

abbrev pub leads : Node → ℕ → ℕ → Node
leads y slot finger = record y { slot = slot; finger = finger }

unplaced : (y b : Node) (q s f : ℕ) → SameNode (placed y q s f) b → SameNode y b
unplaced y b q s f h = record { value = h.value; number = h.number; lock = h.lock; next = h.next }

pub written : (ns : List Node) (n q f h : ℕ) (y : Node) → n + 1 < length ns → q < length ns → (at ns q).slot ≡ 0
    → Written ns (set (set ns (n + 1) (placed y q (at ns (n + 1)).slot f)) q
    (leads (at (set ns (n + 1) (placed y q (at ns (n + 1)).slot f)) q) (n + 1) h)) n q y
written ns n q f h y room l free =
    let mid : List Node = set ns (n + 1) (placed y q (at ns (n + 1)).slot f) in
    let z : Node = leads (at mid q) (n + 1) h in
    let end : List Node = set mid q z in
    let m : length mid ≡ length ns = length-set ns (n + 1) (placed y q (at ns (n + 1)).slot f) in
    let lm : q < length mid = omega (arith, m) in
    let here : at mid (n + 1) ≡ placed y q (at ns (n + 1)).slot f = put_here ns (n + 1) _ room in
    let slots : (j : ℕ) → (at mid j).slot ≡ (at ns j).slot = field_kept (λ x. x.slot) ns (n + 1) _ room refl in
    let others : (j : ℕ) → j ≢ n + 1 → at mid j ≡ at ns j = λ j ne. put_other ns (n + 1) j _ ne in
    let at_end : (j : ℕ) → SameNode (at mid j) (at end j) = λ j. record {
      value = field_kept (λ x. x.value) mid q z lm refl j;
      number = field_kept (λ x. x.number) mid q z lm refl j;
      lock = field_kept (λ x. x.lock) mid q z lm refl j;
      next = field_kept (λ x. x.next) mid q z lm refl j;
    } in
    let places : (j : ℕ) → (at end j).place ≡ (at mid j).place = field_kept (λ x. x.place) mid q z lm refl in
    let first = taken_put ns (n + 1) (placed y q (at ns (n + 1)).slot f) room in
    let second = taken_put mid q z lm in
    let empty : bit (at mid q).slot ≡ 0 = ap bit (slots q ∙ free) in
    let full : bit (n + 1) ≡ 1 = grind (arith, nat_tests) in
    record {
      len = length-set mid q z ∙ m;
      slot_here = ap (λ x. x.slot) (put_here mid q z lm);
      slot_other = λ j ne. ap (λ x. x.slot) (put_other mid q j z ne) ∙ slots j;
      place_here = places (n + 1) ∙ ap (λ x. x.place) here;
      place_other = λ j ne. places j ∙ ap (λ x. x.place) (others j ne);
      others = λ j ne. subst (λ x. SameNode x (at end j)) (others j ne) (at_end j);
      here = unplaced y _ q _ f (subst (λ x. SameNode x (at end (n + 1))) here (at_end (n + 1)));
      count = omega (arith, first, second, empty, full);
    }

-- how many places are left until the search is round
abbrev pub to_go : ℕ → ℕ → ℕ → ℕ
to_go start len place = cond (nat_lt place start) (start - place) (len + start - place)

pub record Stepped (P : ℕ → Type 0) (len start place next : ℕ) : Type 0 where
  pub inside : next < len
  pub along : Along P len start next
  pub nearer : to_go start len next < to_go start len place

stepped_on : (P : ℕ → Type 0) (len start place next : ℕ) → start < len → place + 1 < len → next ≡ place + 1 →
    (f : ℕ) × ((f < len) × ¬ (P f)) → Along P len start place → P place → Stepped P len start place next
stepped_on P len start place next s l is gap a here =
    let along : Along P len start (place + 1) = along_on P len start place s l (λ _. gap) a here in
    let full : (place + 1 ≡ start) → ⊥ = λ e. gap.1.1 (elim (cases_lt gap.0 start) [
      | inl below ↦ (elim (same_or gap.0 place) [
        | inl at ↦ subst P (sym at) here
        | inr ne ↦
            a.low (omega arith) gap.0 (omega arith)
      ])
      | inr above ↦ a.high (omega arith) gap.0 above gap.1.0
    ]) in
    record {
      inside = omega arith;
      along = subst (λ e. Along P len start e) (sym is) along;
      nearer = grind (arith, nat_tests, is, full);
    }

stepped_round : (P : ℕ → Type 0) (len start place next : ℕ) → start < len → place + 1 ≡ len → next ≡ 0 →
    (f : ℕ) × ((f < len) × ¬ (P f)) → Along P len start place → P place → Stepped P len start place next
stepped_round P len start place next s l is gap a here =
    let along : Along P len start 0 = along_round P len start place s (omega arith) l (λ _. gap) a here in
    let full : (0 ≡ start) → ⊥ = λ e. gap.1.1 (elim (same_or gap.0 place) [
      | inl at ↦ subst P (sym at) here
      | inr ne ↦
          a.straight (omega arith) gap.0 (omega arith) (omega arith)
    ]) in
    record {
      inside = omega arith;
      along = subst (λ e. Along P len start e) (sym is) along;
      nearer = grind (arith, nat_tests, is, full);
    }

pub stepped : (ns : List Node) (n k start place next : ℕ) → IsIndexed ns n → start < length ns → place < length ns
    → (place + 1 < length ns → next ≡ place + 1) → (place + 1 ≡ length ns → next ≡ 0)
    → Along (IsOther ns k) (length ns) start place → IsOther ns k place →
    Stepped (IsOther ns k) (length ns) start place next
stepped ns n k start place next ix s l on round a here =
    let g = free_place ns (omega (arith, ix.count, ix.room)) in
    let gap : (f : ℕ) × ((f < length ns) × ¬ (IsOther ns k f)) =
    (g.0, (g.1.0, λ o. absurd (omega (arith, o.0, g.1.1)))) in
    elim (cases_lt (place + 1) (length ns)) [
      | inl below ↦ stepped_on _ _ _ _ _ s below (on below) gap a here
      | inr last ↦ stepped_round _ _ _ _ _ s (omega arith) (round (omega arith)) gap a here
    ]

-- ---- what is kept where no key, place or slot changes
taken_same : (ns ns' : List Node) → length ns' ≡ length ns → ((q : ℕ) → (at ns' q).slot ≡ (at ns q).slot) →
    places_taken ns' ≡ places_taken ns
taken_same [] [] l h = refl
taken_same [] (m ∷ ns') l h = absurd (omega arith)
taken_same (n ∷ ns) [] l h = absurd (omega arith)
taken_same (n ∷ ns) (m ∷ ns') l h =
    let rest = taken_same ns ns' (omega arith) (λ q. h (suc q)) in
    let here : bit m.slot ≡ bit n.slot = ap bit (h 0) in
    omega (arith, rest, here)

pub indexed_kept : (ns ns' : List Node) (n : ℕ) → length ns' ≡ length ns → ((e : ℕ) → SameKeys (at ns e) (at ns' e)) →
    IsIndexed ns n → IsIndexed ns' n
indexed_kept ns ns' n len same ix = record {
  room = omega (arith, len, ix.room);
  limit = omega (arith, len, ix.limit);
  count = taken_same ns ns' len (λ q. (same q).slot) ∙ ix.count;
  places = λ e z m.
      let p = (same e).place in let h = ix.places e z m in
      (omega (arith, p, len, h.0), ap (λ j. (at ns' j).slot) p ∙ (same _).slot ∙ h.1);
  slots = λ q l t.
      let s = (same q).slot in let h = ix.slots q (omega (arith, len)) (omega (arith, s)) in
      (omega (arith, s, h.0), ap (λ j. (at ns' j).place) s ∙ (same _).place ∙ h.1);
  reached = λ e z m.
      along_at (IsTaken ns') _ _ _ _ _ _ len
      (ap (λ k. home k (length ns')) (same e).number ∙ ap (home (at ns e).number) len)
      (same e).place
      (along_map (IsTaken ns) (IsTaken ns') _ _ _ (λ q t. omega (arith, (same q).slot)) (ix.reached e z m));
}

-- a block without nodes
pub indexed_none : (ns : List Node) → 0 < length ns → length ns ≤ 2147483648 →
    ((q : ℕ) → q < length ns → (at ns q).slot ≡ 0) → IsIndexed ns 0
indexed_none ns some limit free = record {
  room = some;
  limit = limit;
  count = none_taken ns free;
  places = λ e z m. absurd (omega arith);
  slots = λ q l t. absurd (omega (arith, free q l));
  reached = λ e z m. absurd (omega arith);
}

-- where no node has the number, the index answers with a free place
pub free_answer : (ns : List Node) (n k q : ℕ) → Answers ns n k q → HasNoNumber ns n k → (at ns q).slot ≡ 0
free_answer ns n k q an none = elim (same_or (at ns q).slot 0) [
  | inl is ↦ is
  | inr ne ↦ (
      let some : 0 < (at ns q).slot = omega arith in
      let f = an.found some in
      absurd (none _ some f.0 f.1))
]

-- a taken one leads to the word
pub found_at : (ns : List Node) (n x a q : ℕ) → Answers ns n a q → x ≡ (at ns q).slot → 0 < x → IsFoundNode ns n a x
found_at ns n x a q an node some =
    subst (IsFoundNode ns n a) (sym node) (an.found (omega (arith, some, node)))
