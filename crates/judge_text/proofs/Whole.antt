-- Orders of each object's calls make one of all: of the completed calls that are left take the one
-- that ends first; the first call in the order of its object may come next.
use Rattle.std.proofs.Common.{◌≡◌, ℕ, ◌<◌, ◌≤◌, ◌==◌, suc, zero, Bool, true, false, cond, List, [], ◌∷◌}
use Rattle.std.proofs.Common.{length, refl, sym, ap, ◌∙◌, subst, inl, inr, arith}
use Rattle.std.specs.Prelude.{◌⊎◌}
use Rattle.std.specs.Str.{bytes_eq}
use Rattle.std.proofs.lemmas.Bool.{cases_lt}
use Rattle.judge_object.specs.Rules.{Rules}
use Rattle.judge_object.specs.Call.{Call, is_completed}
use Rattle.judge_object.specs.Orders.{of_client}
use Rattle.judge_search.specs.Configurations.{Configuration, IsFirst, without_next, weight, answered, Goes}
use Rattle.judge_search.specs.Configurations.{after_call, CallsReach, start}
use Rattle.judge_search.specs.Walk.{IsTimed, IsWhole, Completes}
use Rattle.judge_search.proofs.Each.{Each, test}
use Rattle.judge_search.proofs.Left.{whole_after}
use Rattle.judge_search.proofs.Completing.{linearization_of, completes_start}
use Rattle.judge_text.specs.Many.{changed, is_for, part, many, IsApart, AreStrict, PartsMakeLinearizable}
use Rattle.judge_text.proofs.OfOne.{named, each_part, turn_part, changed_here, changed_not}

-- whether a call is completed
abbrev Answers : Bool → Type 0
Answers b = (b ≡ true) ⊎ (b ≡ false)

answers : (b : Bool) → Answers b
answers true = inl refl
answers false = inr refl

false_true : false ≡ true → ⊥
false_true x = cc

module _ {O : Type 0} where
  -- a call is among these
  abbrev pub In : Call O → List (Call O) → Type 0
  In e [] = ⊥
  In e (c ∷ cs) = (e ≡ c) ⊎ In e cs

  each_in : (P : Call O → Type 0) (cs : List (Call O)) (e : Call O) → Each P cs → In e cs → P e
  each_in P [] e h i = absurd i
  each_in P (c ∷ cs) e h (inl i) = subst P (sym i) h.0
  each_in P (c ∷ cs) e h (inr i) = each_in P cs e h.1 i

  in_part : (name : O → List ℕ) (k : List ℕ) (cs : List (Call O)) (e : Call O) → In e cs → is_for name k e ≡ true →
      In e (part name k cs)
  in_part name k [] e i t = i
  in_part name k (c ∷ cs) e (inl i) t =
      let own : is_for name k c ≡ true = ap (is_for name k) (sym i) ∙ t in
      rw own (inl i)
  in_part name k (c ∷ cs) e (inr i) t = go (is_for name k c) (in_part name k cs e i t)
    where
      go : (b : Bool) → In e (part name k cs) → In e (cond b (c ∷ part name k cs) (part name k cs))
      go true h = inr h
      go false h = h

  -- the completed call that ends first
  pub record IsSoonest (cs : List (Call O)) (e : Call O) : Type 0 where
    pub among : In e cs
    pub some : is_completed e ≡ true
    pub first : Each (λ o. is_completed o ≡ true → e.end ≤ o.end) cs

  pub data Soonest (cs : List (Call O)) : Type 0 where
    Has : (e : Call O) → (is : IsSoonest cs e) → Soonest cs
    HasNone : (none : Each (λ o. is_completed o ≡ false) cs) → Soonest cs

  none_first : (c : Call O) (cs : List (Call O)) → Each (λ o. is_completed o ≡ false) cs →
      Each (λ o. is_completed o ≡ true → c.end ≤ o.end) cs
  none_first c [] h = tt
  none_first c (d ∷ ds) h = (λ t. absurd (false_true (sym h.0 ∙ t)), none_first c ds h.1)

  lower : (a b : Call O) (cs : List (Call O)) → a.end ≤ b.end → Each (λ o. is_completed o ≡ true → b.end ≤ o.end) cs →
      Each (λ o. is_completed o ≡ true → a.end ≤ o.end) cs
  lower a b [] l h = tt
  lower a b (c ∷ cs) l h = (λ t. (let m : b.end ≤ c.end = h.0 t in omega arith), lower a b cs l h.1)

  pub soonest : (cs : List (Call O)) → Soonest cs
  soonest [] = HasNone tt
  soonest (c ∷ cs) = go (answers (is_completed c)) (soonest cs)
    where
      go : Answers (is_completed c) → Soonest cs → Soonest (c ∷ cs)
      go (inl t) (HasNone none) = Has c (record {
        among = inl refl;
        some = t;
        first = (λ x. omega arith, none_first c cs none);
      })
      go (inr f) (HasNone none) = HasNone (f, none)
      go (inr f) (Has e is) = Has e (record {
        among = inr is.among;
        some = is.some;
        first = (λ t. absurd (false_true (sym f ∙ t)), is.first);
      })
      go (inl t) (Has e is) =
          elim (cases_lt e.end c.end) [
            | inl l ↦ Has e (record { among = inr is.among; some = is.some; first = (λ x. omega arith, is.first) })
            | inr l ↦ Has c (record {
              among = inl refl;
              some = t;
              first = (λ x. omega arith, lower c e cs l is.first);
            })
          ]

  -- what is left without a call is shorter
  pub shorter : (cs : List (Call O)) (c : Call O) → IsFirst cs c → length cs ≡ suc (length (without_next c.client cs))
  shorter [] c f = absurd (no_first c f)
    where
      no_first : (c : Call O) → IsFirst [] c → ⊥
      no_first c f = let e : ◌≡◌ {A = List (Call O)} [] (c ∷ f.tail) = f.is in cc
  shorter (d ∷ ds) c f =
      elim (test d.client c.client) [
        | inl t ↦ rw t.0 refl
        | inr t ↦ rw t.0 (let e = shorter ds c (record { tail = f.tail; is = rw t.0 at f.is }) in omega arith)
      ]

  strict_without : (k : ℕ) (cs : List (Call O)) → AreStrict cs → AreStrict (without_next k cs)
  strict_without k [] h = tt
  strict_without k (c ∷ cs) h =
      elim (test c.client k) [
        | inl t ↦ rw t.0 h.1
        | inr t ↦ rw t.0 (each_without_of (λ d. IsApart d c) k cs h.0, strict_without k cs h.1)
      ]
    where
      each_without_of : (P : Call O → Type 0) (k : ℕ) (cs : List (Call O)) → Each P cs → Each P (without_next k cs)
      each_without_of P k [] h = tt
      each_without_of P k (c ∷ cs) h =
          elim (test c.client k) [
            | inl t ↦ rw t.0 h.1
            | inr t ↦ rw t.0 (h.0, each_without_of P k cs h.1)
          ]

  head_same : (c d : Call O) (cs ds : List (Call O)) → c ∷ cs ≡ d ∷ ds → c ≡ d
  head_same c d cs ds e = cc

  -- the first call of a client is itself among the calls for an object, or any of that client for
  -- that object begins after it has ended
  pub record IsBefore (name : O → List ℕ) (k : List ℕ) (cs : List (Call O)) (h g : Call O) : Type 0 where
    pub among : In g cs
    pub apart : g.end < h.begin

  none_cons : (h : Call O) (tail : List (Call O)) → ◌≡◌ {A = List (Call O)} [] (h ∷ tail) → ⊥
  none_cons h tail e = cc

  part_in : (name : O → List ℕ) (k : List ℕ) (cs : List (Call O)) (e : Call O) → In e (part name k cs) → In e cs
  part_in name k [] e i = i
  part_in name k (c ∷ cs) e i = go (is_for name k c) (part_in name k cs e) i
    where
      go : (b : Bool) → (In e (part name k cs) → In e cs) → In e (cond b (c ∷ part name k cs) (part name k cs)) →
          In e (c ∷ cs)
      go true more (inl j) = inl j
      go true more (inr j) = inr (more j)
      go false more j = inr (more j)

  part_is : (name : O → List ℕ) (k : List ℕ) (cs : List (Call O)) →
      Each (λ c. is_for name k c ≡ true) (part name k cs)
  part_is name k [] = tt
  part_is name k (c ∷ cs) = go (is_for name k c) refl (part_is name k cs)
    where
      go : (b : Bool) → is_for name k c ≡ b → Each (λ c. is_for name k c ≡ true) (part name k cs) →
          Each (λ c. is_for name k c ≡ true) (cond b (c ∷ part name k cs) (part name k cs))
      go true e h = (e, h)
      go false e h = h

  client_in : (k : ℕ) (cs : List (Call O)) (e : Call O) → In e (of_client k cs) → (e.client ≡ k) × In e cs
  client_in k [] e i = absurd i
  client_in k (c ∷ cs) e i =
      elim (test c.client k) [
        | inl t ↦ elim (rw t.0 at i) [
          | inl j ↦ (ap (λ (x : Call O). x.client) j ∙ t.1, inl j)
          | inr j ↦ let r = client_in k cs e j in (r.0, inr r.1)
        ]
        | inr t ↦ let r = client_in k cs e (rw t.0 at i) in (r.0, inr r.1)
      ]

  -- the first call of its client is among the calls
  first_in : (cs : List (Call O)) (h : Call O) → IsFirst cs h → In h cs
  first_in cs h f =
      let i : In h (of_client h.client cs) = subst (In h) (sym f.is) (inl refl) in (client_in h.client cs h i).1

  -- the first call of its client for an object is its client's first, or an earlier one had ended
  pub first_of : (name : O → List ℕ) (k : List ℕ) (cs : List (Call O)) (h : Call O) → AreStrict cs →
      IsFirst (part name k cs) h → IsFirst cs h ⊎ ((g : Call O) × IsBefore name k cs h g)
  first_of name k [] h s f = absurd (none_cons h f.tail f.is)
  first_of name k (c ∷ cs) h s f =
      elim (test c.client h.client) [
        | inl t ↦
            elim (named (name c.op) k) [
              | inl n ↦
                  let is = rw t.0 at (rw n.0 at f.is) in
                  let same = head_same c h (of_client h.client (part name k cs)) f.tail is in
                  inl (record {
                    tail = of_client h.client cs;
                    is = rw t.0 (ap (λ x. x ∷ of_client h.client cs) same);
                  })
              | inr n ↦
                  let is = rw n.0 at f.is in
                  let i : In h (of_client h.client (part name k cs)) = subst (In h) (sym is) (inl refl) in
                  let at = client_in h.client (part name k cs) h i in
                  let later : IsApart h c = each_in (λ d. IsApart d c) cs h s.0 (part_in name k cs h at.1) in
                  inr (c, record { among = inl refl; apart = later t.1 })
            ]
        | inr t ↦
            let rest = first_of name k cs h s.1 (record { tail = f.tail; is = skip (is_for name k c) t.0 f.is }) in
            elim rest [
              | inl r ↦ inl (record { tail = r.tail; is = rw t.0 r.is })
              | inr r ↦ inr (r.0, record { among = inr r.1.among; apart = r.1.apart })
            ]
      ]
    where
      skip : (b : Bool) → (c.client == h.client) ≡ false →
          of_client h.client (cond b (c ∷ part name k cs) (part name k cs)) ≡ h ∷ f.tail →
          of_client h.client (part name k cs) ≡ h ∷ f.tail
      skip true e x = rw e at x
      skip false e x = x

  -- without its client's first call, the calls for its object
  pub part_here : (name : O → List ℕ) (k : List ℕ) (cs : List (Call O)) (h : Call O) → IsFirst cs h →
      is_for name k h ≡ true → part name k (without_next h.client cs) ≡ without_next h.client (part name k cs)
  part_here name k [] h f n = refl
  part_here name k (c ∷ cs) h f n =
      elim (test c.client h.client) [
        | inl t ↦
            let same = head_same c h (of_client h.client cs) f.tail (rw t.0 at f.is) in
            let own : is_for name k c ≡ true = ap (is_for name k) same ∙ n in
            rw (t.0, own) (rw t.0 refl)
        | inr t ↦
            let more = part_here name k cs h (record { tail = f.tail; is = rw t.0 at f.is }) n in
            rw t.0 (go (is_for name k c) t.0 more)
      ]
    where
      go : (b : Bool) → (c.client == h.client) ≡ false →
          part name k (without_next h.client cs) ≡ without_next h.client (part name k cs) →
          cond b (c ∷ part name k (without_next h.client cs)) (part name k (without_next h.client cs)) ≡
          without_next h.client (cond b (c ∷ part name k cs) (part name k cs))
      go true e m = rw e (ap (λ l. c ∷ l) m)
      go false e m = m

  -- and those for another
  pub part_there : (name : O → List ℕ) (k : List ℕ) (cs : List (Call O)) (h : Call O) → IsFirst cs h →
      is_for name k h ≡ false → part name k (without_next h.client cs) ≡ part name k cs
  part_there name k [] h f n = refl
  part_there name k (c ∷ cs) h f n =
      elim (test c.client h.client) [
        | inl t ↦
            let same = head_same c h (of_client h.client cs) f.tail (rw t.0 at f.is) in
            let own : is_for name k c ≡ false = ap (is_for name k) same ∙ n in
            rw (t.0, own) refl
        | inr t ↦
            let more = part_there name k cs h (record { tail = f.tail; is = rw t.0 at f.is }) n in
            rw t.0 (ap (λ l. cond (is_for name k c) (c ∷ l) l) more)
      ]

module _ {T O R : Type 0} (Y : Rules T O R) (name : O → List ℕ) where
  -- what is left, where each object's calls have an order that completes them
  pub record AreComplete (at : Configuration (List ℕ → T) O) : Type 0 where
    pub whole : IsWhole at.rest
    pub strict : AreStrict at.rest
    pub order : List ℕ → List (Call O)
    pub completes : (k : List ℕ) →
        Completes Y (record { rest = part name k at.rest; state = at.state k }) (order k)

  -- where no completed call is left, nothing more has to be placed
  none_left : (cs : List (Call O)) → Each (λ o. is_completed o ≡ false) cs → answered cs ≡ 0
  none_left [] h = refl
  none_left (c ∷ cs) h = let w : weight c ≡ 0 = ap (λ b. cond b 1 0) h.0 in let r = none_left cs h.1 in omega arith

  some_left : (cs : List (Call O)) (e : Call O) → In e cs → is_completed e ≡ true → 1 ≤ answered cs
  some_left [] e i t = absurd i
  some_left (c ∷ cs) e (inl i) t = let w : weight c ≡ 1 = ap (λ b. cond b 1 0) (ap is_completed (sym i) ∙ t) in
      omega arith
  some_left (c ∷ cs) e (inr i) t = let r = some_left cs e i t in omega arith

  -- a call that begins before the first completed one ends began before all that are left ended
  early : (last : ℕ) (cs : List (Call O)) (e h : Call O) → Each (IsTimed last) cs →
      Each (λ o. is_completed o ≡ true → e.end ≤ o.end) cs → h.begin ≤ e.end → h.begin ≤ last →
      Each (λ o. h.begin ≤ o.end) cs
  early last [] e h t f l m = tt
  early last (c ∷ cs) e h t f l m = (
    elim (answers (is_completed c)) [
      | inl x ↦ (let y : e.end ≤ c.end = f.0 x in omega arith)
      | inr x ↦ (let y : last ≤ c.end = t.0.ends x in omega arith)
    ],
    early last cs e h t.1 f.1 l m,
  )

  -- an object's calls after its own next one, and after another's
  here : (rest : List (Call O)) (s : List ℕ → T) (h : Call O) (more : List (Call O)) → IsFirst rest h →
      Completes Y (record { rest = part name (name h.op) rest; state = s (name h.op) }) (h ∷ more) →
      (j : List ℕ) → j ≡ name h.op →
      Completes Y (record {
        rest = part name j (without_next h.client rest);
        state = changed s (name h.op) (Y.run (s (name h.op)) h.op).0 j;
      }) more
  here rest s h more first own j e =
      let k = name h.op in
      let t = (Y.run (s k) h.op).0 in
      let for : is_for name k h ≡ true =
      elim (named k k) [
        | inl n ↦ n.0
        | inr n ↦ absurd (n.1 refl)
      ] in
      subst (λ i. Completes Y (record {
        rest = part name i (without_next h.client rest);
        state = changed s k t i;
      }) more) (sym e) (record {
        to = own.to;
        reaches = subst (λ x. CallsReach Y (record { rest = x; state = changed s k t k }) more own.to)
            (sym (part_here name k rest h first for))
            (subst (λ u. CallsReach Y (record { rest = without_next h.client (part name k rest); state = u }) more
            own.to)
            (sym (changed_here s k k t refl)) own.reaches.1);
        done = own.done;
      })

  there : (rest : List (Call O)) (s : List ℕ → T) (h : Call O) (t : T) (order : List (Call O)) → IsFirst rest h →
      (j : List ℕ) → (j ≡ name h.op → ⊥) → Completes Y (record { rest = part name j rest; state = s j }) order →
      Completes Y (record {
        rest = part name j (without_next h.client rest);
        state = changed s (name h.op) t j;
      }) order
  there rest s h t order first j n own =
      let for : is_for name j h ≡ false =
      elim (named (name h.op) j) [
        | inl x ↦ absurd (n (sym x.1))
        | inr x ↦ x.0
      ] in
      subst (λ x. Completes Y (record { rest = x; state = changed s (name h.op) t j }) order)
      (sym (part_there name j rest h first for))
      (subst (λ u. Completes Y (record { rest = part name j rest; state = u }) order)
      (sym (changed_not s (name h.op) j t n)) own)

  -- the first call of an object's order may come next, where it is its client's first and begins early
  goes_on : (at : Configuration (List ℕ → T) O) (a : AreComplete at) (h : Call O) (more : List (Call O)) →
      a.order (name h.op) ≡ h ∷ more → IsFirst at.rest h → Each (λ o. h.begin ≤ o.end) at.rest →
      Goes (many Y name) at h × AreComplete (after_call (many Y name) at h)
  goes_on at a h more e first soon =
      let k = name h.op in
      let own : Completes Y (record { rest = part name k at.rest; state = at.state k }) (h ∷ more) =
      subst (Completes Y (record { rest = part name k at.rest; state = at.state k })) e (a.completes k) in (
        record { may = record { first = first; early = soon }; fit = own.reaches.0.fit },
        record {
          whole = whole_after (many Y name) at h a.whole;
          strict = strict_without h.client at.rest a.strict;
          order = λ j. cond (bytes_eq j k) more (a.order j);
          completes = λ j.
              elim (named j k) [
                | inl n ↦
                    subst (λ b. Completes Y (record {
                      rest = part name j (without_next h.client at.rest);
                      state = changed at.state k (Y.run (at.state k) h.op).0 j;
                    }) (cond b more (a.order j))) (sym n.0) (here at.rest at.state h more first own j n.1)
                | inr n ↦
                    subst (λ b. Completes Y (record {
                      rest = part name j (without_next h.client at.rest);
                      state = changed at.state k (Y.run (at.state k) h.op).0 j;
                    }) (cond b more (a.order j))) (sym n.0)
                    (there at.rest at.state h (Y.run (at.state k) h.op).0 (a.order j) first j n.1 (a.completes j))
              ];
        },
      )

  -- an order that completes all
  pub record Whole (at : Configuration (List ℕ → T) O) : Type 0 where
    pub order : List (Call O)
    pub completes : Completes (many Y name) at order

  -- a call that begins before the first completed one ends is its client's first
  is_first : (last : ℕ) (rest : List (Call O)) (e h : Call O) (k : List ℕ) → Each (IsTimed last) rest → AreStrict rest →
      IsSoonest rest e → IsFirst (part name k rest) h → h.begin ≤ e.end → h.begin ≤ last → IsFirst rest h
  is_first last rest e h k timed strict is first l m =
      elim (first_of name k rest h strict first) [
        | inl f ↦ f
        | inr g ↦
            let apart : g.0.end < h.begin = g.1.apart in
            elim (answers (is_completed g.0)) [
              | inl x ↦
                  let y : e.end ≤ g.0.end = each_in (λ o. is_completed o ≡ true →
                  e.end ≤ o.end) rest g.0 is.first g.1.among x in
                  absurd (omega arith)
              | inr x ↦
                  let y : last ≤ g.0.end = (each_in (IsTimed last) rest g.0 timed g.1.among).ends x in
                  absurd (omega arith)
            ]
      ]

  pub record Next (at : Configuration (List ℕ → T) O) : Type 0 where
    pub call : Call O
    pub first : IsFirst at.rest call
    pub goes : Goes (many Y name) at call
    pub rest : AreComplete (after_call (many Y name) at call)

  next_by : (at : Configuration (List ℕ → T) O) (a : AreComplete at) (e : Call O) → IsSoonest at.rest e →
      (order : List (Call O)) → a.order (name e.op) ≡ order → Next at
  next_by at a e is [] o =
      let k = name e.op in
      let for : is_for name k e ≡ true =
      elim (named k k) [
        | inl n ↦ n.0
        | inr n ↦ absurd (n.1 refl)
      ] in
      let own : Completes Y (record { rest = part name k at.rest; state = at.state k }) [] =
      subst (Completes Y (record { rest = part name k at.rest; state = at.state k })) o (a.completes k) in
      let none : answered (part name k at.rest) ≡ 0 = ap (λ (x : Configuration T O). answered x.rest) own.reaches ∙
      own.done in
      let some = some_left (part name k at.rest) e (in_part name k at.rest e is.among for) is.some in
      absurd (omega arith)
  next_by at a e is (h ∷ more) o =
      let k = name e.op in
      let for : is_for name k e ≡ true =
      elim (named k k) [
        | inl n ↦ n.0
        | inr n ↦ absurd (n.1 refl)
      ] in
      let own : Completes Y (record { rest = part name k at.rest; state = at.state k }) (h ∷ more) =
      subst (Completes Y (record { rest = part name k at.rest; state = at.state k })) o (a.completes k) in
      let may = own.reaches.0.may in
      let among : In h (part name k at.rest) = first_in (part name k at.rest) h may.first in
      let l : h.begin ≤ e.end = each_in (λ o. h.begin ≤ o.end) (part name k at.rest) e may.early
      (in_part name k at.rest e is.among for) in
      let m : h.begin ≤ a.whole.last = (each_in (IsTimed a.whole.last) at.rest h a.whole.timed
      (part_in name k at.rest h among)).begins in
      let first = is_first a.whole.last at.rest e h k a.whole.timed a.strict is may.first l m in
      let same : k ≡ name h.op = elim (named (name h.op) k) [
        | inl n ↦ sym n.1
        | inr n ↦ absurd (false_true (sym n.0 ∙ each_in (λ c. is_for name k c ≡ true) (part name k at.rest) h
            (part_is name k at.rest) among))
      ] in
      let both = goes_on at a h more (ap a.order (sym same) ∙ o) first
      (early a.whole.last at.rest e h a.whole.timed is.first l m) in
      record { call = h; first = first; goes = both.0; rest = both.1 }

  whole_of : (n : ℕ) (at : Configuration (List ℕ → T) O) → AreComplete at → length at.rest ≤ n →
      Soonest at.rest → Whole at
  whole_of n at a l (HasNone none) = record {
    order = [];
    completes = record { to = at; reaches = refl; done = none_left at.rest none };
  }
  whole_of zero at a l (Has e is) =
      let next = next_by at a e is (a.order (name e.op)) refl in
      let less = shorter at.rest next.call next.first in
      absurd (omega arith)
  whole_of (suc n) at a l (Has e is) =
      let next = next_by at a e is (a.order (name e.op)) refl in
      let less = shorter at.rest next.call next.first in
      let after = after_call (many Y name) at next.call in
      let more = whole_of n after next.rest (omega arith) (soonest after.rest) in
      record {
        order = next.call ∷ more.order;
        completes = record {
          to = more.completes.to;
          reaches = (next.goes, more.completes.reaches);
          done = more.completes.done;
        };
      }

  pub whole : PartsMakeLinearizable Y name
  whole s calls w strict h =
      let parts : (k : List ℕ) → IsWhole (part name k calls) = λ k. record {
        turn = turn_part name k calls w.turn;
        last = w.last;
        timed = each_part name (IsTimed w.last) k calls w.timed;
      } in
      let all = whole_of (length calls) (start s calls) (record {
        whole = w;
        strict = strict;
        order = λ k. (h k).order;
        completes = λ k. completes_start Y (s k) (part name k calls) (h k).order (parts k) (h k).orders
            (h k).linearization;
      }) (omega arith) (soonest calls) in
      let both = linearization_of (many Y name) s calls all.order w all.completes in
      record { order = all.order; orders = both.0; linearization = both.1 }
