-- Walks of trees.
use Rattle.std.proofs.Common.{◌≡◌, ◌≢◌, inl, inr, ℕ, ◌+◌, ◌^◌, ◌<◌, ◌≤◌, Bool, true, false, cond, List, [], ◌∷◌, ◌++◌}
use Rattle.std.proofs.Common.{zero, suc, length, refl, sym, ap, ◌∙◌, subst, arith, nat_eq, length-append}
use Rattle.std.specs.Prelude.{Ok, Err}
use Rattle.std.proofs.lemmas.Bool.Decides.{nat_tests}
use Rattle.std.proofs.lemmas.Bool.{cases_lt}
use Rattle.tx_alloc.specs.Pool.{IsBlock, held}
use Rattle.tx_alloc.specs.Rows.{Rows, times}
use Rattle.vac_records.specs.Heap.{over}
use Rattle.tx_alloc.specs.Rows.{IsFrom}
use Rattle.tx_alloc.proofs.Times.{times_first}
use Rattle.vac_audit.specs.Tree.{Tree, leaf, node, rows, IsEven, IsApart, Hangs}
use Rattle.vac_audit.specs.Walk.{Seen, Look, above, is_key, is_coloured, walk_tree}
use Rattle.vac_audit.proofs.Sound.{Each}
use Rattle.vac_audit.specs.declared.Flaw.TheVariants.{Shared, Order, Colour}
use Rattle.vac_audit.proofs.Steps.{both_ok, test_ok, test_with, then_with, enter_ok, enter_end, enter_block, IsFresh}
use Rattle.vac_audit.proofs.Reaching.{Reaches, none_reached, one_reached}
use Rattle.vac_audit.proofs.Over.{times_append, over_append, each_append, each_front, each_back, each_as, over_as}
use Rattle.vac_audit.proofs.Over.{rises_append, rises_front, rises_back, both_reached, reached_as, Coloured, coloured}
use Rattle.vac_audit.proofs.Over.{coloured_test}

-- the list of each block of a table, chosen from the lists of bookings
abbrev pub Own : Type 0
Own = (ℕ → Rows) → ℕ → Rows

abbrev pub count_of : Rows → (ℕ → Rows) → ℕ → ℕ
count_of rs lists x = times x rs + over (times x) rs lists

abbrev pub size_of : Rows → (ℕ → Rows) → ℕ
size_of rs lists = length rs + over (λ z. length z) rs lists

pub record Looked (n : ℕ) (own : Own) (Good : ℕ → Rows → Type 0) (p : ℕ) (s s' : Seen) : Type 0 where
  pub good : Good p (own s'.lists p)
  pub reaches : Reaches n s.blocks s'.blocks (λ x. times x (own s'.lists p)) (length (own s'.lists p))
  pub kept : (q : ℕ) → q ≢ p → own s'.lists q ≡ own s.lists q

pub record TreeWalked (m : ℕ → ℕ) (n : ℕ) (own : Own) (Good : ℕ → Rows → Type 0) (a lo : ℕ) (s s' : Seen) (t : Tree) :
    Type 0 where
  pub hangs : Hangs m n (m a) t
  pub rises : IsFrom lo (rows t)
  pub keys : Each (λ r. r.0 < 2 ^ 32) (rows t)
  pub even : IsEven t
  pub apart : IsApart t
  pub good : Each (λ r. Good r.1 (own s'.lists r.1)) (rows t)
  pub reaches : Reaches n s.blocks s'.blocks (count_of (rows t) (own s'.lists)) (size_of (rows t) (own s'.lists))
  pub kept : (q : ℕ) → 0 < held q s.blocks → own s'.lists q ≡ own s.lists q

pub record KeyIs (m : ℕ → ℕ) (p lo : ℕ) : Type 0 where
  pub low : lo ≤ m p
  pub high : m p < 2 ^ 32

pub key_is : (m : ℕ → ℕ) (p lo : ℕ) → is_key m p lo ≡ true → KeyIs m p lo
key_is m p lo e = record { low = grind (arith, nat_tests); high = grind (arith, nat_tests) }

pub key_test : (m : ℕ → ℕ) (p lo : ℕ) → KeyIs m p lo → is_key m p lo ≡ true
key_test m p lo h = let a = h.low in let b = h.high in grind (arith, nat_tests)

-- the four parts of the walk of a node: reaching it, left, itself, right. L are the lists in the end.
module _ (n : ℕ) (own : Own) (p : ℕ) (rl rt : Rows) (s s2 s3 s4 : Seen) (k : ℕ) (block : IsBlock n p)
    (fresh : held p s.blocks ≡ 0)
    (hl : Reaches n (p ∷ s.blocks) s2.blocks (count_of rl (own s2.lists)) (size_of rl (own s2.lists)))
    (kl : (q : ℕ) → 0 < held q (p ∷ s.blocks) → own s2.lists q ≡ own s.lists q)
    (hp : Reaches n s2.blocks s3.blocks (λ x. times x (own s3.lists p)) (length (own s3.lists p)))
    (kp : (q : ℕ) → q ≢ p → own s3.lists q ≡ own s2.lists q)
    (ht : Reaches n s3.blocks s4.blocks (count_of rt (own s4.lists)) (size_of rt (own s4.lists)))
    (kt : (q : ℕ) → 0 < held q s3.blocks → own s4.lists q ≡ own s3.lists q) where
  p_once : 0 < held p (p ∷ s.blocks)
  p_once = grind (arith, nat_tests)

  -- the lists of the left side's blocks stay
  pub stay_left : (q : ℕ) → 0 < times q rl → own s4.lists q ≡ own s2.lists q
  stay_left q o =
      let c : 0 < count_of rl (own s2.lists) q = omega (arith, o) in
      let one : held q s2.blocks ≡ 1 = hl.once q c in
      let ne : q ≢ p = λ e. (let u : 0 < held q (p ∷ s.blocks) =
      subst (λ (z : ℕ). 0 < held z (p ∷ s.blocks)) (sym e) p_once in
      absurd (omega (arith, u, c, one, hl.counts q))) in
      kt q (omega (arith, hp.counts q, one)) ∙ kp q ne

  pub stay_here : own s4.lists p ≡ own s3.lists p
  stay_here = kt p (omega (arith, hp.counts p, hl.counts p, p_once))

  pub stay_before : (q : ℕ) → 0 < held q s.blocks → own s4.lists q ≡ own s.lists q
  stay_before q o =
      let u : 0 < held q (p ∷ s.blocks) = omega (arith, o) in
      let ne : q ≢ p = λ e. absurd (omega (arith, o, fresh, ap (λ (z : ℕ). held z s.blocks) e)) in
      kt q (omega (arith, hp.counts q, hl.counts q, u)) ∙ (kp q ne ∙ kl q u)

  pub node_reached : Reaches n s.blocks s4.blocks (count_of (rl ++ ((k, p) ∷ rt)) (own s4.lists))
      (size_of (rl ++ ((k, p) ∷ rt)) (own s4.lists))
  node_reached =
      let one = one_reached n s.blocks s2.blocks p _ _ block fresh hl in
      let two = both_reached n s.blocks s2.blocks s3.blocks _ _ _ _ one hp in
      let all = both_reached n s.blocks s3.blocks s4.blocks _ _ _ _ two ht in
      reached_as n s.blocks s4.blocks _ _ _ _
      (λ x. omega (
        arith,
        times_append x rl ((k, p) ∷ rt),
        over_append (times x) rl ((k, p) ∷ rt) (own s4.lists),
        over_as (times x) rl (own s2.lists) (own s4.lists) stay_left,
        ap (times x) stay_here,
      ))
      (omega (
        arith,
        length-append rl ((k, p) ∷ rt),
        over_append (λ (z : Rows). length z) rl ((k, p) ∷ rt)
            (own s4.lists),
        over_as (λ (z : Rows). length z) rl (own s2.lists) (own s4.lists) stay_left,
        ap (λ (z : Rows). length z) stay_here,
      ))
      all

module _ (m : ℕ → ℕ) (n : ℕ) (look : Look) (own : Own) (Good : ℕ → Rows → Type 0) (looks : (p : ℕ) (s s' : Seen) →
    look p s ≡ Ok s' → Looked n own Good p s s') where
  pub tree_walked : (levels a lo : ℕ) (s : Seen) (x : Tree × Seen) → walk_tree m n look levels a lo s ≡ Ok x →
      TreeWalked m n own Good a lo s x.1 x.0
  tree_walked zero a lo s x e = absurd (let q : Err (Shared a) ≡ Ok x = e in cc)
  tree_walked (suc levels) a lo s x e = enter_ok _ m n a s.blocks _ _ x e
      (λ z q. let r : (leaf, s) ≡ x = cc in
      subst (λ (y : Tree × Seen). TreeWalked m n own Good a lo s y.1 y.0) r (record {
        hangs = z;
        rises = tt;
        keys = tt;
        even = tt;
        apart = tt;
        good = tt;
        reaches = none_reached n s.blocks;
        kept = λ q o. refl;
      }))
      (λ p h q. both_ok _ (walk_tree m n look levels (p + 1) lo (record s { blocks = p ∷ s.blocks })) _ x q (λ l el q1.
      test_ok _ (is_key m p (above lo (rows l.0))) (Order p) _ x q1 (λ ek q2.
      both_ok _ (look p l.1) _ x q2 (λ s3 es q3.
      both_ok _ (walk_tree m n look levels (p + 2) (m p + 1) s3) _ x q3 (λ t et q4.
      test_ok _ (is_coloured (m (p + 3)) l.0 t.0) (Colour (p + 3)) _ x q4 (λ ec q5.
      let r : (node (nat_eq (m (p + 3)) 1) l.0 (m p, p) t.0, t.1) ≡ x = cc in
      let wl = tree_walked levels (p + 1) lo (record s { blocks = p ∷ s.blocks }) l el in
      let wp = looks p l.1 s3 es in
      let wt = tree_walked levels (p + 2) (m p + 1) s3 t et in
      let key = key_is m p (above lo (rows l.0)) ek in
      let col = coloured (m (p + 3)) l.0 t.0 ec in
      subst (λ (y : Tree × Seen). TreeWalked m n own Good a lo s y.1 y.0) r (record {
        hangs = (record { at = h.at; block = h.block; key = refl; colour = col.colour }, (wl.hangs, wt.hangs));
        rises = rises_append lo (rows l.0) ((m p, p) ∷ rows t.0) wl.rises (key.low, wt.rises);
        keys = each_append _ (rows l.0) ((m p, p) ∷ rows t.0) wl.keys (key.high, wt.keys);
        even = (col.even, wl.even, wt.even);
        apart = (col.apart, wl.apart, wt.apart);
        good = each_append _ (rows l.0) ((m p, p) ∷ rows t.0)
            (each_as (λ r. Good r.1 (own l.1.lists r.1)) (λ r. Good r.1 (own t.1.lists r.1)) (rows l.0)
            (λ r o g. subst (Good r.1) (sym (stay_left n own p (rows l.0) (rows t.0) s l.1 s3 t.1
            (m p) h.block h.fresh wl.reaches wl.kept wp.reaches wp.kept wt.reaches wt.kept r.1 o)) g) wl.good) (
              subst (Good p) (sym (stay_here n own p (rows l.0) (rows t.0) s l.1 s3 t.1
                  (m p) h.block h.fresh wl.reaches wl.kept wp.reaches wp.kept wt.reaches wt.kept)) wp.good,
              wt.good,
            );
        reaches = node_reached n own p (rows l.0) (rows t.0) s l.1 s3 t.1
            (m p) h.block h.fresh wl.reaches wl.kept wp.reaches wp.kept wt.reaches wt.kept;
        kept = stay_before n own p (rows l.0) (rows t.0) s l.1 s3 t.1
            (m p) h.block h.fresh wl.reaches wl.kept wp.reaches wp.kept wt.reaches wt.kept;
      })))))))

-- The other direction: a tree whose blocks exist and were not reached is walked without a flaw. L
-- are the lists of its blocks.
abbrev pub Apart : (ℕ → ℕ) → List ℕ → Type 0
Apart count seen = (x : ℕ) → 0 < count x → count x + held x seen ≡ 1

pub record LookFound (n : ℕ) (look : Look) (own : Own) (L : ℕ → Rows) (p : ℕ) (s : Seen) : Type 0 where
  pub s' : Seen
  pub is : look p s ≡ Ok s'
  pub reaches : Reaches n s.blocks s'.blocks (λ x. times x (L p)) (length (L p))
  pub list : own s'.lists p ≡ L p
  pub kept : (q : ℕ) → q ≢ p → own s'.lists q ≡ own s.lists q

pub record TreeFound (m : ℕ → ℕ) (n : ℕ) (look : Look) (own : Own) (L : ℕ →
    Rows) (levels a lo : ℕ) (s : Seen) (t : Tree) : Type 0 where
  pub s' : Seen
  pub is : walk_tree m n look levels a lo s ≡ Ok (t, s')
  pub reaches : Reaches n s.blocks s'.blocks (count_of (rows t) L) (size_of (rows t) L)
  pub lists : (q : ℕ) → 0 < times q (rows t) → own s'.lists q ≡ L q
  pub kept : (q : ℕ) → 0 < held q s.blocks → own s'.lists q ≡ own s.lists q

-- the conditions on a tree
pub record TreeGood (m : ℕ → ℕ) (n : ℕ) (Good : ℕ → Rows → Type 0) (L : ℕ → Rows) (a lo : ℕ) (t : Tree) : Type 0 where
  pub hangs : Hangs m n (m a) t
  pub rises : IsFrom lo (rows t)
  pub keys : Each (λ r. r.0 < 2 ^ 32) (rows t)
  pub even : IsEven t
  pub apart : IsApart t
  pub good : Each (λ r. Good r.1 (L r.1)) (rows t)

count_node : (k b : ℕ) (rl rt : Rows) (L : ℕ → Rows) (x : ℕ) →
    count_of (rl ++ ((k, b) ∷ rt)) L x ≡ count_of rl L x + times x ((k, b) ∷ []) + times x (L b) + count_of rt L x
count_node k b rl rt L x = omega (arith, times_append x rl ((k, b) ∷ rt), over_append (times x) rl ((k, b) ∷ rt) L)

red_is : (x : ℕ) (c : Bool) → x ≡ cond c 1 0 → nat_eq x 1 ≡ c
red_is x true e = grind (arith, nat_tests)
red_is x false e = grind (arith, nat_tests)

module _ (m : ℕ → ℕ) (n : ℕ) (look : Look) (own : Own) (Good : ℕ → Rows → Type 0) (L : ℕ → Rows)
    (looks : (p : ℕ) (s : Seen) → Good p (L p) → Apart (λ x. times x (L p)) s.blocks → LookFound n look own L p s) where
  -- the parts of a node, found one after the other
  node_found : (levels a lo p k : ℕ) (c : Bool) (s : Seen) (l t : Tree) → IsFresh m n a s.blocks p → m p ≡ k →
      m (p + 3) ≡ cond c 1 0
      → KeyIs m p (above lo (rows l)) → Coloured (m (p + 3)) l t
      → (wl : TreeFound m n look own L levels (p + 1) lo (record s { blocks = p ∷ s.blocks }) l)
      → (wp : LookFound n look own L p wl.s')
      → (wt : TreeFound m n look own L levels (p + 2) (m p + 1) wp.s' t)
      → TreeFound m n look own L (suc levels) a lo s (node c l (k, p) t)
  node_found levels a lo p k c s l t fresh key colour kk col wl wp wt =
      let hl = reached_as n (p ∷ s.blocks) wl.s'.blocks _ (count_of (rows l) (own wl.s'.lists)) _
      (size_of (rows l) (own wl.s'.lists))
      (λ x. omega (arith, over_as (times x) (rows l) L (own wl.s'.lists) wl.lists))
      (omega (arith, over_as (λ (z : Rows). length z) (rows l) L (own wl.s'.lists) wl.lists)) wl.reaches in
      let hp = reached_as n wl.s'.blocks wp.s'.blocks _ (λ x. times x (own wp.s'.lists p)) _
      (length (own wp.s'.lists p))
      (λ x. ap (times x) wp.list) (ap (λ (z : Rows). length z) wp.list) wp.reaches in
      let ht = reached_as n wp.s'.blocks wt.s'.blocks _ (count_of (rows t) (own wt.s'.lists)) _
      (size_of (rows t) (own wt.s'.lists))
      (λ x. omega (arith, over_as (times x) (rows t) L (own wt.s'.lists) wt.lists))
      (omega (arith, over_as (λ (z : Rows). length z) (rows t) L (own wt.s'.lists) wt.lists)) wt.reaches in
      let stay = stay_left n own p (rows l) (rows t) s wl.s' wp.s' wt.s' k fresh.block fresh.fresh hl wl.kept hp wp.kept
      ht wt.kept in
      let here = stay_here n own p (rows l) (rows t) s wl.s' wp.s' wt.s' k fresh.block fresh.fresh hl wl.kept hp wp.kept
      ht wt.kept in
      let all : (q : ℕ) → 0 < times q (rows l ++ ((k, p) ∷ rows t)) → own wt.s'.lists q ≡ L q = λ q o.
      elim (cases_lt 0 (times q (rows l))) [
        | inl some ↦ stay q some ∙ wl.lists q some
        | inr none ↦ elim (cases_lt 0 (times q (rows t))) [
          | inl some ↦ wt.lists q some
          | inr none' ↦ (
              let e : p ≡ q = grind (arith, nat_tests, times_append q (rows l) ((k, p) ∷ rows t)) in
              subst (λ (z : ℕ). own wt.s'.lists z ≡ L z) e (here ∙ wp.list))
        ]
      ] in
      let reached = node_reached n own p (rows l) (rows t) s wl.s' wp.s' wt.s' k fresh.block fresh.fresh hl wl.kept hp
      wp.kept ht wt.kept in
      let red : nat_eq (m (p + 3)) 1 ≡ c = red_is (m (p + 3)) c colour in
      record {
        s' = wt.s';
        is = enter_block m n a s.blocks _ _ p _ fresh (then_with
            (walk_tree m n look levels (p + 1) lo (record s { blocks = p ∷ s.blocks })) _ (l, wl.s') _ wl.is
            (test_with (is_key m p (above lo (rows l))) (Order p) _ _ (key_test m p (above lo (rows l)) kk)
            (then_with (look p wl.s') _ wp.s' _ wp.is
            (then_with (walk_tree m n look levels (p + 2) (m p + 1) wp.s') _ (t, wt.s') _ wt.is
            (test_with (is_coloured (m (p + 3)) l t) (Colour (p + 3)) _ _ (coloured_test (m (p + 3)) l t col)
            (ap (λ (z : Bool). Ok (node z l (m p, p) t, wt.s')) red ∙
            ap (λ (z : ℕ). Ok (node c l (z, p) t, wt.s')) key))))));
        reaches = reached_as n s.blocks wt.s'.blocks _ _ _ _
            (λ x. omega (arith, over_as (times x) (rows l ++ ((k, p) ∷ rows t)) L (own wt.s'.lists) all))
            (omega (arith, over_as (λ (z : Rows). length z) (rows l ++ ((k, p) ∷ rows t)) L (own wt.s'.lists) all))
            reached;
        lists = all;
        kept = stay_before n own p (rows l) (rows t) s wl.s' wp.s' wt.s' k fresh.block fresh.fresh hl wl.kept hp wp.kept
            ht wt.kept;
      }

  pub tree_found : (levels a lo : ℕ) (s : Seen) (t : Tree) → TreeGood m n Good L a lo t → length (rows t) < levels →
      Apart (count_of (rows t) L) s.blocks → TreeFound m n look own L levels a lo s t
  tree_found zero a lo s t g l d = absurd (omega arith)
  tree_found (suc levels) a lo s leaf g l d = record {
    s' = s;
    is = enter_end m n a s.blocks _ _ _ g.hangs refl;
    reaches = none_reached n s.blocks;
    lists =
        λ q o. absurd (omega arith);
    kept = λ q o. refl;
  }
  tree_found (suc levels) a lo s (node c l (k, b) t) g less d =
      let nd = g.hangs.0 in
      let key : m b ≡ k = nd.key in
      let fewer : length (rows l) + suc (length (rows t)) < suc levels =
      omega (arith, less, length-append (rows l) ((k, b) ∷ rows t)) in
      let parts = count_node k b (rows l) (rows t) L in
      let some : 0 < count_of (rows l ++ ((k, b) ∷ rows t)) L b = omega (arith, parts b, times_first k b []) in
      let fresh : IsFresh m n a s.blocks b = record {
        at = nd.at;
        block = nd.block;
        fresh = omega (arith, d b some, some);
      } in
      let wl = tree_found levels (b + 1) lo (record s { blocks = b ∷ s.blocks }) l
      (record {
        hangs = g.hangs.1.0;
        rises = rises_front lo (rows l) ((k, b) ∷ rows t) g.rises;
        keys = each_front _ (rows l) ((k, b) ∷ rows t) g.keys;
        even = g.even.1;
        apart = g.apart.1;
        good =
            each_front _ (rows l) ((k, b) ∷ rows t) g.good;
      })
      (omega arith) (λ x o. omega (arith, d x (omega (arith, parts x, o)), parts x)) in
      let back = each_back _ (rows l) ((k, b) ∷ rows t) g.good in
      let wp = looks b wl.s' back.0 (λ x o. omega (
        arith,
        d x (omega (arith, parts x, o)),
        parts x,
        wl.reaches.counts x,
      )) in
      let rise = rises_back lo (rows l) ((k, b) ∷ rows t) g.rises in
      let keys = each_back _ (rows l) ((k, b) ∷ rows t) g.keys in
      let wt = tree_found levels (b + 2) (m b + 1) wp.s' t
      (record {
        hangs = g.hangs.1.1;
        rises = rw key rise.1;
        keys = keys.1;
        even = g.even.2;
        apart = g.apart.2;
        good = back.1;
      })
      (omega arith) (λ x o. omega (
        arith,
        d x (omega (arith, parts x, o)),
        parts x,
        wl.reaches.counts x,
        wp.reaches.counts x,
      )) in
      let red : nat_eq (m (b + 3)) 1 ≡ c = red_is (m (b + 3)) c nd.colour in
      node_found levels a lo b k c s l t fresh key nd.colour
      (record { low = omega (arith, rise.0, key); high = omega (arith, keys.0, key) })
      (record { colour = rw red nd.colour; even = g.even.0; apart = λ e. g.apart.0 (sym red ∙ e) })
      wl wp wt
