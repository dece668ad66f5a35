-- A list that has no block gets a run of another one's, over every memory that there may be.
use Rattle.std.proofs.Common.{◌≡◌, ◌≢◌, inl, inr, ℕ, ◌+◌, ◌%◌, ◌<◌, ◌≤◌, List, [], ◌∷◌, ◌++◌, append_assoc, append-nil}
use Rattle.std.proofs.Common.{length, length-append, cond, nat_eq, refl, sym, ap, ◌∙◌, subst, arith}
use Rattle.std.proofs.lemmas.Bool.Decides.{nat_tests}
use Rattle.tx_memory.specs.Seen.{same_or, some_le}
use Rattle.tx_memory.specs.View.{View, Words, memory, Sees, RestsOn, Kept, Loaded, Stored, IsWrite}
use Rattle.tx_alloc.specs.Steps.{mem, kept_both, stood, at_start, write_at_start}
use Rattle.tx_alloc.specs.Pool.{IsBlock, Free, IsPool, HasPool, Taken, held, with_at, with_block}
use Rattle.tx_alloc.specs.Drawing.{DrawnBlock, IsDry, IsRefilling, IsRun, Refilled, Walked}
use Rattle.tx_alloc.proofs.Chains.{free_frame, free_block, held_first}
use Rattle.tx_alloc.proofs.Sums.{with_here, with_else, sum_has, sum_two, sum_with}
use Rattle.tx_alloc.proofs.Taking.{Looking, first_in, free_first, free_zero}

held_append : (x : ℕ) (ys zs : List ℕ) → held x (ys ++ zs) ≡ held x ys + held x zs
held_append x [] zs = omega arith
held_append x (y ∷ ys) zs = omega (arith, held_append x ys zs)

one_more : (x : ℕ) → cond {A = ℕ} (nat_eq x x) 1 0 ≡ 1
one_more x = grind (arith, nat_tests)

held_here : (x : ℕ) (bs : List ℕ) → held x (x ∷ bs) ≡ 1 + held x bs
held_here x bs = omega (arith, one_more x)

-- a chain of blocks that ends where the link of one of them is cleared
cut_chain : (m m' : ℕ → ℕ) (n p last : ℕ) (front rest : List ℕ) → Free m n p (front ++ (last ∷ rest)) →
    ((x : ℕ) → 0 < held x front → m' x ≡ m x) → m' last ≡ 0 → Free m' n p (front ++ (last ∷ []))
cut_chain m m' n p last [] rest (e, b, h) same z = (e, b, z)
cut_chain m m' n p last (a ∷ ys) rest (e, b, h) same z =
    (e, b, rw (same a (held_first a ys)) (cut_chain m m' n (m a) last ys rest h (λ x o. same x (omega (arith, o))) z))

-- a free block is there once
free_once : (m : ℕ → ℕ) (n i x : ℕ) (free : ℕ → List ℕ) (used : ℕ → ℕ) (count : ℕ) → IsPool m n free used count →
    i < 8 → 0 < held x (free i) → held x (free i) ≡ 1
free_once m n i x free used count h l o = grind (
  arith,
  nat_tests,
  free_block m n (m (8 + i)) x (free i) (h.lists i l) o,
  h.lists i l,
  h.once x,
  sum_has 8 i,
)

-- and in one list
free_apart : (m : ℕ → ℕ) (n i j x : ℕ) (free : ℕ → List ℕ) (used : ℕ → ℕ) (count : ℕ) → IsPool m n free used count →
    i < 8 → j < 8 → i ≢ j → 0 < held x (free i) → held x (free j) ≡ 0
free_apart m n i j x free used count h l l' ne o = grind (
  arith,
  nat_tests,
  free_block m n (m (8 + i)) x (free i) (h.lists i l) o,
  h.lists i l,
  h.once x,
  sum_two 8 i j,
)

-- two lists changed: what left the one is in the other, but for the block that is taken
move_pool : (m m' : ℕ → ℕ) (n from start b : ℕ) (run rest : List ℕ) (free : ℕ → List ℕ) (used : ℕ → ℕ) (count : ℕ) →
    IsPool m n free used count → from < 8 → start < 8 → from ≢ start →
    free from ≡ b ∷ (run ++ rest) → free start ≡ [] → Free m' n (m' (8 + from)) rest →
    Free m' n (m' (8 + start)) run → ((j : ℕ) → j < 8 → j ≢ from → j ≢ start → Free m' n (m' (8 + j)) (free j)) →
    IsPool m' n (with_at (with_at free from rest) start run) (with_block used b) (count + 1)
move_pool m m' n from start b run rest free used count h lf ls ne is none at_from at_start others =
    let none' : with_at free from rest start ≡ [] = with_else free from start rest (λ e. ne (sym e)) ∙ none in
    record {
      lists = λ j l. elim (same_or j start) [
        | inl q ↦ (
            let e : with_at (with_at free from rest) start run j ≡ run = with_here (with_at free from rest) start j
            run q in
            rw (e, q) at_start)
        | inr q ↦ (
            let e : with_at (with_at free from rest) start run j ≡ with_at free from rest j = with_else
            (with_at free from rest) start j run q in
            rw e (elim (same_or j from) [
              | inl q' ↦ (let e' : with_at free from rest j ≡ rest = with_here free from j rest q' in
                  rw (e', q') at_from)
              | inr q' ↦ (let e' : with_at free from rest j ≡ free j = with_else free from j rest q' in
                  rw e' (others j l q' q))
            ]))
      ];
      once = λ x bx.
          let one = sum_with 8 from free rest (held x) lf in
          let two = sum_with 8 start (with_at free from rest) run (held x) ls in
          omega (arith, h.once x bx, one, two, ap (held x) is, ap (held x) none', held_append x run rest);
      all =
          let one = sum_with 8 from free rest (λ (z : List ℕ). length z) lf in
          let two = sum_with 8 start (with_at free from rest) run (λ (z : List ℕ). length z) ls in
          omega (
            arith,
            h.all,
            one,
            two,
            ap (λ (z : List ℕ). length z) is,
            ap (λ (z : List ℕ). length z) none',
            length-append run rest,
          );
    }

-- the words of a list that began with b, after the run was walked
module _ (m m' : ℕ → ℕ) (n from start b last behind next : ℕ) (free : ℕ → List ℕ) (used : ℕ → ℕ) (count : ℕ)
    (h : IsPool m n free used count) (lf : from < 8) (ls : start < 8) (ne : from ≢ start)
    (first : m (8 + from) ≡ b) (nz : b ≢ 0) (next_is : m b ≡ next) (dry : m (8 + start) ≡ 0) where
  none : free start ≡ []
  none = free_zero m n (m (8 + start)) (free start) (h.lists start ls) dry

  -- the list has this one block
  lone : (front rest : List ℕ) → free from ≡ front ++ (last ∷ rest) → m last ≡ behind → Free m n behind rest →
      next ≡ 0 → (free from ≡ b ∷ []) × (behind ≡ 0)
  lone [] rest is leads rest_is z = grind (arith, nat_tests, free_zero)
  lone (a ∷ f) rest is leads rest_is z =
      let chain = subst (λ (bs : List ℕ). Free m n (m (8 + from)) bs) is (h.lists from lf) in
      let same : a ≡ b = sym chain.0 ∙ first in
      let empty = free_zero m n (m a) (f ++ (last ∷ rest)) chain.2 (ap m same ∙ (next_is ∙ z)) in
      absurd (omega (arith, ap (λ (bs : List ℕ). length bs) empty, length-append f (last ∷ rest)))

  pub refill_lone : IsRun m n (free from) last behind → next ≡ 0 → IsWrite m m' (8 + from) behind →
      IsRefilling m m' n free used count start from b
  refill_lone run z w =
      let one = lone run.front run.rest run.is run.leads run.rest_is z in
      let chain = subst (λ (bs : List ℕ). Free m n (m (8 + from)) bs) one.0 (h.lists from lf) in
      record {
        run = [];
        rest = [];
        first = one.0;
        few = omega arith;
        whole = λ _. refl;
        block = chain.1;
        pool = move_pool m m' n from start b [] [] free used count h lf ls ne one.0 none (w.here ∙ one.1)
            (w.others (8 + start) (omega arith) ∙ dry)
            (λ j l jf js. rw (w.others (8 + j) (omega arith))
            (free_frame m m' n (m (8 + j)) (free j)
            (λ x o. w.others x (omega (arith, (free_block m n (m (8 + j)) x (free j) (h.lists j l) o).1.1)))
            (h.lists j l)));
        others = λ x nf _ _. w.others x nf;
      }

  -- it has more
  more : (front rest : List ℕ) → free from ≡ front ++ (last ∷ rest) → length front < 64 →
      (length front + 1 < 64 → rest ≡ []) → m last ≡ behind → Free m n behind rest → next ≢ 0 →
      (m1 m2 : ℕ → ℕ) → IsWrite m m1 (8 + from) behind → IsWrite m1 m2 last 0 → IsWrite m2 m' (8 + start) next →
      IsRefilling m m' n free used count start from b
  more [] rest is few whole leads rest_is nz' m1 m2 w1 w2 w3 = grind (arith, nat_tests)
  more (a ∷ f) rest is few whole leads rest_is nz' m1 m2 w1 w2 w3 =
      let chain = subst (λ (bs : List ℕ). Free m n (m (8 + from)) bs) is (h.lists from lf) in
      let same : a ≡ b = sym chain.0 ∙ first in
      let there : held last (free from) ≡ held last (a ∷ f) + (1 + held last rest) = ap (held last) is ∙
      (held_append last (a ∷ f) (last ∷ rest) ∙ ap (λ (k : ℕ). held last (a ∷ f) + k) (held_here last rest)) in
      let last_block = free_block m n (m (8 + from)) last (free from) (h.lists from lf) (omega (arith, there)) in
      let once = free_once m n from last free used count h lf (omega (arith, there)) in
      let in_front : held last (a ∷ f) ≡ 0 = omega (arith, there, once) in
      let in_rest : held last rest ≡ 0 = omega (arith, there, once) in
      let other : (x : ℕ) → x ≢ 8 + from → x ≢ last → x ≢ 8 + start → m' x ≡ m x = λ x nf nl ns. w3.others x ns ∙
      (w2.others x nl ∙ w1.others x nf) in
      let cleared : m' last ≡ 0 = w3.others last (omega (arith, last_block.1.1)) ∙ w2.here in
      let at_head : m' (8 + from) ≡ behind = w3.others (8 + from) (omega arith) ∙
      (w2.others (8 + from) (omega (arith, last_block.1.1)) ∙ w1.here) in
      let kept : (x : ℕ) → IsBlock n x → x ≢ last → m' x ≡ m x = λ x bx nl. other x (omega (arith, bx.1.1)) nl
      (omega (arith, bx.1.1)) in
      let front_same : (x : ℕ) → 0 < held x (a ∷ f) → m' x ≡ m x = λ x o.
      kept x (free_block m n (m (8 + from)) x (free from) (h.lists from lf)
      (omega (arith, ap (held x) is, held_append x (a ∷ f) (last ∷ rest), o)))
      (λ q. absurd (omega (arith, o, in_front, ap (λ (z : ℕ). held z (a ∷ f)) q))) in
      let cut = cut_chain m m' n (m (8 + from)) last (a ∷ f) rest chain front_same cleared in
      let lead : m' a ≡ next = front_same a (held_first a f) ∙ (ap m same ∙ next_is) in
      let run = f ++ (last ∷ []) in
      let is' : free from ≡ b ∷ (run ++ rest) = is ∙ (ap (λ (x : ℕ). x ∷ (f ++ (last ∷ rest))) same ∙
      ap (λ (bs : List ℕ). b ∷ bs) (sym (append_assoc f (last ∷ []) rest))) in
      record {
        run = run;
        rest = rest;
        first = is';
        few = omega (arith, few, length-append f (last ∷ []));
        whole = λ short. whole (omega (arith, short, length-append f (last ∷ [])));
        block = subst (λ (x : ℕ). IsBlock n x) same chain.1;
        pool = move_pool m m' n from start b run rest free used count h lf ls ne is' none
            (rw at_head (free_frame m m' n behind rest
            (λ x o. kept x (free_block m n behind x rest rest_is o)
            (λ q. absurd (omega (arith, o, in_rest, ap (λ (z : ℕ). held z rest) q)))) rest_is))
            (rw w3.here (subst (λ (x : ℕ). Free m' n x run) lead cut.2))
            (λ j l jf js.
            let away : held last (free j) ≡ 0 = free_apart m n from j last free used count h lf l (λ e. jf (sym e))
            (omega (arith, there)) in
            rw (other (8 + j) (omega arith) (omega (arith, last_block.1.1)) (omega arith))
            (free_frame m m' n (m (8 + j)) (free j)
            (λ x o. kept x (free_block m n (m (8 + j)) x (free j) (h.lists j l) o)
            (λ q. absurd (omega (arith, o, away, ap (λ (z : ℕ). held z (free j)) q)))) (h.lists j l)));
        others = λ x nf ns away. other x nf (away last
            (omega (arith, held_append last f (last ∷ []), held_here last []))) ns;
      }

-- over every memory that there may be
pub refilled_lone : (s0 s1 s2 : View) (start from b next last behind head : ℕ) → from < 8 → head ≡ 8 + from →
    IsDry s0 start from b next → Walked s0 s1 b last behind → next ≡ 0 → Stored s1 s2 head behind →
    Refilled s0 s2 start from b
refilled_lone s0 s1 s2 start from b next last behind head lf q dry k z w = record {
  kept = kept_both s0 s1 s2 k.kept w.kept;
  refilling = λ image free used count seen h.
      let i1 = w.kept.seen image seen in
      let i0 = k.kept.seen image i1 in
      let m = mem s0 image in
      let at : m (8 + from) ≡ b = subst (λ (x : ℕ). m (8 + x) ≡ b) dry.is_from (dry.begins.first image i0) in
      let write : IsWrite m (mem s2 image) (8 + from) behind = rw (← q)
      (write_at_start s0 s1 s2 head behind k.writes w image seen) in
      refill_lone m (mem s2 image) (length image) from start b last behind next free used count h lf dry.small
      dry.apart at dry.begins.some (dry.begins.next_is image i0) (dry.none image i0)
      (k.run image free used count i1 h from lf at) z write;
}

pub refilled_more : (s0 s1 s2 s3 s4 : View) (start from b next last behind head own : ℕ) → from < 8 →
    head ≡ 8 + from → own ≡ 8 + start → IsDry s0 start from b next → Walked s0 s1 b last behind → next ≢ 0 →
    Stored s1 s2 head behind → Stored s2 s3 last 0 → Stored s3 s4 own next → Refilled s0 s4 start from b
refilled_more s0 s1 s2 s3 s4 start from b next last behind head own lf q q' dry k nz w w' w'' = record {
  kept = kept_both s0 s3 s4 (kept_both s0 s2 s3 (kept_both s0 s1 s2 k.kept w.kept) w'.kept) w''.kept;
  refilling = λ image free used count seen h.
      let i3 = w''.kept.seen image seen in
      let i2 = w'.kept.seen image i3 in
      let i1 = w.kept.seen image i2 in
      let i0 = k.kept.seen image i1 in
      let m = mem s0 image in
      let at : m (8 + from) ≡ b = subst (λ (x : ℕ). m (8 + x) ≡ b) dry.is_from (dry.begins.first image i0) in
      let one : IsWrite m (mem s2 image) (8 + from) behind = rw (← q)
      (write_at_start s0 s1 s2 head behind k.writes w image i2) in
      let three : IsWrite (mem s3 image) (mem s4 image) (8 + start) next = rw (← q') (w''.written image) in
      let run = k.run image free used count i1 h from lf at in
      more m (mem s4 image) (length image) from start b last behind next free used count h lf dry.small dry.apart at
      dry.begins.some (dry.begins.next_is image i0) (dry.none image i0)
      run.front run.rest run.is run.few run.whole run.leads run.rest_is nz (mem s2 image) (mem s3 image) one
      (w'.written image) three;
}

-- the end of the run is a block of the memory
pub last_in : (s0 s1 s : View) (start from b next last behind : ℕ) → from < 8 → IsDry s0 start from b next →
    Walked s0 s1 b last behind → Kept s1 s → HasPool s0 → ∥ ((image : List ℕ) × RestsOn s image) ∥₁ →
    last + 8 ≤ s.size
last_in s0 s1 s start from b next last behind lf dry k k' has ws = some_le (last + 8) s.size ws (λ w.
    let i1 = stood k' w.0 w.1 in
    let i0 = stood k.kept w.0 i1 in
    let p = has.under w.0 i0 in
    let m = mem s0 w.0 in
    let at : m (8 + from) ≡ b = subst (λ (x : ℕ). m (8 + x) ≡ b) dry.is_from (dry.begins.first w.0 i0.sees) in
    let run = k.run w.0 p.free p.used p.count i1.sees p.pool from lf at in
    let there : 0 < held last (p.free from) = omega (
      arith,
      ap (held last) run.is,
      held_append last run.front
          (last ∷ run.rest),
      held_here last run.rest,
    ) in
    let block = free_block m (length w.0) (m (8 + from)) last (p.free from) (p.pool.lists from lf) there in
    omega (arith, block.1.0, w.1.size))

-- what a call of refill asks for
pub is_dry : (s0 s s1 s2 : View) (start i from at b next : ℕ) → Looking s0 s start i → i ≢ 0 → i < 8 → start < 8 →
    at ≡ 8 + from → from ≡ (start + i) % 8 → b ≢ 0 → Loaded s s1 at b → Loaded s1 s2 b next →
    IsDry s2 start from b next
is_dry s0 s s1 s2 start i from at b next k ni li ls q e nz d d' =
    let same : s2.writes ≡ s0.writes = d'.writes ∙ (d.writes ∙ k.writes) in
    record {
      begins = record {
        list = from;
        small = omega (arith, e);
        some = nz;
        first = λ image seen. rw (same, ← q) (at_start s0 s s1 at b k.writes d image (d'.kept.seen image seen));
        next_is = λ image seen. rw same (at_start s0 s1 s2 b next (d.writes ∙ k.writes) d' image seen);
      };
      is_from = refl;
      small = ls;
      apart = omega (arith, e);
      none = λ image seen.
          let z = k.empty image (d.kept.seen image (d'.kept.seen image seen)) 0 (omega arith) in
          let own : (start + 0) % 8 ≡ start = omega arith in
          rw same (subst (λ (x : ℕ). mem s0 image (8 + x) ≡ 0) own z);
    }

-- of two other lists for one the later counts
with_one : (f : ℕ → List ℕ) (i j : ℕ) (xs ys : List ℕ) → with_at (with_at f i xs) i ys j ≡ with_at f i ys j
with_one f i j xs ys = grind (
  arith,
  nat_tests,
  same_or j i,
  with_here (with_at f i xs) i j ys,
  with_here f i j ys,
  with_else (with_at f i xs) i j ys,
  with_else f i j xs,
  with_else f i j ys,
)

with_twice : (f : ℕ → List ℕ) (i : ℕ) (xs ys : List ℕ) → with_at (with_at f i xs) i ys ≡ with_at f i ys
with_twice f i xs ys = λ t j. with_one f i j xs ys t

-- the own list had a block
pub drawn_own : (s0 s3 : View) (start i b : ℕ) → i ≡ 0 → start < 8 →
    ((image : List ℕ) → Sees s3 image → mem s0 image (8 + start) ≡ b) → b ≢ 0 → Taken s0 s3 start b →
    DrawnBlock s0 s3 start b
drawn_own s0 s3 start i b z ls first nz t = record {
  kept = t.kept;
  room = t.room;
  drawing = λ image free used count seen h.
      let m = mem s0 image in
      let n = length image in
      let k = t.taking image free used count seen h in
      let f = free_first m n b (free start) (subst (λ (x : ℕ). Free m n x (free start)) (first image seen)
      (h.lists start ls)) nz in
      let here : k.steps ≡ 0 = elim (same_or k.steps 0) [
        | inl same ↦ same
        | inr later ↦ absurd (let e : (start + 0) % 8 ≡ start = omega arith in
            let none : free start ≡ [] = subst (λ (x : ℕ). free x ≡ []) e (k.earlier 0 (omega arith)) in
            omega (arith, ap (λ (bs : List ℕ). length bs) none, ap (λ (bs : List ℕ). length bs) f.is))
      ] in
      let list_is : k.list ≡ start = k.is_list ∙ (let e : (start + k.steps) % 8 ≡ start = omega arith in e) in
      record {
        small = ls;
        steps = k.steps;
        earlier = k.earlier;
        list = k.list;
        is_list = k.is_list;
        run = k.rest;
        rest = [];
        first = k.first ∙ ap (λ (bs : List ℕ). b ∷ bs) (sym (append-nil k.rest));
        own = λ _. refl;
        few = λ ne. absurd (ne here);
        whole = λ ne _. refl;
        block = k.block;
        pool = subst (λ (l : ℕ). IsPool (mem s3 image) n (with_at (with_at free k.list []) l k.rest)
            (with_block used b) (count + 1)) list_is
            (subst (λ (f : ℕ → List ℕ). IsPool (mem s3 image) n f (with_block used b) (count + 1))
            (sym (with_twice free k.list [] k.rest)) k.pool);
        others = λ x nl _ _. k.write.others x nl;
      };
}

pub drawn_other : (s0 s s1 s2 s3 : View) (start i from at b next : ℕ) → Looking s0 s start i → i ≢ 0 → i < 8 →
    start < 8 → at ≡ 8 + from → from ≡ (start + i) % 8 → b ≢ 0 → HasPool s0 → Loaded s s1 at b → Loaded s1 s2 b next →
    ∥ ((image : List ℕ) × RestsOn s1 image) ∥₁ → Refilled s2 s3 start from b → DrawnBlock s0 s3 start b
drawn_other s0 s s1 s2 s3 start i from at b next k ni li ls q e nz has d d' ws r =
    let same : s2.writes ≡ s0.writes = d'.writes ∙ (d.writes ∙ k.writes) in
    let before : Kept s0 s2 = kept_both s0 s s2 k.kept (kept_both s s1 s2 d.kept d'.kept) in
    record {
      kept = kept_both s0 s2 s3 before r.kept;
      room = omega (
        arith,
        first_in s0 s s1 start i at b k d (q ∙ ap (λ (x : ℕ). 8 + x) e) nz has ws,
        d'.kept.size,
        r.kept.size,
      );
      drawing = λ image free used count seen h.
          let i2 = r.kept.seen image seen in
          let i1 = d'.kept.seen image i2 in
          let i0 = d.kept.seen image i1 in
          let m = mem s0 image in
          let same_m : (x : ℕ) → mem s2 image x ≡ m x = λ x. ap (λ (w : Words). memory image w x) same in
          let f = r.refilling image free used count seen (rw same h) in
          record {
            small = ls;
            steps = i;
            earlier = λ j less. free_zero m (length image) (m (8 + (start + j) % 8)) (free ((start + j) % 8))
                (h.lists ((start + j) % 8) (omega arith)) (k.empty image i0 j less);
            list = from;
            is_list = e;
            run = f.run;
            rest = f.rest;
            first = f.first;
            own = λ z. absurd (ni z);
            few = λ _. f.few;
            whole = λ _ short. f.whole short;
            block = f.block;
            pool = f.pool;
            others = λ x nf ns away. f.others x nf ns away ∙ same_m x;
          };
    }

-- the first block of the own list, at the first look
pub own_first : (s0 s s1 s3 : View) (start i at b : ℕ) → Looking s0 s start i → start < 8 → i ≡ 0 →
    at ≡ 8 + (start + i) % 8 → Loaded s s1 at b → Kept s1 s3 → (image : List ℕ) → Sees s3 image →
    mem s0 image (8 + start) ≡ b
own_first s0 s s1 s3 start i at b k ls z q d k' image seen =
    grind (arith, nat_tests, at_start s0 s s1, k'.seen image seen)
