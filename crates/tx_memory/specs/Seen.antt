-- The effect of a read and of a write on every possible image of a memory.
use Rattle.std.proofs.Common.{Result, Ok, Err, IfOk, MatchResult, ◌≡◌, ◌≢◌, ◌⊎◌, inl, inr, ℕ, ◌≤◌, List, Option, Some, None, slice_index, true, false, refl, sym, ap, ◌∙◌, arith, unwrap_or}
use Rattle.std.specs.FinMap.{get, insert, get-insert}
use Rattle.std.specs.Ordering.{nat_cmp, eq_by_cmp}
use Rattle.std.proofs.lemmas.Cmp.{nat_cmp_total}
use Rattle.std.proofs.lemmas.Bool.{cases_lt}
use Rattle.std.proofs.lemmas.Bool.Decides.{nat_tests}
use Rattle.std.proofs.lemmas.Grind.{not_there}
use Rattle.std.proofs.Math.Logic.{∥∥₁_map}
use Rattle.tx_memory.specs.Image.{Has}
use Rattle.tx_memory.specs.View.{View, Words, Sees, RestsOn, Kept, SameFrame, HasRead, IsWrite, memory, Loaded, Stored}

pub same_or : (j i : ℕ) → (j ≡ i) ⊎ (j ≢ i)
same_or j i = elim (cases_lt j i) [
  | inl below ↦ inr (omega arith)
  | inr above ↦ elim (cases_lt i j) [ inl over ↦ inr (omega arith) | inr at ↦ inl (omega arith) ]
]

pub get_here : (w : Words) (a v : ℕ) → get (insert w a v) a ≡ Some v
get_here w a v =
    let t : eq_by_cmp nat_cmp a a ≡ true = grind (arith, nat_tests) in
    rw (get-insert nat_cmp_total w a v a, t) refl

pub get_other : (w : Words) (a v b : ℕ) → b ≢ a → get (insert w a v) b ≡ get w b
get_other w a v b ne =
    let t : eq_by_cmp nat_cmp b a ≡ false = grind (arith, nat_tests) in
    rw (get-insert nat_cmp_total w a v b, t) refl

read_agrees : (s s' : View) (a v : ℕ) (o : Option ℕ) → get s.writes a ≡ o → HasRead s s' a v →
    (image : List ℕ) → ((b w : ℕ) → get s'.reads b ≡ Some w → Has image b w) → (b w : ℕ) →
    get s.reads b ≡ Some w → Has image b w
read_agrees s s' a v (Some u) e r image h b w is =
    h b w (ap (λ (x : Words). get x b) (r.own u e).1 ∙ is)
read_agrees s s' a v None e r image h b w is =
    let grown = (r.entered e).0 in
    elim (same_or b a) [
      | inl q ↦ (
          let v_is : v ≡ w = (r.entered e).1 w (ap (get s.reads) (sym q) ∙ is) in
          h b w (ap (λ (x : Words). get x b) grown ∙ ap (get (insert s.reads a v)) q
          ∙ get_here s.reads a v ∙ ap Some v_is))
      | inr ne ↦ h b w (ap (λ (x : Words). get x b) grown ∙ get_other s.reads a v b ne ∙ is)
    ]

pub read_kept : (s s' : View) (a v : ℕ) → SameFrame s s' → HasRead s s' a v → Kept s s'
read_kept s s' a v f r = record {
  size = f.size;
  seen = λ image h. record {
    fits = f.fits image h.fits;
    agrees = read_agrees s s' a v (get s.writes a) refl r image h.agrees;
  };
}

pub same_kept : (s s' : View) → SameFrame s s' → s'.reads ≡ s.reads → Kept s s'
same_kept s s' f e = record {
  size = f.size;
  seen = λ image h. record {
    fits = f.fits image h.fits;
    agrees = λ b w is. h.agrees b w (ap (λ (x : Words). get x b) e ∙ is);
  };
}

go_answers : (s s' : View) (a v : ℕ) (o : Option ℕ) → get s.writes a ≡ o → HasRead s s' a v →
    (image : List ℕ) → Sees s' image → unwrap_or o (slice_index image a) ≡ v
go_answers s s' a v (Some u) e r image h = sym (r.own u e).0
go_answers s s' a v None e r image h =
    (h.agrees a v (ap (λ (x : Words). get x a) (r.entered e).0 ∙ get_here s.reads a v)).1

pub read_answers : (s s' : View) (a v : ℕ) → HasRead s s' a v → (image : List ℕ) → Sees s' image →
    memory image s.writes a ≡ v
read_answers s s' a v r image h = go_answers s s' a v (get s.writes a) refl r image h

pub writes_to : (w : Words) (a v : ℕ) (image : List ℕ) →
    IsWrite (memory image w) (memory image (insert w a v)) a v
writes_to w a v image = record {
  here = ap (λ (o : Option ℕ). unwrap_or o (slice_index image a)) (get_here w a v);
  others = λ b ne. ap (λ (o : Option ℕ). unwrap_or o (slice_index image b)) (get_other w a v b ne);
}

pub has_loaded : {E : Type 0} (r : Result ℕ E) (s s' : View) (a : ℕ) → SameFrame s s' →
    s'.writes ≡ s.writes → MatchResult r (λ v. HasRead s s' a v) (λ _. s'.reads ≡ s.reads) →
    IfOk r (λ v. Loaded s s' a v)
has_loaded (Ok v) s s' a f w h = record {
  kept = read_kept s s' a v f h;
  writes = w;
  answer = λ image i. read_answers s s' a v h image i;
}
has_loaded (Err e) s s' a f w h = tt

pub has_stored : {E U : Type 0} (r : Result U E) (s s' : View) (a v : ℕ) → SameFrame s s' →
    s'.reads ≡ s.reads →
    MatchResult r (λ _. s'.writes ≡ insert s.writes a v) (λ _. s'.writes ≡ s.writes) →
    IfOk r (λ _. Stored s s' a v)
has_stored (Ok u) s s' a v f e h = record {
  kept = same_kept s s' f e;
  written = λ image. rw h (writes_to s.writes a v image);
}
has_stored (Err x) s s' a v f e h = tt

-- an inequality that follows from some value also follows from the mere existence of such a value
pub some_le : {W : Type 0} (a b : ℕ) → ∥ W ∥₁ → (W → a ≤ b) → a ≤ b
some_le a b w f =
    elim (cases_lt b a) [
      | inl less ↦ absurd (not_there w (λ x. absurd (omega (arith, f x))))
      | inr le ↦ le
    ]

pub seen_before : (s s' : View) → Kept s s' → ∥ ((image : List ℕ) × RestsOn s' image) ∥₁ →
    ∥ ((image : List ℕ) × RestsOn s image) ∥₁
seen_before s s' k w =
    ∥∥₁_map w (λ x. (x.0, record { size = x.1.size ∙ k.size; sees = k.seen x.0 x.1.sees }))
