-- The attempts of a client, one call after the other.
use Rattle.std.proofs.Common.{◌≡◌, ◌∙◌, ◌+◌, ◌*◌, ◌≤◌, ◌<◌, ℕ, Bool, true, false, cond, List, [], ◌∷◌, ◌++◌, Option}
use Rattle.std.proofs.Common.{Some, None, Ok, Err, length, length-append, append_assoc, append-nil, inl, inr, refl, sym}
use Rattle.std.proofs.Common.{ap, subst, arith, if◌then◌else◌}
use Rattle.std.proofs.lemmas.List.Elements.{All-nil, All-cons, All-append}
use Rattle.std.specs.List.{All}
use Rattle.std.specs.Prelude.{IfSome}
use Rattle.std.specs.Global.{Box}
use Rattle.stm_core.specs.Client.{Client, Record, Aborted, aborted_of, all_aborted}
use Rattle.stm_core.specs.History.{Sub, done, keep, skip}
use Rattle.stm_region.specs.Shown.{RegionShown}
use Rattle.stm_object.specs.declared.place.CommitPosition.{CommitPosition}
use Rattle.stm_object.specs.History.{AddsAborted}
use Rattle.stm_object.specs.Places.{reader_at, rank_of}
use Rattle.vac_model.specs.declared.replies.Reply.{Reply}
use Rattle.vac_manager.specs.Law.{IsFitting}
use Rattle.vac_manager.specs.Keeping.{HasTakenOut}
use Rattle.vac_manager.specs.Placed.{AddsAt}
use Rattle.vac_manager.specs.Tracing.{Trace, trace_of, IsLastTraced, IsTraceOf, IsTraceOfAborted, AreAborted, HasTraced}
use Rattle.vac_manager.specs.Tracing.{AreMadeInTurn}
use Rattle.vac_manager.specs.declared.note.CompletedCall.{CompletedCall}
use Rattle.vac_manager.specs.declared.note.TracedAttempt.{TracedAttempt}
use Rattle.load_run.specs.Keeping.{AddsTraces}
use Rattle.load_run.specs.Lists.{Paired, none, both}
use Rattle.load_run.specs.Made.{ReadsOneImageIfAborted, committed_in, aborted_in, IsNotAfter, AreAscending}
use Rattle.load_run.specs.Made.{IsNotedWith, IsTraceOfListed, AreMade, AreLeft}

pub paired_both : {A B : Type 0} (related : A → B → Type 0) (xs us : List A) (ys vs : List B) → Paired related xs ys →
    Paired related us vs → Paired related (xs ++ us) (ys ++ vs)
paired_both related [] us [] vs none q = q
paired_both related (x ∷ xs) us (y ∷ ys) vs (both r p) q = both r (paired_both related xs us ys vs p q)
paired_both related [] us (y ∷ ys) vs p q = elim p [ ]
paired_both related (x ∷ xs) us [] vs p q = elim p [ ]

-- ---- positions

not_after : (p q r : CommitPosition) → IsNotAfter p q → IsNotAfter q r → IsNotAfter p r
not_after p q r (inl a) (inl b) = inl (omega (arith, a, b))
not_after p q r (inl a) (inr b) = inl (omega (arith, a, b.0))
not_after p q r (inr a) (inl b) = inl (omega (arith, a.0, b))
not_after p q r (inr a) (inr b) = inr (a.0 ∙ b.0, omega (arith, a.1, b.1))

pub ascending_from : (p q last : CommitPosition) (ts : List Trace) → IsNotAfter p q → AreAscending q ts last →
    AreAscending p ts last
ascending_from p q last [] a h = not_after p q last a h
ascending_from p q last (t ∷ ts) a h = (not_after p q t.place a h.0, h.1)

pub ascending_both : (p q r : CommitPosition) (ts us : List Trace) → AreAscending p ts q → AreAscending q us r →
    AreAscending p (ts ++ us) r
ascending_both p q r [] us h k = ascending_from p q r us h k
ascending_both p q r (t ∷ ts) us h k = (h.0, ascending_both t.place q r ts us h.1 k)

-- the position at which a client stays
pub stays_at : (renewal floor : ℕ) → IsNotAfter (reader_at renewal floor) (reader_at renewal floor)
stays_at renewal floor = inr (refl, omega arith)

at_most_one : (b : Bool) → cond b 0 1 ≤ 1
at_most_one true = omega arith
at_most_one false = omega arith

-- no position of a version comes after the reader of a later version
below_reader : (p : CommitPosition) (renewal high : ℕ) → p.version ≤ high → rank_of p ≤ rank_of (reader_at renewal high)
below_reader p renewal high known = omega (arith, known, at_most_one p.wrote)

-- ---- times

turns_from : (from middle to : ℕ) (ts : List Trace) → from ≤ middle → AreMadeInTurn middle ts to →
    AreMadeInTurn from ts to
turns_from from middle to [] less h = omega (arith, less, h)
turns_from from middle to (t ∷ ts) less h = (omega (arith, less, h.0), h.1, h.2)

turns_both : (from middle to : ℕ) (ts us : List Trace) → AreMadeInTurn from ts middle → AreMadeInTurn middle us to →
    AreMadeInTurn from (ts ++ us) to
turns_both from middle to [] us h k = turns_from from middle to us h k
turns_both from middle to (t ∷ ts) us h k = (h.0, h.1, turns_both t.end middle to ts us h.2 k)

-- ---- committed and aborted attempts

taken_both : (c : Bool) (t : Trace) (xs ys zs : List Trace) → xs ≡ ys ++ zs →
    (if c then t ∷ xs else xs) ≡ (if c then t ∷ ys else ys) ++ zs
taken_both true t xs ys zs e = ap (λ (l : List Trace). t ∷ l) e
taken_both false t xs ys zs e = e

left_both : (c : Bool) (t : Trace) (xs ys zs : List Trace) → xs ≡ ys ++ zs →
    (if c then xs else t ∷ xs) ≡ (if c then ys else t ∷ ys) ++ zs
left_both true t xs ys zs e = e
left_both false t xs ys zs e = ap (λ (l : List Trace). t ∷ l) e

pub committed_both : (ts us : List Trace) → committed_in (ts ++ us) ≡ committed_in ts ++ committed_in us
committed_both [] us = refl
committed_both (t ∷ ts) us = taken_both t.commits t (committed_in (ts ++ us)) (committed_in ts) (committed_in us)
    (committed_both ts us)

pub aborted_both : (ts us : List Trace) → aborted_in (ts ++ us) ≡ aborted_in ts ++ aborted_in us
aborted_both [] us = refl
aborted_both (t ∷ ts) us = left_both t.commits t (aborted_in (ts ++ us)) (aborted_in ts) (aborted_in us)
    (aborted_both ts us)

none_committed : (region : RegionShown) (v v' : Client) (ts : List Trace) → AreAborted IsFitting region v ts v' →
    committed_in ts ≡ []
none_committed region v v' [] h = refl
none_committed region v v' (t ∷ ts) h = rw h.1.0.is.aborts (none_committed region h.0 v' ts h.2)

-- an attempt that aborted comes before the others
pub aborted_one : (c : Bool) (t : Trace) (xs ts : List Trace) → c ≡ false → xs ≡ ts →
    (if c then xs else t ∷ xs) ≡ t ∷ ts
aborted_one false t xs ts aborts e = ap (λ (l : List Trace). t ∷ l) e
aborted_one true t xs ts aborts e = absurd (let n : true ≡ false = aborts in cc)

each_aborted : (region : RegionShown) (v v' : Client) (ts : List Trace) → AreAborted IsFitting region v ts v' →
    aborted_in ts ≡ ts
each_aborted region v v' [] h = refl
each_aborted region v v' (t ∷ ts) h = aborted_one t.commits t (aborted_in ts) ts h.1.0.is.aborts
    (each_aborted region h.0 v' ts h.2)

one_committed : (t : Trace) → t.commits ≡ true → committed_in (t ∷ []) ≡ t ∷ []
one_committed t so = rw so refl

none_aborted : (t : Trace) → t.commits ≡ true → aborted_in (t ∷ []) ≡ []
none_aborted t so = rw so refl

-- ---- one call

one_image : (region : RegionShown) (v : Client) (t : Trace) → IsTraceOfAborted IsFitting region v t →
    ReadsOneImageIfAborted t
one_image region v t h = λ no. (
  ap (λ (p : CommitPosition). p.wrote) h.place,
  record { right = h.right; reads = v.attempt.reads; are = h.reads; size = region.size; stands = h.stands },
)

committed : (t : Trace) → t.commits ≡ true → ReadsOneImageIfAborted t
committed t so = λ no. absurd (let n : true ≡ false = sym so ∙ no in cc)

images : (region : RegionShown) (v v' : Client) (ts : List Trace) → AreAborted IsFitting region v ts v' →
    All ReadsOneImageIfAborted ts
images region v v' [] h = All-nil ReadsOneImageIfAborted
images region v v' (t ∷ ts) h =
    All-cons ReadsOneImageIfAborted t ts (one_image region h.0 t h.1.0.is) (images region h.0 v' ts h.2)

at_place : (renewal low high : ℕ) (t : Trace) → t.place ≡ reader_at renewal high → low ≤ high →
    IsNotAfter (reader_at renewal low) t.place
at_place renewal low high t e less = subst (λ (p : CommitPosition). IsNotAfter (reader_at renewal low) p) (sym e)
    (inr (refl, omega (arith, less)))

from_place : (renewal low high : ℕ) (t : Trace) → t.place ≡ reader_at renewal low → low ≤ high →
    IsNotAfter t.place (reader_at renewal high)
from_place renewal low high t e less = subst (λ (p : CommitPosition). IsNotAfter p (reader_at renewal high)) (sym e)
    (inr (refl, omega (arith, less)))

-- aborted attempts do not go back
ascending : (region : RegionShown) (v v' : Client) (ts : List Trace) → AreAborted IsFitting region v ts v' →
    AreAscending (reader_at region.renewal v.floor) ts (reader_at region.renewal v'.floor)
ascending region v v' [] h = subst (λ (w : Client). IsNotAfter (reader_at region.renewal v.floor)
    (reader_at region.renewal w.floor)) (sym h) (stays_at region.renewal v.floor)
ascending region v v' (t ∷ ts) h = (
  at_place region.renewal v.floor h.0.attempt.rv t h.1.0.is.place h.1.0.later,
  ascending_from t.place (reader_at region.renewal h.0.floor) (reader_at region.renewal v'.floor) ts
      (from_place region.renewal h.0.attempt.rv h.0.floor t h.1.0.is.place h.1.0.known)
      (ascending region h.0 v' ts h.2),
)

abbrev rest_of : {A : Type 0} → List A → List A → List A
rest_of [] ys = ys
rest_of (x ∷ xs) [] = []
rest_of (x ∷ xs) (y ∷ ys) = rest_of xs ys

rest_is : {A : Type 0} (xs ys : List A) → rest_of xs (xs ++ ys) ≡ ys
rest_is [] ys = refl
rest_is (x ∷ xs) ys = rest_is xs ys

-- what stands behind the same list is the same
pub same_rest : {A : Type 0} (xs ys zs : List A) → xs ++ ys ≡ xs ++ zs → ys ≡ zs
same_rest xs ys zs e = sym (rest_is xs ys) ∙ (ap (λ (l : List _). rest_of xs l) e ∙ rest_is xs zs)

-- the trace of an attempt that aborted is that of the attempt that the client lists
one_listed : (region : RegionShown) (w v : Client) (t : Trace) → IsTraceOfAborted IsFitting region v t →
    AddsAborted region w v → IsTraceOfListed t (aborted_of v.attempt)
one_listed region w v t h a = record {
  place = h.place ∙ ap (λ (n : ℕ). reader_at n v.attempt.rv) (sym a.renewal);
  reads = h.reads;
  right = h.right;
}

-- the attempts that aborted are those that the client lists behind its earlier ones
aborts_listed : (region : RegionShown) (v v' : Client) (ts : List Trace) → AreAborted IsFitting region v ts v' →
    (aborts : List Aborted) × (all_aborted v' ≡ all_aborted v ++ aborts) × Paired IsTraceOfListed ts aborts
aborts_listed region v v' [] h = ([], ap all_aborted h ∙ sym (append-nil (all_aborted v)), none)
aborts_listed region v v' (t ∷ ts) h =
    let more = aborts_listed region h.0 v' ts h.2 in
    let one : List Aborted = aborted_of h.0.attempt ∷ [] in (
      aborted_of h.0.attempt ∷ more.0,
      more.1 ∙ (ap (λ (l : List Aborted). l ++ more.0) h.1.1.listed ∙ append_assoc (all_aborted v) one more.0),
      both (one_listed region v h.0 t h.1.0.is h.1.1) more.2,
    )

these_listed : (region : RegionShown) (v w v' : Client) (ts : List Trace) (aborts : List Aborted) →
    AreAborted IsFitting region v ts w → all_aborted v' ≡ all_aborted w → all_aborted v' ≡ all_aborted v ++ aborts →
    Paired IsTraceOfListed ts aborts
these_listed region v w v' ts aborts h e grown =
    let all = aborts_listed region v w ts h in
    subst (λ (l : List Aborted). Paired IsTraceOfListed ts l)
    (same_rest (all_aborted v) all.0 aborts (sym all.1 ∙ (sym e ∙ grown))) all.2

-- the attempts of a call that was refused
pub made_refused : (region : RegionShown) (v v' : Client) (from to : ℕ) (ts : List Trace) (aborts : List Aborted) →
    all_aborted v' ≡ all_aborted v ++ aborts → AreAborted IsFitting region v ts v' → AreMadeInTurn from ts to →
    AreMade (reader_at region.renewal v.floor) (reader_at region.renewal v'.floor) from to [] [] aborts ts
made_refused region v v' from to ts aborts grown h turns =
    let e = none_committed region v v' ts h in
    record {
      ascending = ascending region v v' ts h;
      turns = turns;
      of_records = subst (λ (l : List Trace). Paired IsTraceOf l []) (sym e) none;
      of_calls = subst (λ (l : List Trace). Paired IsNotedWith [] l) (sym e) none;
      listed = subst (λ (l : List Trace). Paired IsTraceOfListed l aborts) (sym (each_aborted region v v' ts h))
          (these_listed region v v' v' ts aborts h refl grown);
      aborted = images region v v' ts h;
    }

-- the attempt that committed comes last
last_place : (renewal before after : ℕ) (t : Trace) (r : Record) → IsTraceOf t r → r.renewal ≡ renewal →
    2 * before < rank_of t.place → r.version ≤ after →
    AreAscending (reader_at renewal before) (t ∷ []) (reader_at renewal after)
last_place renewal before after t r is here later known =
    let of : t.place.renewal ≡ r.renewal = ap (λ (p : CommitPosition). p.renewal) is.place in
    let at : t.place.version ≡ r.version = ap (λ (p : CommitPosition). p.version) is.place in (
      inr (sym (of ∙ here), omega (arith, later)),
      inr (of ∙ here, below_reader t.place renewal after (omega (arith, at, known))),
    )

-- the attempts of a call that was answered
pub made_answered : (region : RegionShown) (v w v' : Client) (from to : ℕ) (n : CompletedCall) (r : Record)
    (ts : List Trace) (t : Trace) (aborts : List Aborted) → AreAborted IsFitting region v ts w →
    2 * w.floor < rank_of t.place → IsTraceOf t r → r.renewal ≡ region.renewal → r.version ≤ v'.floor →
    IsNotedWith n t → all_aborted v' ≡ all_aborted w → all_aborted v' ≡ all_aborted v ++ aborts →
    AreMadeInTurn from (ts ++ (t ∷ [])) to →
    AreMade (reader_at region.renewal v.floor) (reader_at region.renewal v'.floor) from to (n ∷ []) (r ∷ []) aborts
    (ts ++ (t ∷ []))
made_answered region v w v' from to n r ts t aborts h later is here known noted stays grown turns =
    let one : committed_in (ts ++ (t ∷ [])) ≡ t ∷ [] = committed_both ts (t ∷ [])
    ∙ (ap (λ (l : List Trace). l ++ committed_in (t ∷ [])) (none_committed region v w ts h)
    ∙ one_committed t is.commits) in
    record {
      ascending = ascending_both (reader_at region.renewal v.floor) (reader_at region.renewal w.floor)
          (reader_at region.renewal v'.floor) ts (t ∷ []) (ascending region v w ts h)
          (last_place region.renewal w.floor v'.floor t r is here later known);
      turns = turns;
      of_records = subst (λ (l : List Trace). Paired IsTraceOf l (r ∷ [])) (sym one) (both is none);
      of_calls = subst (λ (l : List Trace). Paired IsNotedWith (n ∷ []) l) (sym one) (both noted none);
      listed = subst (λ (l : List Trace). Paired IsTraceOfListed l aborts)
          (sym (aborted_both ts (t ∷ []) ∙ (ap (λ (l : List Trace). l ++ aborted_in (t ∷ []))
          (each_aborted region v w ts
          h) ∙ (ap (λ (l : List Trace). ts ++ l) (none_aborted t is.commits) ∙ append-nil ts))))
          (these_listed region v w v' ts aborts h stays grown);
      aborted = All-append ReadsOneImageIfAborted ts (t ∷ []) (images region v w ts h)
          (All-cons ReadsOneImageIfAborted t [] (committed t is.commits) (All-nil ReadsOneImageIfAborted));
    }

-- ---- attempts that stay

pub sub_same : {A : Type 0} (xs : List A) → Sub xs xs
sub_same [] = done
sub_same (x ∷ xs) = keep x (sub_same xs)

sub_front : {A : Type 0} (xs ys : List A) → Sub xs (xs ++ ys)
sub_front [] ys = done
sub_front (x ∷ xs) ys = keep x (sub_front xs ys)

sub_behind : {A : Type 0} (us ds xs : List A) → Sub xs ds → Sub xs (us ++ ds)
sub_behind [] ds xs p = p
sub_behind (u ∷ us) ds xs p = skip u (sub_behind us ds xs p)

sub_two : {A : Type 0} {xs us : List A} (ys vs : List A) → Sub xs us → Sub ys vs → Sub (xs ++ ys) (us ++ vs)
sub_two ys vs (done {ys = us}) q = sub_behind us vs ys q
sub_two ys vs (keep x p) q = keep x (sub_two ys vs p q)
sub_two ys vs (skip y p) q = skip y (sub_two ys vs p q)

pub all_left : (ts : List Trace) → AreLeft ts ts
all_left ts = record { among = sub_same ts; aborted = refl }

-- the last one, which committed, was taken out
pub front_left : (ts : List Trace) (t : Trace) → t.commits ≡ true → AreLeft (ts ++ (t ∷ [])) ts
front_left ts t so = record {
  among = sub_front ts (t ∷ []);
  aborted = sym (aborted_both ts (t ∷ []) ∙ (ap (λ (l : List Trace). aborted_in ts ++ l) (none_aborted t so)
      ∙ append-nil (aborted_in ts)));
}

left_two : (ts us ls ms : List Trace) → AreLeft ts ls → AreLeft us ms → AreLeft (ts ++ us) (ls ++ ms)
left_two ts us ls ms h k = record {
  among = sub_two ms us h.among k.among;
  aborted = aborted_both ls ms ∙ (ap (λ (l : List Trace). l ++ aborted_in ms) h.aborted
      ∙ (ap (λ (l : List Trace). aborted_in ts ++ l) k.aborted ∙ sym (aborted_both ts us)));
}

-- ---- one call after the other

made_both : (p q r : CommitPosition) (from middle to : ℕ) (ns ms : List CompletedCall) (rs qs : List Record)
    (gs ds : List Aborted) (ts us : List Trace) → AreMade p q from middle ns rs gs ts →
    AreMade q r middle to ms qs ds us → AreMade p r from to (ns ++ ms) (rs ++ qs) (gs ++ ds) (ts ++ us)
made_both p q r from middle to ns ms rs qs gs ds ts us h k = record {
  ascending = ascending_both p q r ts us h.ascending k.ascending;
  turns = turns_both from middle to ts us h.turns k.turns;
  of_records = subst (λ (l : List Trace). Paired IsTraceOf l (rs ++ qs)) (sym (committed_both ts us))
      (paired_both IsTraceOf (committed_in ts) (committed_in us) rs qs h.of_records k.of_records);
  of_calls = subst (λ (l : List Trace). Paired IsNotedWith (ns ++ ms) l) (sym (committed_both ts us))
      (paired_both IsNotedWith ns ms (committed_in ts) (committed_in us) h.of_calls k.of_calls);
  listed = subst (λ (l : List Trace). Paired IsTraceOfListed l (gs ++ ds)) (sym (aborted_both ts us))
      (paired_both IsTraceOfListed (aborted_in ts) (aborted_in us) gs ds h.listed k.listed);
  aborted = All-append ReadsOneImageIfAborted ts us h.aborted k.aborted;
}

pub adds_both : (p q r : CommitPosition) (from middle to : ℕ) (n m : ℕ) (ns ms : List CompletedCall)
    (rs qs : List Record) (gs ds : List Aborted) (a b c : Option (List Trace)) →
    AddsTraces p q from middle n ns rs gs a b → AddsTraces q r middle to m ms qs ds b c →
    AddsTraces p r from to (n + m) (ns ++ ms) (rs ++ qs) (gs ++ ds) a c
adds_both p q r from middle to n m ns ms rs qs gs ds a b c h k = λ all is.
    let o = k all is in
    let e = h o.earlier o.before_is in record {
      earlier = e.earlier;
      before_is = e.before_is;
      left = e.left ++ o.left;
      all_are = o.all_are ∙ (ap (λ (l : List Trace). l ++ o.left) e.all_are ∙ append_assoc e.earlier e.left o.left);
      made = e.made ++ o.made;
      number = omega (arith, length-append e.made o.made, e.number, o.number);
      are_made = made_both p q r from middle to ns ms rs qs gs ds e.made o.made e.are_made o.are_made;
      are_left = left_two e.made o.made e.left o.left e.are_left o.are_left;
    }

-- no attempt
pub adds_none : (renewal floor from to : ℕ) (a b : Option (List Trace)) → to ≡ from → b ≡ a →
    AddsTraces (reader_at renewal floor) (reader_at renewal floor) from to 0 [] [] [] a b
adds_none renewal floor from to a b time e = λ all is. record {
  earlier = all;
  before_is = sym e ∙ is;
  left = [];
  all_are = sym (append-nil all);
  made = [];
  number = refl;
  are_made = record {
    ascending = stays_at renewal floor;
    turns = omega (arith, time);
    of_records = none;
    of_calls = none;
    listed = none;
    aborted = All-nil ReadsOneImageIfAborted;
  };
  are_left = all_left [];
}

as_many : (n m k l : ℕ) → n + m ≡ k → n + l ≡ k → m ≡ l
as_many n m k l e f = omega (arith, e, f)

-- the attempts of a call that was refused are traced
pub adds_refused : {E : Type 0} (region : RegionShown) (f : E) (v v' : Client) (from to n : ℕ)
    (a b : Option (List Trace)) → (aborts : List Aborted) → v.attempt.number + n ≡ v'.attempt.number →
    all_aborted v' ≡ all_aborted v ++ aborts → HasTraced IsFitting region {A = Reply} (Err f) v v' from to a b →
    AddsTraces (reader_at region.renewal v.floor) (reader_at region.renewal v'.floor) from to n [] [] aborts a b
adds_refused region f v v' from to n a b aborts begun grown h = λ all is.
    let o = h.each all is in record {
      earlier = o.0;
      before_is = o.2;
      left = o.1;
      all_are = o.3;
      made = o.1;
      number = as_many v.attempt.number (length o.1) v'.attempt.number n o.5 begun;
      are_made = made_refused region v v' from to o.1 aborts grown o.4 o.6;
      are_left = all_left o.1;
    }

-- a list without its last element
abbrev front : {A : Type 0} → List A → List A
front [] = []
front (x ∷ []) = []
front (x ∷ (y ∷ ys)) = x ∷ front (y ∷ ys)

front_is : {A : Type 0} (xs : List A) (x : A) → front (xs ++ (x ∷ [])) ≡ xs
front_is [] x = refl
front_is (y ∷ []) x = refl
front_is (y ∷ (z ∷ zs)) x = ap (λ (l : List _). y ∷ l) (front_is (z ∷ zs) x)

same_front : {A : Type 0} (xs ys : List A) (x y : A) → xs ++ (x ∷ []) ≡ ys ++ (y ∷ []) → xs ≡ ys
same_front xs ys x y e = sym (front_is xs x) ∙ (ap (λ (l : List _). front l) e ∙ front_is ys y)

-- the last of a list, or this
abbrev last_or : {A : Type 0} → A → List A → A
last_or d [] = d
last_or d (x ∷ xs) = last_or x xs

last_is : {A : Type 0} (d : A) (xs : List A) (x : A) → last_or d (xs ++ (x ∷ [])) ≡ x
last_is d [] x = refl
last_is d (y ∷ xs) x = last_is y xs x

-- lists that are equal have the same last element
pub same_last : {A : Type 0} (xs ys : List A) (x y : A) → xs ++ (x ∷ []) ≡ ys ++ (y ∷ []) → x ≡ y
same_last xs ys x y e = sym (last_is x xs x) ∙ (ap (λ (l : List _). last_or x l) e ∙ last_is x ys y)

abbrev listed : Option (List Trace) → List Trace
listed None = []
listed (Some ts) = ts

-- the attempt that is noted is the last of those that were traced
noted_with : (o : Option (Box TracedAttempt)) (b : Option (List Trace)) (all ts : List Trace) (t : Trace) →
    b ≡ Some all → all ≡ ts ++ (t ∷ []) → IfSome o (λ a. IsLastTraced b (trace_of a.value)) →
    IfSome o (λ a. trace_of a.value ≡ t)
noted_with (Some a) b all ts t is e last = same_last last.0 ts (trace_of a.value) t
    (ap listed (sym last.1 ∙ is) ∙ e)
noted_with None b all ts t is e last = tt

-- the attempts of a call that was answered are traced, and its last one may be taken out
pub adds_answered : {E : Type 0} (region : RegionShown) (tag : List ℕ) (place : CommitPosition) (reply : Reply)
    (v v' : Client) (note : CompletedCall) (from to n : ℕ) (a b c : Option (List Trace)) (aborts : List Aborted) →
    (adds : AddsAt region.renewal tag place v v') → v.attempt.number + n ≡ v'.attempt.number →
    all_aborted v' ≡ all_aborted v ++ aborts → HasTraced IsFitting region {X = E} (Ok reply) v v' from to a b →
    IfSome note.attempt (λ x. IsLastTraced b (trace_of x.value)) → HasTakenOut b c →
    AddsTraces (reader_at region.renewal v.floor) (reader_at region.renewal v'.floor) from to n (note ∷ [])
    (adds.adds.added ∷ []) aborts a c
adds_answered region tag place reply v v' note from to n a b c aborts adds begun grown h noted taken =
    λ all is. elim (taken all is) [
      | inl same ↦ (
          let o = h.each all same in
          record {
            earlier = o.0;
            before_is = o.2;
            left = o.1;
            all_are = o.3;
            made = o.1;
            number = as_many v.attempt.number (length o.1) v'.attempt.number n o.5 begun;
            are_made = made all same;
            are_left = all_left o.1;
          })
      | inr out ↦ (
          let whole = all ++ (out.0 ∷ []) in
          let o = h.each whole out.1 in
          let k = o.4 in
          record {
            earlier = o.0;
            before_is = o.2;
            left = k.0;
            all_are = same_front all (o.0 ++ k.0) out.0 k.1
                (o.3 ∙ (ap (λ (l : List Trace). o.0 ++ l) k.2 ∙ sym (append_assoc o.0 k.0 (k.1 ∷ []))));
            made = o.1;
            number = as_many v.attempt.number (length o.1) v'.attempt.number n o.5 begun;
            are_made = made whole out.1;
            are_left = subst (λ (l : List Trace). AreLeft l k.0) (sym k.2) (front_left k.0 k.1 k.4.is.commits);
          })
    ]
  where
    made : (all : List Trace) (same : b ≡ Some all) → AreMade (reader_at region.renewal v.floor)
        (reader_at region.renewal v'.floor) from to (note ∷ []) (adds.adds.added ∷ []) aborts (h.each all same).1
    made all same =
        let o = h.each all same in
        let k = o.4 in
        let made_it : IsTraceOf k.1 adds.adds.added = subst (λ (x : Record). IsTraceOf k.1 x)
        (same_last v.records v.records k.4.added adds.adds.added (sym k.4.records ∙ adds.adds.records)) k.4.is in
        subst (λ (l : List Trace). AreMade (reader_at region.renewal v.floor) (reader_at region.renewal v'.floor)
        from to (note ∷ []) (adds.adds.added ∷ []) aborts l) (sym k.2)
        (made_answered region v k.3.0 v' from to note adds.adds.added k.0 k.1 aborts k.3.1 k.3.3 made_it
        adds.adds.renewal_is adds.adds.known (noted_with note.attempt b all (o.0 ++ k.0) k.1 same
        (o.3 ∙ (ap (λ (l : List Trace). o.0 ++ l) k.2 ∙ sym (append_assoc o.0 k.0 (k.1 ∷ [])))) noted) k.3.5 grown
        (subst (λ (l : List Trace). AreMadeInTurn from l to) k.2 o.6))
