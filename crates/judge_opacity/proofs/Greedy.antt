-- A greedy search for the places of attempts is complete: an attempt that is no committed writer, that no other has to
-- precede and whose reads are right may come at once, and if there is no such attempt, the next writer has to come.
use Rattle.std.proofs.Common.{◌≡◌, ◌&&◌, ◌||◌, Bool, true, false, not, cond, List, [], ◌∷◌, ◌++◌, Option, Some}
use Rattle.std.proofs.Common.{None}
use Rattle.std.proofs.Common.{refl, sym, ap, ◌∙◌, subst, inl, inr, ◌⊎◌, append_assoc, append-nil, nat_lt}
use Rattle.std.specs.List.{list_any}
use mathlib.Core.List.{reverse_aux}
use Rattle.judge_object.specs.declared.span.Misplaced.{Misplaced}
use Rattle.judge_object.specs.declared.span.Misplaced.TheVariants.{Client, Time}
use Rattle.judge_object.specs.Order.{overlaps, ended_before, breaks_client, breaks_time, misplaced}
use Rattle.judge_object.proofs.Tests.{both_false}
use Rattle.judge_object.proofs.Order.{none_found, fails}
use Rattle.judge_opacity.specs.declared.attempt.Access.{Access}
use Rattle.judge_opacity.specs.declared.attempt.Access.TheVariants.{Read, Write}
use Rattle.judge_opacity.specs.declared.finding.AttemptViolation.{AttemptViolation}
use Rattle.judge_opacity.specs.declared.finding.AttemptViolation.TheVariants as violation
use Rattle.judge_opacity.specs.Attempt.{Attempt, span_of_attempt}
use Rattle.judge_opacity.specs.Words.{Image, words_after, left_by, wrong_read}
use Rattle.judge_opacity.specs.Verdict.{place_first, violation_of}
use Rattle.judge_opacity.specs.Laws.{IsOpaqueOrder}
use Rattle.judge_opacity.specs.Placing.{is_write, is_writer, NoWriter, IsPlacement, IsPlaceable, may_follow, Goes}
use Rattle.judge_opacity.specs.Placing.{Completes}
use Rattle.judge_opacity.proofs.Orders.{opaque_none, opaque_more, opaque_last, opaque_front}

false_true : false ≡ true → ⊥
false_true e = cc

-- ---- orders that go on

back_more : (xs ys : List Attempt) (a : Attempt) → reverse_aux (xs ++ a ∷ []) ys ≡ a ∷ reverse_aux xs ys
back_more [] ys a = refl
back_more (x ∷ xs) ys a = back_more xs (x ∷ ys) a

opaque_from : (before more : List Attempt) → IsOpaqueOrder before → Goes (reverse_aux before []) more →
    IsOpaqueOrder (before ++ more)
opaque_from before [] o g = subst IsOpaqueOrder (sym (append-nil before)) o
opaque_from before (a ∷ more) o g =
    subst IsOpaqueOrder (append_assoc before (a ∷ []) more)
    (opaque_from (before ++ a ∷ []) more (opaque_more before a o g.0)
    (subst (λ t. Goes t more) (sym (back_more before [] a)) g.1))

goes_from : (before more : List Attempt) → IsOpaqueOrder (before ++ more) → Goes (reverse_aux before []) more
goes_from before [] o = tt
goes_from before (a ∷ more) o =
    let all : IsOpaqueOrder ((before ++ a ∷ []) ++ more) =
    subst IsOpaqueOrder (sym (append_assoc before (a ∷ []) more)) o in (
      opaque_last before a (opaque_front (before ++ a ∷ []) more all),
      subst (λ t. Goes t more) (back_more before [] a) (goes_from (before ++ a ∷ []) more all),
    )

pub goes_opaque : (order : List Attempt) → Goes [] order → IsOpaqueOrder order
goes_opaque order g = opaque_from [] order opaque_none g

pub opaque_goes : (order : List Attempt) → IsOpaqueOrder order → Goes [] order
opaque_goes order o = goes_from [] order o

-- ---- an attempt more among earlier ones

reads_leave : (m : Image) (xs : List Access) → list_any is_write xs ≡ false → words_after m xs ≡ m
reads_leave m [] h = refl
reads_leave m (Read word value ∷ xs) h = reads_leave m xs h
reads_leave m (Write word value ∷ xs) h = absurd (false_true (sym h))

free_step : (commits writes : Bool) (x m : Image) → (commits && writes) ≡ false → (writes ≡ false → x ≡ m) →
    cond commits x m ≡ m
free_step true writes x m h g = g h
free_step false writes x m h g = refl

free_leaves : (f : Attempt) (earlier : List Attempt) → is_writer f ≡ false → left_by (f ∷ earlier) ≡ left_by earlier
free_leaves f earlier h =
    free_step f.commits (list_any is_write f.accesses) (words_after (left_by earlier) f.accesses) (left_by earlier) h
    (reads_leave (left_by earlier) f.accesses)

-- the second list is the first with one attempt more somewhere, which leaves no word changed
record With (f : Attempt) (earlier more : List Attempt) : Type 0 where
  left : left_by more ≡ left_by earlier
  among : (p : Attempt → Bool) → list_any p more ≡ (p f || list_any p earlier)

-- both lists have the same attempts, and leave the same words
record Same (earlier other : List Attempt) : Type 0 where
  left : left_by earlier ≡ left_by other
  among : (p : Attempt → Bool) → list_any p earlier ≡ list_any p other

left_more : (x : Attempt) (earlier other : List Attempt) → left_by earlier ≡ left_by other →
    left_by (x ∷ earlier) ≡ left_by (x ∷ other)
left_more x earlier other e = ap (λ (m : Image). cond x.commits (words_after m x.accesses) m) e

or_swap : (a b c : Bool) → (a || (b || c)) ≡ (b || (a || c))
or_swap true true c = refl
or_swap true false c = refl
or_swap false true c = refl
or_swap false false c = refl

with_first : (f : Attempt) (earlier : List Attempt) → is_writer f ≡ false → With f earlier (f ∷ earlier)
with_first f earlier h = record { left = free_leaves f earlier h; among = λ p. refl }

with_more : (f x : Attempt) (earlier more : List Attempt) → With f earlier more → With f (x ∷ earlier) (x ∷ more)
with_more f x earlier more w = record {
  left = left_more x more earlier w.left;
  among = λ p. ap (λ b. p x || b) (w.among p) ∙ or_swap (p x) (p f) (list_any p earlier);
}

same_from : (f : Attempt) (earlier more : List Attempt) → is_writer f ≡ false → With f earlier more →
    Same (f ∷ earlier) more
same_from f earlier more h w = record {
  left = free_leaves f earlier h ∙ sym w.left;
  among = λ p. sym (w.among p);
}

same_more : (x : Attempt) (earlier other : List Attempt) → Same earlier other → Same (x ∷ earlier) (x ∷ other)
same_more x earlier other s = record {
  left = left_more x earlier other s.left;
  among = λ p. ap (λ b. p x || b) (s.among p);
}

-- what is found, by the tests and by the words
abbrev found_by : Bool → Bool → Image → Attempt → Option AttemptViolation
found_by client time words a =
    place_first (cond (nat_lt a.span.end a.span.begin || client) (Some Client) (cond time (Some Time) None))
    (wrong_read words a.accesses)

breach_by : (a : Attempt) (earlier : List Attempt) (client time : Bool) (words : Image) →
    list_any (overlaps span_of_attempt a) earlier ≡ client →
    list_any (ended_before span_of_attempt a) earlier ≡ time →
    left_by earlier ≡ words → violation_of earlier a ≡ found_by client time words a
breach_by a earlier client time words e f g =
    ap (λ b. found_by b (list_any (ended_before span_of_attempt a) earlier) (left_by earlier) a) e
    ∙ ap (λ b. found_by client b (left_by earlier) a) f
    ∙ ap (λ (m : Image). found_by client time m a) g

breach_same : (a : Attempt) (earlier other : List Attempt) → Same earlier other →
    violation_of earlier a ≡ violation_of other a
breach_same a earlier other s =
    breach_by a earlier (list_any (overlaps span_of_attempt a) other)
    (list_any (ended_before span_of_attempt a) other) (left_by other)
    (s.among (overlaps span_of_attempt a)) (s.among (ended_before span_of_attempt a)) s.left

goes_same : (earlier other order : List Attempt) → Same earlier other → Goes earlier order → Goes other order
goes_same earlier other [] s g = tt
goes_same earlier other (a ∷ order) s g = (
  sym (breach_same a earlier other s) ∙ g.0,
  goes_same (a ∷ earlier) (a ∷ other) order
      (same_more a earlier other s) g.1,
)

not_both : (a b : Bool) → not (a || b) ≡ true → (a ≡ false) × (b ≡ false)
not_both true b h = absurd (false_true h)
not_both false true h = absurd (false_true h)
not_both false false h = (refl, refl)

both_not : (a b : Bool) → a ≡ false → b ≡ false → not (a || b) ≡ true
both_not a b h g = ap (λ x. not (x || b)) h ∙ ap not g

breach_with : (a f : Attempt) (earlier more : List Attempt) → With f earlier more → may_follow f a ≡ true →
    violation_of more a ≡ violation_of earlier a
breach_with a f earlier more w may =
    let none = not_both (overlaps span_of_attempt a f) (ended_before span_of_attempt a f) may in
    breach_by a more (list_any (overlaps span_of_attempt a) earlier)
    (list_any (ended_before span_of_attempt a) earlier) (left_by earlier)
    (w.among (overlaps span_of_attempt a) ∙ ap (λ b. b || list_any (overlaps span_of_attempt a) earlier) none.0)
    (w.among (ended_before span_of_attempt a)
    ∙ ap (λ b. b || list_any (ended_before span_of_attempt a) earlier) none.1)
    w.left

-- all of them may follow an attempt
abbrev pub AllFollow : Attempt → List Attempt → Type 0
AllFollow f [] = Unit {0}
AllFollow f (a ∷ more) = (may_follow f a ≡ true) × AllFollow f more

-- an attempt that all others may follow comes first
goes_with : (f : Attempt) (earlier more pre post : List Attempt) → is_writer f ≡ false → With f earlier more →
    AllFollow f (pre ++ post) → Goes earlier (pre ++ f ∷ post) → Goes more (pre ++ post)
goes_with f earlier more [] post free w all g =
    goes_same (f ∷ earlier) more post (same_from f earlier more free w) g.1
goes_with f earlier more (a ∷ pre) post free w all g = (
  breach_with a f earlier more w all.0 ∙ g.0,
  goes_with f (a ∷ earlier) (a ∷ more) pre post free (with_more f a earlier more w) all.1 g.1,
)

-- ---- lists that are split in two ways

pub heads : (a b : Attempt) (xs ys : List Attempt) → a ∷ xs ≡ b ∷ ys → (a ≡ b) × (xs ≡ ys)
heads a b xs ys e = (cc, cc)

pub none_split : (a : Attempt) (front later : List Attempt) → [] ≡ front ++ a ∷ later → ⊥
none_split a [] later e = cc
none_split a (x ∷ front) later e = cc

-- two elements of a list are one, or one of them comes first
data Splits (b a d c : List Attempt) (f x : Attempt) : Type 0 where
  same_place : b ≡ d → f ≡ x → a ≡ c → Splits b a d c f x
  comes_later : (m : List Attempt) → d ≡ b ++ f ∷ m → a ≡ m ++ x ∷ c → Splits b a d c f x
  comes_first : (m : List Attempt) → b ≡ d ++ x ∷ m → c ≡ m ++ f ∷ a → Splits b a d c f x

splits : (b a d c : List Attempt) (f x : Attempt) → b ++ f ∷ a ≡ d ++ x ∷ c → Splits b a d c f x
splits [] a [] c f x e = let h = heads f x a c e in same_place refl h.0 h.1
splits [] a (y ∷ d) c f x e =
    let h = heads f y a (d ++ x ∷ c) e in
    comes_later d (ap (λ t. t ∷ d) (sym h.0)) h.1
splits (y ∷ b) a [] c f x e =
    let h = heads y x (b ++ f ∷ a) c e in
    comes_first b (ap (λ t. t ∷ b) h.0) (sym h.1)
splits (y ∷ b) a (z ∷ d) c f x e =
    let h = heads y z (b ++ f ∷ a) (d ++ x ∷ c) e in
    elim (splits b a d c f x h.1) [
      | same_place p q r ↦ same_place (ap (λ t. t ∷ b) h.0 ∙ ap (λ t. z ∷ t) p) q r
      | comes_later m p q ↦ comes_later m (ap (λ t. t ∷ d) (sym h.0) ∙ ap (λ t. y ∷ t) p) q
      | comes_first m p q ↦ comes_first m (ap (λ t. t ∷ b) h.0 ∙ ap (λ t. z ∷ t) p) q
    ]

no_writer_both : (b m : List Attempt) (f : Attempt) → NoWriter (b ++ f ∷ m) → NoWriter (b ++ m)
no_writer_both [] m f h = h.1
no_writer_both (y ∷ b) m f h = (h.0, no_writer_both b m f h.1)

no_writer_front : (b m : List Attempt) → NoWriter (b ++ m) → NoWriter b
no_writer_front [] m h = tt
no_writer_front (y ∷ b) m h = (h.0, no_writer_front b m h.1)

no_writer_at : (b m : List Attempt) (x : Attempt) → NoWriter (b ++ x ∷ m) → is_writer x ≡ false
no_writer_at [] m x h = h.0
no_writer_at (y ∷ b) m x h = no_writer_at b m x h.1

-- ---- orders without one attempt

-- the order has the attempt, and is one of the others without it
pub record TakenOut (others order : List Attempt) (f : Attempt) : Type 0 where
  pub pre : List Attempt
  pub post : List Attempt
  pub order_is : order ≡ pre ++ f ∷ post
  pub placement : IsPlacement others (pre ++ post)

taken_out : (order b a : List Attempt) (f : Attempt) → IsPlacement (b ++ f ∷ a) order → TakenOut (b ++ a) order f
taken_out [] b a f p = absurd (none_split f b a (sym p))
taken_out (x ∷ order) b a f p =
    elim (splits b a p.0 p.1 f x p.2) [
      | same_place e g h ↦ record {
        pre = [];
        post = order;
        order_is = ap (λ t. t ∷ order) (sym g);
        placement = subst (λ t. IsPlacement t order) (ap (λ t. t ++ p.1) (sym e) ∙ ap (λ t. b ++ t) (sym h)) p.4;
      }
      | comes_later m e g ↦
          let same = ap (λ t. t ++ p.1) e ∙ append_assoc b (f ∷ m) p.1 in
          let rest = taken_out order b (m ++ p.1) f (subst (λ t. IsPlacement t order) same p.4) in
          record {
            pre = x ∷ rest.pre;
            post = rest.post;
            order_is = ap (λ t. x ∷ t) rest.order_is;
            placement = (
              b ++ m,
              p.1,
              ap (λ t. b ++ t) g ∙ sym (append_assoc b m (x ∷ p.1)),
              λ w. no_writer_both b m f (subst NoWriter e (p.3 w)),
              subst (λ t. IsPlacement t (rest.pre ++ rest.post)) (sym (append_assoc b m p.1)) rest.placement,
            );
          }
      | comes_first m e g ↦
          let same = ap (λ t. p.0 ++ t) g ∙ sym (append_assoc p.0 m (f ∷ a)) in
          let rest = taken_out order (p.0 ++ m) a f (subst (λ t. IsPlacement t order) same p.4) in
          record {
            pre = x ∷ rest.pre;
            post = rest.post;
            order_is = ap (λ t. x ∷ t) rest.order_is;
            placement = (
              p.0,
              m ++ a,
              ap (λ t. t ++ a) e ∙ append_assoc p.0 (x ∷ m) a,
              p.3,
              subst (λ t. IsPlacement t (rest.pre ++ rest.post)) (append_assoc p.0 m a) rest.placement,
            );
          }
    ]

follow_front : (f : Attempt) (b a : List Attempt) (x : Attempt) → AllFollow f (b ++ x ∷ a) →
    (may_follow f x ≡ true) × AllFollow f (b ++ a)
follow_front f [] a x h = h
follow_front f (y ∷ b) a x h = let rest = follow_front f b a x h.1 in (rest.0, (h.0, rest.1))

follow_back : (f : Attempt) (b a : List Attempt) (x : Attempt) → may_follow f x ≡ true → AllFollow f (b ++ a) →
    AllFollow f (b ++ x ∷ a)
follow_back f [] a x h g = (h, g)
follow_back f (y ∷ b) a x h g = (g.0, follow_back f b a x h g.1)

-- an order has the attempts of the list
follow_order : (f : Attempt) (attempts order : List Attempt) → IsPlacement attempts order → AllFollow f attempts →
    AllFollow f order
follow_order f attempts [] p h = tt
follow_order f attempts (x ∷ order) p h =
    let both = follow_front f p.0 p.1 x (subst (AllFollow f) p.2 h) in
    (both.0, follow_order f (p.0 ++ p.1) order p.4 both.1)

follow_list : (f : Attempt) (attempts order : List Attempt) → IsPlacement attempts order → AllFollow f order →
    AllFollow f attempts
follow_list f attempts [] p h = subst (AllFollow f) (sym p) tt
follow_list f attempts (x ∷ order) p h =
    subst (AllFollow f) (sym p.2)
    (follow_back f p.0 p.1 x h.0 (follow_list f (p.0 ++ p.1) order p.4 h.1))

-- ---- the search

pub completes_first : (attempts : List Attempt) → IsPlaceable attempts → Completes [] attempts
completes_first attempts p = record {
  order = p.order;
  placement = p.placement;
  goes = opaque_goes p.order p.opaque;
}

-- an attempt that is no writer, that all others may follow and that fits may come at once
pub free_next : (earlier b a : List Attempt) (f : Attempt) → Completes earlier (b ++ f ∷ a) → is_writer f ≡ false →
    AllFollow f (b ++ a) → Completes (f ∷ earlier) (b ++ a)
free_next earlier b a f c free all =
    let out = taken_out c.order b a f c.placement in
    record {
      order = out.pre ++ out.post;
      placement = out.placement;
      goes = goes_with f earlier (f ∷ earlier) out.pre out.post free (with_first f earlier free)
          (follow_order f (b ++ a) (out.pre ++ out.post) out.placement all) (subst (Goes earlier) out.order_is c.goes);
    }

-- an earlier attempt is among the earlier ones
abbrev Has : Attempt → List Attempt → Type 0
Has x earlier = (p : Attempt → Bool) → p x ≡ true → list_any p earlier ≡ true

or_true : (a b : Bool) → b ≡ true → (a || b) ≡ true
or_true true b h = refl
or_true false b h = h

true_or : (a b : Bool) → a ≡ true → (a || b) ≡ true
true_or true b h = refl
true_or false b h = absurd (false_true h)

place_none : (place : Option Misplaced) (rest : Option AttemptViolation) → place_first place rest ≡ None → place ≡ None
place_none None rest h = refl
place_none (Some wrong) rest h = absurd (some_none (violation.Place wrong) h)
  where
    some_none : (b : AttemptViolation) → Some b ≡ None → ⊥
    some_none b e = cc

absent : (x : Attempt) (earlier : List Attempt) (p : Attempt → Bool) → Has x earlier → list_any p earlier ≡ false →
    p x ≡ false
absent x earlier p h none = fails (p x) (λ e. false_true (sym none ∙ h p e))

follows_it : (x y : Attempt) (earlier : List Attempt) → Has x earlier → violation_of earlier y ≡ None →
    may_follow x y ≡ true
follows_it x y earlier h e =
    let place = place_none (misplaced span_of_attempt earlier y) (wrong_read (left_by earlier) y.accesses) e in
    let tests = none_found span_of_attempt (breaks_client span_of_attempt earlier y)
    (breaks_time span_of_attempt earlier y) place in
    let client = both_false (nat_lt y.span.end y.span.begin) (list_any (overlaps span_of_attempt y) earlier) tests.0 in
    both_not (overlaps span_of_attempt y x) (ended_before span_of_attempt y x)
    (absent x earlier (overlaps span_of_attempt y) h client.1)
    (absent x earlier (ended_before span_of_attempt y) h tests.1)

follow_it : (x : Attempt) (earlier order : List Attempt) → Has x earlier → Goes earlier order → AllFollow x order
follow_it x earlier [] h g = tt
follow_it x earlier (y ∷ order) h g = (
  follows_it x y earlier h g.0,
  follow_it x (y ∷ earlier) order (λ p e. or_true (p y) (list_any p earlier) (h p e)) g.1,
)

-- no attempt that is no writer may come at once
abbrev pub NoFree : List Attempt → List Attempt → Type 0
NoFree earlier attempts = (b a : List Attempt) (f : Attempt) → attempts ≡ b ++ f ∷ a → is_writer f ≡ false →
    AllFollow f (b ++ a) → violation_of earlier f ≡ None → ⊥

-- a writer comes next
pub record WritesNext (earlier attempts : List Attempt) : Type 0 where
  pub before : List Attempt
  pub after : List Attempt
  pub writer : Attempt
  pub split : attempts ≡ before ++ writer ∷ after
  pub writes : is_writer writer ≡ true
  pub first : NoWriter before
  pub fits : violation_of earlier writer ≡ None
  pub completes : Completes (writer ∷ earlier) (before ++ after)

is_true : (b : Bool) → (b ≡ false → ⊥) → b ≡ true
is_true true h = refl
is_true false h = absurd (h refl)

writes_next : (earlier attempts order : List Attempt) → IsPlacement attempts order → Goes earlier order →
    NoFree earlier attempts → (attempts ≡ []) ⊎ WritesNext earlier attempts
writes_next earlier attempts [] p g none = inl p
writes_next earlier attempts (x ∷ order) p g none =
    let all = follow_list x (p.0 ++ p.1) order p.4
    (follow_it x (x ∷ earlier) order (λ q e. true_or (q x) (list_any q earlier) e) g.1) in
    let writes : is_writer x ≡ true = is_true (is_writer x) (λ free. none p.0 p.1 x p.2 free all g.0) in
    inr (record {
      before = p.0;
      after = p.1;
      writer = x;
      split = p.2;
      writes = writes;
      first = p.3 writes;
      fits = g.0;
      completes = record { order = order; placement = p.4; goes = g.1 };
    })

-- if no free attempt may come at once, the first writer has to
pub writer_next : (earlier b a : List Attempt) (w : Attempt) → Completes earlier (b ++ w ∷ a) → is_writer w ≡ true →
    NoWriter b → NoFree earlier (b ++ w ∷ a) → (violation_of earlier w ≡ None) × Completes (w ∷ earlier) (b ++ a)
writer_next earlier b a w c writes first none =
    elim (writes_next earlier (b ++ w ∷ a) c.order c.placement c.goes none) [
      | inl e ↦ absurd (none_split w b a (sym e))
      | inr n ↦ elim (splits b a n.before n.after w n.writer n.split) [
        | same_place e g h ↦ (
          ap (violation_of earlier) g ∙ n.fits,
          subst (λ t. Completes (t ∷ earlier) (b ++ a)) (sym g)
              (subst (Completes (n.writer ∷ earlier)) (ap (λ t. t ++ n.after) (sym e) ∙ ap (λ t. b ++ t) (sym h))
              n.completes),
        )
        | comes_later m e g ↦ absurd (false_true (sym (no_writer_at b m w (subst NoWriter e n.first)) ∙ writes))
        | comes_first m e g ↦
            absurd (false_true (sym (no_writer_at n.before m n.writer (subst NoWriter e first)) ∙ n.writes))
      ]
    ]

-- without a writer and a free attempt that may come, none can come
pub stuck_none : (earlier attempts : List Attempt) → Completes earlier attempts → NoWriter attempts →
    NoFree earlier attempts → attempts ≡ []
stuck_none earlier attempts c clear none =
    elim (writes_next earlier attempts c.order c.placement c.goes none) [
      | inl e ↦ e
      | inr n ↦ absurd (false_true (sym (no_writer_at n.before n.after n.writer (subst NoWriter n.split clear)) ∙
          n.writes))
    ]
