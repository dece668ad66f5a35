-- What the order in which calls ended says of those that are left.
use Rattle.std.proofs.Common.{◌≡◌, ℕ, ◌+◌, ◌<◌, ◌≤◌, ◌||◌, ◌&&◌, suc, zero, Bool, true, false, not}
use Rattle.std.proofs.Common.{cond, List, [], ◌∷◌, ◌++◌, length, drop, get_or, refl, sym, ap, ◌∙◌}
use Rattle.std.proofs.Common.{subst, arith, nat_lt, nat_le, drop-cons}
use Rattle.std.specs.Prelude.{⊤}
use Rattle.std.specs.List.{list_any}
use Rattle.std.proofs.lemmas.Bool.Decides.{nat_tests}
use Rattle.judge_object.specs.Call.{Call}
use Rattle.judge_object.specs.Call.{is_completed}
use Rattle.judge_search.proofs.Left.{none_answered}
use Rattle.judge_object.specs.declared.line.Line.{Line}
use Rattle.judge_search.specs.Configurations.{weight, answered}
use Rattle.judge_search.specs.Calls.{call_of, calls_of, has_ended, follows, are_sorted, no_call, rest_of}
use Rattle.judge_search.proofs.Each.{Each}
use Rattle.judge_search.proofs.Tries.{at, rest_split, front_made}
use Rattle.judge_object.specs.Rules.{Rules}

both_true : (a b : Bool) → (a && b) ≡ true → (a ≡ true) × (b ≡ true)
both_true true b h = (refl, h)
both_true false b h = cc

low : (x y : ℕ) → nat_le x y ≡ true → x ≤ y
low x y h = grind (arith, nat_tests)

pub early : (x y : ℕ) → y ≤ x → nat_lt x y ≡ false
early x y h = grind (arith, nat_tests)

pub late : (x y : ℕ) → x < y → nat_lt x y ≡ true
late x y h = grind (arith, nat_tests)

-- a line between two of one kind is of that kind too
between : (a b l : Bool) → (a ≡ false → b ≡ false) → (b ≡ false → l ≡ false) → l ≡ a → (l ≡ b) × (b ≡ a)
between true true l x y e = (e, refl)
between true false true x y e = absurd (let f : true ≡ false = y refl in cc)
between true false false x y e = cc
between false true l x y e = absurd (let f : true ≡ false = x refl in cc)
between false false l x y e = (e, refl)

no_earlier : (x y : Bool) (s t : ℕ) → (nat_le s t || x && not y) ≡ true → y ≡ x → s ≤ t
no_earlier true true s t h e = low s t (or_false (nat_le s t) h)
  where
    or_false : (b : Bool) → (b || false) ≡ true → b ≡ true
    or_false true h = refl
    or_false false h = h
no_earlier false false s t h e = low s t (or_false (nat_le s t) h)
  where
    or_false : (b : Bool) → (b || false) ≡ true → b ≡ true
    or_false true h = refl
    or_false false h = h
no_earlier true false s t h e = cc
no_earlier false true s t h e = cc

module _ {O : Type 0} where
  -- a fact of each line
  abbrev pub EachLine : ((Line O) → Type 0) → List (Line O) → Type 0
  EachLine P [] = ⊤
  EachLine P (line ∷ lines) = P line × EachLine P lines

  -- a line after another
  pub record Later (line later : Line O) : Type 0 where
    pub ends : line.end ≤ later.end
    pub begins : has_ended later ≡ has_ended line → line.soonest ≤ later.begin
    pub never : has_ended line ≡ false → has_ended later ≡ false

  -- none of the lines ends before those in front of it, or begins before they say
  abbrev pub AreSorted : List (Line O) → Type 0
  AreSorted [] = ⊤
  AreSorted (line ∷ lines) =
      (line.soonest ≤ line.begin) × EachLine (Later line) lines × AreSorted lines

  further : (a b : Line O) (ls : List (Line O)) → a.end ≤ b.end →
      (has_ended b ≡ has_ended a → a.soonest ≤ b.soonest) →
      (has_ended a ≡ false → has_ended b ≡ false)
      → EachLine (Later b) ls → EachLine (Later a) ls
  further a b [] x y z h = tt
  further a b (l ∷ ls) x y z h = (
    record {
      ends = let p : b.end ≤ l.end = h.0.ends in omega arith;
      begins = λ e.
          let both = between (has_ended a) (has_ended b) (has_ended l) z h.0.never e in
          let q : b.soonest ≤ l.begin = h.0.begins both.0 in
          let r : a.soonest ≤ b.soonest = y both.1 in omega arith;
      never = λ e. h.0.never (z e);
    },
    further a b ls x y z h.1,
  )

  not_more : (line next : Line O) → (has_ended line || not (has_ended next)) ≡ true →
      has_ended line ≡ false →
      has_ended next ≡ false
  not_more line next h e = go (has_ended next) (subst (λ b. (b || not (has_ended next)) ≡ true) e h)
    where
      go : (b : Bool) → not b ≡ true → b ≡ false
      go true h = cc
      go false h = refl

  pub sorted_of : (lines : List (Line O)) → are_sorted lines ≡ true → AreSorted lines
  sorted_of [] h = tt
  sorted_of (line ∷ []) h = (low line.soonest line.begin h, tt, tt)
  sorted_of (line ∷ (next ∷ lines)) h =
      let one = both_true (nat_le line.soonest line.begin && follows line next) (are_sorted (next ∷ lines)) h in
      let two = both_true (nat_le line.soonest line.begin) (follows line next) one.0 in
      let three = both_true (nat_le line.end next.end && (has_ended line || not (has_ended next)))
      (nat_le line.soonest next.soonest || has_ended line && not (has_ended next)) two.1 in
      let four = both_true (nat_le line.end next.end) (has_ended line || not (has_ended next)) three.0 in
      let end = low line.end next.end four.0 in
      let soonest = no_earlier (has_ended line) (has_ended next) line.soonest next.soonest three.1 in
      let rest = sorted_of (next ∷ lines) one.1 in (
        low line.soonest line.begin two.0,
        (
          record {
            ends = end;
            begins = λ e. let a : line.soonest ≤ next.soonest = soonest e in
                let b : next.soonest ≤ next.begin = rest.0 in omega arith;
            never = not_more line next four.1;
          },
          further line next lines end soonest (not_more line next four.1) rest.1,
        ),
        rest,
      )

  pub sorted_drop : (lines : List (Line O)) (p : ℕ) → AreSorted lines → AreSorted (drop p lines)
  sorted_drop lines zero h = h
  sorted_drop [] (suc p) h = tt
  sorted_drop (l ∷ ls) (suc p) h = sorted_drop ls p h.2

  drop_map : (lines : List (Line O)) (p : ℕ) → drop p (calls_of lines) ≡ calls_of (drop p lines)
  drop_map lines zero = refl
  drop_map [] (suc p) = refl
  drop_map (l ∷ ls) (suc p) = drop_map ls p

  each_lines : (P : (Line O) → Type 0) (Q : (Call O) → Type 0) → ((l : Line O) → P l → Q (call_of l)) →
      (ls : List (Line O)) →
      EachLine P ls → Each Q (calls_of ls)
  each_lines P Q f [] h = tt
  each_lines P Q f (l ∷ ls) h = (f l h.0, each_lines P Q f ls h.1)

  -- a line and those after it
  pub here : (lines : List (Line O)) (p : ℕ) (line : Line O) → p < length lines → line ≡ get_or lines p line →
      drop p lines ≡ line ∷ drop (suc p) lines
  here lines p line l e = drop-cons lines p line l ∙ ap (λ x. x ∷ drop (suc p) lines) (sym e)

  -- none of the calls from a line on ended before it
  pub end_later : (lines : List (Line O)) (p : ℕ) (line : Line O) → AreSorted lines → p < length lines →
      line ≡ get_or lines p line
      → Each (λ c. line.end ≤ c.end) (drop p (calls_of lines))
  end_later lines p line s l e =
      subst (Each (λ c. line.end ≤ c.end)) (sym (drop_map lines p))
      (subst (λ ls. Each (λ c. line.end ≤ c.end) (calls_of ls)) (sym (here lines p line l e))
      (go (subst AreSorted (here lines p line l e) (sorted_drop lines p s))))
    where
      go : AreSorted (line ∷ drop (suc p) lines) → Each (λ c. line.end ≤ c.end) (calls_of (line ∷ drop (suc p) lines))
      go h = (
        (let own : line.end ≤ line.end = omega arith in own),
        each_lines (Later line) (λ c. line.end ≤ c.end) (λ later f. f.ends) (drop (suc p) lines) h.1,
      )

  pub each_at : (P : (Line O) → Type 0) (ls : List (Line O)) (i : ℕ) (d : Line O) → i < length ls → EachLine P ls →
      P (get_or ls i d)
  each_at P [] i d l h = absurd (omega arith)
  each_at P (x ∷ xs) zero d l h = h.0
  each_at P (x ∷ xs) (suc i) d l h = each_at P xs i d (omega arith) h.1

  -- and none of its kind began before it says
  pub begin_later : (lines : List (Line O)) (p j : ℕ) (d : Line O) → AreSorted lines → p ≤ j → j < length lines →
      has_ended (get_or lines j d) ≡ has_ended (get_or lines p d) →
      (get_or lines p d).soonest ≤ (get_or lines j d).begin
  begin_later [] p j d s m l e = absurd (omega arith)
  begin_later (x ∷ xs) zero zero d s m l e = s.0
  begin_later (x ∷ xs) zero (suc j) d s m l e = (each_at (Later x) xs j d (omega arith) s.1).begins e
  begin_later (x ∷ xs) (suc p) zero d s m l e = absurd (omega arith)
  begin_later (x ∷ xs) (suc p) (suc j) d s m l e = begin_later xs p j d s.2 (omega arith) (omega arith) e

module _ {S O R : Type 0} (X : Rules S O R) where
  pub call_here : (lines : List (Line O)) (p : ℕ) (line : Line O) → p < length lines → line ≡ get_or lines p line →
      (at X) (calls_of lines) p ≡ call_of line
  call_here [] p line l e = absurd (omega arith)
  call_here (x ∷ xs) zero line l e = ap call_of (sym e)
  call_here (x ∷ xs) (suc p) line l e = call_here xs p line (omega arith) e

  pub length_calls : (lines : List (Line O)) → length (calls_of lines) ≡ length lines
  length_calls [] = refl
  length_calls (x ∷ xs) = ap suc (length_calls xs)

  pub long_calls : (lines : List (Line O)) (p : ℕ) → p < length lines → p < length (calls_of lines)
  long_calls [] p l = absurd (omega arith)
  long_calls (x ∷ xs) zero l = omega arith
  long_calls (x ∷ xs) (suc p) l = let m = long_calls xs p (omega arith) in omega arith

  each_rest : (P : (Call O) → Type 0) (made : ℕ → Bool) (i : ℕ) (cs : List (Call O)) → Each P cs →
      Each P (rest_of made i cs)
  each_rest P made i [] h = tt
  each_rest P made i (c ∷ cs) h = go (made i) (each_rest P made (suc i) cs h.1)
    where
      go : (b : Bool) → Each P (rest_of made (suc i) cs) → Each P
          (cond b (rest_of made (suc i) cs) (c ∷ rest_of made (suc i) cs))
      go true g = g
      go false g = (h.0, g)

  none_ended : (e b : ℕ) → b ≤ e → (cs : List (Call O)) → Each (λ c. e ≤ c.end) cs →
      list_any (λ (o : Call O). nat_lt o.end b) cs ≡ false
  none_ended e b l [] h = refl
  none_ended e b l (c ∷ cs) h = let g : e ≤ c.end = h.0 in rw (early c.end b (omega arith)) (none_ended e b l cs h.1)

  -- what is left is the first call that is left and calls after it
  pub first_rest : (made : ℕ → Bool) (cs : List (Call O)) (p : ℕ) → p < length cs → ((j : ℕ) → j < p → made j ≡ true) →
      made p ≡ false
      → rest_of made 0 cs ≡ (at X) cs p ∷ rest_of made (suc p) (drop (suc p) cs)
  first_rest made cs p l below left =
      (rest_split X) made 0 cs p p (omega arith) l left
      ∙ ap (λ f. f ++ (at X) cs p ∷ rest_of made (suc p) (drop (suc p) cs))
      (front_made X made 0 cs p (λ j l. below j (omega arith)))

  -- a call that began by the end of the first had been ended by none
  pub begun_early : (made : ℕ → Bool) (lines : List (Line O)) (p : ℕ) (line : Line O) (b : ℕ) → AreSorted lines →
      p < length lines → line ≡ get_or lines p line
      → ((j : ℕ) → j < p → made j ≡ true) → made p ≡ false → b ≤ line.end →
      list_any (λ (o : Call O). nat_lt o.end b) (rest_of made 0 (calls_of lines)) ≡ false
  begun_early made lines p line b s l e below left early =
      let cs = calls_of lines in
      let long : p < length cs = long_calls lines p l in
      let each = subst (Each (λ c. line.end ≤ c.end)) (drop-cons cs p (no_call X) long)
      (end_later lines p line s l e) in
      ap (list_any (λ (o : Call O). nat_lt o.end b)) (first_rest made cs p long below left)
      ∙ none_ended line.end b early (at X cs p ∷ rest_of made (suc p) (drop (suc p) cs))
      (each.0, each_rest (λ c. line.end ≤ c.end) made (suc p) (drop (suc p) cs) each.1)

  pub begun_late : (made : ℕ → Bool) (lines : List (Line O)) (p : ℕ) (line : Line O) (b : ℕ) → AreSorted lines →
      p < length lines → line ≡ get_or lines p line
      → ((j : ℕ) → j < p → made j ≡ true) → made p ≡ false → line.end < b →
      list_any (λ (o : Call O). nat_lt o.end b) (rest_of made 0 (calls_of lines)) ≡ true
  begun_late made lines p line b s l e below left far =
      let cs = calls_of lines in
      ap (list_any (λ (o : Call O). nat_lt o.end b)) (first_rest made cs p (long_calls lines p l) below left)
      ∙ ap (λ (c : Call O). nat_lt c.end b || list_any (λ (o : Call O). nat_lt o.end b)
      (rest_of made (suc p) (drop (suc p) cs))) (call_here lines p line l e)
      ∙ ap (λ t. t || list_any (λ (o : Call O). nat_lt o.end b) (rest_of made (suc p) (drop (suc p) cs)))
      (late line.end b far)

  -- where all calls have a place none is left, and otherwise the first that has none is left
  pub all_made : (made : ℕ → Bool) (i : ℕ) (cs : List (Call O)) → ((j : ℕ) → j < i + length cs → made j ≡ true) →
      rest_of made i cs ≡ []
  all_made made i [] h = refl
  all_made made i (c ∷ cs) h =
      ap (λ b. cond b (rest_of made (suc i) cs) (c ∷ rest_of made (suc i) cs)) (h i (omega arith))
      ∙ all_made made (suc i) cs (λ j l. h j (omega arith))

  -- what is left has no completed call, where the first of it has none
  pub never_left : (made : ℕ → Bool) (lines : List (Line O)) (p : ℕ) (line : Line O) → AreSorted lines →
      p < length lines →
      line ≡ get_or lines p line
      → ((j : ℕ) → j < p → made j ≡ true) → made p ≡ false → has_ended line ≡ false →
      answered (rest_of made 0 (calls_of lines)) ≡ 0
  never_left made lines p line s l e below left none =
      let cs = calls_of lines in
      let long : p < length cs = long_calls lines p l in
      let never = subst (Each (λ c. is_completed c ≡ false)) (drop-cons cs p (no_call X) long)
      (go_never (subst AreSorted (here lines p line l e) (sorted_drop lines p s))) in
      ap answered (first_rest made cs p long below left)
      ∙ (none_answered X) (at X cs p ∷ rest_of made (suc p) (drop (suc p) cs)) (
        never.0,
        each_rest (λ c. is_completed c ≡ false) made (suc p) (drop (suc p) cs) never.1,
      )
    where
      go_never : AreSorted (line ∷ drop (suc p) lines) → Each (λ c. is_completed c ≡ false) (drop p (calls_of lines))
      go_never h =
          subst (Each (λ c. is_completed c ≡ false)) (sym (drop_map lines p))
          (subst (λ ls. Each (λ c. is_completed c ≡ false) (calls_of ls)) (sym (here lines p line l e)) (
            none,
            each_lines (Later line) (λ c. is_completed c ≡ false) (λ later f. f.never none) (drop (suc p) lines) h.1,
          ))

  pub some_left : (made : ℕ → Bool) (lines : List (Line O)) (p : ℕ) (line : Line O) → p < length lines →
      line ≡ get_or lines p line → ((j : ℕ) → j < p → made j ≡ true) → made p ≡ false
      → has_ended line ≡ true → 0 < answered (rest_of made 0 (calls_of lines))
  some_left made lines p line l e below left some =
      let cs = calls_of lines in
      subst (λ r. 0 < answered r) (sym (first_rest made cs p (long_calls lines p l) below left))
      (let w : weight (at X cs p) ≡ 1 = ap weight (call_here lines p line l e) ∙ ap (λ b. cond b 1 0)
      some in omega arith)
