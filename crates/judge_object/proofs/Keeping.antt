-- What is kept of spans decides on the next as all of them do.
use Rattle.std.proofs.Common.{◌≡◌, ℕ, ◌+◌, ◌==◌, ◌&&◌, ◌||◌, ◌<◌, ◌≤◌, max, suc, Bool, true, false, cond, List, [], ◌∷◌}
use Rattle.std.proofs.Common.{length, Option, Some, None, is_some, refl, sym, ap, ◌∙◌, inl, inr, arith, nat_lt}
use Rattle.std.specs.List.{list_any}
use Rattle.std.specs.Ordering.{nat_cmp}
use Rattle.std.specs.FinMap.{FinMap, get, insert, len, empty, get-empty, len-empty, len-insert}
use Rattle.std.proofs.lemmas.Cmp.{nat_cmp_total}
use Rattle.std.proofs.lemmas.Bool.{cases_lt}
use Rattle.std.proofs.lemmas.Bool.Decides.{nat_tests}
use Rattle.judge_object.specs.declared.span.Span.{Span}
use Rattle.judge_object.specs.declared.span.Misplaced.{Misplaced}
use Rattle.judge_object.specs.declared.span.Misplaced.TheVariants.{Client, Time}
use Rattle.judge_object.specs.declared.spans.Spans.{Spans}
use Rattle.judge_object.specs.Order.{itself, same_client, overlaps, ended_before, breaks_client, breaks_time, misplaced}
use Rattle.judge_object.specs.Keeping.{end_of, latest_of, IsSpanBehind, EachSpan, SpansAreInTurn, Keeps}
use Rattle.judge_object.proofs.Maps.{get_here, get_other}
use Rattle.judge_object.proofs.Tests.{both_false, false_both, turn_from, turn_test, test}

or_true : (a b : Bool) → b ≡ true → (a || b) ≡ true
or_true true b h = refl
or_true false b h = h

-- nothing is kept
pub keeps_none : (spans : Spans) → spans.ends ≡ empty → spans.latest ≡ 0 → spans.count ≡ 0 → Keeps spans []
keeps_none spans e l n = record {
  ends_are = λ client. ap (λ (m : FinMap nat_cmp ℕ). get m client) e ∙ get-empty nat_cmp client;
  clients = ap len e ∙ len-empty nat_cmp ℕ;
  latest_is = l;
  count_is = n;
  turns = tt;
}

some_same : (a b : ℕ) → Some a ≡ Some b → a ≡ b
some_same a b e = cc

some_none : (a : ℕ) → Some a ≡ None → ⊥
some_none a e = cc

overlap : (a b x y : ℕ) → a ≡ b → x < y → (a == b && nat_lt x y) ≡ true
overlap a b x y e l = grind (arith, nat_tests)

-- the newest call of the client ends behind its begin
pub client_meets : (c : Span) (earlier : List Span) (end : ℕ) → end_of earlier c.client ≡ Some end → c.begin < end →
    list_any (overlaps itself c) earlier ≡ true
client_meets c [] end h l = absurd (some_none end (sym h))
client_meets c (x ∷ xs) end h l = grind (
  arith,
  nat_tests,
  test x.client c.client,
  some_same x.end end,
  overlap x.client c.client c.begin x.end,
  or_true (overlaps itself c x) (list_any (overlaps itself c) xs),
  client_meets c xs end,
)

-- each call of the client was over when this one began
fits_behind : (c x : Span) (xs : List Span) → EachSpan (IsSpanBehind x) xs → x.client ≡ c.client → x.begin ≤ c.begin →
    list_any (overlaps itself c) xs ≡ false
fits_behind c x [] h e l = refl
fits_behind c x (y ∷ ys) h e l = grind (
  arith,
  nat_tests,
  false_both (overlaps itself c y)
      (list_any (overlaps itself c) ys),
  turn_test y.client c.client c.begin y.end,
  fits_behind c x ys h.1 e l,
)

-- the newest call of the client was over
pub client_fits : (c : Span) (earlier : List Span) (end : ℕ) → SpansAreInTurn earlier →
    end_of earlier c.client ≡ Some end →
    end ≤ c.begin → list_any (overlaps itself c) earlier ≡ false
client_fits c [] end t h l = refl
client_fits c (x ∷ xs) end t h l = grind (
  arith,
  nat_tests,
  test x.client c.client,
  some_same x.end end,
  false_both (overlaps itself c x) (list_any (overlaps itself c) xs),
  turn_test x.client c.client c.begin x.end,
  fits_behind c x xs t.1,
  client_fits c xs end t.2,
)

-- the client is new
pub client_new : (c : Span) (earlier : List Span) → end_of earlier c.client ≡ None →
    list_any (overlaps itself c) earlier ≡ false
client_new c [] h = refl
client_new c (x ∷ xs) h = grind (
  arith,
  nat_tests,
  test x.client c.client,
  some_none x.end,
  false_both (overlaps itself c x) (list_any (overlaps itself c) xs),
  turn_test x.client c.client c.begin x.end,
  client_new c xs,
)

-- whether the client has called
pub has_called : (c : Span) (earlier : List Span) → is_some (end_of earlier c.client) ≡ list_any
    (same_client itself c) earlier
has_called c [] = refl
has_called c (x ∷ xs) = grind (arith, nat_tests, has_called c xs)

less_test : (x y : ℕ) → x < y → nat_lt x y ≡ true
less_test x y h = grind (arith, nat_tests)

least_test : (x y : ℕ) → y ≤ x → nat_lt x y ≡ false
least_test x y h = grind (arith, nat_tests)

-- a later call began behind its end
pub time_meets : (c : Span) (earlier : List Span) → c.end < latest_of earlier → breaks_time itself earlier c ≡ true
time_meets c [] l = absurd (omega arith)
time_meets c (x ∷ xs) l = grind (
  arith,
  nat_tests,
  cases_lt c.end x.begin,
  less_test c.end x.begin,
  or_true (ended_before itself c x) (breaks_time itself xs c),
  time_meets c xs,
)

pub time_fits : (c : Span) (earlier : List Span) → latest_of earlier ≤ c.end → breaks_time itself earlier c ≡ false
time_fits c [] l = refl
time_fits c (x ∷ xs) l = false_both (ended_before itself c x) (breaks_time itself xs c)
    (least_test c.end x.begin (omega arith)) (time_fits c xs (omega arith))

-- a call that ends before it begins
pub ends_first : (c : Span) (earlier : List Span) → c.end < c.begin → breaks_client itself earlier c ≡ true
ends_first c earlier h = ap (λ b. b || list_any (overlaps itself c) earlier) (less_test c.end c.begin h)

-- a call that begins before the newest of its client ends
pub breaks_by : (spans : Spans) (c : Span) (earlier : List Span) (end : ℕ) → Keeps spans earlier →
    get spans.ends c.client ≡ Some end
    → c.begin < end → breaks_client itself earlier c ≡ true
breaks_by spans c earlier end k h l =
    or_true (nat_lt c.end c.begin) (list_any (overlaps itself c) earlier)
    (client_meets c earlier end (sym (k.ends_are c.client) ∙ h) l)

-- the newest call of a client, if there is one, was over
abbrev pub IsOver : Option ℕ → ℕ → Type 0
IsOver None begin = Unit {0}
IsOver (Some end) begin = end ≤ begin

client_over : (c : Span) (earlier : List Span) (newest : Option ℕ) → SpansAreInTurn earlier →
    end_of earlier c.client ≡ newest → IsOver newest c.begin → list_any (overlaps itself c) earlier ≡ false
client_over c earlier None t h o = client_new c earlier h
client_over c earlier (Some end) t h o = client_fits c earlier end t h o

-- the client's calls are in turn
pub in_turn : (spans : Spans) (c : Span) (earlier : List Span) (newest : Option ℕ) → Keeps spans earlier →
    get spans.ends c.client ≡ newest
    → IsOver newest c.begin → c.begin ≤ c.end → breaks_client itself earlier c ≡ false
in_turn spans c earlier newest k h o l =
    false_both (nat_lt c.end c.begin) (list_any (overlaps itself c) earlier) (least_test c.end c.begin l)
    (client_over c earlier newest k.turns (sym (k.ends_are c.client) ∙ h) o)

pub too_late : (spans : Spans) (c : Span) (earlier : List Span) → Keeps spans earlier → c.end < spans.latest →
    breaks_time itself earlier c ≡ true
too_late spans c earlier k l = let is = k.latest_is in time_meets c earlier (omega arith)

pub in_time : (spans : Spans) (c : Span) (earlier : List Span) → Keeps spans earlier → spans.latest ≤ c.end →
    breaks_time itself earlier c ≡ false
in_time spans c earlier k l = let is = k.latest_is in time_fits c earlier (omega arith)

-- the tests say that each call is in turn
turns_of : (c : Span) (earlier : List Span) → list_any (overlaps itself c) earlier ≡ false →
    EachSpan (IsSpanBehind c) earlier
turns_of c [] h = tt
turns_of c (x ∷ xs) h = grind (
  arith,
  nat_tests,
  both_false (overlaps itself c x) (list_any (overlaps itself c) xs) h,
  turn_from x.client c.client c.begin x.end,
  turns_of c xs,
)

own_time : (x y : ℕ) → nat_lt x y ≡ false → y ≤ x
own_time x y h = grind (arith, nat_tests)

ends_more : (ends : FinMap nat_cmp ℕ) (c : Span) (earlier : List Span) → ((q : ℕ) → get ends q ≡ end_of earlier q) →
    (q : ℕ) → get (insert ends c.client c.end) q ≡ end_of (c ∷ earlier) q
ends_more ends c earlier k q = grind (
  arith,
  nat_tests,
  test c.client q,
  get_here ends c.client c.end,
  get_other ends c.client c.end q,
)

-- nothing is wrong: both tests fail
none_of : (client time : Bool) → cond client (Some Client) (cond time (Some Time) None) ≡ None →
    (client ≡ false) × (time ≡ false)
none_of true time e = grind (arith, nat_tests)
none_of false true e = grind (arith, nat_tests)
none_of false false e = (refl, refl)

-- what is wrong with the client comes first
pub misplaced_client : (c : Span) (earlier : List Span) → breaks_client itself earlier c ≡ true →
    misplaced itself earlier c ≡ Some Client
misplaced_client c earlier h = ap (λ b. cond b (Some Client) (cond (breaks_time itself earlier c) (Some Time) None)) h

pub misplaced_time : (c : Span) (earlier : List Span) → breaks_client itself earlier c ≡ false →
    breaks_time itself earlier c ≡ true → misplaced itself earlier c ≡ Some Time
misplaced_time c earlier h g = grind (arith, nat_tests)

pub well_placed : (c : Span) (earlier : List Span) → breaks_client itself earlier c ≡ false →
    breaks_time itself earlier c ≡ false → misplaced itself earlier c ≡ None
well_placed c earlier h g = grind (arith, nat_tests)

-- a span that is well placed is kept
pub keeps_more : (spans spans' : Spans) (c : Span) (earlier : List Span) → Keeps spans earlier →
    misplaced itself earlier c ≡ None
    → spans'.ends ≡ insert spans.ends c.client c.end → spans'.latest ≡ max spans.latest c.begin →
    spans'.count ≡ spans.count + 1 → Keeps spans' (c ∷ earlier)
keeps_more spans spans' c earlier k well e l n =
    let tests = none_of (breaks_client itself earlier c) (breaks_time itself earlier c) well in
    let client = both_false (nat_lt c.end c.begin) (list_any (overlaps itself c) earlier) tests.0 in
    let ends = spans.ends in
    record {
      ends_are = λ q. ap (λ (m : FinMap nat_cmp ℕ). get m q) e ∙ ends_more ends c earlier k.ends_are q;
      clients = ap len e ∙ len-insert nat_cmp_total ends c.client c.end ∙
          ap (λ o. cond (is_some o) (len ends) (len ends + 1)) (k.ends_are c.client)
          ∙ ap (λ b. cond b (len ends) (len ends + 1)) (has_called c earlier) ∙
          ap (λ m. cond (list_any (same_client itself c) earlier) m (m + 1)) k.clients;
      latest_is = l ∙ ap (λ m. max m c.begin) k.latest_is;
      count_is = n ∙ ap (λ m. m + 1) k.count_is ∙ one_more (length earlier);
      turns = (own_time c.end c.begin client.0, turns_of c earlier client.1, k.turns);
    }
  where
    one_more : (n : ℕ) → n + 1 ≡ suc n
    one_more n = omega arith
