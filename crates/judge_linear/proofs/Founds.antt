-- What is found of the calls as they are kept is found of a text.
use Rattle.std.proofs.Common.{◌≡◌, ℕ, ◌+◌, ◌-◌, ◌<◌, ◌≤◌, ◌==◌, suc, zero, Bool, true, false, cond, List, [], ◌∷◌, ◌++◌}
use Rattle.std.proofs.Common.{length, map, get_or, Option, Some, None, inl, inr, refl, sym, ap, ◌∙◌, subst}
use Rattle.std.proofs.Common.{arith}
use Rattle.std.specs.Prelude.{All, IfSome, ◌⊎◌}
use Rattle.std.specs.Io.KnownBytes.{Consumes, IsAtEnd}
use Rattle.std.proofs.KnownBytes.{Consumes-whole}
use Rattle.judge_calls.specs.declared.verdict.Verdict.{Verdict}
use Rattle.judge_calls.specs.Verdict.{verdict_text}
use Rattle.judge_linear.specs.declared.history.History.{History}
use Rattle.judge_linear.specs.declared.ordering.Outcome.{Outcome}
use Rattle.std.proofs.lemmas.Bool.Decides.{nat_tests}
use Rattle.std.proofs.lemmas.List.{length-map}
use Rattle.std.proofs.lemmas.List.Concat.{flat_map-cons}
use Rattle.std.proofs.lemmas.List.Elements.{All-cons, All-head, All-tail, All-nil}
use Rattle.vac_model.specs.State.{State, empty_state}
use Rattle.vac_lines.specs.Lines.{lines_of}
use Rattle.vac_lines.specs.Script.{as_line}
use Rattle.judge_calls.specs.Laws.{Lists, IsLinearization}
use Rattle.judge_object.specs.declared.line.Line.{Line}
use Rattle.judge_search.specs.declared.stuck.Stuck.{Stuck}
use Rattle.judge_linear.specs.declared.ordering.Outcome.TheVariants as outcome
use Rattle.judge_object.specs.Orders.{IsMerge, IsOrderOf}
use Rattle.judge_search.specs.Configurations.{start, answered, PlacesAtMost, Deepest}
use Rattle.judge_search.specs.Searching.{IsUndecided}
use Rattle.judge_search.specs.Walking.{AreDistinct}
use Rattle.judge_search.specs.Calls.{call_of, calls_of, no_call, rest_of}
use Rattle.judge_search.specs.Stuck.{AreStuck}
use Rattle.judge_search.specs.Judging.{calls_at, IsLinearizedBy, HasNoOrder}
use Rattle.judge_linear.specs.Reading.{first_wrong, texts_of, numbers_of, call_at, IsLineAt, AreKeptLines, ReadWhole}
use Rattle.judge_linear.specs.Reading.{ReadWrong}
use Rattle.judge_linear.specs.Found.{Wrong, NoOrder, Order, IllegalPart, Undecided, calls_numbered, relaxed_numbered}
use Rattle.judge_linear.specs.Found.{part_text}
use Rattle.judge_linear.specs.Judged.{HasNoOrderOf}
use Rattle.judge_linear.specs.declared.part.IllegalPart as declared
use Rattle.judge_linear.proofs.PartCalls.{part_lines, are_at, then_at, end_of_line}
use Rattle.judge_reservations.specs.Histories.{part_of_call, part_of_history}
use Rattle.judge_reservations.specs.Lines.{has_part}
use Rattle.judge_object.specs.Orders.{IsLinearizable}
use Rattle.vac_model.specs.declared.limits.TheConstants.{MOST_BLOCKS}
use Rattle.std.specs.List.{list_all}
use Rattle.judge_linear.specs.Found.{AreKeptInOrder, ArePartsAt, ArePartsThen, RunsBefore}
use Rattle.judge_linear.specs.Judged.{IsReadAt}
use Rattle.judge_object.specs.declared.level.Level.{Level}
use Rattle.judge_object.specs.declared.level.Level.TheVariants as level
use Rattle.judge_object.specs.Levels.{keeps_all_of}
use Rattle.judge_object.specs.Relaxed.{untimed, alone, relax}
use Rattle.judge_object.proofs.Levels.{at_is_relaxed}
use Rattle.judge_object.specs.Call as object
use Rattle.judge_linear.specs.Found.{told_by, line_at, order_text, placed_text, none_text, open_text}
use Rattle.judge_linear.specs.Ordering.{FindsText, HasText}
use Rattle.judge_search.proofs.Placing.{times}
use Rattle.judge_linear.proofs.Kept.{times_cons}
use Rattle.judge_search.proofs.Judged.{order_given, none_given}
use Rattle.vac_model.specs.declared.tasks.Task.{Task}
use Rattle.judge_reservations.specs.Reserving.{reserving}
use Rattle.vac_model.specs.declared.replies.Reply.{Reply}

-- the calls as they are kept are those of the lines with their numbers
pub kept_calls : (lines kept : List (Line Task)) → All (IsLineAt lines) kept →
    calls_of kept ≡ calls_numbered (calls_of lines) (numbers_of kept)
kept_calls lines [] h = refl
kept_calls lines (k ∷ ks) h =
    ap (λ c. c ∷ calls_of ks) (sym (All-head (IsLineAt lines) k ks h).call)
    ∙ ap (λ l. call_at (calls_of lines) k.number ∷ l) (kept_calls lines ks (All-tail (IsLineAt lines) k ks h))

numbers_first : (lines kept : List (Line Task)) → All (IsLineAt lines) kept → All (λ n. 1 ≤ n) (numbers_of kept)
numbers_first lines [] h = All-nil (λ n. 1 ≤ n)
numbers_first lines (k ∷ ks) h =
    All-cons (λ n. 1 ≤ n) k.number (numbers_of ks) (All-head (IsLineAt lines) k ks h).first
    (numbers_first lines ks (All-tail (IsLineAt lines) k ks h))

numbers_last : (lines kept : List (Line Task)) → All (IsLineAt lines) kept →
    All (λ n. n ≤ length lines) (numbers_of kept)
numbers_last lines [] h = All-nil (λ n. n ≤ length lines)
numbers_last lines (k ∷ ks) h =
    All-cons (λ n. n ≤ length lines) k.number (numbers_of ks) (All-head (IsLineAt lines) k ks h).last
    (numbers_last lines ks (All-tail (IsLineAt lines) k ks h))

-- what stands at a place
record AtPlace (lines kept : List (Line Task)) (p : ℕ) : Type 0 where
  pub call : get_or (calls_of kept) p (no_call reserving) ≡ call_at (calls_of lines) (get_or (numbers_of kept) p 0)
  pub text : get_or (texts_of kept) p [] ≡ get_or (texts_of lines) (get_or (numbers_of kept) p 0 - 1) []
  pub first : 1 ≤ get_or (numbers_of kept) p 0
  pub last : get_or (numbers_of kept) p 0 ≤ length lines

at_place : (lines kept : List (Line Task)) (p : ℕ) → All (IsLineAt lines) kept → p < length kept → AtPlace lines kept p
at_place lines [] p h l = absurd (omega arith)
at_place lines (k ∷ ks) zero h l = let own = All-head (IsLineAt lines) k ks h in
    record { call = sym own.call; text = sym own.text; first = own.first; last = own.last }
at_place lines (k ∷ ks) (suc p) h l =
    let more = at_place lines ks p (All-tail (IsLineAt lines) k ks h) (omega arith) in
    record { call = more.call; text = more.text; first = more.first; last = more.last }

-- the numbers at places
abbrev pub numbers_at : List ℕ → List ℕ → List ℕ
numbers_at ns places = map (λ p. get_or ns p 0) places

module _ (lines kept : List (Line Task)) (each : All (IsLineAt lines) kept) where
  order_calls : (places : List ℕ) → All (λ p. p < length kept) places →
      calls_at reserving (calls_of kept) places ≡ calls_numbered (calls_of lines) (numbers_at (numbers_of kept) places)
  order_calls [] h = refl
  order_calls (p ∷ ps) h =
      let at = at_place lines kept p each (All-head (λ p. p < length kept) p ps h) in
      ap (λ c. c ∷ calls_at reserving (calls_of kept) ps) at.call ∙ ap (λ l. call_at (calls_of lines)
      (get_or (numbers_of kept) p 0) ∷ l) (order_calls ps (All-tail (λ p. p < length kept) p ps h))

  order_first : (places : List ℕ) → All (λ p. p < length kept) places →
      All (λ n. 1 ≤ n) (numbers_at (numbers_of kept) places)
  order_first [] h = All-nil (λ n. 1 ≤ n)
  order_first (p ∷ ps) h =
      let at = at_place lines kept p each (All-head (λ p. p < length kept) p ps h) in
      All-cons (λ n. 1 ≤ n) (get_or (numbers_of kept) p 0) (numbers_at (numbers_of kept) ps) at.first
      (order_first ps (All-tail (λ p. p < length kept) p ps h))

  order_last : (places : List ℕ) → All (λ p. p < length kept) places →
      All (λ n. n ≤ length lines) (numbers_at (numbers_of kept) places)
  order_last [] h = All-nil (λ n. n ≤ length lines)
  order_last (p ∷ ps) h =
      let at = at_place lines kept p each (All-head (λ p. p < length kept) p ps h) in
      All-cons (λ n. n ≤ length lines) (get_or (numbers_of kept) p 0) (numbers_at (numbers_of kept) ps) at.last
      (order_last ps (All-tail (λ p. p < length kept) p ps h))

  order_lines : (bytes : List ℕ) (places : List ℕ) → texts_of lines ≡ lines_of bytes → All (λ p. p < length kept) places
      → placed_text (texts_of kept) places ≡ order_text bytes (numbers_at (numbers_of kept) places)
  order_lines bytes [] e h = refl
  order_lines bytes (p ∷ ps) e h =
      let at = at_place lines kept p each (All-head (λ p. p < length kept) p ps h) in
      flat_map-cons (λ p. as_line (get_or (texts_of kept) p [])) p ps
      ∙ ap (λ t. as_line t ++ placed_text (texts_of kept) ps)
      (at.text ∙ ap (λ ts. get_or ts (get_or (numbers_of kept) p 0 - 1) []) e)
      ∙ ap (λ l. as_line (line_at bytes (get_or (numbers_of kept) p 0)) ++ l)
      (order_lines bytes ps e (All-tail (λ p. p < length kept) p ps h))
      ∙ sym (flat_map-cons (λ n. as_line (line_at bytes n)) (get_or (numbers_of kept) p 0)
      (numbers_at (numbers_of kept) ps))

-- numbers at different places are different
times_at : (ns : List ℕ) (p : ℕ) → p < length ns → 1 ≤ times (get_or ns p 0) ns
times_at [] p l = absurd (omega arith)
times_at (n ∷ ns) zero l =
    let one : cond {A = ℕ} (n == n) 1 0 ≡ 1 = ap (λ (b : Bool). cond {A = ℕ} b 1 0) (same n) in
    let all = times_cons n n ns in omega arith
  where
    same : (a : ℕ) → (a == a) ≡ true
    same a = grind (arith, nat_tests)
times_at (n ∷ ns) (suc p) l =
    let more = times_at ns p (omega arith) in
    let all = times_cons (get_or ns p 0) n ns in omega arith

place_of_number : (ns : List ℕ) (p q : ℕ) → AreDistinct ns → p < length ns → q < length ns →
    get_or ns p 0 ≡ get_or ns q 0 → p ≡ q
place_of_number [] p q d l m e = absurd (omega arith)
place_of_number (n ∷ ns) zero zero d l m e = refl
place_of_number (n ∷ ns) zero (suc q) d l m e =
    absurd (twice n ns q d (omega arith) e)
  where
    twice : (n : ℕ) (ns : List ℕ) (q : ℕ) → AreDistinct (n ∷ ns) → q < length ns → n ≡ get_or ns q 0 → ⊥
    twice n ns q d m e =
        let some : 1 ≤ times n ns = subst (λ k. 1 ≤ times k ns) (sym e) (times_at ns q m) in
        let own : (n == n) ≡ true = grind (arith, nat_tests) in
        let one : cond {A = ℕ} (n == n) 1 0 ≡ 1 = ap (λ (b : Bool). cond {A = ℕ} b 1 0) own in
        let all = times_cons n n ns in
        let most : times n (n ∷ ns) ≤ 1 = d n in omega arith
place_of_number (n ∷ ns) (suc p) zero d l m e =
    absurd (twice n ns p d (omega arith) (sym e))
  where
    twice : (n : ℕ) (ns : List ℕ) (q : ℕ) → AreDistinct (n ∷ ns) → q < length ns → n ≡ get_or ns q 0 → ⊥
    twice n ns q d m e =
        let some : 1 ≤ times n ns = subst (λ k. 1 ≤ times k ns) (sym e) (times_at ns q m) in
        let own : (n == n) ≡ true = grind (arith, nat_tests) in
        let one : cond {A = ℕ} (n == n) 1 0 ≡ 1 = ap (λ (b : Bool). cond {A = ℕ} b 1 0) own in
        let all = times_cons n n ns in
        let most : times n (n ∷ ns) ≤ 1 = d n in omega arith
place_of_number (n ∷ ns) (suc p) (suc q) d l m e = ap suc (place_of_number ns p q (λ x. less x) (omega arith)
    (omega arith) e)
  where
    less : (x : ℕ) → times x ns ≤ 1
    less x = let most : times x (n ∷ ns) ≤ 1 = d x in let all = times_cons x n ns in omega arith

-- so the numbers at places that are distinct are
no_other : (ns : List ℕ) (n p : ℕ) (ps : List ℕ) → AreDistinct ns → p < length ns → get_or ns p 0 ≡ n → times p ps ≡ 0 →
    All (λ q. q < length ns) ps
    → times n (numbers_at ns ps) ≡ 0
no_other ns n p [] d l e z h = refl
no_other ns n p (q ∷ qs) d l e z h =
    let within = All-head (λ q. q < length ns) q qs h in
    let rest = All-tail (λ q. q < length ns) q qs h in
    go (get_or ns q 0 == n) refl (λ f. place_of_number ns q p d within l (f ∙ sym e)) (no_other ns n p qs d l e)
  where
    go : (b : Bool) → (get_or ns q 0 == n) ≡ b → (get_or ns q 0 ≡ n → q ≡ p) →
        (times p qs ≡ 0 → All (λ q. q < length ns) qs → times n (numbers_at ns qs) ≡ 0)
        → times n (get_or ns q 0 ∷ numbers_at ns qs) ≡ 0
    go true f same more =
        let is : get_or ns q 0 ≡ n = grind (arith, nat_tests) in
        let own : q ≡ p = same is in
        let one : (q == p) ≡ true = grind (arith, nat_tests) in
        let k : cond {A = ℕ} (q == p) 1 0 ≡ 1 = ap (λ (b : Bool). cond {A = ℕ} b 1 0) one in
        let all = times_cons p q qs in absurd (omega arith)
    go false f same more =
        let all = times_cons p q qs in
        let zero : times p qs ≡ 0 = omega arith in
        let none : cond {A = ℕ} (get_or ns q 0 == n) 1 0 ≡ 0 = ap (λ (b : Bool). cond {A = ℕ} b 1 0) f in
        let whole = times_cons n (get_or ns q 0) (numbers_at ns qs) in
        let less = more zero (All-tail (λ q. q < length ns) q qs h) in omega arith

distinct_tail : (p : ℕ) (ps : List ℕ) → AreDistinct (p ∷ ps) → AreDistinct ps
distinct_tail p ps d x = let most : times x (p ∷ ps) ≤ 1 = d x in let all = times_cons x p ps in omega arith

distinct_head : (p : ℕ) (ps : List ℕ) → AreDistinct (p ∷ ps) → times p ps ≡ 0
distinct_head p ps d =
    let most : times p (p ∷ ps) ≤ 1 = d p in
    let own : (p == p) ≡ true = grind (arith, nat_tests) in
    let one : cond {A = ℕ} (p == p) 1 0 ≡ 1 = ap (λ (b : Bool). cond {A = ℕ} b 1 0) own in
    let all = times_cons p p ps in omega arith

numbers_distinct : (ns ps : List ℕ) → AreDistinct ns → AreDistinct ps → All (λ q. q < length ns) ps →
    AreDistinct (numbers_at ns ps)
numbers_distinct ns [] d e h x = omega arith
numbers_distinct ns (p ∷ ps) d e h x =
    let within = All-head (λ q. q < length ns) p ps h in
    let rest = All-tail (λ q. q < length ns) p ps h in
    go (get_or ns p 0 == x) refl (numbers_distinct ns ps d (distinct_tail p ps e) rest x)
    (λ f. no_other ns x p ps d within f (distinct_head p ps e) rest)
  where
    go : (b : Bool) → (get_or ns p 0 == x) ≡ b → times x (numbers_at ns ps) ≤ 1 →
        (get_or ns p 0 ≡ x → times x (numbers_at ns ps) ≡ 0)
        → times x (get_or ns p 0 ∷ numbers_at ns ps) ≤ 1
    go true f old none =
        let is : get_or ns p 0 ≡ x = grind (arith, nat_tests) in
        let zero = none is in
        let one : cond {A = ℕ} (get_or ns p 0 == x) 1 0 ≡ 1 = ap (λ (b : Bool). cond {A = ℕ} b 1 0) f in
        let whole = times_cons x (get_or ns p 0) (numbers_at ns ps) in omega arith
    go false f old none =
        let zero : cond {A = ℕ} (get_or ns p 0 == x) 1 0 ≡ 0 = ap (λ (b : Bool). cond {A = ℕ} b 1 0) f in
        let whole = times_cons x (get_or ns p 0) (numbers_at ns ps) in omega arith

length_alone : {O : Type 0} (n : ℕ) (cs : List (object.Call O)) → length (alone n cs) ≡ length cs
length_alone n [] = refl
length_alone n (c ∷ cs) = ap suc (length_alone (n + 1) cs)

pub length_relaxed : {O : Type 0} (want : Level) (cs : List (object.Call O)) → length (relax want cs) ≡ length cs
length_relaxed level.Linearizable cs = refl
length_relaxed level.Sequential cs = length-map cs untimed
length_relaxed level.Serializable cs = length_alone 1 cs

keeps_itself : (want : Level) → keeps_all_of want want ≡ true
keeps_itself level.Linearizable = refl
keeps_itself level.Sequential = refl
keeps_itself level.Serializable = refl

-- what is found of the lines as they are kept
module _ (want : Level) (lines kept : List (Line Task)) (k : AreKeptLines lines kept) (bytes : List ℕ)
    (read : IsReadAt want bytes lines) where
  long : length read.calls ≡ length lines
  long = sym (length_relaxed want read.calls) ∙ sym (ap (λ (cs : List (object.Call Task)). length cs) read.are)
      ∙ length-map lines call_of

  pub kept_same : calls_of kept ≡ relaxed_numbered want read.calls (numbers_of kept)
  kept_same = kept_calls lines kept k.each ∙ ap (λ cs. calls_numbered cs (numbers_of kept)) read.are

  kept_merges : IsMerge (relax want read.calls) (calls_of kept)
  kept_merges = subst (λ cs. IsMerge cs (calls_of kept)) read.are k.merges

  pub kept_are : AreKeptInOrder want bytes read.calls (numbers_of kept)
  kept_are = record {
    listed = read.listed;
    right = read.right;
    last = read.last;
    numbers_are = record {
      distinct = k.distinct;
      first = numbers_first lines kept k.each;
      last = subst (λ m. All (λ n. n ≤ m) (numbers_of kept)) (sym long) (numbers_last lines kept k.each);
    };
    merges = subst (IsMerge (relax want read.calls)) kept_same kept_merges;
  }

  pub finds_order : (n steps : ℕ) (places : List ℕ) (text : List ℕ) →
      IsLinearizedBy reserving (empty_state n) (calls_of kept) places →
      text ≡ placed_text (texts_of kept) places
      → FindsText want n steps bytes outcome.Ordered text
  finds_order n steps places text h e =
      let within : All (λ p. p < length kept) places = subst (λ m. All (λ p. p < m) places)
      (length-map kept call_of) h.within in
      let numbers = numbers_at (numbers_of kept) places in
      let inside : All (λ p. p < length (numbers_of kept)) places =
      subst (λ m. All (λ p. p < m) places) (sym (length-map kept (λ (l : Line Task). l.number))) within in
      let calls : calls_at reserving (calls_of kept) places ≡ relaxed_numbered want read.calls numbers =
      order_calls lines kept k.each places within ∙ ap (λ cs. calls_numbered cs numbers) read.are in
      record {
        found = Order numbers;
        is = record {
          shown = want;
          keeps = keeps_itself want;
          ordered = record {
            calls = read.calls;
            listed = read.listed;
            right = read.right;
            numbers_are = record {
              distinct = numbers_distinct (numbers_of kept) places k.distinct h.distinct inside;
              first = order_first lines kept k.each places within;
              last = subst (λ m. All (λ n. n ≤ m) numbers) (sym long) (order_last lines kept k.each places within);
            };
            orders = subst (IsOrderOf (relax want read.calls)) calls (order_given reserving (relax want read.calls)
                (calls_of kept) (calls_at reserving (calls_of kept) places) kept_merges h.orders);
            linearization = subst (IsLinearization n) calls h.linearization;
          };
        };
        answered = refl;
        text_is = e ∙ order_lines lines kept k.each bytes places read.texts within;
      }

  pub finds_none : (n steps most : ℕ) (made : ℕ → Bool) (s : State) (found : List (Stuck Reply)) (text : List ℕ) →
      HasNoOrder reserving (empty_state n) (calls_of kept) most
      (record { rest = rest_of made 0 (calls_of kept); state = s }) →
      AreStuck reserving s made (calls_of kept) found
      → text ≡ none_text most (told_by (numbers_of kept) found) →
      FindsText want n steps bytes outcome.Illegal text
  finds_none n steps most made s found text h a e =
      let same = kept_same in
      record {
        found = NoOrder most (told_by (numbers_of kept) found);
        is = record {
          calls = read.calls;
          numbers = numbers_of kept;
          are_kept = kept_are;
          none = λ at. none_given reserving (empty_state n) (relax want read.calls) (calls_of kept) kept_merges h.none
              (at_is_relaxed reserving want (empty_state n) read.calls read.last at);
          made = made;
          state = s;
          deepest = subst (λ cs. Deepest reserving (start (empty_state n) cs) most
              (record { rest = rest_of made 0 cs; state = s })) same
              h.deepest;
          bound = subst (λ cs. PlacesAtMost reserving (answered cs) most (start (empty_state n) cs)) same h.bound;
          found = found;
          are = subst (λ cs. AreStuck reserving s made cs found) same a;
          told = refl;
        };
        answered = refl;
        text_is = e;
      }

  pub finds_part : (n steps : ℕ) (part : declared.IllegalPart) (text : List ℕ) → n ≤ MOST_BLOCKS →
      HasNoOrderOf kept part →
      text ≡ part_text part.wrong.line part.scope.customers.items part.scope.items.items
      (told_by (numbers_of part.wrong.part.calls.lines.items) part.wrong.part.stuck.items) part.wrong.states →
      FindsText want n steps bytes outcome.Illegal text
  finds_part n steps part text few h e =
      let same = kept_same in
      let scope = part.scope in
      let sorted = part.calls.lines.items in
      let moment = part.wrong.part.moment in
      let then = h.wrong.none in
      let cuts = part.wrong.part.calls.lines.items in
      let found = part.wrong.part.stuck.items in
      let tell : Stuck Reply → ℕ × Reply = λ one. (get_or (numbers_of cuts) one.place 0, one.expected) in
      let each = part_lines scope lines kept h.from sorted k.each h.numbers h.sorted in
      record {
        found = IllegalPart part.wrong.line scope.customers.items scope.items.items (told_by (numbers_of cuts) found)
            part.wrong.states;
        is = record {
          blocks = few;
          calls = read.calls;
          numbers = numbers_of kept;
          are_kept = kept_are;
          scope = scope;
          is_scope = record {
            customers_are = refl;
            items_are = refl;
            parts = subst (λ cs. list_all (has_part scope) cs ≡ true) same h.fits;
          };
          none = subst (λ cs. IsLinearizable reserving (empty_state MOST_BLOCKS) (part_of_history scope cs) → ⊥) same
              h.none;
          parts = calls_of sorted;
          part_numbers = numbers_of sorted;
          merges = subst (λ cs. IsMerge (part_of_history scope cs) (calls_of sorted)) same h.merges;
          are_parts = subst (λ cs. ArePartsAt scope cs (numbers_of sorted) (calls_of sorted)) read.are
              (are_at (part_of_call scope) lines sorted each);
          moment = moment;
          ended = end_of_line sorted part.wrong.line moment h.wrong.ended;
          early = then.early;
          none_then = then.none;
          parts_then = calls_of cuts;
          numbers_then = numbers_of cuts;
          merges_then = then.merges;
          are_then = subst (λ cs. ArePartsThen scope moment cs (numbers_of cuts) (calls_of cuts)) read.are
              (then_at scope moment lines sorted then.from cuts each then.numbers then.sorted);
          blocked = record {
            most = then.most;
            made = then.made;
            state = then.state;
            deepest = then.deepest;
            bound = then.bound;
            found = found;
            are = then.are;
            told = refl;
            some = subst (λ m. 1 ≤ m) (sym (length-map found tell)) then.some;
          };
          states_before = h.wrong.states_before;
        };
        answered = refl;
        text_is = e;
      }

  pub finds_nothing : (n given left most : ℕ) (text : List ℕ) → RunsBefore want n bytes read.calls given →
      given ≤ left →
      IsUndecided reserving (start (empty_state n) (calls_of kept)) left most →
      text ≡ open_text most → FindsText want n (given + left) bytes outcome.Undecided text
  finds_nothing n given left most text before less h e = record {
    found = Undecided most;
    is = record {
      calls = read.calls;
      numbers = numbers_of kept;
      are_kept = kept_are;
      given = given;
      left = left;
      together = refl;
      half = omega (arith, less);
      before = before;
      undecided = subst (λ cs. IsUndecided reserving (start (empty_state n) cs) left most) kept_same h;
    };
    answered = refl;
    text_is = e;
  }

-- what is found of a text that was read, whole or up to its first wrong line
pub text_whole : (want : Level) (n steps : ℕ) (unread left : Option (List ℕ)) (history : History) (result : Outcome)
    (text : List ℕ) → ReadWhole unread left history
    → ((bytes : List ℕ) → texts_of history.lines.items ≡ lines_of bytes → Lists bytes (calls_of history.lines.items) →
    first_wrong bytes ≡ None → FindsText want n steps bytes result text)
    → HasText want n steps unread left result text
text_whole want n steps unread left history result text r f =
    let found = f r.bytes r.texts r.listed r.right in
    record {
      bytes = r.bytes;
      consumed = r.consumed;
      of_read = inl (r.ended, found);
      of_input = Consumes-whole unread left r.bytes (λ input. FindsText want n steps input result text) r.consumed
          r.ended found;
    }

wrong_text : (want : Level) (n steps : ℕ) (bytes : List ℕ) (verdict : Verdict) (text : List ℕ) →
    text ≡ verdict_text verdict → first_wrong bytes ≡ Some verdict → FindsText want n steps bytes outcome.Illegal text
wrong_text want n steps bytes verdict text e h =
    record { found = Wrong verdict; is = h; answered = refl; text_is = e }

of_whole : (want : Level) (n steps : ℕ) (unread left : Option (List ℕ)) (bytes : List ℕ) (result : Outcome)
    (text : List ℕ) → Consumes unread left bytes
    → ((x : List ℕ) → FindsText want n steps (bytes ++ x) result text) →
    IfSome unread (λ input. FindsText want n steps input result text)
of_whole want n steps None left bytes result text c h = tt
of_whole want n steps (Some xs) None bytes result text c h = absurd c
of_whole want n steps (Some xs) (Some ys) bytes result text c h =
    subst (λ input. FindsText want n steps input result text) (sym c) (h ys)

pub text_wrong : (want : Level) (n steps : ℕ) (unread left : Option (List ℕ)) (verdict : Verdict) (text : List ℕ) →
    ReadWrong unread left verdict → text ≡ verdict_text verdict
    → HasText want n steps unread left outcome.Illegal text
text_wrong want n steps unread left verdict text r e = go r.is
  where
    go : (IsAtEnd left × (first_wrong r.bytes ≡ Some verdict)) ⊎ ((x : List ℕ) →
        first_wrong (r.bytes ++ x) ≡ Some verdict) → HasText want n steps unread left outcome.Illegal text
    go (inl h) =
        let found = wrong_text want n steps r.bytes verdict text e h.1 in
        record {
          bytes = r.bytes;
          consumed = r.consumed;
          of_read = inl (h.0, found);
          of_input = Consumes-whole unread left r.bytes (λ input. FindsText want n steps input outcome.Illegal text)
              r.consumed h.0 found;
        }
    go (inr h) =
        let all : (x : List ℕ) → FindsText want n steps (r.bytes ++ x) outcome.Illegal text =
        λ x. wrong_text want n steps (r.bytes ++ x) verdict text e (h x) in
        record {
          bytes = r.bytes;
          consumed = r.consumed;
          of_read = inr all;
          of_input = of_whole want n steps unread left r.bytes outcome.Illegal text r.consumed all;
        }
