-- What is written of an order is a history that the judge calls legal.
use Rattle.std.proofs.Common.{◌≡◌, ◌≢◌, ◌⊎◌, ◌||◌, ◌-◌, ◌<◌, ◌≤◌, ℕ, suc, zero, Bool, true, false, cond, Option, Some}
use Rattle.std.proofs.Common.{None, Result, Ok, Err, inl, inr, List, [], ◌∷◌, ◌++◌, map, length, get_or, refl, sym, ap}
use Rattle.std.proofs.Common.{◌∙◌, subst, arith, append_assoc, nat_lt}
use Rattle.std.specs.Prelude.{All, IfSome}
use Rattle.std.specs.List.{list_any}
use Rattle.std.specs.Option.{ok_or}
use Rattle.std.specs.Io.KnownBytes.{IsAtEnd}
use Rattle.std.proofs.lemmas.List.Elements.{All-head, All-tail, All-nil, All-cons}
use Rattle.vac_lines.specs.declared.fault.LineFault.TheVariants.{LongLine, BadByte}
use Rattle.vac_lines.specs.Lines.{lines_of, HasNo}
use Rattle.vac_lines.specs.LineTable.{is_bad_byte}
use Rattle.vac_lines.proofs.LineCuts.{lines_cut}
use Rattle.judge_calls.specs.declared.call.TheConstants.{CALL_BYTES}
use Rattle.judge_calls.specs.declared.fault.CallFault.{CallFault}
use Rattle.judge_calls.specs.declared.fault.CallFault.TheVariants.{BadCall, Line}
use Rattle.judge_calls.specs.Call.{Call, line_call, call_parts, parts_call, ◌>>=◌}
use Rattle.judge_calls.specs.Laws.{Lists, LegalSummary}
use Rattle.judge_calls.specs.AnyOrder.{CoveredIsWhole}
use Rattle.judge_linear.specs.declared.ordering.Outcome.{Outcome}
use Rattle.judge_linear.specs.declared.ordering.Outcome.TheVariants as outcome
use Rattle.judge_search.specs.Calls.{no_call}
use Rattle.judge_linear.specs.Reading.{call_at}
use Rattle.judge_linear.specs.Found.{FoundOfText, Wrong, Order, NoOrder, IllegalPart, Undecided, IsFound}
use Rattle.judge_linear.specs.Found.{calls_numbered, IsOrdered}
use Rattle.judge_object.specs.declared.level.Level.{Level}
use Rattle.judge_object.specs.declared.level.Level.TheVariants as level
use Rattle.judge_object.specs.Levels.{keeps_all_of}
use Rattle.judge_linear.specs.Found.{line_at}
use Rattle.judge_linear.specs.Found.{order_text}
use Rattle.judge_linear.specs.Found.{found_text}
use Rattle.judge_linear.specs.Ordering.{outcome_of, FindsText}
use Rattle.judge_linear.specs.Laws.{IsJudgedLegal, IsOrderOfText, OrderIsJudgedLegal, FoundIsReordered}
use Rattle.judge_linear.specs.Laws.{CoveredMeansWhole}
use Rattle.judge_linear.proofs.Lawful.{tail_same, calls_same}
use Rattle.judge_reservations.specs.Reserving.{reserving}

false_both : (a b : Bool) → (a || b) ≡ false → (a ≡ false) × (b ≡ false)
false_both true b h = cc
false_both false b h = (refl, h)

no_end : (b : ℕ) → is_bad_byte b ≡ false → b ≢ 10
no_end b h e = let f : true ≡ false = ap is_bad_byte (sym e) ∙ h in cc

-- a text without bad bytes has no line end
no_ends : (text : List ℕ) → list_any is_bad_byte text ≡ false → HasNo 10 text
no_ends [] h = All-nil (λ b. b ≢ 10)
no_ends (b ∷ bs) h =
    let both = false_both (is_bad_byte b) (list_any is_bad_byte bs) h in
    All-cons (λ b. b ≢ 10) b bs (no_end b both.0) (no_ends bs both.1)

-- a line that is a call has no bad bytes
clean : (line : List ℕ) (call : Call) → line_call line ≡ Ok call → list_any is_bad_byte line ≡ false
clean line call e =
    go (nat_lt CALL_BYTES (length line)) (list_any is_bad_byte line) (ok_or (call_parts line) BadCall >>= parts_call) e
  where
    go : (long bad : Bool) (r : Result Call CallFault)
        → ◌≡◌ {A = Result Call CallFault} (cond long (Err (Line LongLine)) (cond bad (Err (Line BadByte)) r)) (Ok call)
        → bad ≡ false
    go true bad r f = cc
    go false true r f = cc
    go false false r f = refl

-- the call of the line at a place
read_at : (ls : List (List ℕ)) (cs : List Call) (p : ℕ)
    → ◌≡◌ {A = List (Result Call CallFault)} (map line_call ls) (map Ok cs) → p < length cs
    → line_call (get_or ls p []) ≡ Ok (get_or cs p (no_call reserving))
read_at [] [] p e l = absurd (omega arith)
read_at [] (c ∷ cs) p e l = cc
read_at (x ∷ xs) [] p e l = absurd (omega arith)
read_at (x ∷ xs) (c ∷ cs) zero e l = (tail_same (line_call x) (Ok c) (map line_call xs) (map Ok cs) e).0
read_at (x ∷ xs) (c ∷ cs) (suc p) e l =
    read_at xs cs p (tail_same (line_call x) (Ok c) (map line_call xs) (map Ok cs) e).1 (omega arith)

-- the lines with these numbers are the calls with these numbers
order_listed : (bytes : List ℕ) (calls : List Call) (ns : List ℕ) → Lists bytes calls → All (λ n. 1 ≤ n) ns
    → All (λ n. n ≤ length calls) ns → Lists (order_text bytes ns) (calls_numbered calls ns)
order_listed bytes calls [] l f h = refl
order_listed bytes calls (n ∷ ns) l f h =
    let first : 1 ≤ n = All-head (λ n. 1 ≤ n) n ns f in
    let last : n ≤ length calls = All-head (λ n. n ≤ length calls) n ns h in
    let read : line_call (line_at bytes n) ≡ Ok (call_at calls n) =
    read_at (lines_of bytes) calls (n - 1) l (omega arith) in
    let more = order_text bytes ns in
    ap (λ t. map line_call (lines_of t)) (append_assoc (line_at bytes n) (10 ∷ []) more)
    ∙ ap (map line_call) (lines_cut (line_at bytes n) more (no_ends (line_at bytes n)
    (clean (line_at bytes n) (call_at calls n) read)))
    ∙ ap (λ r. r ∷ map line_call (lines_of more)) read
    ∙ ap (λ rs. Ok (call_at calls n) ∷ rs)
    (order_listed bytes calls ns l (All-tail (λ n. 1 ≤ n) n ns f) (All-tail (λ n. n ≤ length calls) n ns h))

pub illegal_not : outcome.Ordered ≡ outcome.Illegal → ⊥
illegal_not e = cc

pub undecided_not : outcome.Ordered ≡ outcome.Undecided → ⊥
undecided_not e = cc

pub strongest : (shown : Level) → keeps_all_of shown level.Linearizable ≡ true → shown ≡ level.Linearizable
strongest level.Linearizable e = refl
strongest level.Sequential e = cc
strongest level.Serializable e = cc

-- the text of a linearization
legal_order : LegalSummary → (n : ℕ) (bytes text numbers : List ℕ) → IsOrdered level.Linearizable n bytes numbers →
    text ≡ order_text bytes numbers → (calls : List Call) × IsJudgedLegal n text calls × IsOrderOfText bytes calls
legal_order summary n bytes text numbers is t =
    let calls = calls_numbered is.calls numbers in
    let listed : Lists text calls =
    subst (λ x. Lists x calls) (sym t) (order_listed bytes is.calls numbers is.listed is.numbers_are.first
    is.numbers_are.last) in (
      calls,
      record {
        listed = listed;
        linearization = is.linearization;
        verdict = summary n text calls listed is.linearization;
      },
      record { calls = is.calls; listed = is.listed; orders = is.orders },
    )

-- the text of an order that was found
legal_text : LegalSummary → (n steps : ℕ) (bytes text : List ℕ) →
    FindsText level.Linearizable n steps bytes outcome.Ordered text
    → (calls : List Call) × IsJudgedLegal n text calls × IsOrderOfText bytes calls
legal_text summary n steps bytes text f = go f.found f.is f.answered f.text_is
  where
    go : (found : FoundOfText) → IsFound level.Linearizable n steps bytes found → outcome.Ordered ≡ outcome_of found →
        text ≡ found_text bytes found
        → (calls : List Call) × IsJudgedLegal n text calls × IsOrderOfText bytes calls
    go (Wrong verdict) is a t = absurd (illegal_not a)
    go (Order numbers) is a t = legal_order summary n bytes text numbers
        (subst (λ shown. IsOrdered shown n bytes numbers) (strongest is.shown is.keeps) is.ordered) t
    go (NoOrder most stuck) is a t = absurd (illegal_not a)
    go (IllegalPart line customers items stuck states) is a t = absurd (illegal_not a)
    go (Undecided most) is a t = absurd (undecided_not a)

-- a text that was read
some_text : (n steps : ℕ) (left : Option (List ℕ)) (bytes text : List ℕ) (result : Outcome)
    → (IsAtEnd left × FindsText level.Linearizable n steps bytes result text)
    ⊎ ((x : List ℕ) → FindsText level.Linearizable n steps (bytes ++ x) result text)
    → (of : List ℕ) × FindsText level.Linearizable n steps of result text
some_text n steps left bytes text result (inl h) = (bytes, h.1)
some_text n steps left bytes text result (inr h) = (bytes ++ [], h [])

pub order_is_judged_legal : LegalSummary → OrderIsJudgedLegal
order_is_judged_legal summary n steps unread left held holds h =
    let here = some_text n steps left h.is.bytes h.text outcome.Ordered h.is.of_read in
    let one = legal_text summary n steps here.0 h.text here.1 in
    record {
      text = h.text;
      written = h.written;
      calls = one.0;
      judged = one.1;
      of_input = of_input one.0 one.1.listed unread h.is.of_input;
    }
  where
    of_input : (calls : List Call) → Lists h.text calls → (u : Option (List ℕ))
        → IfSome u (λ input. FindsText level.Linearizable n steps input outcome.Ordered h.text) →
        IfSome u (λ input. IsOrderOfText input calls)
    of_input calls listed None f = tt
    of_input calls listed (Some input) f =
        let two = legal_text summary n steps input h.text f in
        subst (IsOrderOfText input) (calls_same two.0 calls (sym two.1.listed ∙ listed)) two.2

pub found_is_reordered : LegalSummary → FoundIsReordered
found_is_reordered summary n steps bytes text f =
    let one = legal_text summary n steps bytes text f in
    record {
      calls = one.2.calls;
      order = one.0;
      reordered = record { listed = one.2.listed; written = one.1.listed; orders = one.2.orders };
      linearization = one.1.linearization;
    }

pub covered_means_whole : LegalSummary → CoveredIsWhole → CoveredMeansWhole
covered_means_whole summary covered n steps tasks bytes text f h =
    let found = found_is_reordered summary n steps bytes text f in
    record {
      calls = found.calls;
      order = found.order;
      listed = found.reordered.listed;
      orders = found.reordered.orders;
      whole = (covered n tasks bytes text found.calls found.order found.reordered).0 h;
    }
