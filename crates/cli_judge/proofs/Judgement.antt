-- How a judgement ends by a fault.
use Rattle.std.proofs.Common.{◌≡◌, ◌≢◌, ◌⊎◌, ◌++◌, ◌∙◌, refl, ap, sym, subst, inl, inr, ℕ, Bool, true, false, List, []}
use Rattle.std.proofs.Common.{append-nil, Option, Some, None}
use Rattle.std.specs.Borrow.{Bor}
use Rattle.std.specs.Prelude.{Result, Ok, Err, IfOk, IfErr, IsSome, option_map}
use Rattle.std.specs.Io.KnownBytes.{Appends}
use Rattle.std.proofs.KnownBytes.{Consumes-whole}
use Rattle.std.proofs.Math.Seq.{take-nil}
use Rattle.vac_lines.specs.Writing.{AppendsPrefix}
use Rattle.judge_calls.specs.Reading.{HasStoppedJudging}
use Rattle.cli_common.specs.Ending.{fault_line}
use Rattle.cli_judge.specs.Ending.{EndsJudged}
use Rattle.cli_judge.specs.declared.status.TheConstants.{FAULT}
use Rattle.judge_calls.specs.HeldReading.{IsReadWhole, HasChecked, HasStoppedChecking}
use Rattle.judge_calls.specs.AnyOrder.{HasCheckedOrder, HasStoppedCheckingOrder}
use Rattle.vac_lines.specs.declared.stream_fault.StreamFault.{StreamFault}
use Rattle.vac_lines.specs.declared.stream_fault.StreamFault.TheVariants as stream
use Rattle.judge_object.specs.declared.level.Level.{Level}
use Rattle.judge_object.specs.declared.level.Level.TheVariants as level
use Rattle.judge_linear.specs.declared.ordering.Outcome.{Outcome}
use Rattle.judge_linear.specs.declared.ordering.Outcome.TheVariants as outcome
use Rattle.judge_linear.specs.Ordering.{FindsText, HasText, HasOrdered}
use Rattle.judge_linear.specs.Ordering as order
use Rattle.judge_opacity.specs.Reading as opaque
use Rattle.judge_opacity.specs.Placed as place
use Rattle.judge_part_text.specs.Naming.{Named}
use Rattle.judge_part_text.specs.Parting.{HasStoppedParting}
use Rattle.judge_part_text.specs.Until.{HasStoppedPartingUntil}
use Rattle.cli_judge.specs.Judging.{JudgesHeld, JudgesWith, JudgeStopped, WorkStopped, NotOpened, NamedAlone}
use Rattle.cli_judge.specs.Ordering.{OrderStopped, FindsNone, HasRefusedInPart, OrderWorkStopped, HoldsOrder}
use Rattle.cli_judge.specs.Ordering.{HoldsText, HoldsInAnyOrder, JudgesText}
use Rattle.cli_judge.specs.Ordering.{JudgesAnyOrder, JudgesAnyHeld, JudgesAnyWith, status_of}
use Rattle.judge_options.specs.declared.asked.JudgeSettings.{JudgeSettings}
use Rattle.cli_judge.specs.Asking.{AttemptsStopped, PlacingStopped, JudgesAs, JudgesUnless, JudgesAsked}
use Rattle.cli_judge.specs.Asking.{is_refused}
use Rattle.cli_judge.specs.Parting.{PartStopped, CutStopped}
use Rattle.cli_common.proofs.LastLines.{nothing_then}

-- where nothing was written behind it
then_nothing : (held middle holds : Option (List ℕ)) (text : List ℕ) → AppendsPrefix held middle text →
    AppendsPrefix middle holds [] → AppendsPrefix held holds text
then_nothing None middle holds text part none = (0, tt)
then_nothing (Some h) None holds text part none = absurd part.1
then_nothing (Some h) (Some m) None text part none = absurd none.1
then_nothing (Some h) (Some m) (Some b) text part none = (
  part.0,
  (none.1 ∙ (ap (λ more. m ++ more) (take-nil none.0) ∙ append-nil m)) ∙ part.1,
)

-- a fault of no output was named, and nothing was written before
named_stream : (fault : StreamFault) → (fault ≡ stream.Write → ⊥) → (held middle holds : Option (List ℕ))
    → Appends held middle [] → AppendsPrefix middle holds (fault_line fault)
    → (f : StreamFault) × (f ≢ stream.Write) × AppendsPrefix held holds (fault_line f)
named_stream fault other held middle holds none line = (fault, other, nothing_then held middle holds _ none line)

-- the line of the fault was written in part
pub judge_stopped : (blocks : ℕ) (fault : StreamFault) (unread left held middle holds : Option (List ℕ))
    → HasStoppedJudging blocks fault unread left held middle → AppendsPrefix middle holds (fault_line fault)
    → JudgeStopped blocks unread left held holds
judge_stopped blocks stream.Read unread left held middle holds none line =
    inr (named_stream stream.Read (λ e. absurd cc) held middle holds none line)
judge_stopped blocks stream.Write unread left held middle holds part line =
    inl (record { verdict = part.verdict; is = part.is; written = then_nothing held middle holds _ part.written line })
judge_stopped blocks stream.Memory unread left held middle holds none line =
    inr (named_stream stream.Memory (λ e. absurd cc) held middle holds none line)
judge_stopped blocks stream.Bound unread left held middle holds none line =
    inr (named_stream stream.Bound (λ e. absurd cc) held middle holds none line)

-- as `judge_stopped`, for a history that is checked against a workload
pub work_stopped : (tasks rest : Option (List ℕ)) (blocks : ℕ) (fault : StreamFault)
    (unread left held middle holds : Option (List ℕ)) → HasStoppedChecking blocks fault tasks rest unread left held
    middle
    → AppendsPrefix middle holds (fault_line fault) → WorkStopped tasks blocks unread left held holds
work_stopped tasks rest blocks stream.Read unread left held middle holds none line =
    inr (named_stream stream.Read (λ e. absurd cc) held middle holds none line)
work_stopped tasks rest blocks stream.Write unread left held middle holds part line = inl (
  rest,
  record {
    work = part.work;
    bytes = part.bytes;
    work_read = part.work_read;
    history_read = part.history_read;
    written = then_nothing held middle holds _ part.written line;
  },
)
work_stopped tasks rest blocks stream.Memory unread left held middle holds none line =
    inr (named_stream stream.Memory (λ e. absurd cc) held middle holds none line)
work_stopped tasks rest blocks stream.Bound unread left held middle holds none line =
    inr (named_stream stream.Bound (λ e. absurd cc) held middle holds none line)

-- the same of a search for an order
pub order_stopped : (asked : Level) (blocks steps : ℕ) (fault : StreamFault)
    (unread left held middle holds : Option (List ℕ)) →
    order.HasStoppedOrdering asked blocks steps fault unread left held middle
    → AppendsPrefix middle holds (fault_line fault) → OrderStopped asked blocks steps unread left held holds
order_stopped asked blocks steps stream.Read unread left held middle holds none line =
    inr (named_stream stream.Read (λ e. absurd cc) held middle holds none line)
order_stopped asked blocks steps stream.Write unread left held middle holds part line =
    inl (record {
      result = part.result;
      text = part.text;
      is = part.is;
      written = then_nothing held middle holds _ part.written line;
    })
order_stopped asked blocks steps stream.Memory unread left held middle holds none line =
    inr (named_stream stream.Memory (λ e. absurd cc) held middle holds none line)
order_stopped asked blocks steps stream.Bound unread left held middle holds none line =
    inr (named_stream stream.Bound (λ e. absurd cc) held middle holds none line)

-- the same of attempts
pub attempts_stopped : (words : ℕ) (fault : StreamFault) (unread left held middle holds : Option (List ℕ)) →
    opaque.HasStoppedOnAttempts words fault unread left held middle
    → AppendsPrefix middle holds (fault_line fault) → AttemptsStopped words unread left held holds
attempts_stopped words stream.Read unread left held middle holds none line =
    inr (named_stream stream.Read (λ e. absurd cc) held middle holds none line)
attempts_stopped words stream.Write unread left held middle holds part line =
    inl (record { finding = part.finding; is = part.is; written = then_nothing held middle holds _ part.written line })
attempts_stopped words stream.Memory unread left held middle holds none line =
    inr (named_stream stream.Memory (λ e. absurd cc) held middle holds none line)
attempts_stopped words stream.Bound unread left held middle holds none line =
    inr (named_stream stream.Bound (λ e. absurd cc) held middle holds none line)

-- the same of attempts whose places are searched for
pub placing_stopped : (words : ℕ) (fault : StreamFault) (unread left held middle holds : Option (List ℕ)) →
    place.HasStoppedPlacing words fault unread left held middle
    → AppendsPrefix middle holds (fault_line fault) → PlacingStopped words unread left held holds
placing_stopped words stream.Read unread left held middle holds none line =
    inr (named_stream stream.Read (λ e. absurd cc) held middle holds none line)
placing_stopped words stream.Write unread left held middle holds part line =
    inl (record {
      bytes = part.bytes;
      read = part.read;
      verdict = part.verdict;
      is = part.is;
      written = then_nothing held middle holds _ part.written line;
    })
placing_stopped words stream.Memory unread left held middle holds none line =
    inr (named_stream stream.Memory (λ e. absurd cc) held middle holds none line)
placing_stopped words stream.Bound unread left held middle holds none line =
    inr (named_stream stream.Bound (λ e. absurd cc) held middle holds none line)

-- the same of the writing of a part
pub part_stopped : (names : Named) (fault : StreamFault) (unread left held middle holds : Option (List ℕ)) →
    HasStoppedParting names fault unread left held middle
    → AppendsPrefix middle holds (fault_line fault) → PartStopped names unread left held holds
part_stopped names stream.Read unread left held middle holds none line =
    inr (named_stream stream.Read (λ e. absurd cc) held middle holds none line)
part_stopped names stream.Write unread left held middle holds part line =
    inl (record {
      bytes = part.bytes;
      read = part.read;
      is_part = part.is_part;
      text = part.text;
      is = part.is;
      written = then_nothing held middle holds _ part.written line;
    })
part_stopped names stream.Memory unread left held middle holds none line =
    inr (named_stream stream.Memory (λ e. absurd cc) held middle holds none line)
part_stopped names stream.Bound unread left held middle holds none line =
    inr (named_stream stream.Bound (λ e. absurd cc) held middle holds none line)

-- the same of the writing of the part of a cut
pub cut_stopped : (names : Named) (at : ℕ) (fault : StreamFault) (unread left held middle holds : Option (List ℕ)) →
    HasStoppedPartingUntil names at fault unread left held middle
    → AppendsPrefix middle holds (fault_line fault) → CutStopped names at unread left held holds
cut_stopped names at stream.Read unread left held middle holds none line =
    inr (named_stream stream.Read (λ e. absurd cc) held middle holds none line)
cut_stopped names at stream.Write unread left held middle holds part line =
    inl (record {
      bytes = part.bytes;
      read = part.read;
      is_part = part.is_part;
      text = part.text;
      is = part.is;
      written = then_nothing held middle holds _ part.written line;
    })
cut_stopped names at stream.Memory unread left held middle holds none line =
    inr (named_stream stream.Memory (λ e. absurd cc) held middle holds none line)
cut_stopped names at stream.Bound unread left held middle holds none line =
    inr (named_stream stream.Bound (λ e. absurd cc) held middle holds none line)

-- whether an order was found
abbrev pub is_order : Outcome → Bool
is_order outcome.Ordered = true
is_order outcome.Illegal = false
is_order outcome.Undecided = false

no_order : (found : Outcome) → is_order found ≡ false → found ≢ outcome.Ordered
no_order found none e = let bad : true ≡ false = subst (λ (f : Outcome). is_order f ≡ false) e none in cc

-- what was found was kept, and then written
pub kept : (asked : Level) (blocks steps : ℕ) (found : Outcome) (status : ℕ)
    (unread left held holds : Option (List ℕ)) (text : List ℕ) → is_order found ≡ false
    → HasOrdered asked blocks steps found unread left (Some []) (Some text)
    → (Appends held holds text × (status ≡ status_of found)) ⊎ (AppendsPrefix held holds text × (status ≡ FAULT)) →
    FindsNone asked blocks steps status unread left held holds
kept asked blocks steps found status unread left held holds text none has (inl whole) =
    inl (
      found,
      no_order found none,
      whole.1,
      record {
        text = text;
        is = subst (HasText asked blocks steps unread left found) (sym has.written) has.is;
        written = whole.0;
      },
    )
kept asked blocks steps found status unread left held holds text none has (inr part) =
    inr (
      part.1,
      inl (
        record {
          result = found;
          text = text;
          is = subst (HasText asked blocks steps unread left found) (sym has.written) has.is;
          written = part.0;
        },
        no_order found none,
      ),
    )

-- the same where what was found and its text are known by other names
pub kept_as : (asked : Level) (blocks steps : ℕ) (given found : Outcome) (status : ℕ)
    (unread left held holds : Option (List ℕ)) (before text shown : List ℕ) → given ≡ found
    → is_order found ≡ false → before ≡ [] → shown ≡ text
    → HasOrdered asked blocks steps given unread left (Some before) (Some text)
    → (Appends held holds shown × (status ≡ status_of found)) ⊎ (AppendsPrefix held holds shown × (status ≡ FAULT)) →
    FindsNone asked blocks steps status unread left held holds
kept_as asked blocks steps given found status unread left held holds before text shown e none f same has wrote =
    kept asked blocks steps found status unread left held holds shown none
    (subst (λ t. HasOrdered asked blocks steps found unread left (Some []) (Some t)) (sym same)
    (subst (λ t. HasOrdered asked blocks steps found unread left (Some t) (Some text)) f
    (subst (λ (o : Outcome). HasOrdered asked blocks steps o unread left (Some before) (Some text)) e has))) wrote

-- a fault came before anything was found
pub unordered : (asked : Level) (blocks steps status : ℕ) (unread left held holds : Option (List ℕ))
    (fault : StreamFault) → status ≡ FAULT → (fault ≢ stream.Write) → AppendsPrefix held holds (fault_line fault)
    → FindsNone asked blocks steps status unread left held holds
unordered asked blocks steps status unread left held holds fault one other line = inr (one, inr (fault, other, line))

-- an order was kept
pub order_is_kept : (asked : Level) (blocks steps : ℕ) (unread left : Option (List ℕ)) (text : List ℕ) →
    HasOrdered asked blocks steps outcome.Ordered unread left (Some []) (Some text)
    → HasText asked blocks steps unread left outcome.Ordered text
order_is_kept asked blocks steps unread left text has =
    subst (HasText asked blocks steps unread left outcome.Ordered) (sym has.written) has.is

-- and then judged, as a text that is known by another name
pub found_judged : (asked : Level) (blocks steps status : ℕ) (unread left held middle holds : Option (List ℕ))
    (text shown : List ℕ) → HasText asked blocks steps unread left outcome.Ordered text → shown ≡ text
    → middle ≡ held → JudgesText asked blocks status shown middle holds →
    JudgesAnyOrder asked blocks steps status unread left held holds
found_judged asked blocks steps status unread left held middle holds text shown has is same judged =
    inl (record {
      text = text;
      order = has;
      judged = subst (λ t. JudgesText asked blocks status t held holds) is
          (subst (λ h. JudgesText asked blocks status shown h holds) same judged);
    })

-- the level of an order that was found is said
pub judges_as : (asked given : Level) (blocks status : ℕ) (text : List ℕ) (held holds : Option (List ℕ)) →
    given ≡ asked → JudgesText asked blocks status text held holds → JudgesText given blocks status text held holds
judges_as asked given blocks status text held holds e judged =
    subst (λ (l : Level). JudgesText l blocks status text held holds) (sym e) judged

-- a fault ended the check of an order
order_work_stopped : (tasks rest : Option (List ℕ)) (blocks : ℕ) (fault : StreamFault) (bytes text : List ℕ)
    (held middle holds : Option (List ℕ)) → HasStoppedCheckingOrder blocks fault tasks rest bytes text held middle
    → AppendsPrefix middle holds (fault_line fault) → OrderWorkStopped tasks blocks bytes text held holds
order_work_stopped tasks rest blocks stream.Read bytes text held middle holds none line =
    inr (named_stream stream.Read (λ e. absurd cc) held middle holds none line)
order_work_stopped tasks rest blocks stream.Write bytes text held middle holds part line = inl (
  rest,
  record {
    work = part.work;
    work_read = part.work_read;
    written = then_nothing held middle holds _ part.written line;
  },
)
order_work_stopped tasks rest blocks stream.Memory bytes text held middle holds none line =
    inr (named_stream stream.Memory (λ e. absurd cc) held middle holds none line)
order_work_stopped tasks rest blocks stream.Bound bytes text held middle holds none line =
    inr (named_stream stream.Bound (λ e. absurd cc) held middle holds none line)

-- an order was checked against work
pub order_held : (tasks rest : Option (List ℕ)) (blocks : ℕ) (r : Result Bool StreamFault) (status : ℕ)
    (bytes text : List ℕ) (held middle holds : Option (List ℕ))
    → IfOk r (λ covered. HasCheckedOrder blocks covered tasks rest bytes text held middle)
    → IfErr r (λ fault. HasStoppedCheckingOrder blocks fault tasks rest bytes text held middle)
    → EndsJudged r status middle holds → HoldsOrder tasks blocks status bytes text held holds
order_held tasks rest blocks (Ok true) status bytes text held middle holds ok err e =
    inl (e.0, (rest, subst (λ h. HasCheckedOrder blocks true tasks rest bytes text held h) (sym e.1) ok))
order_held tasks rest blocks (Ok false) status bytes text held middle holds ok err e =
    inr (inl (e.0, (rest, subst (λ h. HasCheckedOrder blocks false tasks rest bytes text held h) (sym e.1) ok)))
order_held tasks rest blocks (Err fault) status bytes text held middle holds ok err e =
    inr (inr (e.0, order_work_stopped tasks rest blocks fault bytes text held middle holds err e.1))

-- a history that was read whole, and then searched
text_read : (blocks steps : ℕ) (unread left rest : Option (List ℕ)) (bytes : List ℕ) (found : Outcome)
    (text : List ℕ) → IsReadWhole unread left bytes → HasText level.Linearizable blocks steps
    (Some bytes) rest found text →
    HasText level.Linearizable blocks steps unread left found text
text_read blocks steps unread left rest bytes found text read has = record {
  bytes = bytes;
  consumed = read.consumed;
  of_read = inl (read.at_end, has.of_input);
  of_input = Consumes-whole unread left bytes (λ input. FindsText level.Linearizable blocks steps input found text)
      read.consumed
      read.at_end has.of_input;
}

-- an order was found, and checked against work
pub found_text : (tasks : Option (List ℕ)) (blocks steps status : ℕ) (rest held middle holds : Option (List ℕ))
    (bytes text given : List ℕ) → given ≡ text → HasText level.Linearizable blocks steps
    (Some bytes) rest outcome.Ordered text →
    middle ≡ held → HoldsOrder tasks blocks status bytes given middle holds →
    HoldsInAnyOrder tasks blocks steps status bytes held holds
found_text tasks blocks steps status rest held middle holds bytes text given same has before judged =
    inl (record {
      text = text;
      order = has.of_input;
      judged = subst (λ t. HoldsOrder tasks blocks status bytes t held holds) same
          (subst (λ h. HoldsOrder tasks blocks status bytes given h holds) before judged);
    })

-- no order was found
none_in_slice : (blocks steps status : ℕ) (unread left rest held holds : Option (List ℕ)) (bytes shown : List ℕ) →
    IsReadWhole unread left bytes → shown ≡ bytes →
    FindsNone level.Linearizable blocks steps status (Some shown) rest held holds →
    FindsNone level.Linearizable blocks steps status unread left held holds
none_in_slice blocks steps status unread left rest held holds bytes shown read is none =
    go (subst (λ b. FindsNone level.Linearizable blocks steps status (Some b) rest held holds) is none)
  where
    go : FindsNone level.Linearizable blocks steps status (Some bytes) rest held holds →
        FindsNone level.Linearizable blocks steps status unread left held holds
    go (inl f) = inl (
      f.0,
      f.1,
      f.2,
      record {
        text = f.3.text;
        is = text_read blocks steps unread left rest bytes f.0 f.3.text read f.3.is;
        written = f.3.written;
      },
    )
    go (inr f) = inr (f.0, part f.1)
      where
        part : HasRefusedInPart level.Linearizable blocks steps (Some bytes) rest held holds ⊎ NamedAlone held holds →
            HasRefusedInPart level.Linearizable blocks steps unread left held holds ⊎ NamedAlone held holds
        part (inl p) = inl (
          record {
            result = p.0.result;
            text = p.0.text;
            is = text_read blocks steps unread left rest bytes p.0.result p.0.text read p.0.is;
            written = p.0.written;
          },
          p.1,
        )
        part (inr n) = inr n

-- a history was judged and checked against a workload
pub held_judged : (tasks rest : Option (List ℕ)) (blocks : ℕ) (r : Result Bool StreamFault) (status : ℕ)
    (unread left held middle holds : Option (List ℕ))
    → IfOk r (λ legal. HasChecked blocks legal tasks rest unread left held middle)
    → IfErr r (λ fault. HasStoppedChecking blocks fault tasks rest unread left held middle)
    → EndsJudged r status middle holds → JudgesHeld tasks blocks status unread left held holds
held_judged tasks rest blocks (Ok true) status unread left held middle holds ok err e =
    inl (e.0, (rest, subst (λ h. HasChecked blocks true tasks rest unread left held h) (sym e.1) ok))
held_judged tasks rest blocks (Ok false) status unread left held middle holds ok err e =
    inr (inl (e.0, (rest, subst (λ h. HasChecked blocks false tasks rest unread left held h) (sym e.1) ok)))
held_judged tasks rest blocks (Err fault) status unread left held middle holds ok err e =
    inr (inr (e.0, work_stopped tasks rest blocks fault unread left held middle holds err e.1))

-- ---- as it is asked for

-- a history was read whole, and then searched and checked
pub held_in_slice : (tasks : Option (List ℕ)) (blocks steps status : ℕ) (unread left held holds : Option (List ℕ))
    (bytes shown : List ℕ) → IsReadWhole unread left bytes → shown ≡ bytes →
    HoldsInAnyOrder tasks blocks steps status shown held holds →
    JudgesAnyHeld tasks blocks steps status unread left held holds
held_in_slice tasks blocks steps status unread left held holds bytes shown read is (inl found) =
    inl (record {
      bytes = bytes;
      read = read;
      found = subst (λ b. HoldsText tasks blocks steps status b held holds) is found;
    })
held_in_slice tasks blocks steps status unread left held holds bytes shown read is (inr none) =
    inr (none_in_slice blocks steps status unread left none.0 held holds bytes shown read is none.1)

-- the work that the file of this name has
abbrev pub work_in : (List ℕ → Option (List ℕ)) → Option (Bor (List ℕ)) → Option (Option (List ℕ))
work_in files name = option_map (λ n. files n.now) name

-- the calls were judged in their own order
pub judged_as : (files : List ℕ → Option (List ℕ)) (given : Bool) (name : Option (Bor (List ℕ)))
    (work : Option (Option (List ℕ))) (asked : Level) (blocks steps status : ℕ)
    (unread left held middle holds : Option (List ℕ)) → given ≡ true → work ≡ work_in files name → middle ≡ held
    → JudgesWith work blocks status unread left middle holds
    → JudgesAs files given name asked blocks steps status unread left held holds
judged_as files false name work asked blocks steps status unread left held middle holds e is same judged =
    absurd (let k : false ≡ true = e in cc)
judged_as files true None work asked blocks steps status unread left held middle holds e is same judged =
    subst (λ h. JudgesWith None blocks status unread left h holds) same
    (subst (λ w. JudgesWith w blocks status unread left middle holds) is judged)
judged_as files true (Some name) work asked blocks steps status unread left held middle holds e is same judged =
    inl (subst (λ h. JudgesHeld (files name.now) blocks status unread left h holds) same
    (subst (λ w. JudgesWith w blocks status unread left middle holds) is judged))

-- they were judged in an order that was found
pub any_judged_as : (files : List ℕ → Option (List ℕ)) (given : Bool) (name : Option (Bor (List ℕ)))
    (work : Option (Option (List ℕ))) (asked : Level) (blocks steps status : ℕ)
    (unread left held middle holds : Option (List ℕ)) → given ≡ false → work ≡ work_in files name → middle ≡ held
    → JudgesAnyWith work asked blocks steps status unread left middle holds
    → JudgesAs files given name asked blocks steps status unread left held holds
any_judged_as files true name work asked blocks steps status unread left held middle holds e is same judged =
    absurd (let k : true ≡ false = e in cc)
any_judged_as files false None work asked blocks steps status unread left held middle holds e is same judged =
    subst (λ h. JudgesAnyWith None asked blocks steps status unread left h holds) same
    (subst (λ w. JudgesAnyWith w asked blocks steps status unread left middle holds) is judged)
any_judged_as files false (Some name) work asked blocks steps status unread left held middle holds e is same judged =
    inl (subst (λ h. JudgesAnyHeld (files name.now) blocks steps status unread left h holds) same
    (subst (λ w. JudgesAnyWith w asked blocks steps status unread left middle holds) is judged))

-- the file was not opened
pub not_opened_as : (files : List ℕ → Option (List ℕ)) (given : Bool) (name : Option (Bor (List ℕ))) (asked : Level)
    (blocks steps status : ℕ) (unread held holds : Option (List ℕ)) → IsSome name → NotOpened status held holds
    → JudgesAs files given name asked blocks steps status unread unread held holds
not_opened_as files given None asked blocks steps status unread held holds some not =
    absurd (let k : false ≡ true = some in cc)
not_opened_as files false (Some name) asked blocks steps status unread held holds some not = inr (refl, not)
not_opened_as files true (Some name) asked blocks steps status unread held holds some not = inr (refl, not)

-- the command line is refused
pub refused_as : (files : List ℕ → Option (List ℕ)) (how : JudgeSettings) (status : ℕ) (unread held : Option (List ℕ)) →
    is_refused how ≡ true → status ≡ 2 → JudgesAsked files how status unread unread held held
refused_as files how status unread held is refused =
    subst (λ b. JudgesUnless b files how status unread unread held held) (sym is) (refused, refl, refl)

-- the command line is not refused
pub asked_as : (files : List ℕ → Option (List ℕ)) (how : JudgeSettings) (status : ℕ)
    (unread left held holds : Option (List ℕ)) → is_refused how ≡ false
    → JudgesAs files how.given_order how.tasks how.search.level how.blocks how.search.steps status unread left held
    holds
    → JudgesAsked files how status unread left held holds
asked_as files how status unread left held holds is judged =
    subst (λ b. JudgesUnless b files how status unread left held holds) (sym is) judged
