-- Reading work, and holding calls against it, step by step.
use Rattle.std.proofs.Common.{◌≡◌, ◌≢◌, ◌⊎◌, ℕ, ◌+◌, ◌<◌, ◌≤◌, ◌==◌, ◌&&◌, ◌||◌, suc, Bool, true, false, not, cond}
use Rattle.std.proofs.Common.{List, [], ◌∷◌, ◌++◌, length, map, Option, Some, None, unwrap_or, Result, Ok, Err}
use Rattle.std.proofs.Common.{refl, sym, ap, subst, ◌∙◌, inl, inr, arith, append-nil, append_assoc, length-append, eqb}
use Rattle.std.proofs.Common.{ne_eqb, nat_le}
use Rattle.std.specs.Ordering.{nat_cmp, eq_by_cmp}
use Rattle.std.specs.FinMap.{FinMap, get, insert, remove, empty, get-empty, get-remove}
use Rattle.std.specs.Global.{Vec}
use Rattle.std.proofs.lemmas.Cmp.{nat_cmp_total}
use Rattle.std.proofs.lemmas.Bool.Decides.{nat_tests}
use Rattle.vac_model.specs.declared.tasks.Task.{Task}
use Rattle.vac_lines.specs.Lines.{lines_of, HasNo}
use Rattle.vac_lines.proofs.LineCuts.{HasNoEnd, lines_cut, lines_last}
use Rattle.judge_calls.specs.declared.fault.CallFault.{CallFault}
use Rattle.judge_calls.specs.declared.fault.CallFault.TheVariants.{BadCall}
use Rattle.judge_calls.specs.declared.work.Workload.{Workload}
use Rattle.judge_calls.specs.declared.holding.CallCount.{CallCount}
use Rattle.judge_calls.specs.declared.holding.CallCounts.{CallCounts}
use Rattle.judge_object.specs.Call.{is_completed}
use Rattle.judge_object.proofs.Maps.{get_here, get_other}
use Rattle.judge_object.proofs.Tests as tests
use Rattle.judge_calls.specs.Call.{Call, line_call, joined_words}
use Rattle.judge_calls.specs.Work.{Asked, words_asked, text_asked, line_asked, onto_work, work_of, tasks_of, made_by}
use Rattle.judge_calls.specs.Work.{has_stopped, is_next, first_foreign, calls_in, is_missing, first_missing}
use Rattle.judge_calls.specs.Holding.{asked_of, tasks_listed, IsWork, onto_all, IsCallCount, IsKept, Counts, CountsSeen}
use Rattle.judge_calls.proofs.Arrows.{first_word, one_word, word_first, text_is}

-- ---- lines and words

-- a text of no bytes
pub no_bytes : (text : List ℕ) → length text ≡ 0 → text ≡ []
no_bytes [] e = refl
no_bytes (b ∷ bs) e = absurd (omega arith)

pub first_line : (text line behind : List ℕ) → HasNoEnd line → text ≡ line ++ 10 ∷ behind →
    lines_of text ≡ line ∷ lines_of behind
first_line text line behind h e = ap lines_of e ∙ lines_cut line behind h

pub only_line : (text : List ℕ) → HasNoEnd text → 0 < length text → lines_of text ≡ text ∷ []
only_line text h some =
    let full : eqb (length text) 0 ≡ false = ne_eqb (length text) 0 (λ z. omega arith) in
    lines_last text h ∙ ap (λ b. cond b [] (text ∷ [])) full

pub asked_cut : (line client rest : List ℕ) → HasNo 32 client → line ≡ client ++ 32 ∷ rest →
    line_asked line ≡ text_asked client rest
asked_cut line client rest h e =
    let w = first_word rest in
    ap words_asked (word_first line client rest h e) ∙ ap (λ ws. words_asked (client ∷ ws)) w.2
    ∙ ap (text_asked client) (ap joined_words (sym w.2) ∙ text_is rest)

pub asked_none : (line : List ℕ) → HasNo 32 line → line_asked line ≡ Err BadCall
asked_none line h = ap words_asked (one_word line h)

-- ---- values by clients

pub get_left : {X : Type 0} (m : FinMap nat_cmp X) (a b : ℕ) → b ≢ a → get (remove m a) b ≡ get m b
get_left m a b ne =
    let t : eq_by_cmp nat_cmp b a ≡ false = grind (arith, nat_tests) in
    rw (get-remove nat_cmp_total m a b, t) refl

-- of two numbers, whether they are equal
abbrev pub Test : ℕ → ℕ → Type 0
Test a b = ((a == b) ≡ true × (a ≡ b)) ⊎ ((a == b) ≡ false × (b ≢ a))

pub test : (a b : ℕ) → Test a b
test a b =
    elim (tests.test a b) [
      | inl same ↦ inl same
      | inr other ↦ inr (other.0, λ e. other.1 (sym e))
    ]

-- ---- work

-- the tasks of a client in work of two parts
pub tasks_both : (client : ℕ) (a b : List Asked) → tasks_of client (a ++ b) ≡ tasks_of client a ++ tasks_of client b
tasks_both client [] b = refl
tasks_both client (x ∷ a) b =
    let more = tasks_both client a b in
    elim (x.client == client) as (λ v. cond v (x.task ∷ tasks_of client (a ++ b)) (tasks_of client (a ++ b))
    ≡ cond v (x.task ∷ tasks_of client a) (tasks_of client a) ++ tasks_of client b) [
      | true ↦ ap (λ t. x.task ∷ t) more
      | false ↦ more
    ]

clients_more : (work : List Asked) (a : Asked) → map (λ b. b.client) (work ++ a ∷ []) ≡ map
    (λ b. b.client) work ++ a.client ∷ []
clients_more [] a = refl
clients_more (b ∷ work) a = ap (λ t. b.client ∷ t) (clients_more work a)

pub push_more : (old new : Workload) (client : ℕ) (task : Task) (tasks tasks' : Vec Task)
    (left : FinMap nat_cmp (Vec Task))
    → tasks.items ≡ tasks_listed (get old.tasks client)
    → tasks'.items ≡ tasks.items ++ task ∷ [] → left ≡ remove old.tasks client → new.tasks ≡ insert left client tasks' →
    new.clients.items ≡ old.clients.items ++ client ∷ []
    → (work : List Asked) → IsWork old work → IsWork new (work ++ asked_of (client, task) ∷ [])
push_more old new client task tasks tasks' left had pushed l i c = λ work h. record {
  clients = c ∙ ap (λ t. t ++ client ∷ []) h.clients ∙ sym (clients_more work (asked_of (client, task)));
  tasks = λ k. elim (test client k) [
    | inl same ↦
        subst (λ q. tasks_listed (get new.tasks q) ≡ tasks_of q (work ++ asked_of (client, task) ∷ [])) same.1
        (ap (λ (m : FinMap nat_cmp (Vec Task)). tasks_listed (get m client)) i ∙
        ap tasks_listed (get_here left client tasks') ∙
        pushed ∙ ap (λ t. t ++ task ∷ []) (had ∙ h.tasks client)
        ∙ ap (λ t. tasks_of client work ++ t) (ap (λ b. cond b (task ∷ []) []) (sym (itself client))) ∙
        sym (tasks_both client work (asked_of (client, task) ∷ [])))
    | inr other ↦
        ap (λ (m : FinMap nat_cmp (Vec Task)). tasks_listed (get m k)) i ∙
        ap tasks_listed (get_other left client tasks' k other.1)
        ∙ ap (λ (m : FinMap nat_cmp (Vec Task)). tasks_listed (get m k)) l
        ∙ ap tasks_listed (get_left old.tasks client k other.1) ∙ h.tasks k ∙ sym (append-nil (tasks_of k work))
        ∙ ap (λ t. tasks_of k work ++ t) (ap (λ b. cond b (task ∷ []) []) (sym other.0)) ∙
        sym (tasks_both k work (asked_of (client, task) ∷ []))
  ];
}
  where
    itself : (n : ℕ) → (n == n) ≡ true
    itself n = grind (arith, nat_tests)

-- so far this work was read
pub record ReadTo (kept : Workload) (count : ℕ) (text rest : List ℕ) : Type 0 where
  pub work : List Asked
  pub is : IsWork kept work
  pub number : count ≡ length work
  pub all : work_of (map line_asked (lines_of text)) ≡ onto_all work (work_of (map line_asked (lines_of rest)))

onto_none : (r : Result (List Asked) ℕ) → onto_all [] r ≡ r
onto_none (Ok work) = refl
onto_none (Err line) = let plain : 0 + line ≡ line = omega arith in ap Err plain

onto_more : (work : List Asked) (a : Asked) (r : Result (List Asked) ℕ) →
    onto_all work (onto_work a r) ≡ onto_all (work ++ a ∷ []) r
onto_more work a (Ok more) = ap Ok (sym (append_assoc work (a ∷ []) more))
onto_more work a (Err line) =
    let size = length-append work (a ∷ []) in
    let same : length work + (line + 1) ≡ length (work ++ a ∷ []) + line = omega (arith, size) in
    ap Err same

pub read_first : (kept : Workload) (text : List ℕ) → IsWork kept [] → ReadTo kept 0 text text
read_first kept text h = record {
  work = [];
  is = h;
  number = refl;
  all = sym (onto_none (work_of (map line_asked (lines_of text))));
}

pub read_more : (kept after : Workload) (count count' : ℕ) (text rest line behind : List ℕ) (a : ℕ × Task) →
    ReadTo kept count text rest → lines_of rest ≡ line ∷ lines_of behind
    → line_asked line ≡ Ok (asked_of a) → count' ≡ count + 1 →
    ((work : List Asked) → IsWork kept work → IsWork after (work ++ asked_of a ∷ [])) →
    ReadTo after count' text behind
read_more kept after count count' text rest line behind a r cut is n p =
    let size = length-append r.work (asked_of a ∷ []) in
    record {
      work = r.work ++ asked_of a ∷ [];
      is = p r.work r.is;
      number = omega (arith, n, r.number, size);
      all = r.all ∙ ap (λ ls. onto_all r.work (work_of (map line_asked ls))) cut ∙
          ap (λ x. onto_all r.work (work_of (x ∷ map line_asked (lines_of behind)))) is
          ∙ onto_more r.work (asked_of a) (work_of (map line_asked (lines_of behind)));
    }

pub read_bad : (kept : Workload) (count count' : ℕ) (text rest line behind : List ℕ) (fault : CallFault) →
    ReadTo kept count text rest → lines_of rest ≡ line ∷ lines_of behind
    → line_asked line ≡ Err fault → count' ≡ count + 1 → work_of (map line_asked (lines_of text)) ≡ Err count'
read_bad kept count count' text rest line behind fault r cut is n =
    let same : length r.work + 1 ≡ count' = omega (arith, n, r.number) in
    r.all ∙ ap (λ ls. onto_all r.work (work_of (map line_asked ls))) cut ∙
    ap (λ x. onto_all r.work (work_of (x ∷ map line_asked (lines_of behind)))) is ∙ ap Err same

-- what was read in the end
abbrev pub IsRead : Workload → List ℕ → Type 0
IsRead kept text = (work : List Asked) × IsWork kept work × (work_of (map line_asked (lines_of text)) ≡ Ok work)

pub read_all : (kept : Workload) (count : ℕ) (text rest : List ℕ) → ReadTo kept count text rest → lines_of rest ≡ [] →
    IsRead kept text
read_all kept count text rest r none = (
  r.work,
  r.is,
  r.all ∙
      ap (λ ls. onto_all r.work (work_of (map line_asked ls))) none ∙ ap Ok (append-nil r.work),
)

-- ---- calls

pub count_more : (old new : CallCounts) (c : Call) (p p' : CallCount) → new.clients ≡ insert old.clients c.client p' →
    p'.made ≡ p.made + 1
    → p'.stopped ≡ (not (is_completed c) || p.stopped) → new.count ≡ old.count + 1 → (calls : List Call) →
    Counts old calls →
    IsCallCount p c.client calls → Counts new (c ∷ calls)
count_more old new c p p' i made stopped n calls h so_far = record {
  clients = λ k. elim (test c.client k) [
    | inl same ↦
        subst (λ o. IsKept o k (c ∷ calls))
        (sym (ap (λ (m : FinMap nat_cmp CallCount). get m k) i ∙ ap (get (insert old.clients c.client p')) (sym same.1)
        ∙
        get_here old.clients c.client p'))
        (record {
          made = made ∙ ap (λ m. m + 1) (so_far.made ∙ ap (λ q. made_by q calls) same.1) ∙
              ap (λ b. cond b (made_by k calls + 1) (made_by k calls)) (sym same.0);
          stopped = stopped ∙ ap (λ b. not (is_completed c) || b)
              (so_far.stopped ∙ ap (λ q. has_stopped q calls) same.1)
              ∙ ap (λ b. (b && not (is_completed c)) || has_stopped k calls) (sym same.0);
        })
    | inr other ↦
        subst (λ o. IsKept o k (c ∷ calls)) (sym (ap (λ (m : FinMap nat_cmp CallCount). get m k) i ∙
        get_other old.clients c.client p' k other.1))
        (kept_on (get old.clients k) k other.0 (h.clients k))
  ];
  number = n ∙ ap (λ m. m + 1) h.number ∙ one_more (length calls);
}
  where
    one_more : (n : ℕ) → n + 1 ≡ suc n
    one_more n = omega arith

    made_on : (k : ℕ) → (c.client == k) ≡ false → made_by k calls ≡ made_by k (c ∷ calls)
    made_on k f = ap (λ b. cond b (made_by k calls + 1) (made_by k calls)) (sym f)

    stopped_on : (k : ℕ) → (c.client == k) ≡ false → has_stopped k calls ≡ has_stopped k (c ∷ calls)
    stopped_on k f = ap (λ b. (b && not (is_completed c)) || has_stopped k calls) (sym f)

    kept_on : (o : Option CallCount) (k : ℕ) → (c.client == k) ≡ false → IsKept o k calls → IsKept o k (c ∷ calls)
    kept_on None k f h = (h.0 ∙ made_on k f, h.1 ∙ stopped_on k f)
    kept_on (Some q) k f h = record { made = h.made ∙ made_on k f; stopped = h.stopped ∙ stopped_on k f }

-- the lines of a text up to here asked for their clients' next tasks
pub record HeldTo (work : Workload) (held : CallCounts) (text rest : List ℕ) : Type 0 where
  pub calls : List Call
  pub counts : Counts held calls
  pub line : (asked : List Asked) → IsWork work asked
      → first_foreign asked [] (map line_call (lines_of text)) ≡ first_foreign asked calls
      (map line_call (lines_of rest))
  pub all : calls_in [] (map line_call (lines_of text)) ≡ calls_in calls (map line_call (lines_of rest))

pub held_first : (work : Workload) (held : CallCounts) (text : List ℕ) → Counts held [] → HeldTo work held text text
held_first work held text c = record { calls = []; counts = c; line = λ asked w. refl; all = refl }

-- what is said of a call that is taken, or not
abbrev pub IsTaken : Workload → CallCounts → Call → Bool → Type 0
IsTaken work held c next = (asked : List Asked) (calls : List Call) → IsWork work asked → Counts held calls →
    next ≡ is_next asked calls c

pub held_more : (work : Workload) (held after : CallCounts) (text rest line behind : List ℕ) (c : Call) →
    HeldTo work held text rest → lines_of rest ≡ line ∷ lines_of behind
    → line_call line ≡ Ok c → IsTaken work held c true → ((calls : List Call) → Counts held calls →
    Counts after (c ∷ calls)) → HeldTo work after text behind
held_more work held after text rest line behind c h cut is next counts =
    let more = map line_call (lines_of behind) in
    record {
      calls = c ∷ h.calls;
      counts = counts h.calls h.counts;
      line = λ asked w. h.line asked w ∙ ap (λ ls. first_foreign asked h.calls (map line_call ls)) cut ∙
          ap (λ x. first_foreign asked h.calls (x ∷ more)) is
          ∙ ap (λ b. cond b (first_foreign asked (c ∷ h.calls) more) (Some (length h.calls + 1)))
          (sym (next asked h.calls w h.counts));
      all = h.all ∙ ap (λ ls. calls_in h.calls (map line_call ls)) cut ∙ ap (λ x. calls_in h.calls (x ∷ more)) is;
    }

-- this is the first line that is foreign
abbrev pub IsForeign : Workload → List ℕ → Option ℕ → Type 0
IsForeign work text found = (asked : List Asked) → IsWork work asked →
    found ≡ first_foreign asked [] (map line_call (lines_of text))

-- so many calls are all
abbrev pub CountsAll : CallCounts → List ℕ → Type 0
CountsAll held text = Counts held (calls_in [] (map line_call (lines_of text)))

pub held_foreign : (work : Workload) (held : CallCounts) (number : ℕ) (text rest line behind : List ℕ) (c : Call) →
    HeldTo work held text rest → lines_of rest ≡ line ∷ lines_of behind
    → line_call line ≡ Ok c → IsTaken work held c false → number ≡ held.count + 1 → IsForeign work text (Some number)
held_foreign work held number text rest line behind c h cut is next n = λ asked w.
    let more = map line_call (lines_of behind) in
    let same : length h.calls + 1 ≡ number = omega (arith, n, h.counts.number) in
    sym (h.line asked w ∙ ap (λ ls. first_foreign asked h.calls (map line_call ls)) cut ∙
    ap (λ x. first_foreign asked h.calls (x ∷ more)) is
    ∙ ap (λ b. cond b (first_foreign asked (c ∷ h.calls) more) (Some (length h.calls + 1)))
    (sym (next asked h.calls w h.counts)) ∙ ap Some same)

pub held_fault : (work : Workload) (held : CallCounts) (text rest line behind : List ℕ) (fault : CallFault) →
    HeldTo work held text rest → lines_of rest ≡ line ∷ lines_of behind
    → line_call line ≡ Err fault → IsForeign work text None × CountsAll held text
held_fault work held text rest line behind fault h cut is =
    let more = map line_call (lines_of behind) in (
      λ asked w. sym (h.line asked w ∙ ap (λ ls. first_foreign asked h.calls (map line_call ls)) cut ∙
          ap (λ x. first_foreign asked h.calls (x ∷ more)) is),
      subst (Counts held) (sym (h.all ∙ ap (λ ls. calls_in h.calls (map line_call ls)) cut ∙
          ap (λ x. calls_in h.calls (x ∷ more)) is)) h.counts,
    )

pub held_all : (work : Workload) (held : CallCounts) (text rest : List ℕ) → HeldTo work held text rest →
    lines_of rest ≡ [] →
    IsForeign work text None × CountsAll held text
held_all work held text rest h none = (
  λ asked w. sym (h.line asked w ∙ ap (λ ls. first_foreign asked h.calls (map line_call ls)) none),
  subst (Counts held) (sym (h.all ∙ ap (λ ls. calls_in h.calls (map line_call ls)) none)) h.counts,
)

-- ---- tasks that are missing

-- the tasks of these clients are still to be looked at
pub record SeenTo (work : Workload) (held : CallCounts) (seen : FinMap nat_cmp ℕ) (rest : List ℕ) (asked : List Asked)
    (calls : List Call) : Type 0 where
  pub before : List Asked
  pub behind : List Asked
  pub clients : map (λ a. a.client) behind ≡ rest
  pub sees : CountsSeen seen before
  pub same : first_missing calls [] asked ≡ first_missing calls before behind

-- so it is whatever the work and the calls are
abbrev pub AllSeen : Workload → CallCounts → FinMap nat_cmp ℕ → List ℕ → Type 0
AllSeen work held seen rest = (asked : List Asked) (calls : List Call) → IsWork work asked → Counts held calls →
    SeenTo work held seen rest asked calls

pub seen_first : (work : Workload) (held : CallCounts) (seen : FinMap nat_cmp ℕ) (rest : List ℕ) → seen ≡ empty →
    rest ≡ work.clients.items → AllSeen work held seen rest
seen_first work held seen rest e c = λ asked calls w h. record {
  before = [];
  behind = asked;
  clients = sym (c ∙ w.clients);
  sees = λ k. ap (λ (m : FinMap nat_cmp ℕ). unwrap_or (get m k) 0) e ∙ ap (λ o. unwrap_or o 0) (get-empty nat_cmp k);
  same = refl;
}

-- a client is open or not, as its numbers say
number_of : (p : CallCount) (held : CallCounts) (client before : ℕ) (calls : List Call) → IsCallCount p client calls →
    (nat_le p.made before && not p.stopped) ≡ is_missing calls client before
number_of p held client before calls h = ap (λ m. nat_le m before && not p.stopped) h.made ∙
    ap (λ b. nat_le (made_by client calls) before && not b) h.stopped

seen_head : (client : ℕ) (rest : List ℕ) (behind : List Asked) → map (λ a. a.client) behind ≡ client ∷ rest
    → (a : Asked) × (more : List Asked) × (behind ≡ a ∷ more) × (a.client ≡ client) × (map (λ b. b.client) more ≡ rest)
seen_head client rest [] e = absurd (let h = e in cc)
seen_head client rest (a ∷ more) e = (a, more, refl, cc, cc)

pub seen_more : (work : Workload) (held : CallCounts) (seen seen' : FinMap nat_cmp ℕ) (client before number : ℕ)
    (rest behind : List ℕ) (p : CallCount) → AllSeen work held seen rest
    → rest ≡ client ∷ behind → before ≡ unwrap_or (get seen client) 0 → number ≡ before + 1 →
    seen' ≡ insert seen client number
    → ((calls : List Call) → Counts held calls → IsCallCount p client calls) →
    (nat_le p.made before && not p.stopped) ≡ false → AllSeen work held seen' behind
seen_more work held seen seen' client before number rest behind p all cut b n i so_far closed = λ asked calls w h.
    let s = all asked calls w h in
    let q = seen_head client behind s.behind (s.clients ∙ cut) in
    let a = q.0 in
    let more = q.1 in
    let is : before ≡ length (tasks_of client s.before) = b ∙ s.sees client in
    let not_it : is_missing calls a.client (length (tasks_of a.client s.before)) ≡ false =
    ap (λ k. is_missing calls k (length (tasks_of k s.before))) q.3 ∙ ap (is_missing calls client) (sym is) ∙
    sym (number_of p held client before calls (so_far calls h)) ∙ closed in
    record {
      before = a ∷ s.before;
      behind = more;
      clients = q.4;
      sees = λ k. elim (test client k) [
        | inl same ↦
            let here : (a.client == k) ≡ true = ap (λ x. x == k) q.3 ∙ same.0 in
            ap (λ (m : FinMap nat_cmp ℕ). unwrap_or (get m k) 0) i ∙
            ap (λ x. unwrap_or (get (insert seen client number) x) 0) (sym same.1)
            ∙ ap (λ o. unwrap_or o 0) (get_here seen client number) ∙ n ∙
            ap (λ m. m + 1) (is ∙ ap (λ x. length (tasks_of x s.before)) same.1) ∙
            one_more (length (tasks_of k s.before))
            ∙ ap (λ v. length (cond v (a.task ∷ tasks_of k s.before) (tasks_of k s.before))) (sym here)
        | inr other ↦
            let there : (a.client == k) ≡ false = ap (λ x. x == k) q.3 ∙ other.0 in
            ap (λ (m : FinMap nat_cmp ℕ). unwrap_or (get m k) 0) i ∙ ap (λ o. unwrap_or o 0)
            (get_other seen client number k other.1) ∙ s.sees k
            ∙ ap (λ v. length (cond v (a.task ∷ tasks_of k s.before) (tasks_of k s.before))) (sym there)
      ];
      same = s.same ∙ ap (first_missing calls s.before) q.2
          ∙ ap (λ v. cond v (Some (a.client, length (tasks_of a.client s.before) + 1))
          (first_missing calls (a ∷ s.before) more)) not_it;
    }
  where
    one_more : (n : ℕ) → n + 1 ≡ suc n
    one_more n = omega arith

-- what the code tests of a client
pub found_open : (a b : ℕ) (s : Bool) → a ≤ b → s ≡ false → (nat_le a b && not s) ≡ true
found_open a b s h e = grind (arith, nat_tests)

pub closed_by_stop : (a b : ℕ) (s : Bool) → not s ≡ false → (nat_le a b && not s) ≡ false
closed_by_stop a b s e = ap (λ t. nat_le a b && t) e ∙ never (nat_le a b)
  where
    never : (t : Bool) → (t && false) ≡ false
    never true = refl
    never false = refl

pub closed_by_made : (a b : ℕ) (s : Bool) → b < a → (nat_le a b && not s) ≡ false
closed_by_made a b s h = grind (arith, nat_tests)

-- this is the first task that is missing
abbrev pub IsMissing : Workload → CallCounts → Option (ℕ × ℕ) → Type 0
IsMissing work held found = (asked : List Asked) (calls : List Call) → IsWork work asked → Counts held calls →
    found ≡ first_missing calls [] asked

pub seen_missing : (work : Workload) (held : CallCounts) (seen : FinMap nat_cmp ℕ) (client before number : ℕ)
    (rest behind : List ℕ) (p : CallCount) → AllSeen work held seen rest
    → rest ≡ client ∷ behind → before ≡ unwrap_or (get seen client) 0 → number ≡ before + 1
    → ((calls : List Call) → Counts held calls → IsCallCount p client calls) →
    (nat_le p.made before && not p.stopped) ≡ true → IsMissing work held (Some (client, number))
seen_missing work held seen client before number rest behind p all cut b n so_far found = λ asked calls w h.
    let s = all asked calls w h in
    let q = seen_head client behind s.behind (s.clients ∙ cut) in
    let a = q.0 in
    let more = q.1 in
    let is : before ≡ length (tasks_of client s.before) = b ∙ s.sees client in
    let it : is_missing calls a.client (length (tasks_of a.client s.before)) ≡ true =
    ap (λ k. is_missing calls k (length (tasks_of k s.before))) q.3 ∙ ap (is_missing calls client) (sym is) ∙
    sym (number_of p held client before calls (so_far calls h)) ∙ found in
    sym (s.same ∙ ap (first_missing calls s.before) q.2
    ∙ ap (λ v. cond v (Some (a.client, length (tasks_of a.client s.before) + 1))
    (first_missing calls (a ∷ s.before) more)) it
    ∙ ap (λ k. Some (k, length (tasks_of k s.before) + 1)) q.3 ∙ ap (λ m. Some (client, m))
    (ap (λ m. m + 1) (sym is) ∙ sym n))

pub seen_all : (work : Workload) (held : CallCounts) (seen : FinMap nat_cmp ℕ) (rest : List ℕ) →
    AllSeen work held seen rest →
    rest ≡ [] → IsMissing work held None
seen_all work held seen rest all none = λ asked calls w h.
    let s = all asked calls w h in
    sym (s.same ∙ ap (first_missing calls s.before) (no_more s.behind (s.clients ∙ none)))
  where
    no_more : (behind : List Asked) → map (λ a. a.client) behind ≡ [] → behind ≡ []
    no_more [] e = refl
    no_more (a ∷ more) e = absurd (let h = e in cc)
