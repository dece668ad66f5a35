-- The desks from the opening of their manager to its end.
use Rattle.std.proofs.Common.{◌≡◌, ◌∙◌, ℕ, ◌+◌, ◌-◌, ◌/◌, ◌<◌, ◌≤◌, List, [], ◌∷◌, ◌++◌, refl, sym, ap, subst, arith}
use Rattle.std.specs.Prelude.{Ok, Err, All, Bool, true, false, ◌&&◌, ◌||◌, nat_le, nat_lt}
use Rattle.std.specs.List.{AllByRecursion, list_any}
use Rattle.std.proofs.lemmas.Bool.Decides.{nat_tests}
use Rattle.std.proofs.lemmas.List.Elements.{All-from_recursion, recursion_from_All, All-same, length_all_zip}
use Rattle.stm_core.specs.Client.{Record}
use Rattle.stm_core.specs.Event.{renewing}
use Rattle.stm_region.specs.Shown.{RegionShown}
use Rattle.vac_model.specs.declared.replies.Reply.{Reply}
use Rattle.vac_model.specs.declared.tasks.Task.{Task}
use Rattle.vac_model.specs.Code.{code}
use Rattle.vac_model.specs.State.{State, report}
use Rattle.vac_model.specs.Ranges.{is_task}
use Rattle.vac_manager.specs.declared.fault.Fault.{Fault}
use Rattle.vac_manager.specs.declared.fault.Fault.TheVariants as fault
use Rattle.vac_manager.specs.Law.{Shows}
use Rattle.vac_manager.specs.Called.{ClientShown, HasCalled}
use Rattle.vac_manager.specs.Opening.{Opens, ClosesInState}
use Rattle.vac_manager.specs.Renewed.{ClosesSomewhere}
use Rattle.vac_manager.specs.Called.{CallerShown}
use Rattle.ex_desk.specs.declared.desk.Desk.{Desk}
use Rattle.ex_desk.specs.declared.settings.DeskSettings.{DeskSettings}
use Rattle.ex_desk.specs.declared.rounds.OpenDesks.{OpenDesks}
use Rattle.ex_desk.specs.declared.run.DeskReport.{DeskReport}
use Rattle.ex_desk.specs.Trips.{stock_of}
use Rattle.ex_desk.specs.Desks.{asked, MayServe, new_desk, new_desks}
use Rattle.ex_desk.specs.Rounds.{WentOn, RoundRan, MayRun, HasRunRound}
use Rattle.ex_desk.specs.Run.{AreOn, AreEnded, Desked}
use Rattle.ex_desk.proofs.Rounding.{went_none, went_more, renewed_old}

some_false : (b : Bool) → b ≡ true → b ≡ false → ⊥
some_false b e f = cc

new_may : (s : DeskSettings) → All (MayServe s) new_desks
new_may s = All-from_recursion (MayServe s) new_desks (
  may 0 (omega arith),
  (may 1 (omega arith), (may 2 (omega arith), (may 3 (omega arith), tt))),
)
  where
    may : (number : ℕ) → number < 4 → MayServe s (new_desk number)
    may number l = record { number = l; within = omega arith }

-- the stock was added by the first call
pub on_first : (s : DeskSettings) (p : OpenDesks) (stripes : ℕ) (c : ClientShown) (t : Task) (reply : Reply) →
    Opens s.blocks s.last stripes p.manager c → HasCalled p.manager t 1 (Ok reply) c p.client →
    t ≡ stock_of s.units → p.desks.items ≡ new_desks → p.rounds ≡ 0 → AreOn s p
on_first s p stripes c t reply opens call task desks rounds =
    let none : c.value.records ≡ [] = ap (λ (x : ClientShown). x.value.records) opens.client_is in
    record {
      own = ap (λ (x : ClientShown). x.table) call.client ∙ ap (λ (x : ClientShown). x.table) opens.client_is;
      alone = call.grants ∙ ap (λ (x : ClientShown). x.value.grants) opens.client_is;
      room = opens.capacity;
      renewals = opens.renewal ∙ sym rounds;
      most = omega (arith, rounds);
      within = All-same (MayServe s) p.desks.items new_desks desks (new_may s);
      went = went_none s p.desks.items call.records.added p.client.value.records desks (
        reply,
        call.records.tag_is ∙ ap (λ (x : Task). code x reply) task,
      )
          (call.records.records ∙ ap (λ (l : List Record). l ++ (call.records.added ∷ [])) none);
    }

-- no other client was there to meet, and the clock was at its begin
pub only_memory : (s : DeskSettings) (stripes : ℕ) (region : RegionShown) (c c' : ClientShown) (t : Task) (e : Fault) →
    1 ≤ s.last → is_task t ≡ true → Opens s.blocks s.last stripes region c → HasCalled region t 1 (Err e) c c' →
    e ≡ fault.Memory
only_memory s stripes region c c' t fault.Arguments some range opens call =
    absurd (some_false (is_task t && (nat_le 1 1 && nat_le 1 1048576)) (rw range refl) (call.arguments.0 refl))
only_memory s stripes region c c' t fault.Memory some range opens call = refl
only_memory s stripes region c c' t (fault.Busy conflict) some range opens call =
    absurd (call.alone (ap (λ (x : ClientShown). x.value.grants) opens.client_is))
only_memory s stripes region c c' t (fault.Spent version) some range opens call =
    let at : c.value.floor ≡ region.last = call.next (ap (λ (x : ClientShown). x.value.grants) opens.client_is) in
    let none : c.value.floor ≡ 0 = ap (λ (x : ClientShown). x.value.floor) opens.client_is in
    absurd (omega (arith, at, none, opens.last_is, some))

-- after a renewal all desks may serve
pub may_run : (s : DeskSettings) (p : OpenDesks) (m : RegionShown) (c : ClientShown) (words : List ℕ) → AreOn s p →
    ClosesSomewhere p.manager p.client.value words → m.renewal ≡ p.manager.renewal + 1 →
    c ≡ record p.client { table = m.table; value = renewing p.client.value } →
    MayRun s p.desks.items (record { shared = m; user = c })
may_run s p m c words on closes next same =
    let four = length_all_zip (WentOn s.tries on.went.rest) new_desks p.desks.items on.went.each in
    let all : c.value.grants ≡ p.client.value.grants = ap (λ (x : ClientShown). x.value.grants) same in
    record {
      desks = on.within;
      enough = omega (arith, four, all, on.alone);
      most = omega (arith, all, on.alone);
      old = renewed_old p.manager m p.client c words closes next (ap (λ (x : ClientShown). x.value.records) same);
    }

ended_each : (s : DeskSettings) (ds : List Desk) → AllByRecursion (MayServe s) ds →
    list_any (λ d. nat_lt (asked d) s.trips) ds ≡ false → AllByRecursion (λ d. asked d ≡ s.trips) ds
ended_each s [] h e = tt
ended_each s (d ∷ ds) h e = go (nat_lt (asked d) s.trips) refl e (λ k. ended_each s ds h.1 k)
  where
    go : (b : Bool) → nat_lt (asked d) s.trips ≡ b → (b || list_any (λ x. nat_lt (asked x) s.trips) ds) ≡ false →
        (list_any (λ x. nat_lt (asked x) s.trips) ds ≡ false → AllByRecursion (λ x. asked x ≡ s.trips) ds) →
        AllByRecursion (λ x. asked x ≡ s.trips) (d ∷ ds)
    go true f k m = absurd (some_false true refl k)
    go false f k m = (let w = h.0.within in grind (arith, nat_tests, f, w), m k)

-- no desk has a trip left
pub all_ended : (s : DeskSettings) (ds : List Desk) → All (MayServe s) ds →
    list_any (λ d. nat_lt (asked d) s.trips) ds ≡ false → All (λ d. asked d ≡ s.trips) ds
all_ended s ds h e = All-from_recursion (λ d. asked d ≡ s.trips) ds
    (ended_each s ds (recursion_from_All (MayServe s) ds h) e)

-- one round more was run after a renewal
pub on_more : (s : DeskSettings) (p q : OpenDesks) (m : RegionShown) (c : ClientShown) (y : CallerShown)
    (words : List ℕ) → AreOn s p → p.rounds < s.rounds → ClosesSomewhere p.manager p.client.value words →
    m.size ≡ p.manager.size → m.renewal ≡ p.manager.renewal + 1 →
    c ≡ record p.client { table = m.table; value = renewing p.client.value } →
    HasRunRound s p.desks.items q.desks.items (record { shared = m; user = c }) y → q.manager ≡ m →
    q.client ≡ y.user →
    q.rounds ≡ p.rounds + 1 → AreOn s q
on_more s p q m c y words on less closes size next same run manager client rounds =
    let grants : q.client.value.grants ≡ y.user.value.grants = ap (λ (x : ClientShown). x.value.grants) client in
    let all : c.value.grants ≡ p.client.value.grants = ap (λ (x : ClientShown). x.value.grants) same in
    let before : c.value.records ≡ p.client.value.records = ap (λ (x : ClientShown). x.value.records) same in
    let ran : RoundRan s.tries m.renewal p.desks.items q.desks.items p.client.value.records
    y.user.value.records
    =
    subst (λ (l : List Record). RoundRan s.tries m.renewal p.desks.items q.desks.items l
    y.user.value.records)
    before run.ran in
    record {
      own = ap (λ (x : ClientShown). x.table) client ∙ (run.own ∙
          (ap (λ (x : ClientShown). x.table) same ∙ ap (λ (x : RegionShown). x.table) (sym manager)));
      alone = grants ∙ (run.grants ∙ (all ∙ on.alone));
      room = ap (λ (x : RegionShown). (x.size - 16) / 8) manager ∙ (ap (λ (k : ℕ). (k - 16) / 8) size ∙ on.room);
      renewals = ap (λ (x : RegionShown). x.renewal) manager ∙
          (next ∙ (ap (λ (k : ℕ). k + 1) on.renewals ∙ sym rounds));
      most = omega (arith, rounds, less);
      within = run.desks;
      went = went_more s m.renewal p.desks.items q.desks.items p.client.value.records q.client.value.records
          (renewed_old p.manager m p.client p.client words closes next refl) on.went
          (subst (λ (x : ClientShown). RoundRan s.tries m.renewal p.desks.items q.desks.items
          p.client.value.records x.value.records) (sym client) ran);
    }

-- the manager was closed
pub desked : (s : DeskSettings) (p : OpenDesks) (words : List ℕ) (version : ℕ) (r : DeskReport) → AreOn s p →
    AreEnded s p.desks.items p.rounds → ClosesInState p.manager p.client.value words version →
    ((x : State) → Shows words x → report x ≡ r.report) → r.desks ≡ p.desks → r.rounds ≡ p.rounds → Desked s r
desked s p words version r on ended closes shows desks rounds = rw (desks, rounds) (record {
  region = p.manager;
  client = p.client.value;
  words = words;
  version = version;
  closes = closes;
  alone = on.alone;
  room = on.room;
  shown = shows closes.last closes.shown;
  renewals = on.renewals;
  went = on.went;
  within = on.within;
  most = on.most;
  ended = ended;
})
