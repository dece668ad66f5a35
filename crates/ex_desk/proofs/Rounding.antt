-- Rounds of all desks, one after the other.
use Rattle.std.proofs.Common.{◌≡◌, ◌∙◌, ℕ, zero, suc, ◌+◌, ◌-◌, ◌<◌, inl, inr, min, Bool, true, false, cond, List, []}
use Rattle.std.proofs.Common.{◌∷◌, ◌++◌, Option, Some, None, length, length-append, append-nil, refl, sym, ap, subst}
use Rattle.std.proofs.Common.{arith}
use Rattle.std.specs.List.{AllZip}
use Rattle.std.proofs.lemmas.List.Elements.{All-nil, All-push, All-pop, AllZip-push}
use Rattle.tx_memory.specs.Image.{In}
use Rattle.stm_core.specs.Client.{Record, before, rank, inserted, merged}
use Rattle.stm_core.specs.History.{Sub, done}
use Rattle.stm_core.proofs.Merging.{sub_trans, sub_left, in_sub}
use Rattle.stm_core.proofs.Orders.{in_merged}
use Rattle.stm_region.specs.Shown.{RegionShown, with_gathered}
use Rattle.stm_object.specs.Callers.{gathered}
use Rattle.vac_manager.specs.Called.{ClientShown, CallerShown, Splits}
use Rattle.vac_manager.specs.Renewed.{ClosesSomewhere}
use Rattle.stm_object.proofs.Adding.{not_earlier}
use Rattle.ex_desk.specs.declared.desk.Desk.{Desk}
use Rattle.ex_desk.specs.declared.settings.DeskSettings.{DeskSettings}
use Rattle.ex_desk.specs.Desks.{asked, AreOfRenewal, BookedTrips, HasBooked, MayServe}
use Rattle.ex_desk.specs.Desks.{session_of, HasServed, new_desks}
use Rattle.ex_desk.specs.Desks.{new_desk}
use Rattle.ex_desk.specs.Rounds.{AreOld, ArePaid, WentOn, booked_by, RoundRan, MayRun, HasRunRound}
use Rattle.ex_desk.specs.Run.{IsStock, Went}
use Rattle.ex_desk.proofs.Booking.{in_none, booked_none, booked_both, sub_both, sub_beyond, length_trips}
use Rattle.ex_desk.proofs.Booking.{paid_between, paid_both}

length_cond : (b : Bool) (xs ys : List Record) (n : ℕ) → length xs ≡ n → length ys ≡ n → length (cond b xs ys) ≡ n
length_cond true xs ys n e f = e
length_cond false xs ys n e f = f

length_inserted : (r : Record) (xs : List Record) → length (inserted r xs) ≡ suc (length xs)
length_inserted r [] = refl
length_inserted r (x ∷ xs) = length_cond (before r x) (r ∷ x ∷ xs) (x ∷ inserted r xs) (suc (suc (length xs))) refl
    (ap suc (length_inserted r xs))

length_merged : (xs ys : List Record) → length (merged xs ys) ≡ length xs + length ys
length_merged xs [] = omega arith
length_merged xs (y ∷ ys) = let e = length_merged (inserted y xs) ys in let f = length_inserted y xs in
    omega (arith, e, f)

-- a record that stands before none of the first is put behind them
inserted_behind : (r : Record) (o l : List Record) → ((x : Record) → In x o → before r x ≡ false) →
    inserted r (o ++ l) ≡ o ++ inserted r l
inserted_behind r [] l f = refl
inserted_behind r (x ∷ o) l f = rw (f x (zero, refl)) (ap (λ (m : List Record). x ∷ m)
    (inserted_behind r o l (λ y i. f y (suc i.0, i.1))))

merged_behind : (o l m : List Record) → ((x y : Record) → In x o → In y m → before y x ≡ false) →
    merged (o ++ l) m ≡ o ++ merged l m
merged_behind o l [] f = refl
merged_behind o l (y ∷ m) f =
    ap (λ (k : List Record). merged k m) (inserted_behind y o l (λ x i. f x y i (zero, refl)))
    ∙ merged_behind o (inserted y l) m (λ x z i j. f x z i (suc j.0, j.1))

older_first : (n : ℕ) (x y : Record) → x.renewal < n → y.renewal ≡ n → before y x ≡ false
older_first n x y old now =
    not_earlier y.renewal (rank y) y.point x.renewal (rank x) x.point (omega (arith, old, now))
    (λ e. absurd (omega (arith, old, now, e)))

apart : (n : ℕ) (old now : List Record) → AreOld n old → AreOfRenewal n now → (r : Record) → In r now → In r old → ⊥
apart n old now f g r i j = let p = f r j in let q = g r i in omega (arith, p, q)

-- how many records a desk's trips have
counted : (d d' : Desk) (x : BookedTrips) → HasBooked d d' x → length x.records + d.booked ≡ d'.booked
counted d d' x h = let n = length_trips d.number x.trips x.records h.are_of in omega (arith, n, h.booked)

booked_more : (ds : List Desk) (d : Desk) → booked_by (ds ++ d ∷ []) ≡ booked_by ds + d.booked
booked_more [] d = omega arith
booked_more (e ∷ ds) d = let k = booked_by (ds ++ d ∷ []) in omega (arith, booked_more ds d)

went_among : (price : ℕ) (rest all : List Record) → Sub rest all → (d d' : Desk) → WentOn price rest d d' →
    WentOn price all d d'
went_among price rest all p d d' h = record {
  done = h.done;
  booked = h.booked;
  among = sub_trans h.among p;
  paid = h.paid;
}

each_among : (price : ℕ) (rest all : List Record) → Sub rest all → (ds ds' : List Desk) →
    AllZip (WentOn price rest) ds ds' → AllZip (WentOn price all) ds ds'
each_among price rest all p [] [] h = tt
each_among price rest all p [] (d' ∷ ds') h = absurd h
each_among price rest all p (d ∷ ds) [] h = absurd h
each_among price rest all p (d ∷ ds) (d' ∷ ds') h = (
  went_among price rest all p d d' h.0,
  each_among price rest all p ds ds' h.1,
)

-- one client more was gathered
round_more : (price n : ℕ) (ds ds' : List Desk) (d d' : Desk) (old now all : List Record) (x : BookedTrips) →
    AreOld n old →
    RoundRan price n ds ds' old now → HasBooked d d' x → ArePaid price x.trips x.records → AreOfRenewal n x.records →
    all ≡ merged now x.records → Sub x.records all → RoundRan price n (ds ++ d ∷ []) (ds' ++ d' ∷ []) old all
round_more price n ds ds' d d' old now all x past h b paid new e s =
    let rest : List Record = merged h.rest x.records in
    let behind : all ≡ old ++ rest =
    e ∙ (ap (λ (l : List Record). merged l x.records) h.behind
    ∙ merged_behind old h.rest x.records (λ r q i j. older_first n r q (past r i) (new q j))) in
    let mine : Sub x.records rest =
    sub_beyond old x.records rest (apart n old x.records past new)
    (subst (λ (l : List Record). Sub x.records l) behind s) in
    record {
      rest = rest;
      behind = behind;
      renewals = λ r i. elim (in_merged h.rest x.records r i) [ inl j ↦ h.renewals r j | inr j ↦ new r j ];
      each = AllZip-push (WentOn price rest) ds ds' d d' (each_among price h.rest rest
          (sub_left h.rest x.records) ds ds' h.each) (record { done = x; booked = b; among = mine; paid = paid });
      number = omega (
        arith,
        length_merged h.rest x.records,
        h.number,
        counted d d' x b,
        booked_more ds d,
        booked_more ds' d',
      );
    }

-- no desk is left
pub has_run_none : (s : DeskSettings) (ds ds' : List Desk) (y : CallerShown) → length ds ≡ 0 → ds ≡ ds' ++ [] →
    HasRunRound s ds ds' y y
has_run_none s [] [] y none e = record {
  manager = refl;
  own = refl;
  grants = refl;
  desks = All-nil (MayServe s);
  ran = record {
    rest = [];
    behind = sym (append-nil y.user.value.records);
    renewals = λ r i. absurd (in_none r i);
    each = tt;
    number = refl;
  };
}
has_run_none s [] (d' ∷ ds') y none e = absurd (omega (arith, ap length e))
has_run_none s (d ∷ ds) ds' y none e = absurd (omega (arith, none))

pub has_run_end : (s : DeskSettings) (ds ds' : List Desk) (popped : Option Desk) (y : CallerShown) → popped ≡ None →
    ds ≡ ds' ++ [] → length ds ≡ 0 → HasRunRound s ds ds' y y
has_run_end s ds ds' popped y e f none = has_run_none s ds ds' y none f

-- a client was split off, and both callers ended
pub split_off : (m : RegionShown) (before after other : ClientShown) (x y z : CallerShown) → x ≡ session_of m before →
    Splits x.user y.user z.user → after ≡ y.user → other ≡ z.user → Splits before after other
split_off m before after other x y z ex h ey ez =
    subst (λ (c : ClientShown). Splits before after c) (sym ez)
    (subst (λ (c : ClientShown). Splits before c z.user) (sym ey)
    (subst (λ (u : CallerShown). Splits u.user y.user z.user) ex h))

-- the last desk's client is split off
pub may_last : (s : DeskSettings) (all ds : List Desk) (d : Desk) (y : CallerShown) → all ≡ ds ++ d ∷ [] →
    MayRun s all y → MayServe s d
may_last s all ds d y e h = (All-pop (MayServe s) all ds (Some d) e h.desks).1

pub may_rest : (s : DeskSettings) (all ds : List Desk) (d : Desk) (y a : CallerShown) (other : ClientShown) →
    all ≡ ds ++ d ∷ [] → MayRun s all y → a.shared ≡ y.shared → Splits y.user a.user other → MayRun s ds a
may_rest s all ds d y a other e h same split =
    let more : length all ≡ length ds + 1 = ap length e ∙ length-append ds (d ∷ []) in
    let left : a.user.value.grants ≡ y.user.value.grants - 1 =
    ap (λ (x : ClientShown). x.value.grants) split.mine in
    record {
      desks = (All-pop (MayServe s) all ds (Some d) e h.desks).0;
      enough = omega (arith, more, left, h.enough);
      most = omega (arith, left, h.most);
      old = λ r i. subst (λ (m : RegionShown). r.renewal < m.renewal) (sym same)
          (h.old r (subst (λ (x : ClientShown). In r x.value.records) split.mine i));
    }

-- a client of the manager took in another one
pub took : (m : RegionShown) (r p t : ClientShown) (x y z : CallerShown) → x ≡ session_of m r → y ≡ session_of m p →
    z ≡ gathered x y → t ≡ z.user → session_of m t ≡ gathered (session_of m r) (session_of m p)
took m r p t x y z ex ey ez et =
    let whole : z ≡ gathered (session_of m r) (session_of m p) =
    ez ∙ (ap (λ (u : CallerShown). gathered u y) ex ∙ ap (λ (u : CallerShown). gathered (session_of m r) u) ey) in
    ap (λ (c : ClientShown). session_of m c) (et ∙ ap (λ (u : CallerShown). u.user) whole)

pub took_theirs : (m : RegionShown) (p t : ClientShown) (y z : CallerShown) → y ≡ session_of m p → t ≡ z.user →
    Sub y.user.value.records z.user.value.records → Sub p.value.records t.value.records
took_theirs m p t y z ey et h =
    subst (λ (l : List Record). Sub p.value.records l) (sym (ap (λ (c : ClientShown). c.value.records) et))
    (subst (λ (u : CallerShown). Sub u.user.value.records z.user.value.records) ey h)

-- the last desk served beside the others, and its client was gathered
pub has_run_more : (s : DeskSettings) (all ds ds' : List Desk) (d d' : Desk) (y a b c o o' : CallerShown) →
    all ≡ ds ++ d ∷ [] → MayRun s all y →
    a.shared ≡ y.shared → Splits y.user a.user o.user → o.shared ≡ y.shared → HasServed s d d' o o' →
    HasRunRound s ds ds' a b →
    c ≡ record b { user = record b.user { value = with_gathered b.user.value o'.user.value } } →
    Sub o'.user.value.records c.user.value.records →
    HasRunRound s all (ds' ++ d' ∷ []) y c
has_run_more s all ds ds' d d' y a b c o o' e may am split om one run taken theirs =
    let left : a.user.value.grants ≡ y.user.value.grants - 1 =
    ap (λ (x : ClientShown). x.value.grants) split.mine in
    let none : o.user.value.grants ≡ 0 = ap (λ (x : ClientShown). x.value.grants) split.theirs in
    let held : c.user.value.grants ≡ min (b.user.value.grants + o'.user.value.grants + 1) 63 =
    ap (λ (x : CallerShown). x.user.value.grants) taken in
    let kept : a.user.value.records ≡ y.user.value.records = ap (λ (x : ClientShown). x.value.records) split.mine in
    let fresh : o.user.value.records ≡ [] = ap (λ (x : ClientShown). x.value.records) split.theirs in
    let mine : o'.user.value.records ≡ one.serves.done.records =
    one.serves.records ∙ ap (λ (l : List Record). l ++ one.serves.done.records) fresh in
    let gathered : c.user.value.records ≡ merged b.user.value.records one.serves.done.records =
    ap (λ (x : CallerShown). x.user.value.records) taken ∙
    ap (λ (l : List Record). merged b.user.value.records l) mine in
    let ran : RoundRan s.tries y.shared.renewal ds ds' y.user.value.records b.user.value.records =
    subst (λ (l : List Record). RoundRan s.tries y.shared.renewal ds ds' l b.user.value.records) kept
    (subst (λ (m : RegionShown). RoundRan s.tries m.renewal ds ds' a.user.value.records
    b.user.value.records)
    am run.ran) in
    let paid : ArePaid s.tries one.serves.done.trips one.serves.done.records =
    paid_between s.tries o.user.value.attempt.number
    (asked d) one.serves.done.trips one.serves.done.records
    (asked d') o'.user.value.attempt.number one.serves.paid in
    record {
      manager = ap (λ (x : CallerShown). x.shared) taken ∙ (run.manager ∙ am);
      own = ap (λ (x : CallerShown). x.user.table) taken ∙ (run.own ∙ ap (λ (x : ClientShown). x.table) split.mine);
      grants = omega (arith, held, run.grants, one.serves.grants, left, none, split.some, may.most);
      desks = All-push (MayServe s) ds' d' run.desks one.serves.may;
      ran = subst (λ (l : List Desk). RoundRan s.tries y.shared.renewal l
          (ds' ++ d' ∷ []) y.user.value.records c.user.value.records) (sym e)
          (round_more s.tries y.shared.renewal ds ds' d d' y.user.value.records b.user.value.records
          c.user.value.records one.serves.done may.old ran one.serves.booked paid
          (subst (λ (m : RegionShown). AreOfRenewal m.renewal one.serves.done.records) om one.serves.renewals)
          gathered (subst (λ (l : List Record). Sub l c.user.value.records) mine theirs));
    }

-- a desk went on, and then on again, in other renewals
on_both : (price : ℕ) (d e f : Desk) (rest more : List Record) →
    ((r q : Record) → In r rest → In q more → r.renewal ≡ q.renewal → ⊥) → WentOn price rest d e →
    WentOn price more e f → WentOn price (rest ++ more) d f
on_both price d e f rest more apart_of h k = record {
  done = record { trips = h.done.trips ++ k.done.trips; records = h.done.records ++ k.done.records };
  booked = booked_both d e f h.done k.done h.booked k.booked;
  among = sub_both k.done.records more h.among k.among;
  paid = paid_both price d.number h.done.trips k.done.trips h.done.records k.done.records h.booked.are_of h.paid k.paid
      (λ r q i j. apart_of r q (in_sub r h.among i) (in_sub q k.among j));
}

each_both : (price : ℕ) (ds es fs : List Desk) (rest more : List Record) →
    ((r q : Record) → In r rest → In q more → r.renewal ≡ q.renewal → ⊥) → AllZip (WentOn price rest) ds es →
    AllZip (WentOn price more) es fs → AllZip (WentOn price (rest ++ more)) ds fs
each_both price [] [] [] rest more a h k = tt
each_both price [] [] (f ∷ fs) rest more a h k = absurd k
each_both price [] (e ∷ es) fs rest more a h k = absurd h
each_both price (d ∷ ds) [] fs rest more a h k = absurd h
each_both price (d ∷ ds) (e ∷ es) [] rest more a h k = absurd k
each_both price (d ∷ ds) (e ∷ es) (f ∷ fs) rest more a h k =
    (on_both price d e f rest more a h.0 k.0, each_both price ds es fs rest more a h.1 k.1)

-- before the first round
pub went_none : (s : DeskSettings) (ds : List Desk) (r : Record) (records : List Record) → ds ≡ new_desks →
    IsStock s.units r → records ≡ r ∷ [] → Went s ds records
went_none s ds r records e h one = record {
  stock = r;
  stock_is = h;
  rest = [];
  stock_first = one;
  each = subst (λ (l : List Desk). AllZip (WentOn s.tries []) new_desks l) (sym e) (
    none (new_desk 0),
    (none (new_desk 1), (none (new_desk 2), (none (new_desk 3), tt))),
  );
  number = sym (ap booked_by e);
}
  where
    none : (d : Desk) → WentOn s.tries [] d d
    none d = record { done = record { trips = []; records = [] }; booked = booked_none d; among = done; paid = tt }

-- one round more
pub went_more : (s : DeskSettings) (n : ℕ) (ds ds' : List Desk) (old all : List Record) → AreOld n old → Went s ds old →
    RoundRan s.tries n ds ds' old all → Went s ds' all
went_more s n ds ds' old all past h k = record {
  stock = h.stock;
  stock_is = h.stock_is;
  rest = h.rest ++ k.rest;
  stock_first = k.behind ∙ ap (λ (l : List Record). l ++ k.rest) h.stock_first;
  each = each_both s.tries new_desks ds ds' h.rest k.rest
      (λ r q i j same. (let p = past r (subst (λ (l : List Record). In r l) (sym h.stock_first) (suc i.0, i.1)) in
      let o = k.renewals q j in omega (arith, p, o, same))) h.each k.each;
  number = omega (arith, length-append h.rest k.rest, h.number, k.number);
}

-- after a renewal all records are of earlier ones
pub renewed_old : (region region' : RegionShown) (c c' : ClientShown) (words : List ℕ) →
    ClosesSomewhere region c.value words → region'.renewal ≡ region.renewal + 1 → c'.value.records ≡ c.value.records →
    AreOld region'.renewal c'.value.records
renewed_old region region' c c' words h e same = λ r i. (let past =
    h.1.ends.eras r (subst (λ (l : List Record). In r l) same i) in omega (arith, e, past))
