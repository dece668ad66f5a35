-- The calls of a load are those of its records.
use Rattle.std.proofs.Common.{◌≡◌, ℕ, zero, suc, List, [], ◌∷◌, ◌++◌, get_or, set, map, refl, sym, ap, subst}
use Rattle.stm_core.specs.Client.{Record}
use Rattle.load_tasks.specs.declared.settings.Settings.{Settings}
use Rattle.vac_manager.specs.declared.note.CompletedCall.{CompletedCall}
use Rattle.vac_manager.specs.Keeping.{IsNoted}
use Rattle.load_record.specs.Turns.{EachInTurn}
use Rattle.load_record.specs.Order.{Entry, entries_of, entries_from, Interleaves, IsMerged, AreOrdered}
use Rattle.load_record.specs.History.{call_of_entry}
use Rattle.load_record.specs.Legal.{AreCallsOf, AreRecorded, AreLegal}
use Rattle.load_record.specs.Loads.{MadeHistory}
use Rattle.load_record.specs.Pages.{Page, calls_on}
use Rattle.load_record.proofs.Legality.{ordered_calls_legal}
use Rattle.load_run.specs.Lists.{Paired, none, both}
use Rattle.load_run.specs.Several.{Interleaved, no_more, of_first, of_second}
use Rattle.load_run.specs.Load.{InterleavedAll}
use Rattle.load_run.specs.declared.summary.LoadSummary.{LoadSummary}
use Rattle.cli_main.specs.Load.{HasNoted}

-- the calls are those of the records at their places
abbrev OfRecords : List Entry → List Record → Type 0
OfRecords es rs = Paired (λ e r. IsNoted e.note r) es rs

abbrev EachOfRecords : List (List Entry) → List (List Record) → Type 0
EachOfRecords lists records = Paired OfRecords lists records

entries_paired : (client : ℕ) (notes : List CompletedCall) (rs : List Record) → Paired IsNoted notes rs →
    OfRecords (entries_of client notes) rs
entries_paired client [] [] none = none
entries_paired client (n ∷ notes) (r ∷ rs) (both h hs) = both h (entries_paired client notes rs hs)
entries_paired client [] (r ∷ rs) hs = elim hs [ ]
entries_paired client (n ∷ notes) [] hs = elim hs [ ]

lists_paired : {X : Type 0} (records_of : X → List Record) (first : ℕ) (kept : List (List CompletedCall))
    (xs : List X) →
    Paired (λ notes x. Paired IsNoted notes (records_of x)) kept xs →
    EachOfRecords (entries_from first kept) (map records_of xs)
lists_paired records_of first [] [] none = none
lists_paired records_of first (notes ∷ kept) (x ∷ xs) (both h hs) =
    both (entries_paired first notes (records_of x) h) (lists_paired records_of (suc first) kept xs hs)
lists_paired records_of first [] (x ∷ xs) hs = elim hs [ ]
lists_paired records_of first (notes ∷ kept) [] hs = elim hs [ ]

-- lists of records as one
abbrev Joined : List (List Record) → List Record → Type 0
Joined lists all = InterleavedAll (λ (l : List Record). l) lists all

joined : {X : Type 0} (records_of : X → List Record) (xs : List X) (all : List Record) →
    InterleavedAll records_of xs all → Joined (map records_of xs) all
joined records_of [] all h = h
joined records_of (x ∷ xs) all h = (h.0, h.1, joined records_of xs h.0 h.2)

second_alone : (ys : List Record) → Interleaved [] ys ys
second_alone [] = no_more
second_alone (y ∷ ys) = of_second y (second_alone ys)

one_behind : (xs ys : List Record) → Interleaved xs ys (xs ++ ys)
one_behind [] ys = second_alone ys
one_behind (x ∷ xs) ys = of_first x (one_behind xs ys)

-- ---- a record is taken out of them

-- the record stands in the midst, and this holds of the others
abbrev Midst : Record → List Record → (List Record → Type 0) → Type 0
Midst r all P = (first : List Record) × (more : List Record) × (all ≡ first ++ r ∷ more) × P (first ++ more)

nothing_before : (first more : List Record) (r : Record) → [] ≡ first ++ r ∷ more → ⊥
nothing_before [] more r e = cc
nothing_before (x ∷ first) more r e = cc

head_same : (x y : Record) (xs ys : List Record) → x ∷ xs ≡ y ∷ ys → x ≡ y
head_same x y xs ys e = cc

tail_same : (x y : Record) (xs ys : List Record) → x ∷ xs ≡ y ∷ ys → xs ≡ ys
tail_same x y xs ys e = cc

out_of_first : {ps ys zs : List Record} → Interleaved ps ys zs → (x : Record) (xs : List Record) → ps ≡ x ∷ xs →
    Midst x zs (λ l. Interleaved xs ys l)
out_of_first no_more x xs e = absurd (nothing_before [] xs x e)
out_of_first (of_first p {xs = ps} {ys = ys} {zs = zs} h) x xs e = (
  [],
  zs,
  ap (λ (r : Record). r ∷ zs) (head_same p x ps xs e),
  subst (λ (l : List Record). Interleaved l ys zs) (tail_same p x ps xs e) h,
)
out_of_first (of_second y h) x xs e =
    let q = out_of_first h x xs e in
    (y ∷ q.0, q.1, ap (λ (l : List Record). y ∷ l) q.2, of_second y q.3)

out_of_second : {xs ps zs : List Record} → Interleaved xs ps zs →
    (first : List Record) (r : Record) (more : List Record) → ps ≡ first ++ r ∷ more →
    Midst r zs (λ l. Interleaved xs (first ++ more) l)
out_of_second no_more first r more e = absurd (nothing_before first more r e)
out_of_second (of_first x h) first r more e =
    let q = out_of_second h first r more e in
    (x ∷ q.0, q.1, ap (λ (l : List Record). x ∷ l) q.2, of_first x q.3)
out_of_second (of_second p {xs = xs} {ys = ps} {zs = zs} h) [] r more e = (
  [],
  zs,
  ap (λ (x : Record). x ∷ zs) (head_same p r ps more e),
  subst (λ (l : List Record). Interleaved xs l zs) (tail_same p r ps more e) h,
)
out_of_second (of_second p {xs = xs} {ys = ps} {zs = zs} h) (y ∷ first) r more e =
    let q = out_of_second h first r more (tail_same p y ps (first ++ r ∷ more) e) in (
      p ∷ q.0,
      q.1,
      ap (λ (l : List Record). p ∷ l) q.2,
      subst (λ (x : Record). Interleaved xs (x ∷ (first ++ more)) (p ∷ (q.0 ++ q.1)))
          (head_same p y ps (first ++ r ∷ more) e) (of_second p q.3),
    )

taken_out : (lists : List (List Record)) (place : ℕ) (r : Record) (rest all : List Record) → Joined lists all →
    get_or lists place [] ≡ r ∷ rest → Midst r all (λ l. Joined (set lists place rest) l)
taken_out [] place r rest all h e = absurd (nothing_before [] rest r e)
taken_out (xs ∷ lists) zero r rest all h e =
    let q = out_of_first h.1 r rest e in
    (q.0, q.1, q.2, (h.0, q.3, h.2))
taken_out (xs ∷ lists) (suc place) r rest all h e =
    let o = taken_out lists place r rest h.0 h.2 e in
    let q = out_of_second h.1 o.0 r o.1 o.2 in
    (q.0, q.1, q.2, (o.0 ++ o.1, q.3, o.3))

-- ---- with its call

-- the first record of the calls that begin with this one
abbrev Heads : Entry → List Entry → List Record → Type 0
Heads e es rs = (r : Record) × (rest : List Record) × (rs ≡ r ∷ rest) × IsNoted e.note r × OfRecords es rest

head_of : (e : Entry) (es : List Entry) (rs : List Record) → OfRecords (e ∷ es) rs → Heads e es rs
head_of e es (r ∷ rest) (both h hs) = (r, rest, refl, h, hs)
head_of e es [] hs = elim hs [ ]

-- at a place
abbrev HeadsAt : List (List Entry) → List (List Record) → ℕ → Entry → List Entry → Type 0
HeadsAt lists records place e es =
    (r : Record) × (rest : List Record) × (get_or records place [] ≡ r ∷ rest) × IsNoted e.note r ×
    EachOfRecords (set lists place es) (set records place rest)

no_entries : (e : Entry) (es : List Entry) → [] ≡ e ∷ es → ⊥
no_entries e es h = cc

heads_at : (lists : List (List Entry)) (records : List (List Record)) → EachOfRecords lists records →
    (place : ℕ) (e : Entry) (es : List Entry) → get_or lists place [] ≡ e ∷ es → HeadsAt lists records place e es
heads_at [] [] none place e es at = absurd (no_entries e es at)
heads_at (xs ∷ lists) (rs ∷ records) (both h hs) zero e es at =
    let q = head_of e es rs (subst (λ (l : List Entry). OfRecords l rs) at h) in
    (q.0, q.1, q.2, q.3, both q.4 hs)
heads_at (xs ∷ lists) (rs ∷ records) (both h hs) (suc place) e es at =
    let q = heads_at lists records hs place e es at in
    (q.0, q.1, q.2, q.3, both h q.4)
heads_at [] (rs ∷ records) hs place e es at = elim hs [ ]
heads_at (xs ∷ lists) [] hs place e es at = elim hs [ ]

-- without calls there are no records
empty_both : {xs ys zs : List Record} → Interleaved xs ys zs → xs ≡ [] → ys ≡ [] → zs ≡ []
empty_both no_more e f = refl
empty_both (of_first x {xs = xs} h) e f = absurd (nothing_before [] xs x (sym e))
empty_both (of_second y {ys = ys} h) e f = absurd (nothing_before [] ys y (sym f))

no_records : (es : List Entry) (rs : List Record) → OfRecords es rs → es ≡ [] → rs ≡ []
no_records [] [] none e = refl
no_records (x ∷ es) rs h e = absurd (no_entries x es (sym e))
no_records [] (r ∷ rs) h e = elim h [ ]

none_left : (lists : List (List Entry)) (records : List (List Record)) (all : List Record) →
    EachOfRecords lists records → ((place : ℕ) → get_or lists place [] ≡ []) → Joined records all → all ≡ []
none_left [] [] all none bare h = h
none_left (xs ∷ lists) (rs ∷ records) all (both k ks) bare h =
    empty_both h.1 (no_records xs rs k (bare 0)) (none_left lists records h.0 ks (λ place. bare (suc place)) h.2)
none_left [] (rs ∷ records) all ks bare h = elim ks [ ]
none_left (xs ∷ lists) [] all ks bare h = elim ks [ ]

calls_of : (lists : List (List Entry)) (all : List Entry) (records : List (List Record)) (history : List Record) →
    Interleaves lists all → EachOfRecords lists records → Joined records history →
    AreCallsOf (map (λ e. e.note) all) history
calls_of lists [] records history h pairs once = none_left lists records history pairs h once
calls_of lists (e ∷ all) records history h pairs once =
    let t = h.1 in
    let b = heads_at lists records pairs t.place e t.rest t.first in
    let o = taken_out records t.place b.0 b.1 history once b.2 in
    let left = subst (λ (ls : List (List Entry)). EachOfRecords ls (set records t.place b.1)) (sym t.left) b.4 in
    (o.0, b.0, o.1, o.2, b.3, calls_of h.0 all (set records t.place b.1) (o.0 ++ o.1) h.2 left o.3)

-- ---- the whole load

recorded : {n : LoadSummary} (s : Settings) (opening : List CompletedCall) (clients : List (List CompletedCall))
    (all : List Entry)
    (h : HasNoted s n opening clients) → IsMerged (opening ∷ clients) all → AreRecorded s.blocks all h.loaded.last
recorded s opening clients all h merged =
    let l = h.loaded in
    let shares : List (List Record) = map (λ x. x.records) l.shares in
    let pairs : EachOfRecords (entries_from 0 (opening ∷ clients)) (l.opened ∷ shares) =
    both (entries_paired 0 opening l.opened h.of_opening) (lists_paired
    (λ x. x.records) 1 clients l.shares h.of_clients) in
    let once : Joined (l.opened ∷ shares) (l.opened ++ l.rest) =
    (l.rest, one_behind l.opened l.rest, joined (λ x. x.records) l.shares l.rest l.each_once) in
    record {
      history = l.history;
      legal = l.legal;
      sorted = l.in_order;
      versioned = l.versioned;
      calls = subst (λ (rs : List Record). AreCallsOf (map (λ e. e.note) all) rs) (sym l.opening_first)
          (calls_of (entries_from 0 (opening ∷ clients)) all (l.opened ∷ shares)
          (l.opened ++ l.rest) merged.each_once pairs once);
    }

pub load_legal : {n : LoadSummary} (s : Settings) (opening : List CompletedCall) (clients : List (List CompletedCall))
    (all : List Entry)
    (h : HasNoted s n opening clients) → IsMerged (opening ∷ clients) all → EachInTurn (opening ∷ clients) →
    AreOrdered (map (λ e. e.note) all) → AreLegal s.blocks (map call_of_entry all) h.loaded.last
load_legal s opening clients all h merged turns ordered =
    ordered_calls_legal s.blocks (opening ∷ clients) all h.loaded.last
    (recorded s opening clients all h merged) merged turns ordered

-- ---- the calls of one client after those of the other

-- nothing comes between
second_only : {xs ys zs : List Record} → Interleaved xs ys zs → xs ≡ [] → zs ≡ ys
second_only no_more e = refl
second_only (of_first x {xs = xs} h) e = absurd (nothing_before [] xs x (sym e))
second_only (of_second y h) e = ap (λ (l : List Record). y ∷ l) (second_only h e)

first_made : (notes more : List CompletedCall) (rs others all : List Record) → Paired IsNoted notes rs →
    Interleaved rs others all → AreCallsOf more others → AreCallsOf (notes ++ more) all
first_made [] more [] others all none h made = subst (λ (l : List Record). AreCallsOf more l) (sym (second_only h refl))
    made
first_made (n ∷ notes) more (r ∷ rs) others all (both k ks) h made =
    let q = out_of_first h r rs refl in
    (q.0, r, q.1, q.2, k, first_made notes more rs others (q.0 ++ q.1) ks q.3 made)
first_made [] more (r ∷ rs) others all ks h made = elim ks [ ]
first_made (n ∷ notes) more [] others all ks h made = elim ks [ ]

pages_made : {X : Type 0} (records_of : X → List Record) (pages : List Page) (xs : List X) (all : List Record) →
    Paired (λ notes x. Paired IsNoted notes (records_of x)) (map (λ page. page.calls) pages) xs →
    InterleavedAll records_of xs all → AreCallsOf (calls_on pages) all
pages_made records_of [] [] all none h = h
pages_made records_of (p ∷ pages) (x ∷ xs) all (both k ks) h =
    first_made p.calls (calls_on pages) (records_of x) h.0 all k h.1 (pages_made records_of pages xs h.0 ks h.2)
pages_made records_of [] (x ∷ xs) all ks h = elim ks [ ]
pages_made records_of (p ∷ pages) [] all ks h = elim ks [ ]

-- the completed calls of a load are those of its history
pub history_calls : {n : LoadSummary} (s : Settings) (opening : Page) (clients : List Page)
    (h : HasNoted s n opening.calls (map (λ page. page.calls) clients)) →
    AreCallsOf (calls_on (opening ∷ clients)) h.loaded.history
history_calls s opening clients h =
    let l = h.loaded in
    subst (λ (rs : List Record). AreCallsOf (calls_on (opening ∷ clients)) rs) (sym l.opening_first)
    (first_made opening.calls (calls_on clients) l.opened l.rest (l.opened ++ l.rest) h.of_opening
    (one_behind l.opened l.rest)
    (pages_made (λ x. x.records) clients l.shares l.rest h.of_clients l.each_once))

-- they made this history
unfoldable pub made_history : {n : LoadSummary} (s : Settings) (opening : Page) (clients : List Page) →
    HasNoted s n opening.calls (map (λ page. page.calls) clients) → MadeHistory s.blocks (calls_on (opening ∷ clients))
made_history s opening clients h =
    let l = h.loaded in
    record {
      image = l.image;
      heap = l.heap;
      history = l.history;
      made = history_calls s opening clients h;
      serial = l.serial;
      sorted = l.in_order;
      versioned = l.versioned;
    }
