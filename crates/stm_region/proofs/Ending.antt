-- The opening meets the invariant, and the properties of a region at its end.
use Rattle.std.proofs.Common.{◌≡◌, ℕ, zero, suc, ◌+◌, ◌-◌, ◌^◌, ◌<◌, List, [], ◌∷◌, ◌++◌, length}
use Rattle.std.proofs.Common.{drop, replicate, slice_index, append-nil, refl, sym, ap, ◌∙◌, subst, arith}
use Rattle.tx_memory.specs.Image.{Agrees}
use Rattle.std.proofs.lemmas.List.{length-replicate}
use mathlib.Core.Option.{some}
use lib.ListN.{get_elem?}
use Rattle.atomic_table.specs.Table.{State, opening, Final, Seen}
use Rattle.stm_core.specs.Client.{Client, all_aborted, RecordLaw}
use Rattle.stm_core.specs.Core.{Core, opened, begun_on, IsFreeHanded}
use Rattle.stm_core.specs.Event.{opener, renewing}
use Rattle.stm_core.specs.History.{Serial, image_after, image_upto}
use Rattle.stm_core.proofs.Conditions.{IsAlone}
use Rattle.stm_core.proofs.Renewing.{opening_rules, begins_rules, past_before}
use Rattle.stm_core.proofs.Whole.{closes, closes_read, all_grants, knows, own_sorted}
use Rattle.stm_region.specs.Shown.{Opened, RegionShown, opened_with}
use Rattle.stm_core.specs.Guards.{stripe_of}
use Rattle.stm_region.specs.declared.layout.TheConstants.{FIRST_LOCK}
use Rattle.stm_region.specs.Layout.{padding, first_cell}
use Rattle.stm_region.specs.Rule.{listed, IsCoreState}
use Rattle.stm_region.specs.Closed.{Ends}
use Rattle.stm_region.specs.Refused.{MayRenew}
use Rattle.stm_region.proofs.Tracing.{opening_traced, renewal_traced}

zeros : (a b : ℕ) (ys : List ℕ) → replicate (a + b) 0 ++ ys ≡ replicate a 0 ++ (replicate b 0 ++ ys)
zeros zero b ys = rw Rattle.std.proofs.Common.zero-add refl
zeros (suc a) b ys = rw (Rattle.std.proofs.Common.suc-add a b) (ap (λ xs. 0 ∷ xs) (zeros a b ys))

drop_all : (xs ys : List ℕ) (n : ℕ) → length xs ≡ n → drop n (xs ++ ys) ≡ ys
drop_all [] ys zero e = refl
drop_all [] ys (suc n) e = absurd (omega arith)
drop_all (x ∷ xs) ys zero e = absurd (omega arith)
drop_all (x ∷ xs) ys (suc n) e = drop_all xs ys n (omega arith)

-- the words after the zeros are the image
image_behind : (image : List ℕ) (stripes : ℕ) → drop (first_cell stripes)
    (replicate (first_cell stripes) 0 ++ image) ≡ image
image_behind image stripes = drop_all (replicate (first_cell stripes) 0) image (first_cell stripes)
    (length-replicate (first_cell stripes) 0)

pub laid_out : (image : List ℕ) (stripes : ℕ) → replicate (first_cell stripes) 0 ++ image ≡ 0 ∷
    (replicate (FIRST_LOCK - 1) 0 ++ (replicate stripes 0 ++ (replicate (padding stripes) 0 ++ image)))
laid_out image stripes =
    let e : first_cell stripes ≡ suc (FIRST_LOCK - 1 + (stripes + padding stripes)) = omega arith in
    rw e (ap (λ xs. 0 ∷ xs) (zeros (FIRST_LOCK - 1) (stripes + padding stripes) image ∙
    ap (λ xs. replicate (FIRST_LOCK - 1) 0 ++ xs) (zeros stripes (padding stripes) image)))

module _ (fits : List ℕ → Type 0) (lawful : RecordLaw) where
  opens : {S : Type 0} (image : List ℕ) (last stripes : ℕ) → fits image → last < 2 ^ 62 → 0 < stripes →
      IsCoreState {S = S} fits lawful record {
        image = image;
        last = last;
        stripes = stripes;
        first = image;
        renewal = 0;
        start =
            opener;
      } (opening (replicate (first_cell stripes) 0 ++ image) [] opener)
  opens image last stripes f top one = record {
    core = opened image last stripes;
    gap = replicate (FIRST_LOCK - 1) 0;
    pad = replicate (padding stripes) 0;
    words = laid_out image stripes;
    views = refl;
    before_locks = refl;
    locks = length-replicate stripes 0;
    before_cells = length-replicate (padding stripes) 0;
    last = refl;
    opening = refl;
    first = refl;
    renewal = refl;
    rule = opening_rules lawful (stripe_of stripes) image last stripes;
    traced = opening_traced lawful image last stripes;
    fitting = f;
    bounded = top;
    some = one;
  }

  -- a table of these words meets the invariant at its opening
  pub opens_on : {S : Type 0} (image words : List ℕ) (last stripes : ℕ) → fits image → last < 2 ^ 62 → 0 < stripes →
      words ≡ replicate (first_cell stripes) 0 ++ image
      → IsCoreState {S = S} fits lawful record {
        image = drop (first_cell stripes) words;
        last = last;
        stripes = stripes;
        first = drop (first_cell stripes) words;
        renewal = 0;
        start =
            opener;
      } (opening words [] opener)
  opens_on {S} image words last stripes f top one e =
      subst (λ ws. IsCoreState {S = S} fits lawful record {
        image = drop (first_cell stripes) ws;
        last = last;
        stripes = stripes;
        first = drop (first_cell stripes) ws;
        renewal = 0;
        start =
            opener;
      } (opening ws [] opener)) (sym e)
      (subst (λ ys. IsCoreState {S = S} fits lawful record {
        image = ys;
        last = last;
        stripes = stripes;
        first = ys;
        renewal = 0;
        start =
            opener;
      } (opening (replicate (first_cell stripes) 0 ++ image) [] opener)) (sym (image_behind image stripes))
      (opens image last stripes f top one))

-- the data words, from their index on
pub cells_behind : (gap pad : List ℕ) (c : Core) (s : ℕ) → length gap ≡ FIRST_LOCK - 1 → length c.locks ≡ s →
    length pad ≡ padding s → drop (first_cell s) (listed gap pad c) ≡ c.cells
cells_behind gap pad c s g l p =
    let e : first_cell s ≡ suc (length gap + (length c.locks + length pad)) = omega arith in
    rw e (behind gap (c.locks ++ (pad ++ c.cells)) (length c.locks + length pad) ∙
    (behind c.locks (pad ++ c.cells) (length pad) ∙ drop_all pad c.cells (length pad) refl))
  where
    behind : (xs ys : List ℕ) (n : ℕ) → drop (length xs + n) (xs ++ ys) ≡ drop n ys
    behind [] ys n = rw Rattle.std.proofs.Common.zero-add refl
    behind (x ∷ xs) ys n = rw (Rattle.std.proofs.Common.suc-add (length xs) n) (behind xs ys n)

module _ (fits : List ℕ → Type 0) (lawful : RecordLaw) (r : RegionShown) where
  -- a state that meets the invariant, in which the client is the only one out
  unfoldable pub ends : {S : Type 0} (id : ℕ) (v : Client) → IsFreeHanded v → v.grants ≡ 63 → (s : State S Client) →
      IsCoreState fits lawful (opened_with r) s → get_elem? s.views id ≡ some v →
      Ends lawful r v (drop (first_cell r.stripes) s.words) (slice_index s.words 0)
  ends id v free all s h at =
      let c : Core = h.core in
      let at' : get_elem? c.clients id ≡ some v = subst (λ vs. get_elem? vs id ≡ some v) h.views at in
      let only = all_grants lawful (stripe_of r.stripes) c h.rule id v at' free.0 all in
      let known = closes lawful (stripe_of r.stripes) c h.rule id v at' free only in
      let cells : c.cells ≡ drop (first_cell r.stripes) s.words =
      sym (cells_behind h.gap h.pad c r.stripes h.before_locks h.locks h.before_cells) ∙
      ap (drop (first_cell r.stripes)) (sym h.words) in
      record {
        core = c;
        rule = h.rule;
        traced = h.traced;
        first = h.first;
        renewal = h.renewal;
        opening = h.opening;
        last = h.last;
        locks = h.locks;
        number = id;
        member = at';
        clock = sym (ap (λ ws. slice_index ws 0) h.words);
        floor = ap (λ ws. slice_index ws 0) h.words ∙ knows lawful (stripe_of r.stripes) c h.rule id v at' all;
        cells = cells;
        abides = known.2;
        sorted = own_sorted lawful (stripe_of r.stripes) c h.rule id v at';
        aborted = λ x m. let q = closes_read lawful (stripe_of r.stripes) c h.rule id v at' free only x m in
            subst (λ image. (x.renewal < r.renewal + 1) × Agrees (image_upto image x.renewal x.version v.records)
            x.reads) h.first (subst (λ n. x.renewal < n + 1) h.renewal q.0, q.1);
        eras = λ x m. (let p = past_before lawful (stripe_of r.stripes) c h.rule id v at' free only 0 x m in let e =
            h.renewal in omega arith);
        serial = subst (λ image. Serial image v.records) h.first known.0;
        newest = sym cells ∙ (sym known.1 ∙ ap (λ image. image_after image v.records) h.first);
      }

  pub ends_with : {S : Type 0} (key : Opened) → key ≡ opened_with r → (id : ℕ) (u v : Client) → u ≡ v → IsFreeHanded v →
      v.grants ≡ 63 → (ws : List ℕ) (xs : List S) → Final (Seen (IsCoreState fits lawful key) id u) ws xs
      → (words : List ℕ) (clock : ℕ) → words ≡ drop (first_cell r.stripes) ws → clock ≡ slice_index ws 0 →
      Ends lawful r v words clock
  ends_with {S} key e id u v q free all ws xs f words clock is now =
      rw (is, now) (subst (λ ys. Ends lawful r v (drop (first_cell r.stripes) ys) (slice_index ys 0)) f.2
      (ends id v free all f.0 (subst (λ k. IsCoreState {S = S} fits lawful k f.0) e f.1.0)
      (subst (λ w. get_elem? f.0.views id ≡ some w) q f.1.1)))

  -- the first image of such a table fits
  pub fits_with : {S : Type 0} (key : Opened) → key ≡ opened_with r →
      (id : ℕ) (u : Client) (ws : List ℕ) (xs : List S) → Final (Seen (IsCoreState fits lawful key) id u) ws xs →
      fits r.first
  fits_with key e id u ws xs f = subst (λ (k : Opened). fits k.first) e f.1.0.fitting

-- the words with which a region ended, opened anew, meet the invariant of the next renewal, and the
-- renewal is one more event of the list
module _ (fits : List ℕ → Type 0) (lawful : RecordLaw) (r : RegionShown) (v : Client) (words : List ℕ)
    (version last : ℕ) (h : Ends lawful r v words version) (free : IsFreeHanded v)
    (may : MayRenew r.renewal last v.grants) (f : fits r.first) (one : 0 < r.stripes) where
  pub alone : IsAlone h.core h.number
  alone = all_grants lawful (stripe_of r.stripes) h.core h.rule h.number v h.member free.0 may.2

  unfoldable pub reopens_cells : {S : Type 0} → IsCoreState {S = S} fits lawful record {
    image = h.core.cells;
    last = last;
    stripes = r.stripes;
    first = r.first;
    renewal = r.renewal + 1;
    start =
        renewing v;
  } (opening (replicate (first_cell r.stripes) 0 ++ h.core.cells) [] (renewing v))
  reopens_cells {S} = record {
    core = begun_on r.first h.core.cells (r.renewal + 1) last r.stripes (renewing v);
    gap = replicate (FIRST_LOCK - 1) 0;
    pad = replicate (padding r.stripes) 0;
    words = laid_out h.core.cells r.stripes;
    views = refl;
    before_locks = refl;
    locks = length-replicate r.stripes 0;
    before_cells = length-replicate (padding r.stripes) 0;
    last = refl;
    opening = refl;
    first = refl;
    renewal = refl;
    rule = begins_rules lawful (stripe_of r.stripes) r.first h.core.cells (r.renewal + 1) last r.stripes
        (renewing v) (ap (λ l. record (renewing v) { aborted_before = l }) (sym (append-nil (all_aborted v))))
        may.2 h.serial (sym h.newest ∙ sym h.cells) h.abides h.eras h.sorted h.aborted;
    traced = renewal_traced lawful (opened_with r) h.core h.traced h.number v h.member free alone last may.0.0 may.0.1
        may.1 h.first h.renewal h.locks;
    fitting = f;
    bounded = may.0.1;
    some = one;
  }

  pub reopens : {S : Type 0} → IsCoreState {S = S} fits lawful record {
    image = words;
    last = last;
    stripes = r.stripes;
    first = r.first;
    renewal = r.renewal + 1;
    start =
        renewing v;
  } (opening (replicate (first_cell r.stripes) 0 ++ words) [] (renewing v))
  reopens {S} = subst (λ ws. IsCoreState {S = S} fits lawful record {
    image = ws;
    last = last;
    stripes = r.stripes;
    first = r.first;
    renewal = r.renewal + 1;
    start =
        renewing v;
  } (opening (replicate (first_cell r.stripes) 0 ++ ws) [] (renewing v))) h.cells (reopens_cells {S = S})

-- a table of these words meets the invariant of the next renewal
pub renews_on : {S : Type 0} (fits : List ℕ → Type 0) (lawful : RecordLaw) (r : RegionShown) (v : Client)
    (words laid : List ℕ) (version last : ℕ) → Ends lawful r v words version → IsFreeHanded v →
    MayRenew r.renewal last v.grants → fits r.first → 0 < r.stripes
    → laid ≡ replicate (first_cell r.stripes) 0 ++ words → IsCoreState {S = S} fits lawful record {
      image = drop (first_cell r.stripes) laid;
      last = last;
      stripes = r.stripes;
      first = r.first;
      renewal =
          r.renewal + 1;
      start = renewing v;
    } (opening laid [] (renewing v))
renews_on {S} fits lawful r v words laid version last h free may f one e =
    subst (λ ws. IsCoreState {S = S} fits lawful record {
      image = drop (first_cell r.stripes) ws;
      last = last;
      stripes = r.stripes;
      first = r.first;
      renewal = r.renewal + 1;
      start =
          renewing v;
    } (opening ws [] (renewing v))) (sym e)
    (subst (λ ys. IsCoreState {S = S} fits lawful record {
      image = ys;
      last = last;
      stripes = r.stripes;
      first = r.first;
      renewal = r.renewal + 1;
      start =
          renewing v;
    } (opening (replicate (first_cell r.stripes) 0 ++ words) [] (renewing v)))
    (sym (image_behind words r.stripes)) (reopens fits lawful r v words version last h free may f one {S = S}))
