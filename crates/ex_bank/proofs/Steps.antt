-- What loads and stores are to the balances, and that every sum in a history is the opening's.
use Rattle.std.proofs.Common.{◌≡◌, ℕ, ◌+◌, ◌-◌, ◌<◌, ◌≤◌, List, Result, Ok, Err, IfOk, length, slice_index, slice_set}
use Rattle.std.proofs.Common.{take, sum, refl, sym, ap, ◌∙◌, arith, length-set}
use Rattle.std.proofs.lemmas.List.{take_all}
use Rattle.std.proofs.lemmas.List.Sums.{get_or-le-sum_by, sum_by_more, sum_by-take-le}
use Rattle.tx_memory.specs.View.{View, RestsOn, Loaded}
use Rattle.stm_core.specs.Client.{Client}
use Rattle.stm_core.specs.History.{all_records}
use Rattle.stm_region.specs.Shown.{RegionShown}
use Rattle.stm_object.specs.History.{WasInOrder, Closes as ClosesObject, answer_in}
use Rattle.stm_object.specs.Keeping.{kept, found}
use Rattle.stm_object.specs.Bodies.{HasValue, HasEffect}
use Rattle.stm_object.specs.declared.place.CommitPosition.{CommitPosition}
use Rattle.stm_object.specs.Steps.{WordStep, load_step, two_steps, so_step, has_done, known_le, shows_its_words}
use Rattle.stm_object.specs.Steps.{fits_its_words, shows_words}
use Rattle.ex_bank.specs.declared.entry.Entry.{Entry}
use Rattle.ex_bank.specs.declared.entry.Entry.TheVariants.{Transfer, Sum}
use Rattle.ex_bank.specs.declared.law.TheConstants.{ACCOUNTS}
use Rattle.ex_bank.specs.Accounts.{IsBank, IsEntry, Finds, after, code, bank, ClosesBalanced}
use Rattle.ex_bank.specs.Keeping.{sum_taken, same_sum, bank_after}

-- the first so many balances have this sum
abbrev pub Counted : View → View → ℕ → ℕ → Type 0
Counted s s' done total = WordStep ACCOUNTS s s' (λ xs. total ≡ sum (take done xs)) (λ xs. xs)

-- what is put to an account that has so much
pub room : (xs : List ℕ) (from to amount left there : ℕ) → IsBank xs → from < ACCOUNTS → to < ACCOUNTS → amount ≤ left
    → slice_index xs from ≡ left → slice_index (slice_set xs from (left - amount)) to ≡ there →
    there + amount ≤ 18446744073709551615
room xs from to amount left there b f t enough found is =
    let ys = slice_set xs from (left - amount) in
    let less : from < length xs = omega (arith, b.size, f) in
    let inside : to < length ys = omega (arith, length-set xs from (left - amount), b.size, t) in
    let le : slice_index ys to ≤ sum ys = get_or-le-sum_by (λ x. x) ys to 0 inside in
    let e : sum ys ≡ sum (slice_set xs from (slice_index xs from - amount)) =
    ap (λ (x : ℕ). sum (slice_set xs from (x - amount))) (sym found) in
    let s = sum_taken xs from amount less (omega (arith, found, enough)) in
    omega (arith, is, le, e, s, b.small)

pub one_more : (s s' s'' : View) (done total v : ℕ) → done < ACCOUNTS → Counted s s' done total
    → Loaded s' s'' done v → Counted s s'' (done + 1) (total + v)
one_more s s' s'' done total v less c l =
    so_step (λ xs. total + v ≡ sum (take (done + 1) xs)) (two_steps c (load_step l less)) (λ xs size p.
    let m = sum_by_more (λ x. x) xs done 0 (omega (arith, size, less)) in omega (arith, p.0, p.1, m))

pub total_small : (s s' s'' : View) (done total v : ℕ) → HasValue bank s
    → done < ACCOUNTS → Counted s s' done total → Loaded s' s'' done v →
    ∥ ((image : List ℕ) × RestsOn s'' image) ∥₁ → total + v ≤ 18446744073709551615
total_small s s' s'' done total v held less c l some =
    known_le (total + v) 18446744073709551615 held (one_more s s' s'' done total v less c l) some (λ xs b t.
    let le = sum_by-take-le (λ x. x) xs (done + 1) in omega (arith, t, le, b.small))

pub all_counted : (s s' : View) (done total : ℕ) → ACCOUNTS ≤ done → Counted s s' done total
    → HasEffect bank s s' (Sum total)
all_counted s s' done total all c = has_done ACCOUNTS IsBank IsEntry Finds after code bank_after (Sum total) tt
    (λ xs b. b.size) c (λ xs b t.
    let whole : take done xs ≡ xs = take_all done xs (omega (arith, b.size, all)) in (t ∙ ap sum whole, refl))

-- a record of a sum has the sum of the balances that it found
told_sum : (e : Entry) (total : ℕ) (xs : List ℕ) → code (Sum total) ≡ code e → Finds e xs → total ≡ sum xs
told_sum (Transfer from to amount moved) total xs same h =
    absurd (let n : 1 ≡ 0 = ap (λ (ys : List ℕ). slice_index ys 0) same in omega (arith, n))
told_sum (Sum other) total xs same h = ap (λ (ys : List ℕ). slice_index ys 1) same ∙ h

pub opening_sum : {X : Type 0} (region : RegionShown) (v v' : Client) (placed : Result (ℕ × CommitPosition) X) →
    IfOk placed (λ total. WasInOrder bank region (Sum total.0) v v') →
    IfOk (answer_in placed) (λ total. total ≡ sum region.first)
opening_sum region v v' (Err e) w = tt
opening_sum region v v' (Ok total) w =
    let fitting = w.decided.decides.fitting in
    let first = fits_its_words ACCOUNTS IsBank IsEntry Finds after code region.first fitting.value fitting.shown in
    let h = w.lead region.first (shows_words ACCOUNTS IsBank IsEntry Finds after code region.first first) in
    let f = found bank (λ ys. sum ys ≡ sum region.first) (λ e xs is h s. same_sum e xs h ∙ s)
    region.first (all_records w.decided.decides.core.clients) h.entries h.last w.adds.made h.history refl w.own in
    told_sum f.entry total.0 f.value (sym w.adds.tag_is ∙ f.told) f.found ∙ f.kept

pub closes_balanced : (region : RegionShown) (v : Client) (words : List ℕ) (version : ℕ) →
    ClosesObject bank region v words version → ClosesBalanced region v words version
closes_balanced region v words version k =
    let first = fits_its_words ACCOUNTS IsBank IsEntry Finds after code region.first k.fitting.value k.fitting.shown in
    let h = k.lead region.first (shows_words ACCOUNTS IsBank IsEntry Finds after code region.first first) in
    record {
      closes = k;
      total = ap (λ (ys : List ℕ). sum ys) (sym (shows_its_words ACCOUNTS IsBank IsEntry Finds after code words h.last
          h.shown))
          ∙ kept bank (λ ys. sum ys ≡ sum region.first) (λ e xs is h s. same_sum e xs h ∙ s)
          region.first v.records h.entries h.last h.history refl;
    }
