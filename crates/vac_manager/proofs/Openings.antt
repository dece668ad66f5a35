-- How a manager begins and ends.
use Rattle.std.proofs.Common.{◌≡◌, ℕ, ◌+◌, ◌*◌, ◌≤◌, List, length, slice_index, refl, sym, ap, subst, ◌∙◌, arith}
use Rattle.stm_core.specs.Client.{Client}
use Rattle.stm_core.specs.Event.{opener}
use Rattle.stm_region.specs.Shown.{RegionShown}
use Rattle.stm_region.specs.Closed.{Ends}
use Rattle.stm_object.specs.Object.{IsBeginning}
use Rattle.stm_object.specs.History.{IsOpened as IsOpenedObject}
use Rattle.vac_model.specs.State.{State, empty_state}
use Rattle.tx_alloc.specs.Pool.{IsPool}
use Rattle.tx_alloc.specs.Spread.{IsSpreadHeap, spread_lists}
use Rattle.vac_records.proofs.Fresh.{spread_state}
use Rattle.vac_model.proofs.Empty.{empty-balanced}
use Rattle.vac_manager.specs.Law.{Shows, IsLawful, vacation}
use Rattle.vac_manager.specs.Legal.{capacity_of}
use Rattle.vac_manager.specs.Called.{ClientShown, IsOpened}
use Rattle.vac_manager.specs.Opening.{Opens, ClosesInState}
use Rattle.vac_manager.proofs.Legality.{legal}
use Rattle.vac_manager.proofs.Versions.{versioned}

-- the words of a fresh heap, all of whose blocks are free
pub record IsFresh (words : List ℕ) (n : ℕ) : Type 0 where
  pub empty : IsSpreadHeap words n
  pub pool : IsPool (λ (a : ℕ). slice_index words a) (length words) (spread_lists n) (λ (x : ℕ). 0) 0
  pub few : n ≤ 262144

fresh_shows : (xs ys : List ℕ) (n : ℕ) → ys ≡ xs → IsFresh xs n → Shows ys (empty_state n)
fresh_shows xs ys n e h = subst (λ (zs : List ℕ). Shows zs (empty_state n)) (sym e) (record {
  represents = spread_state xs n h.empty h.pool;
  small = record { balanced = empty-balanced n; small = h.few };
})

-- a manager may be opened on the words of an empty heap
pub fresh_begins : (xs ys : List ℕ) (n : ℕ) → ys ≡ xs → IsFresh xs n → IsBeginning vacation ys
fresh_begins xs ys n e h = record { value = empty_state n; shown = fresh_shows xs ys n e h; begins = refl }

fresh_size : (xs ys : List ℕ) (n size : ℕ) → ys ≡ xs → IsFresh xs n → size ≡ length ys → size ≡ 16 + 8 * n
fresh_size xs ys n size e h same = same ∙ (ap (λ (zs : List ℕ). length zs) e ∙ h.empty.size)

capacity_is : (region : RegionShown) (n : ℕ) → region.size ≡ 16 + 8 * n → capacity_of region ≡ n
capacity_is region n e = omega (arith, e)

-- the number of words of an empty heap is a size of the object
pub fresh_words : (xs ys : List ℕ) (n : ℕ) → ys ≡ xs → IsFresh xs n → vacation.IsSize (length ys)
fresh_words xs ys n e h =
    let all = fresh_size xs ys n (length ys) e h refl in
    (omega (arith, all), omega (arith, all, h.few))

pub opened_on : (region : RegionShown) (xs ys : List ℕ) (n : ℕ) → ys ≡ xs → IsFresh xs n → region.size ≡ length ys →
    region.first ≡ ys → IsOpened region
opened_on region xs ys n e h size first =
    let all = fresh_size xs ys n region.size e h size in
    let capacity = capacity_is region n all in
    record {
      size = omega (arith, all, capacity);
      small = omega (arith, all, h.few);
      shown = subst (λ (k : ℕ). Shows region.first (empty_state k)) (sym capacity)
          (subst (λ (zs : List ℕ). Shows zs (empty_state n)) (sym first) (fresh_shows xs ys n e h));
    }

-- a region that was opened as a memory of the object was opened as a region of a manager
pub of_object : (region : RegionShown) → IsOpenedObject vacation region → IsOpened region
of_object region h =
    let s = h.first.value in
    let all : region.size ≡ 16 + 8 * s.capacity = h.words ∙ h.first.shown.represents.size in
    let capacity = capacity_is region s.capacity all in
    let shown : Shows region.first (empty_state s.capacity) =
    subst (λ (x : State). Shows region.first x) h.first.begins h.first.shown in
    record {
      size = omega (arith, all, capacity);
      small = h.size.1;
      shown = subst (λ (k : ℕ). Shows region.first (empty_state k)) (sym capacity) shown;
    }

pub opens : (region : RegionShown) (client : ClientShown) (xs ys : List ℕ) (n last stripes : ℕ) → ys ≡ xs →
    IsFresh xs n → region ≡ record {
      table = region.table;
      size = length ys;
      last = last;
      stripes = stripes;
      opening = ys;
      first = ys;
      renewal = 0;
      start = opener;
    } →
    client ≡ record { table = region.table; value = opener; own = record { start = 0; next = 1 } } →
    Opens n last stripes region client
opens region client xs ys n last stripes e h is c =
    let all = fresh_size xs ys n region.size e h (ap (λ (r : RegionShown). r.size) is) in
    let opening : region.opening ≡ ys = ap (λ (r : RegionShown). r.opening) is in
    record {
      size = all;
      last_is = ap (λ (r : RegionShown). r.last) is;
      stripes_is = ap (λ (r : RegionShown). r.stripes) is;
      capacity = capacity_is region n all;
      renewal = ap (λ (r : RegionShown). r.renewal) is;
      start = ap (λ (r : RegionShown). r.start) is;
      first = ap (λ (r : RegionShown). r.first) is ∙ sym opening;
      heap = subst (λ (zs : List ℕ). IsSpreadHeap zs n) (sym (opening ∙ e)) h.empty;
      shown = subst (λ (zs : List ℕ). Shows zs (empty_state n)) (sym opening) (fresh_shows xs ys n e h);
      client_is = c;
    }

closes_in : (region : RegionShown) (v : Client) (words : List ℕ) (version : ℕ) → IsOpened region →
    Ends (λ (tag : List ℕ) reads writes. IsLawful tag reads writes) region v words version →
    ClosesInState region v words version
closes_in region v words version h k =
    let l = legal region.first (empty_state (capacity_of region)) v.records h.shown k.serial k.abides in
    record {
      ends = k;
      last = l.0;
      legal = l.1.0;
      shown = subst (λ (zs : List ℕ). Shows zs l.0) (sym k.newest) l.1.1;
      versioned = versioned region v words version k;
    }

pub closes : (region region' : RegionShown) (v v' : Client) (words : List ℕ) (version : ℕ) → IsOpened region →
    Ends (λ (tag : List ℕ) reads writes. IsLawful tag reads writes) region v words version → region' ≡ region → v' ≡ v →
    ClosesInState region' v' words version
closes region region' v v' words version h k e f =
    subst (λ (r : RegionShown). ClosesInState r v' words version) (sym e)
    (subst (λ (x : Client). ClosesInState region x words version) (sym f) (closes_in region v words version h k))
