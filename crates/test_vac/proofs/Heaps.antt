-- Plain memory that holds a state.
use Rattle.std.proofs.Common.{List, [], ◌+◌, ◌*◌, Option, Some, ap, arith, inl, inr, length, slice_index, subst, sym}
use Rattle.std.proofs.Common.{unwrap_or, ℕ, ◌∙◌, ◌≡◌, ◌≤◌}
use Rattle.std.proofs.lemmas.List.{get_or_past, ext_get_or}
use Rattle.std.proofs.lemmas.Bool.{cases_lt}
use Rattle.std.specs.FinMap.{get}
use Rattle.tx_memory.specs.View.{View, Words, memory}
use Rattle.tx_memory.specs.Plain.{flat_view, numbered}
use Rattle.tx_memory.specs.PlainSeen.{flat_seen, get_at, get_behind}
use Rattle.vac_model.specs.declared.replies.Reply.{Reply}
use Rattle.vac_model.specs.declared.replies.Report.{Report}
use Rattle.vac_model.specs.declared.tasks.Task.{Task}
use Rattle.vac_model.specs.State.{State, empty_state, report}
use Rattle.vac_model.specs.Run.{run}
use Rattle.vac_model.proofs.Empty.{empty-small}
use Rattle.tx_alloc.specs.Pool.{IsPool}
use Rattle.tx_alloc.specs.Spread.{IsSpreadHeap, spread_lists}
use Rattle.vac_records.specs.Items.{mem}
use Rattle.vac_records.specs.Represents.{Represents, IsState}
use Rattle.vac_records.proofs.Fresh.{spread_state}
use Rattle.vac_records.proofs.PlainMemory.{flat_mem, free_holds}
use Rattle.vac_tasks.specs.Ran.{IsOutcome}
use Rattle.vac_tasks.specs.RanTask.{RanTask}
use Rattle.vac_tasks.specs.Reported.{Reported}
use Rattle.test_vac.specs.PlainState.{IsStateOf}
use Rattle.vac_records.specs.InMemory.{HoldsState, OnlyRead}
use Rattle.vac_records.specs.Steps.{stood}

-- the words under an image of their size
under : (xs image : List ℕ) (s : State) → length image ≡ length xs → IsStateOf xs s →
    IsState (mem (flat_view xs) image) (length image) s
under xs image s e h = subst (λ m. IsState m (length image) s) (sym (flat_mem xs image e))
    (subst (λ n. IsState (slice_index xs) n s) (sym e) h)

over : (xs image : List ℕ) (s : State) → length image ≡ length xs →
    IsState (mem (flat_view xs) image) (length image) s → IsStateOf xs s
over xs image s e h = subst (λ n. IsState (slice_index xs) n s) e
    (subst (λ m. IsState m (length image) s) (flat_mem xs image e) h)

pub holds_empty : (words heap : List ℕ) (blocks : ℕ) → blocks ≤ 262144 → IsSpreadHeap words blocks
    → IsPool (λ (a : ℕ). slice_index words a) (length words) (spread_lists blocks) (λ (x : ℕ). 0) 0 → heap ≡ words →
    IsStateOf heap (empty_state blocks)
holds_empty words heap blocks few empty pool e = subst (λ w. IsStateOf w (empty_state blocks)) (sym e) (record {
  represents = spread_state words blocks empty pool;
  small = empty-small blocks few;
})

-- the outcome of a task
outcome : (xs ys : List ℕ) (t : Task) (r : Reply) (s : State) (ran : RanTask (flat_view xs) (flat_view ys) t r) →
    IsStateOf xs s
    → IsOutcome (mem (flat_view ys) (flat_seen ys).0) (length (flat_seen ys).0) (run s t) r
outcome xs ys t r s ran h =
    let image = (flat_seen ys).0 in
    let stands = (flat_seen ys).1 in
    ran.outcome image s stands.sees (under xs image s (stands.size ∙ ran.kept.size) h)

pub holds_run : (xs ys : List ℕ) (t : Task) (r : Reply) → RanTask (flat_view xs) (flat_view ys) t r → (s : State) →
    IsStateOf xs s → IsStateOf ys (run s t).0
holds_run xs ys t r ran s h = over ys (flat_seen ys).0 (run s t).0 (flat_seen ys).1.size
    (outcome xs ys t r s ran h).state

pub reply_run : (xs ys : List ℕ) (t : Task) (r : Reply) → RanTask (flat_view xs) (flat_view ys) t r → (s : State) →
    IsStateOf xs s → (run s t).1 ≡ r
reply_run xs ys t r ran s h = (outcome xs ys t r s ran h).reply_is

pub report_is : (xs ys : List ℕ) (r : Report) → Reported (flat_view xs) (flat_view ys) r → (s : State) →
    IsStateOf xs s → report s ≡ r
report_is xs ys r said s h =
    let image = (flat_seen ys).0 in
    let stands = (flat_seen ys).1 in
    said.is image s stands.sees (under xs image s (stands.size ∙ said.reads.kept.size) h)

-- the words of an empty heap
pub spread_holds : (xs : List ℕ) (blocks : ℕ) → blocks ≤ 262144 → IsSpreadHeap xs blocks →
    IsPool (λ (a : ℕ). slice_index xs a) (length xs) (spread_lists blocks) (λ (x : ℕ). 0) 0 →
    HoldsState (flat_view xs)
spread_holds xs blocks few heap pool = free_holds xs blocks few heap.size (spread_state xs blocks heap pool)

-- the memory after a task holds a state
pub held_task : (s s' : View) (t : Task) (r : Reply) → RanTask s s' t r → HoldsState s → HoldsState s'
held_task s s' t r ran h = record {
  inside = omega (arith, h.inside, ran.kept.size);
  small = omega (arith, h.small, ran.kept.size);
  under = λ image i. (let t0 = h.under image (stood ran.kept image i) in
      ((run t0.0 t).0, (ran.outcome image t0.0 i.sees t0.1).state));
}

some_same : {x y : ℕ} → Some x ≡ Some y → x ≡ y
some_same e = (let k = e in cc)

-- words with the same writes are the same words
pub same_words : (xs ys : List ℕ) → length ys ≡ length xs → numbered 0 ys ≡ numbered 0 xs → ys ≡ xs
same_words xs ys size same = ext_get_or 0 ys xs size (λ a less.
    let here = get_at ys a less in
    let there = get_at xs a (omega (arith, less, size)) in
    some_same (sym here ∙ ap (λ (w : Words). get w a) same ∙ there))

-- if nothing was written, the words are as they were
pub words_stay : (xs ys : List ℕ) → OnlyRead (flat_view xs) (flat_view ys) → ys ≡ xs
words_stay xs ys only = same_words xs ys only.kept.size only.writes
