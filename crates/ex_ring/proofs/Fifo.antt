-- What comes out of a history is what went in, but for what is still in.
use Rattle.std.specs.Prelude.{Result, Ok, Err, IfOk}
use Rattle.std.proofs.Common.{◌≡◌, ◌≢◌, ℕ, zero, suc, ◌+◌, ◌-◌, ◌%◌, ◌<◌, ◌≤◌, true, false, List, [], ◌∷◌, ◌++◌}
use Rattle.std.proofs.Common.{slice_index, slice_set, replicate, refl, sym, ap, subst, ◌∙◌, append_assoc, arith, rules}
use Rattle.std.proofs.Common.{get_or-set_same, get_or-set_other}
use Rattle.ex_ring.specs.declared.entry.Entry.{Entry}
use Rattle.ex_ring.specs.declared.entry.Entry.TheVariants.{Push, Pop, Empty, Len}
use Rattle.ex_ring.specs.declared.law.TheConstants.{SLOTS, HEAD, TAIL, WORDS}
use Rattle.ex_ring.specs.Queue.{IsRing, ring, code, head, tail, values, content, pushing, after, Finds, pushed, popped}
use Rattle.ex_ring.specs.Keeping.{pushing_head, pushing_tail, popping_head, popping_tail, ring_after}
use Rattle.stm_region.specs.Shown.{RegionShown}
use Rattle.stm_core.specs.Client.{Client, Record}
use Rattle.stm_object.specs.History.{IsHistory, Closes}
use Rattle.stm_object.specs.Object.{IsBeginning}
use Rattle.stm_object.specs.Steps.{shows_its_words, shows_words, begins_words}
use Rattle.ex_ring.specs.Turns.{IsFifo, ClosesInOrder}

-- values stay the same where another word is set
values_kept : (xs : List ℕ) (i v from n : ℕ) → ((k : ℕ) → from ≤ k → k < from + n → k % SLOTS ≢ i)
    → values (slice_set xs i v) from n ≡ values xs from n
values_kept xs i v from zero other = refl
values_kept xs i v from (suc n) other =
    let here = get_or-set_other xs i (from % SLOTS) v 0 (other from (omega arith) (omega arith)) in
    let rest = values_kept xs i v (from + 1) n (λ k low high. other k (omega (arith, low)) (omega (arith, high))) in
    rw (here, rest) refl

-- one value more, at the end
one_more : (xs : List ℕ) (from n : ℕ)
    → values xs from (n + 1) ≡ values xs from n ++ (slice_index xs ((from + n) % SLOTS) ∷ [])
one_more xs from zero =
    let f : from + 0 ≡ from = omega arith in rw f refl
one_more xs from (suc n) =
    let e : suc n + 1 ≡ suc (n + 1) = omega arith in
    let f : from + suc n ≡ from + 1 + n = omega arith in
    rw (e, f) (ap (λ (ys : List ℕ). slice_index xs (from % SLOTS) ∷ ys) (one_more xs (from + 1) n))

pub pushed_content : (xs : List ℕ) (v : ℕ) → IsRing xs → tail xs < head xs + SLOTS
    → content (pushing xs v) ≡ content xs ++ (v ∷ [])
pushed_content xs v b room =
    let p = pushing_head xs v in
    let q = pushing_tail xs v b.size in
    let n = tail xs - head xs in
    let t = tail xs in
    let slot = t % SLOTS in
    let ys = slice_set xs slot v in
    let at : head xs + n ≡ t = omega (arith, b.order) in
    let new : slice_index (pushing xs v) slot ≡ v = get_or-set_other ys TAIL slot (t + 1) 0 (omega arith)
    ∙ get_or-set_same xs slot v 0 (omega (arith, b.size)) in
    let old = values_kept ys TAIL (t + 1) (head xs) n (λ k low high. omega arith)
    ∙ values_kept xs slot v (head xs) n (λ k low high. omega (arith, low, high, room, b.order)) in
    let count : tail (pushing xs v) - head (pushing xs v) ≡ n + 1 = omega (arith, p, q, b.order) in
    rw (count, p) (one_more (pushing xs v) (head xs) n ∙ rw (old, at, new) refl)

pub popped_content : (xs : List ℕ) → IsRing xs → head xs < tail xs
    → content xs ≡ slice_index xs (head xs % SLOTS) ∷ content (slice_set xs HEAD (head xs + 1))
popped_content xs b some =
    let ys = slice_set xs HEAD (head xs + 1) in
    let p = popping_head xs (head xs + 1) b.size in
    let q = popping_tail xs (head xs + 1) in
    let n = tail ys - head ys in
    let count : tail xs - head xs ≡ suc n = omega (arith, p, q, some) in
    let rest = values_kept xs HEAD (head xs + 1) (head xs + 1) n (λ k low high. omega arith) in
    ap (λ (m : ℕ). values xs (head xs) m) count
    ∙ ap (λ (zs : List ℕ). slice_index xs (head xs % SLOTS) ∷ zs) (sym rest ∙ ap (λ (h : ℕ). values ys h n) (sym p))

-- what is in, and then what is put in, is what is taken out, and then what is in at the end
flows : (xs : List ℕ) (rs : List Record) (es : List Entry) (last : List ℕ) → IsRing xs
    → IsHistory ring xs rs es last → content xs ++ pushed es ≡ popped es ++ content last
flows xs [] [] last b h = rw h (search rules)
flows xs [] (e ∷ es) last b h = absurd h
flows xs (r ∷ rs) [] last b h = absurd h
flows xs (r ∷ rs) (Push v true ∷ es) last b h =
    let c = pushed_content xs v b h.2.slot in
    let rest = flows (pushing xs v) rs es last (ring_after (Push v true) xs b h.2) h.3 in
    sym (append_assoc (content xs) (v ∷ []) (pushed es)) ∙ (ap (λ (zs : List ℕ). zs ++ pushed es) (sym c) ∙ rest)
flows xs (r ∷ rs) (Push v false ∷ es) last b h = flows xs rs es last b h.3
flows xs (r ∷ rs) (Pop v ∷ es) last b h =
    let c = popped_content xs b h.2.0 in
    let ys = slice_set xs HEAD (head xs + 1) in
    let rest = flows ys rs es last (ring_after (Pop v) xs b h.2) h.3 in
    ap (λ (zs : List ℕ). zs ++ pushed es) (c ∙ ap (λ (x : ℕ). x ∷ content ys) h.2.1)
    ∙ ap (λ (zs : List ℕ). v ∷ zs) rest
flows xs (r ∷ rs) (Empty ∷ es) last b h = flows xs rs es last b h.3
flows xs (r ∷ rs) (Len n ∷ es) last b h = flows xs rs es last b h.3

empty_ring : IsRing (replicate WORDS 0)
empty_ring = record { size = refl; order = omega arith; bound = omega arith }

pub begins_empty : IsBeginning ring (replicate WORDS 0)
begins_empty = begins_words WORDS IsRing (λ e. Unit {0}) Finds after code (replicate WORDS 0) empty_ring

-- no answer of a ring that was opened empty is out of its turn
pub fifo : IsFifo
fifo rs es last h = flows (replicate WORDS 0) rs es last empty_ring h

pub in_turn : (region : RegionShown) (v : Client) (words : List ℕ) (version : ℕ) → region.first ≡ replicate WORDS 0
    → Closes ring region v words version → ClosesInOrder region v words version
in_turn region v words version empty k =
    let first : IsRing region.first = rw empty empty_ring in
    let l = k.lead region.first (shows_words WORDS IsRing (λ e. Unit {0}) Finds after code region.first first) in
    let h = subst (λ (ys : List ℕ). IsHistory ring region.first v.records l.entries ys)
    (shows_its_words WORDS IsRing (λ e. Unit {0}) Finds after code words l.last l.shown) l.history in
    record {
      closes = k;
      entries = l.entries;
      history = h;
      fifo = fifo v.records l.entries words (subst (λ ys. IsHistory ring ys v.records l.entries words) empty h);
    }

-- the same of a closing that may have failed
pub closed_in_turn : {A E : Type 0} (items : A → List ℕ) (region : RegionShown) (v : Client) (r : Result (A × ℕ) E) →
    region.first ≡ replicate WORDS 0 → IfOk r (λ x. Closes ring region v (items x.0) x.1) →
    IfOk r (λ x. ClosesInOrder region v (items x.0) x.1)
closed_in_turn items region v (Ok x) empty h = in_turn region v (items x.0) x.1 empty h
closed_in_turn items region v (Err e) empty h = tt
