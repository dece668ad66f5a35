-- The proofs of the ring's law: after each entry the words are those of a ring, and two entries
-- have different codes.
use Rattle.std.proofs.Common.{◌≡◌, ◌≢◌, ℕ, ◌+◌, ◌%◌, true, false, List, length, slice_index}
use Rattle.std.proofs.Common.{slice_set, refl, sym, ap, ◌∙◌, arith, length-set}
use Rattle.std.proofs.Common.{get_or-set_same, get_or-set_other}
use Rattle.std.specs.Prelude.{◌==◌, if◌then◌else◌}
use Rattle.ex_ring.specs.declared.entry.Entry.{Entry}
use Rattle.ex_ring.specs.declared.entry.Entry.TheVariants.{Push, Pop, Empty, Len}
use Rattle.ex_ring.specs.declared.law.TheConstants.{SLOTS, HEAD, TAIL, WORDS}
use Rattle.ex_ring.specs.Queue.{IsRing, head, tail, after, Finds, pushing, code}

pub pushing_head : (xs : List ℕ) (v : ℕ) → head (pushing xs v) ≡ head xs
pushing_head xs v =
    get_or-set_other (slice_set xs (tail xs % SLOTS) v) TAIL HEAD (tail xs + 1) 0 (omega arith)
    ∙ get_or-set_other xs (tail xs % SLOTS) HEAD v 0 (omega arith)

pub pushing_tail : (xs : List ℕ) (v : ℕ) → length xs ≡ WORDS → tail (pushing xs v) ≡ tail xs + 1
pushing_tail xs v long =
    let n = length-set xs (tail xs % SLOTS) v in
    get_or-set_same (slice_set xs (tail xs % SLOTS) v) TAIL (tail xs + 1) 0 (omega (arith, n, long))

pub popping_head : (xs : List ℕ) (v : ℕ) → length xs ≡ WORDS → head (slice_set xs HEAD v) ≡ v
popping_head xs v long = get_or-set_same xs HEAD v 0 (omega (arith, long))

pub popping_tail : (xs : List ℕ) (v : ℕ) → tail (slice_set xs HEAD v) ≡ tail xs
popping_tail xs v = get_or-set_other xs HEAD TAIL v 0 (omega arith)

pub ring_after : (e : Entry) (xs : List ℕ) → IsRing xs → Finds e xs → IsRing (after e xs)
ring_after (Push v true) xs b h =
    let p = pushing_head xs v in
    let q = pushing_tail xs v b.size in
    record {
      size = length-set (slice_set xs (tail xs % SLOTS) v) TAIL (tail xs + 1)
          ∙ (length-set xs (tail xs % SLOTS) v ∙ b.size);
      order = omega (arith, p, q, b.order);
      bound = omega (arith, p, q, h.slot);
    }
ring_after (Push v false) xs b h = b
ring_after (Pop v) xs b h =
    let p = popping_head xs (head xs + 1) b.size in
    let q = popping_tail xs (head xs + 1) in
    record {
      size = length-set xs HEAD (head xs + 1) ∙ b.size;
      order = omega (arith, p, q, h.0);
      bound = omega (arith, p, q, b.bound);
    }
ring_after Empty xs b h = b
ring_after (Len n) xs b h = b

-- the entry of a code
abbrev decoded : List ℕ → Entry
decoded ns = if slice_index ns 0 == 0 then Push (slice_index ns 1) (slice_index ns 2 == 1)
    else (if slice_index ns 0 == 1 then Pop (slice_index ns 1)
    else (if slice_index ns 0 == 2 then Empty else Len (slice_index ns 1)))

decoded_back : (e : Entry) → decoded (code e) ≡ e
decoded_back (Push value true) = refl
decoded_back (Push value false) = refl
decoded_back (Pop value) = refl
decoded_back Empty = refl
decoded_back (Len count) = refl

-- two entries with the same code are equal
pub codes_determine : (e e' : Entry) → code e ≡ code e' → e ≡ e'
codes_determine e e' same = sym (decoded_back e) ∙ (ap decoded same ∙ decoded_back e')
