-- The images of the versions of a history.
use Rattle.std.proofs.Common.{◌≡◌, ◌∙◌, ◌+◌, ◌*◌, ◌≤◌, ◌&&◌, ◌||◌, ℕ, zero, Bool, true, false, cond, eqb, leb, ltb}
use Rattle.std.proofs.Common.{List, [], ◌∷◌, refl, sym, ap, subst, arith}
use Rattle.std.proofs.lemmas.Bool.Decides.{nat_tests}
use Rattle.tx_memory.specs.Image.{In, laid}
use Rattle.tx_memory.specs.Paired.{in_later, length-laid}
use Rattle.tx_alloc.specs.Pool.{heap_words}
use Rattle.stm_core.specs.Client.{Record, before, rank}
use Rattle.stm_core.specs.History.{Serial, image_upto, is_upto}
use Rattle.stm_core.specs.Invariant.{Sorted}
use Rattle.vac_model.specs.Run.{run}
use Rattle.vac_manager.specs.Law.{IsLawful}
use Rattle.load_run.specs.Load.{IsBalancedHeap}

-- what stands behind a record of a later version is of a later version
stays_out : (n u m v k m' v' k' : ℕ) (p : Bool) → (ltb m n || (eqb m n && leb v u)) ≡ false →
    (ltb m' m || (eqb m' m && (ltb k' k || (eqb k' k && p)))) ≡ false → 2 * v ≤ k → k' ≤ 2 * v' + 1 →
    (ltb m' n || (eqb m' n && leb v' u)) ≡ false
stays_out n u m v k m' v' k' p out order low high = grind (arith, nat_tests, out, order, low, high)

at_most_one : (b : Bool) → cond {A = ℕ} b 0 1 ≤ 1
at_most_one true = omega arith
at_most_one false = omega arith

later_out : (n u : ℕ) (r x : Record) → is_upto n u r ≡ false → before x r ≡ false → is_upto n u x ≡ false
later_out n u r x out order =
    let one = at_most_one x.writer in
    let low : 2 * r.version ≤ rank r = omega arith in
    let high : rank x ≤ 2 * x.version + 1 = omega arith in
    stays_out n u r.renewal r.version (rank r) x.renewal x.version (rank x) (ltb x.point r.point) out order low high

none_upto : (n u : ℕ) (image : List ℕ) (rs : List Record) → ((x : Record) → In x rs → is_upto n u x ≡ false) →
    image_upto image n u rs ≡ image
none_upto n u image [] f = refl
none_upto n u image (r ∷ rs) f =
    ap (λ (b : Bool). image_upto (cond b (laid image r.writes) image) n u rs) (f r (zero, refl))
    ∙ none_upto n u image rs (λ x i. f x (in_later x r rs i))

same_blocks : (b c : ℕ) → heap_words b ≡ heap_words c → b ≡ c
same_blocks b c e = omega (arith, e)

-- a lawful record makes a heap of as many blocks
heap_after : (blocks : ℕ) (image : List ℕ) (r : Record) (rs : List Record) → IsBalancedHeap blocks image →
    Serial image (r ∷ rs) → IsLawful r.tag r.reads r.writes → IsBalancedHeap blocks (laid image r.writes)
heap_after blocks image r rs h serial l =
    let o = l.does.on image h.state h.shown serial.0 in
    record {
      state = (run h.state l.entry.0).0;
      shown = o.1;
      capacity = same_blocks (run h.state l.entry.0).0.capacity h.state.capacity
          (sym o.1.represents.size ∙ length-laid image r.writes ∙ h.shown.represents.size) ∙ h.capacity;
    }

by_case : (n u blocks : ℕ) (b : Bool) (made image : List ℕ) (rs : List Record) →
    IsBalancedHeap blocks (image_upto made n u rs) → (b ≡ false → IsBalancedHeap blocks (image_upto image n u rs)) →
    IsBalancedHeap blocks (image_upto (cond b made image) n u rs)
by_case n u blocks true made image rs h g = h
by_case n u blocks false made image rs h g = g refl

-- the image of each version of a history of lawful records is a heap of as many blocks
pub heap_upto : (n u blocks : ℕ) (image : List ℕ) (rs : List Record) → IsBalancedHeap blocks image →
    Serial image rs → Sorted rs → ((r : Record) → In r rs → IsLawful r.tag r.reads r.writes) →
    IsBalancedHeap blocks (image_upto image n u rs)
heap_upto n u blocks image [] h serial sorted lawful = h
heap_upto n u blocks image (r ∷ rs) h serial sorted lawful =
    by_case n u blocks (is_upto n u r) (laid image r.writes) image rs
    (heap_upto n u blocks (laid image r.writes) rs (heap_after blocks image r rs h serial (lawful r (zero, refl)))
    serial.1 sorted.1 (λ x i. lawful x (in_later x r rs i)))
    (λ e. subst (λ (m : List ℕ). IsBalancedHeap blocks m) (sym (none_upto n u image rs
    (λ x i. later_out n u r x e (sorted.0 x i)))) h)
