-- A user that is alone takes out what it put in.
use Rattle.std.proofs.Common.{◌≡◌, ℕ, ◌+◌, ◌%◌, true, false, List, [], ◌∷◌, ◌++◌, Option, Some, None, is_some}
use Rattle.std.proofs.Common.{slice_index, slice_set}
use Rattle.std.proofs.Common.{refl, sym, ap, ◌∙◌, arith}
use Rattle.stm_object.specs.History.{words_after}
use Rattle.stm_object.specs.Keeping.{placed_answer}
use Rattle.stm_object.specs.Steps.{fits_its_words, shows_words}
use Rattle.ex_ring.specs.declared.entry.Entry.TheVariants.{Push}
use Rattle.ex_ring.specs.declared.law.TheConstants.{SLOTS, HEAD, WORDS}
use Rattle.ex_ring.specs.Queue.{IsRing, code, Finds, after, head, content, pushing, popping}
use Rattle.ex_ring.specs.Keeping.{pushing_head, pushing_tail, ring_after}
use Rattle.ex_ring.specs.Turns.{IsOwnTurn}
use Rattle.ex_ring.proofs.Fifo.{pushed_content, popped_content}

head_of : (x y : ℕ) (xs : List ℕ) → x ∷ xs ≡ y ∷ [] → x ≡ y
head_of x y xs e = ap (λ (ys : List ℕ). slice_index ys 0) e

takes : (xs : List ℕ) (value : ℕ) (taken : Option ℕ) → IsRing xs → Finds (Push value true) xs
    → Finds (popping taken) (pushing xs value) → (content xs ≡ [] → taken ≡ Some value) × (taken ≡ None → ⊥)
takes xs value None b room found =
    let p = pushing_head xs value in
    let q = pushing_tail xs value b.size in
    absurd (omega (arith, p, q, found, b.order))
takes xs value (Some x) b room found = (
  λ empty.
      let c = pushed_content xs value b room.slot in
      let d = popped_content (pushing xs value) (ring_after (Push value true) xs b room) found.0 in
      let e : slice_index (pushing xs value) (head (pushing xs value) % SLOTS)
      ∷ content (slice_set (pushing xs value) HEAD (head (pushing xs value) + 1)) ≡ value ∷ [] =
      sym d ∙ (c ∙ ap (λ (ys : List ℕ). ys ++ (value ∷ [])) empty) in
      ap Some (sym found.1 ∙ head_of _ value _ e),
  λ none. absurd (let n : false ≡ true = sym (ap is_some none) in cc),
)

some_of : (taken : Option ℕ) → (taken ≡ None → ⊥) → is_some taken ≡ true
some_of None not = absurd (not refl)
some_of (Some x) not = refl

pub own_turn : IsOwnTurn
own_turn region v w u value taken tries tries' alone push pop =
    let pushed = (placed_answer true push).1 in
    let popped = (placed_answer taken pop).1 in
    let first = pushed.turn alone in
    let fitting = first.fitting in
    let xs = words_after region v in
    let ring_before = fits_its_words WORDS IsRing (λ e. Unit {0}) Finds after code xs fitting.value fitting.shown in
    let d = first.on xs (shows_words WORDS IsRing (λ e. Unit {0}) Finds after code xs ring_before) in
    let e = (popped.turn (pushed.grants ∙ alone)).on (pushing xs value) d.1 in
    let t = takes xs value taken ring_before d.0 e.0 in
    record { some = some_of taken t.1; own = t.0 }
