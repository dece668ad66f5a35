-- The refusals that an update notes.
use Rattle.std.proofs.lemmas.Bool.Decides.{nat_tests}
use Rattle.std.proofs.Common.{◌≡◌, ℕ, ◌+◌, ◌-◌, ◌<◌, List, [], ◌∷◌, ◌++◌, length, refl, ap, sym, ◌∙◌, arith, slice_set}
use Rattle.std.proofs.Common.{append_assoc}
use Rattle.std.specs.Prelude.{Option, None, replicate, suc, zero}
use Rattle.vac_model.specs.declared.commands.Command.{Command}
use Rattle.vac_model.specs.declared.commands.Refusal.{Refusal}
use Rattle.vac_model.specs.declared.replies.Reply.{Reply}
use Rattle.vac_model.specs.State.{State}
use Rattle.vac_model.specs.Step.{step}
use Rattle.vac_model.specs.Run.{steps, refusal_of}

-- one more change
pub steps_push : (s : State) (cs : List Command) (c : Command)
    → steps s (cs ++ c ∷ []) ≡ ((step (steps s cs).0 c).0, (steps s cs).1 ++ refusal_of (step (steps s cs).0 c).1 ∷ [])
steps_push s [] c = refl
steps_push s (x ∷ cs) c = grind (arith, nat_tests, steps_push (step s x).0 cs c)

-- each change has its entry
pub length-steps : (s : State) (cs : List Command) → length (steps s cs).1 ≡ length cs
length-steps s [] = refl
length-steps s (c ∷ cs) = ap suc (length-steps (step s c).0 cs)

-- the first entry without a note
set_after : {A : Type 0} (xs ys : List A) (y z : A) → slice_set (xs ++ y ∷ ys) (length xs) z ≡ xs ++ z ∷ ys
set_after [] ys y z = refl
set_after (x ∷ xs) ys y z = ap (λ r. x ∷ r) (set_after xs ys y z)

-- nothing noted
abbrev no_why : Option Refusal
no_why = None

one_fewer : (n : ℕ) → 0 < n → replicate n no_why ≡ no_why ∷ replicate (n - 1) no_why
one_fewer zero h = absurd (omega arith)
one_fewer (suc n) h = let same : suc n - 1 ≡ n = omega arith in ap (λ m. no_why ∷ replicate m no_why) (sym same)

-- a refusal is noted in its entry
pub noted : (whys : List (Option Refusal)) (i : ℕ) (w : Option Refusal) → length whys ≡ i → i < 32
    → slice_set (whys ++ replicate (32 - i) None) i w ≡ (whys ++ w ∷ []) ++ replicate (32 - (i + 1)) None
noted whys i w e h =
    let one : 32 - i - 1 ≡ 32 - (i + 1) = omega arith in
    let fewer : replicate (32 - i) no_why ≡ no_why ∷ replicate (32 - (i + 1)) no_why =
    one_fewer (32 - i) (omega arith) ∙ ap (λ m. no_why ∷ replicate m no_why) one in
    ap (λ r. slice_set (whys ++ r) i w) fewer
    ∙ ap (λ n. slice_set (whys ++ no_why ∷ replicate (32 - (i + 1)) no_why) n w) (sym e)
    ∙ set_after whys (replicate (32 - (i + 1)) no_why) no_why w
    ∙ sym (append_assoc whys (w ∷ []) (replicate (32 - (i + 1)) no_why))

-- the changes so far, and one more
pub steps_more : (s t t' : State) (cs ds : List Command) (c : Command) (r : Reply) → (steps s cs).0 ≡ t →
    ds ≡ cs ++ c ∷ [] → step t c ≡ (t', r)
    → steps s ds ≡ (t', (steps s cs).1 ++ refusal_of r ∷ [])
steps_more s t t' cs ds c r before one is = grind (arith, nat_tests, steps_push s cs c)
