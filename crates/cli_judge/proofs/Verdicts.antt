-- The part of an illegal verdict, and the part that is written for the cut at the end of the line's call.
use Rattle.std.proofs.Common.{◌≡◌, ℕ, List, [], ◌∷◌, subst, suc, zero}
use Rattle.std.specs.Prelude.{Option, Some, None, slice_get}
use Rattle.vac_model.specs.declared.replies.Reply.{Reply}
use Rattle.vac_model.specs.State.{Place}
use Rattle.judge_object.specs.declared.level.Level.TheVariants as level
use Rattle.judge_calls.specs.Call.{Call}
use Rattle.judge_linear.specs.Found.{IsGivenAt, AreGivenAt, HasIllegalPart}
use Rattle.judge_part_text.specs.Laws.{HadIllegalPart}
use Rattle.judge_part_text.proofs.Illegal.{ended_at, merged_had}

none_some : {X : Type 0} (x : X) → None ≡ Some x → ⊥
none_some x e = cc

some_same : {X : Type 0} (x y : X) → Some x ≡ Some y → x ≡ y
some_same x y e = cc

given_at : (f : Call → Option Call) (calls : List Call) (numbers : List ℕ) (parts : List Call) →
    AreGivenAt f calls numbers parts → (place number : ℕ) (call : Call) → slice_get numbers place ≡ Some number →
    slice_get parts place ≡ Some call → IsGivenAt f calls number call
given_at f calls [] parts h place number call e g = absurd (none_some number e)
given_at f calls (n ∷ ns) [] h place number call e g = absurd (none_some call g)
given_at f calls (n ∷ ns) (p ∷ ps) h zero number call e g =
    subst (λ m. IsGivenAt f calls m call) (some_same n number e)
    (subst (λ c. IsGivenAt f calls n c) (some_same p call g) h.0)
given_at f calls (n ∷ ns) (p ∷ ps) h (suc place) number call e g =
    given_at f calls ns ps h.1 place number call e g

pub had_illegal : (n : ℕ) (bytes : List ℕ) (line : ℕ) (customers : List ℕ) (items : List Place)
    (stuck : List (ℕ × Reply)) (states : Option ℕ) →
    HasIllegalPart level.Linearizable n bytes line customers items stuck states →
    HadIllegalPart customers items line bytes
had_illegal n bytes line customers items stuck states h =
    let at = given_at _ h.calls h.part_numbers h.parts h.are_parts h.ended.place line h.ended.call h.ended.number_at
    h.ended.call_is in
    merged_had customers items line bytes h.calls _ h.are_kept.listed h.are_kept.merges h.scope h.is_scope h.parts
    h.merges h.moment (ended_at h.scope h.calls line h.moment _ h.ended.call at.first at.last at.is h.ended.completed
    h.ended.end) h.none_then
