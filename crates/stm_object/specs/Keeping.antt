-- Invariants of an object's histories, and the commit position of an answer's record. If every
-- entry preserves an invariant, then a history preserves the invariant.
use Rattle.std.proofs.Common.{◌≡◌, ℕ, zero, suc, Bool, List, [], ◌∷◌, Result, Ok, Err}
use Rattle.std.proofs.Common.{sym, ap, ◌∙◌, subst}
use mathlib.Core.Option.{some-injective, some-ne-none}
use Rattle.tx_memory.specs.Image.{In}
use Rattle.stm_core.specs.Client.{Client, Record}
use Rattle.stm_region.specs.Shown.{RegionShown}
use Rattle.stm_attempt.specs.declared.conflict.Stop.{Stop}
use Rattle.stm_object.specs.declared.place.CommitPosition.{CommitPosition}
use Rattle.stm_object.specs.Object.{Specification}
use Rattle.stm_object.specs.History.{IsHistory, HasCalled, HasCalledAt, answer_in}

-- the tag is the code of an entry of the object, and the entry finds what it says in some value
-- with the property P
pub record WasFound {E : Type 0} (o : Specification E) (P : o.Value → Type 0) (tag : List ℕ)
    : Type 0 where
  pub entry : E
  pub told : tag ≡ o.code entry
  pub is_entry : o.IsEntry entry
  pub value : o.Value
  pub found : o.Finds entry value
  pub kept : P value

module _ {E : Type 0} (o : Specification E) (P : o.Value → Type 0)
    (keeps : (e : E) (x : o.Value) → o.IsEntry e → o.Finds e x → P x → P (o.after e x)) where
  -- the final value has the property if the first value has it
  pub kept : (x : o.Value) (rs : List Record) (es : List E) (last : o.Value) →
      IsHistory o x rs es last → P x → P last
  kept x [] [] last h p = subst P h p
  kept x [] (e ∷ es) last h p = absurd h
  kept x (r ∷ rs) [] last h p = absurd h
  kept x (r ∷ rs) (e ∷ es) last h p =
      kept (o.after e x) rs es last h.3 (keeps e x h.1 h.2 p)

  -- the value that each record's entry found has the property
  pub found : (x : o.Value) (rs : List Record) (es : List E) (last : o.Value) (r : Record) →
      IsHistory o x rs es last → P x → In r rs → WasFound o P r.tag
  found x [] [] last r h p i = absurd (some-ne-none r (sym i.1))
  found x [] (e ∷ es) last r h p i = absurd h
  found x (y ∷ rs) [] last r h p i = absurd h
  found x (y ∷ rs) (e ∷ es) last r h p (zero, is) = record {
    entry = e;
    told = sym (ap (λ (z : Record). z.tag) (some-injective y r is)) ∙ h.0;
    is_entry = h.1;
    value = x;
    found = h.2;
    kept = p;
  }
  found x (y ∷ rs) (e ∷ es) last r h p (suc j, is) =
      found (o.after e x) rs es last r h.3 (keeps e x h.1 h.2 p) (j, is)

-- these operations with their answers, one after the other, lead from the first value to the last
abbrev pub RunsOperations : {E M : Type 0} → (E → M → Type 0) → (E → M → M) → M → List E
    → M → Type 0
RunsOperations answers next m [] last = m ≡ last
RunsOperations answers next m (e ∷ es) last =
    answers e m × RunsOperations answers next (next e m) es last

-- if each value stands for a value of another type, and each entry is an operation on that other
-- value, then so is each history
module _ {E : Type 0} (o : Specification E) {M : Type 0} (P : o.Value → Type 0)
    (keeps : (e : E) (x : o.Value) → o.IsEntry e → o.Finds e x → P x → P (o.after e x))
    (answers : E → M → Type 0) (next : E → M → M) (of : o.Value → M)
    (answered : (e : E) (x : o.Value) → o.IsEntry e → o.Finds e x → P x → answers e (of x))
    (moved : (e : E) (x : o.Value) → o.IsEntry e → o.Finds e x → P x →
    of (o.after e x) ≡ next e (of x))
  where
    pub runs : (x : o.Value) (rs : List Record) (es : List E) (last : o.Value) →
        IsHistory o x rs es last → P x → RunsOperations answers next (of x) es (of last)
    runs x [] [] last h p = ap of h
    runs x [] (e ∷ es) last h p = absurd h
    runs x (r ∷ rs) [] last h p = absurd h
    runs x (r ∷ rs) (e ∷ es) last h p = (
      answered e x h.1 h.2 p,
      subst (λ (m : M). RunsOperations answers next m es (of last)) (moved e x h.1 h.2 p)
          (runs (o.after e x) rs es last h.3 (keeps e x h.1 h.2 p)),
    )

module _ {A E : Type 0} {o : Specification E} {region : RegionShown} {entry : A → E}
    {changes : A → Bool} {reads : Bool} {tries : ℕ} {v v' : Client} (a : A) where
  of_placed : (placed : Result (A × CommitPosition) Stop) → Ok a ≡ answer_in placed →
      HasCalledAt o region entry changes reads tries placed v v' →
      (place : CommitPosition) × HasCalledAt o region entry changes reads tries (Ok (a, place)) v v'
  of_placed (Ok b) e h =
      let same : b.0 ≡ a = cc in (
        b.1,
        subst (λ (x : A). HasCalledAt o region entry changes reads tries (Ok (x, b.1)) v v') same h,
      )
  of_placed (Err s) e h = absurd (let n : Ok a ≡ Err s = e in cc)

  -- the record of an answer has a commit position
  pub placed_answer : HasCalled o region entry changes reads tries (Ok a) v v' →
      (place : CommitPosition) × HasCalledAt o region entry changes reads tries (Ok (a, place)) v v'
  placed_answer h = of_placed h.placed h.result_is h.call
