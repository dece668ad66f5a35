-- A row may cross threads where its values may, and the right to free its block where the allocator
-- may.
use Rattle.std.specs.Prelude.{ℕ, Bool, true, false, List, [], ◌∷◌}
use base.Fraction.{full_share}
use base.Shift.{Keyless}
use denote.Exit.{Exit, unchanged, leaves, hidden, under}
use denote.RattleType.{RattleType}
use denote.RawPtr.{Ptr, block_ptr, null_ptr, ◌+ₚ◌}
use denote.Struct.Struct.{exits_of}
use denote.Struct.Owning.{shape, fields, to}
use denote.Param.Send.{IsSend, Frees, Quiet, AllSend, part_keyless, owning_send, struct_send, sendable}
use Rattle.core.specs.declared.alloc.Allocator.{Ghosts}
use Rattle.core.specs.Mem.Slots.Ownership.{bytes_of, slot, slots, owned}
use Rattle.stm_logs.specs.contracts.row.Row as Row
use Rattle.stm_logs.specs.contracts.row.Right as Right

quiet : {D X : Type 0} (to : D → X) (e : Exit X) → Quiet e → Quiet (hidden (under to e))
quiet to unchanged q = λ x w. tt
quiet to (leaves L l S s r₀) q = λ d. q (to d)

module _ (R : RattleType) where
  slot-Keyless : IsSend R → (f : Bool) (p : Ptr) (x : R.Denot) → Keyless (slot R f p x)
  slot-Keyless s true (block_ptr b o) x = part_keyless R s full_share x b o
  slot-Keyless s true null_ptr x = tt
  slot-Keyless s false (block_ptr b o) x = tt
  slot-Keyless s false null_ptr x = tt

  slots-Keyless : IsSend R → (p : Ptr) (xs : List R.Denot) (fs : List Bool) → Keyless (slots R p xs fs)
  slots-Keyless s p [] fs = tt
  slots-Keyless s p (x ∷ xs) [] = tt
  slots-Keyless s p (x ∷ xs) (f ∷ fs) = (slot-Keyless s f p x, slots-Keyless s (p +ₚ bytes_of R) xs fs)

  owned-Keyless : IsSend R → (p : Ptr) (n : ℕ) (xs : List R.Denot) (fs : List Bool) → Keyless (owned R p n xs fs)
  owned-Keyless s (block_ptr b o) n xs fs = (tt, slots-Keyless s (block_ptr b o) xs fs)
  owned-Keyless s null_ptr n xs fs = (tt, tt)

  pub Row-send : IsSend R → IsSend (Row.the_row R)
  Row-send s =
      let O = Row.the_type R in let all : AllSend (fields O) = (search sendable, (search sendable, tt)) in
      owning_send O all (λ d. owned-Keyless s d.ptr d.len d.items d.filled)
      (λ k. quiet (to O) (exits_of k (fields O)) ((struct_send (shape O) all).leaving k))

  module _ (A : RattleType) (g : Ghosts A.Denot) where
    pub Right-send : Frees g g.dealloc_token → IsSend (Right.the_row R A g)
    Right-send f =
        let O = Right.the_type R A g in let all : AllSend (fields O) =
        (search sendable, (search sendable, (search sendable, tt))) in
        owning_send O all (λ d. f.frees d.alloc _ d.ptr) (λ k. quiet (to O) (exits_of k (fields O))
        ((struct_send (shape O) all).leaving k))
