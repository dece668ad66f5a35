--  A `&` to a `Slots` is made where one to an element is. It lends the bound on its size and each value that it holds.
-- Assumes `Logic`.
use mathlib.Core.Bool.{Bool, true, false}
use mathlib.Core.List.{List, [], ◌∷◌, ◌++◌}
use Prim.Native.Nat.{◌*◌, ◌^◌}
use seplogic.Ra.Ura.{Ura}
use base.Fml.{Lft, ftrue, flt, Incl-trans}
use types.Logic.{Logic}
use contract.BorrowLft.{meet_⊑_left}
use denote.RattleType.{RattleType, RowLaws}
use denote.Sharing.{ShrLaws, said}
use denote.SharingLaws.{nothing_shr_laws, said_shr_laws, beside_shr_laws}
use denote.RawPtr.{Ptr, block_ptr, null_ptr, in_block, ◌+ₚ◌}
use denote.Shares.{Shares, Shares-less}
use denote.Param.Laws.{Laws}
use denote.Param.Shared.{copy_shared}
use denote.Struct.Field.{RawPtr-field, usize-field}
use denote.Struct.Laws.{RawPtr-copy, usize-copy}
use denote.Struct.Lending.{lent_at_shr_laws, Lends, Lends-false, Lends-lies, Lends-said, Lends-nothing, Lends-both}
use denote.Struct.Lending.{of_Lends}
use Rattle.core.specs.Mem.Slots.Ownership.{bytes_of, slot, slots, slot_lent, slots_lent}
use Rattle.stm_logs.specs.contracts.row.Row as C
use Rattle.stm_logs.proofs.row.Row.TheLaw.Statement.{statement}

module _ (R : RattleType) (L : RowLaws R) where
  slot_laws : (f : Bool) (p : Ptr) (x : R.Denot) → ShrLaws (slot_lent R f p x)
  slot_laws true p x = lent_at_shr_laws R L p x
  slot_laws false p x = nothing_shr_laws

  slots_laws : (p : Ptr) (xs : List R.Denot) (fs : List Bool) → ShrLaws (slots_lent R p xs fs)
  slots_laws p [] fs = nothing_shr_laws
  slots_laws p (x ∷ xs) [] = nothing_shr_laws
  slots_laws p (x ∷ xs) (f ∷ fs) = beside_shr_laws (slot_lent R f p x) (slots_lent R (p +ₚ bytes_of R) xs fs)
      (slot_laws f p x) (slots_laws (p +ₚ bytes_of R) xs fs)

module _ {M : Type 1} {𝓤 : Ura M} (𝓛 : Logic 𝓤) (R : RattleType) (l : Lft) (s : Shares 𝓛 R l) where
  Lends-slot : (f : Bool) (p : Ptr) (x : R.Denot) → Lends 𝓛 (slot R f p x) (slot_lent R f p x) l
  Lends-slot true p x = Lends-lies 𝓛 R l p x (s x)
  Lends-slot false p x = Lends-nothing 𝓛 (slot R false p x) l

  Lends-slots : (p : Ptr) (xs : List R.Denot) (fs : List Bool) → Lends 𝓛 (slots R p xs fs) (slots_lent R p xs fs) l
  Lends-slots p [] fs = Lends-nothing 𝓛 ftrue l
  Lends-slots p (x ∷ xs) [] = Lends-nothing 𝓛 ftrue l
  Lends-slots p (x ∷ xs) (f ∷ fs) =
      Lends-both 𝓛 (slot R f p x) (slots R (p +ₚ bytes_of R) xs fs) (slot_lent R f p x)
      (slots_lent R (p +ₚ bytes_of R) xs fs) l (Lends-slot f p x) (Lends-slots (p +ₚ bytes_of R) xs fs)

  Lends-row : (p : Ptr) (xs : List R.Denot) (fs : List Bool) →
      Lends 𝓛 (in_block p (slots R p xs fs)) (slots_lent R p xs fs) l
  Lends-row (block_ptr b o) xs fs = Lends-slots (block_ptr b o) xs fs
  Lends-row null_ptr xs fs = Lends-false 𝓛 (slots_lent R null_ptr xs fs) l

pub shares : (R : RattleType) (L : Laws R) → statement R L
shares R L = of_Lends (C.struct R) (C.the_codes R.Denot R.coded) (C.the_heap R) (C.the_lent R)
    (λ d p. let small = flt (d.len * bytes_of R) (2 ^ 63) in
    beside_shr_laws (said small) (slots_lent R d.ptr d.items d.filled) (said_shr_laws small tt)
    (slots_laws R L.shr_laws d.ptr d.items d.filled))
    (copy_shared RawPtr-field RawPtr-copy, (copy_shared usize-field usize-copy, tt))
    (λ M 𝓤 𝓛 d p.
    let l = (C.the_row R).lives in
    let small = flt (d.len * bytes_of R) (2 ^ 63) in
    Lends-both 𝓛 small (in_block d.ptr (slots R d.ptr d.items d.filled)) (said small)
    (slots_lent R d.ptr d.items d.filled) l (Lends-said 𝓛 small tt l)
    (Lends-row 𝓛 R l (Shares-less 𝓛 R R.lives l (Incl-trans (meet_⊑_left (R.lives ++ []) _) (meet_⊑_left R.lives []))
    (L.shares 𝓛)) d.ptr d.items d.filled))
