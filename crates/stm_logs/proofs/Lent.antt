-- What a `&` to a `Slots` shows: its two words, and a `&` to each value that it holds. Assumes `Logic`.
use mathlib.Core.Path.{◌≡◌, refl, sym, ap, ◌∙◌}
use mathlib.Core.Bool.{Bool, true, false}
use Prim.Native.Nat.{ℕ, zero, suc, ◌+◌, ◌*◌, ◌<◌, ◌^◌}
use native.Mathlib.Nat.{not-suc-le-zero, le_of_suc-le-suc}
use mathlib.Core.List.{List, [], ◌∷◌}
use lib.ListN.{length, get_or}
use seplogic.Ra.Ura.{Ura}
use mir.Syntax.{ty_ptr}
use mir.Val.{Val, vptr}
use base.Logic.{ent, sep, never}
use base.Fml.{Lft, Share, fat, flt, flft, fhide}
use types.Logic.{Logic, sem}
use types.Kit.{Goal, Soaks, Step, step, Seq, Item, ‵, ◌⊛◌, ◌$◌, ◌∵◌, !, qed, by, move, keep, drop, use1, split, rewrite}
use types.Kit.{fsplit, feq_l, feq_i, done}
use denote.Builtin.{usize}
use denote.Memory.{cell_at, part_at, hidden_shr}
use denote.Copied.{plain_Copied}
use denote.RawPtr.{Ptr, RawPtr, block_ptr, null_ptr, coded_ptr, ptr_own, rawptr_pure, ptr_val}
use denote.Index.{place, place_is}
use denote.Struct.Laws.{RawPtr-laws}
use denote.Struct.Lending.{lent_out}
use denote.Opens.{Shut, unhide}
use denote.Steps.{looks, shuts}
use Rattle.core.proofs.mem.Param.{El, R, el_x}
use Rattle.core.specs.Mem.Slots.Ownership.{slot_lent, slots_lent}
use Rattle.stm_logs.specs.contracts.row.Row as C
use Rattle.core.proofs.slots.Places.{sz}
use Rattle.stm_logs.proofs.Opens.{Sr, el_d, Words}

module _ (E : El) {M : Type 1} {𝓤 : Ura M} (𝓛 : Logic 𝓤) (κ : Lft) where
  pub shown : (d : el_d E) (b o : ℕ) → ent 𝓤 (sem 𝓛 (hidden_shr (Sr E) κ d b o))
      (sep 𝓤 (sem 𝓛 (hidden_shr RawPtr κ d.ptr b (o + 0))) (sep 𝓤 (sem 𝓛 (hidden_shr usize κ d.len b (o + 8)))
      (sep 𝓤 (sem 𝓛 (flt (d.len * sz E) (2 ^ 63))) (sem 𝓛 (slots_lent (R E) d.ptr d.items d.filled κ)))))
  shown d b o = qed 𝓛 (‵ (hidden_shr (Sr E) κ d b o) ∷ []) ∵
      use1 𝓛 (‵ (hidden_shr (Words E) κ (d.ptr, (d.len, tt)) b o) ⊛ ‵ (fhide (C.the_lent (R E) d d.ptr κ)))
      (lent_out 𝓛 (C.struct (R E)) (C.the_codes (el_x E) (R E).coded) (C.the_heap (R E)) (C.the_lent (R E)) κ d b o)
      $ split ! $
      unhide ! $ fsplit ! $ fsplit ! $ move ! (1 ∷ []) $ fsplit ! $ keep ! (2 ∷ 0 ∷ 4 ∷ []) $ done !

  pub none_at_null : (xs : List (el_x E)) (fs : List Bool) (i : ℕ) → i < length xs → i < length fs →
      get_or fs i false ≡ true → ent 𝓤 (sem 𝓛 (slots_lent (R E) null_ptr xs fs κ)) (never 𝓤)
  none_at_null [] fs i l m full = absurd (not-suc-le-zero l)
  none_at_null (x ∷ xs) [] i l m full = absurd (not-suc-le-zero m)
  none_at_null (x ∷ xs) (f ∷ fs) zero l m full = qed 𝓛 (‵ (slot_lent (R E) f null_ptr x κ) ∷ ‵
      (slots_lent (R E) null_ptr xs fs κ) ∷ []) ∵
      rewrite ! 0 (λ (g : Bool). ‵ (slot_lent (R E) g null_ptr x κ)) full refl $ fsplit ! $ keep ! (0 ∷ []) $ done !
  none_at_null (x ∷ xs) (f ∷ fs) (suc i) l m full = qed 𝓛 (‵ (slot_lent (R E) f null_ptr x κ) ∷ ‵
      (slots_lent (R E) null_ptr xs fs κ) ∷ []) ∵
      drop ! $ by ! (none_at_null xs fs i (le_of_suc-le-suc l) (le_of_suc-le-suc m) full)

  one_lent : (b o : ℕ) (xs : List (el_x E)) (fs : List Bool) (i : ℕ) (d : el_x E) → i < length xs → i < length fs →
      get_or fs i false ≡ true
      → ent 𝓤 (sem 𝓛 (slots_lent (R E) (block_ptr b o) xs fs κ))
      (sem 𝓛 (hidden_shr (R E) κ (get_or xs i d) b (place (sz E) o i)))
  one_lent b o [] fs i d l m full = absurd (not-suc-le-zero l)
  one_lent b o (x ∷ xs) [] i d l m full = absurd (not-suc-le-zero m)
  one_lent b o (x ∷ xs) (f ∷ fs) zero d l m full = qed 𝓛 (‵ (slot_lent (R E) f (block_ptr b o) x κ) ∷ ‵
      (slots_lent (R E) (block_ptr b (o + sz E)) xs fs κ) ∷ []) ∵
      rewrite ! 0 (λ (g : Bool). ‵ (slot_lent (R E) g (block_ptr b o) x κ)) full refl $ fsplit ! $ keep !
      (1 ∷ []) $ done !
  one_lent b o (x ∷ xs) (f ∷ fs) (suc i) d l m full = qed 𝓛 (‵ (slot_lent (R E) f (block_ptr b o) x κ) ∷ ‵
      (slots_lent (R E) (block_ptr b (o + sz E)) xs fs κ) ∷ []) ∵
      drop ! $ by ! (one_lent b (o + sz E) xs fs i d (le_of_suc-le-suc l) (le_of_suc-le-suc m) full)

  pub value_lent : (b o : ℕ) (xs : List (el_x E)) (fs : List Bool) (i : ℕ) (d : el_x E) → i < length xs →
      i < length fs → get_or fs i false ≡ true
      → ent 𝓤 (sem 𝓛 (slots_lent (R E) (block_ptr b o) xs fs κ))
      (sem 𝓛 (hidden_shr (R E) κ (get_or xs i d) b (i * sz E + o)))
  value_lent b o xs fs i d l m full = qed 𝓛 (‵ (slots_lent (R E) (block_ptr b o) xs fs κ) ∷ []) ∵
      use1 𝓛 (‵ (hidden_shr (R E) κ (get_or xs i d) b (place (sz E) o i)))
      (one_lent b o xs fs i d l m full) $ rewrite ! 0 (λ (k : ℕ). ‵ (hidden_shr (R E) κ (get_or xs i d) b k))
      (place_is (sz E) o i) refl $ done !

module _ {M : Type 1} {𝓤 : Ura M} {𝓛 : Logic 𝓤} {K : Type 0} {Γ : List (Item 𝓤)} {G : Goal 𝓤 𝓛.H} where
  -- the same of a pointer into a block
  pub pointer_in : K → Soaks G → {κ : Lft} {q : Share} (p : Ptr) (pb po : ℕ) → p ≡ block_ptr pb po → (b at : ℕ)
      → ((q' : Share) → Seq K 𝓛 (‵ (fat q' ty_ptr b at (vptr pb po)) ∷ Shut 𝓛 κ q (part_at RawPtr q' p b at) ∷ Γ) G) →
      Seq K 𝓛 (‵ (hidden_shr RawPtr κ p b at) ∷ ‵ (flft κ q) ∷ Γ) G
  pointer_in t z p pb po is b at k =
      looks t z RawPtr (plain_Copied 𝓛 Ptr coded_ptr (ty_ptr ∷ []) ptr_own rawptr_pure ptr_val RawPtr-laws.tells).opens
      p b at (λ q' vs. move t (1 ∷ []) $ feq_l t (λ e.
      rewrite t 0 (λ (us : List Val). ‵ (cell_at q' RawPtr.mir us b at))
      (e ∙ ap (λ (r : Ptr). ptr_val r ∷ []) is) refl $ move t (2 ∷ []) $ drop t $ k q'))

  pub pointer_out : K → Soaks G → {κ : Lft} {q q' : Share} (p : Ptr) (pb po : ℕ) → p ≡ block_ptr pb po → (b at : ℕ)
      → Step K 𝓛 (‵ (flft κ q) ∷ Γ) G (‵ (fat q' ty_ptr b at (vptr pb po)) ∷ Shut 𝓛 κ q (part_at RawPtr q' p b at) ∷ Γ)
      G
  pointer_out t z {q' = q'} p pb po is b at = step (λ s.
      feq_i t (List Val) (vptr pb po ∷ []) (ptr_val p ∷ []) (ap (λ (r : Ptr). ptr_val r ∷ []) (sym is)) $ move t
      (1 ∷ 0 ∷ []) $ shuts t z RawPtr q' p (vptr pb po ∷ []) b at $ s)
