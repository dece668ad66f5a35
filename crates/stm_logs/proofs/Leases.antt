-- What a `Lease` owns is taken apart and made, and the layout of the block that it stands for. Assumes `Logic`.
use mathlib.Core.Path.{◌≡◌, refl, sym, ap, ◌∙◌}
use Prim.Native.Nat.{ℕ, zero, suc, ◌*◌, ◌<◌, ◌^◌}
use native.Mathlib.Nat.{zero-mul, suc-mul}
use native.Mathlib.Omega.{arith}
use mathlib.Core.List.{List, [], ◌∷◌, ◌++◌}
use seplogic.Ra.Ura.{Ura}
use mir.Syntax.{Ty, Args, w64, a_type, ty_array, dcons, dnil}
use mir.Val.{Val, vint, vptr, vstruct, vcons, vnil, of_list}
use mir.Raw.{raw as bare}
use prog.Memory.{size, align, capped}
use prog.Capped.{capped_is}
use prog.RawLaws.{size-raw, align-raw}
use types.Logic.{Logic}
use types.Kit.{Goal, Step, step, Seq, Item, ‵, ◌$◌, drop, fsplit, fjoin, fpick, feq_l}
use denote.RattleType.{RattleType}
use denote.Param.{param, bounded}
use denote.RawPtr.{Ptr, block_ptr, ptr_val}
use denote.Shadow.{pure_i}
use denote.Struct.Struct.{Struct}
use denote.Struct.Owning.{shape}
use Rattle.core.proofs.mem.Param.{El, R, elτ}
use Rattle.core.proofs.alloc.Calls.{Al, token}
use Rattle.stm_logs.specs.contracts.row.Right as L
use Rattle.core.proofs.slots.Places.{sz}

-- where the product fits a word, the count is zero or the size fits too
pub uncapped : (i k : ℕ) → i * k < 2 ^ 64 → i * capped k ≡ i * k
uncapped zero k h = zero-mul (capped k) ∙ sym (zero-mul k)
uncapped (suc i) k h = let up = suc-mul i k in ap (λ (j : ℕ). suc i * j) (capped_is k (omega arith))

abbrev pub lease_val : Ptr → ℕ → Val
lease_val p n = vstruct (vcons (ptr_val p) (vcons (vint w64 n) (vcons (vstruct vnil) vnil)))

module _ (E : El) where
  -- the type that a block of n places is allocated for
  abbrev pub block_ty : ℕ → Ty
  block_ty n = bare (ty_array (elτ E) n)

  pub block_size : (n : ℕ) → n * sz E < 2 ^ 64 → capped (size (block_ty n)) ≡ n * sz E
  block_size n fits = ap capped (size-raw (ty_array (elτ E) n)) ∙ capped_is (n * sz E) fits

  pub block_align : (n : ℕ) → capped (align (block_ty n)) ≡ capped (align (elτ E))
  block_align n = ap capped (align-raw (ty_array (elτ E) n))

module _ (E : El) (Z : Al) where
  abbrev pub args : Args
  args = bounded (a_type ∷ a_type ∷ []) (E.row, (Z.row, tt)) (dcons Z.d (dcons Z.drops dnil))

  abbrev pub P : RattleType
  P = param 1 Z.row

  abbrev pub Lr : RattleType
  Lr = L.the_row (R E) P Z.g

  abbrev pub made : Z.row.Denot → ℕ → ℕ → ℕ → Lr.Denot
  made a b o n = record { ptr = block_ptr b o; len = n; by = record {}; alloc = a }

module _ (E : El) (Z : Al) {M : Type 1} {𝓤 : Ura M} {𝓛 : Logic 𝓤} {K : Type 0} {Γ : List (Item 𝓤)} {G : Goal 𝓤 𝓛.H}
  where
    pub lease_had : K → (d : (Lr E Z).Denot) (vs : List Val)
        → (vs ≡ lease_val d.ptr d.len ∷ [] → Seq K 𝓛 (‵ (token Z d.alloc (block_ty E d.len) d.ptr) ∷ Γ) G) →
        Seq K 𝓛 (‵ ((Lr E Z).own_val d vs) ∷ Γ) G
    lease_had t d vs k =
        fsplit t $ fpick t (λ vss. fsplit t $ feq_l t (λ all. fsplit t $ feq_l t
        (λ e₀. fsplit t $ fsplit t $ feq_l t (λ e₁. drop t $ fsplit t $ fpick t
        (λ none. fsplit t $ feq_l t (λ e₂. drop t $ drop t $
        k (all ∙ (λ i. vstruct (of_list (e₀ i ++ (e₁ i ++ (e₂ i ++ [])))) ∷ []))))))))

    pub lease_made : K → (a : Z.row.Denot) (b o n : ℕ) → n < 2 ^ 64
        → Step K 𝓛 (‵ ((Lr E Z).own_val (made E Z a b o n) (lease_val (block_ptr b o) n ∷ [])) ∷ Γ) G
        (‵ (token Z a (block_ty E n) (block_ptr b o)) ∷ Γ) G
    lease_made t a b o n fn = step (λ s.
        pure_i t ((Struct (shape (L.the_type (R E) (P E Z) Z.g))).own_val (block_ptr b o, (n, (tt, tt)))
        (lease_val (block_ptr b o) n ∷ [])) (λ vss. (tt, (tt, ((tt, tt), ((λ uss. (tt, tt)), tt))))) (
          (vptr b o ∷ [], (vint w64 n ∷ [], (vstruct vnil ∷ [], tt))),
          (refl, (refl, ((refl, fn), ((tt, (refl, tt)), tt)))),
        ) $ fjoin t $ s)
