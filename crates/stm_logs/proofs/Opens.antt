--  What a `Slots` owns is taken apart and made, and a `&mut` to one is opened and closed, at any element type. Assumes
-- `Logic`.
use mathlib.Core.Path.{◌≡◌, refl, sym, ap, ◌∙◌}
use Prim.Native.Nat.{ℕ, ◌*◌, ◌<◌, ◌^◌}
use mathlib.Core.List.{List, [], ◌∷◌, ◌++◌}
use seplogic.Ra.Ura.{Ura}
use base.Fraction.{full_share}
use mir.Syntax.{w64}
use mir.Val.{Val, vint, vptr, vstruct, vcons, vnil, of_list}
use base.Logic.{id⊢, never}
use base.Stored.{Gv}
use base.Fml.{Lft, GName, Share, Fml, fsep, flt, flft, fobs, fauth, fbor, fobor}
use types.Logic.{Logic}
use types.Kit.{Goal, Soaks, Step, step, Seq, Item, ‵, ◌$◌, move, drop, rewrite, fsplit, fjoin, fpick, fpack, feq_l}
use types.Kit.{feq_i, flt_l, flt_i}
use types.SemTy.{Body}
use denote.RattleType.{RattleType, Valss}
use denote.Memory.{cell_at, mem}
use denote.RawPtr.{Ptr, block_ptr, ptr_val, in_block, in_a_block}
use denote.Steps.{opens, closes, nothing}
use denote.Struct.Struct.{Struct, within}
use denote.Struct.Owning.{Owning, shape}
use Rattle.core.proofs.mem.Param.{El, R, el_x}
use Rattle.core.specs.Mem.Slots.Ownership.{slots}
use Rattle.stm_logs.specs.declared.row.Row.{Row as Slots}
use Rattle.stm_logs.specs.contracts.row.Row as C
use Rattle.core.proofs.slots.Places.{sz}

abbrev pub words_val : Ptr → ℕ → Val
words_val p n = vstruct (vcons (ptr_val p) (vcons (vint w64 n) vnil))

abbrev pub row_val : ℕ → ℕ → ℕ → Val
row_val b o n = words_val (block_ptr b o) n

module _ (E : El) where
  abbrev pub owning : Owning
  owning = C.the_type (R E)

  abbrev pub Sr : RattleType
  Sr = C.the_row (R E)

  abbrev pub el_d : Type 0
  el_d = Slots (el_x E)

  -- the two data fields, as a plain struct
  abbrev pub Words : RattleType
  Words = Struct (shape owning)

  abbrev pub places : el_d → ℕ → ℕ → Fml
  places d b o = slots (R E) (block_ptr b o) d.items d.filled

module _ (E : El) {M : Type 1} {𝓤 : Ura M} {𝓛 : Logic 𝓤} {K : Type 0} {Γ : List (Item 𝓤)} {G : Goal 𝓤 𝓛.H} where
  pub row_had : K → (d : el_d E) (vs : List Val)
      → ((b o : ℕ) → d.ptr ≡ block_ptr b o → vs ≡ row_val b o d.len ∷ [] → d.len < 2 ^ 64 → d.len * sz E < 2 ^ 63 →
      Seq K 𝓛 (‵ (places E d b o) ∷ Γ) G)
      → Seq K 𝓛 (‵ ((Sr E).own_val d vs) ∷ Γ) G
  row_had t d vs k =
      fsplit t $ fpick t (λ vss. fsplit t $ feq_l t (λ all. fsplit t $ feq_l t
      (λ e₀. fsplit t $ fsplit t $ feq_l t (λ e₁. flt_l t (λ fn. drop t $ fsplit t $ flt_l t (λ fit.
      in_a_block t d.ptr (λ p. in_block p (slots (R E) p d.items d.filled)) (id⊢ 𝓤 (never 𝓤)) (λ b o e.
      k b o e (all ∙ ((λ i. vstruct (of_list (e₀ i ++ (e₁ i ++ []))) ∷ []) ∙
      ap (λ (p : Ptr). words_val p d.len ∷ []) e)) fn fit)))))))

  pub row_made : K → (d : el_d E) (b o : ℕ) → d.ptr ≡ block_ptr b o → d.len < 2 ^ 64 → d.len * sz E < 2 ^ 63
      → Step K 𝓛 (‵ ((Sr E).own_val d (row_val b o d.len ∷ [])) ∷ Γ) G (‵ (places E d b o) ∷ Γ) G
  row_made t d b o at fn fit = step (λ s.
      flt_i t (d.len * sz E) (2 ^ 63) fit $ fjoin t $
      nothing t $ flt_i t d.len (2 ^ 64) fn $ feq_i t (List Val) (vint w64 d.len ∷ [])
      (vint w64 d.len ∷ []) refl $ fjoin t $ fjoin t $
      feq_i t (List Val) (vptr b o ∷ []) (vptr b o ∷ []) refl $ fjoin t $ feq_i t (List Val) (row_val b o d.len ∷ [])
      (row_val b o d.len ∷ []) refl $ fjoin t $
      fpack t (Valss (shape (owning E)).fields) (within (shape (owning E)) (block_ptr b o, (d.len, tt))
      (row_val b o d.len ∷ [])) (vptr b o ∷ [], (vint w64 d.len ∷ [], tt)) $ fjoin t $
      rewrite t 0 (λ (p : Ptr). ‵ (fsep ((Words E).own_val (p, (d.len, tt)) (row_val b o d.len ∷ []))
      (fsep (flt (d.len * sz E) (2 ^ 63)) (in_block p (slots (R E) p d.items d.filled))))) (sym at) refl $ s)

module _ (E : El) {M : Type 1} {𝓤 : Ura M} {𝓛 : Logic 𝓤} {K : Type 0} {Γ : List (Item 𝓤)} {G : Goal 𝓤 𝓛.H} where
  -- [the places; the two words; the open borrow; obs; auth]
  pub row_opens : K → Soaks G → {κ : Lft} {q : Share} {γ : GName} (d : el_d E) (rb ro : ℕ)
      → ((b o : ℕ) → d.ptr ≡ block_ptr b o → d.len < 2 ^ 64 → d.len * sz E < 2 ^ 63
      → Seq K 𝓛 (‵ (places E d b o) ∷ ‵ (cell_at full_share (Sr E).mir (row_val b o d.len ∷ []) rb ro) ∷ ‵
      (fobor κ q (Body (mem (Sr E)) rb ro γ)) ∷ ‵ (fobs γ ((Sr E).coded.code d)) ∷ ‵
      (fauth γ ((Sr E).coded.code d)) ∷ Γ) G)
      → Seq K 𝓛 (‵ (fobs γ ((Sr E).coded.code d)) ∷ ‵ (fbor κ (Body (mem (Sr E)) rb ro γ)) ∷ ‵ (flft κ q) ∷ Γ) G
  row_opens t z d rb ro k =
      opens t z (Sr E) {h = d} rb ro (λ vs. move t (1 ∷ []) $ row_had E t d vs (λ b o e is fn fit.
      rewrite t 1 (λ (ws : List Val). ‵ (cell_at full_share (Sr E).mir ws rb ro)) is refl $ k b o e fn fit))

  pub row_closes : K → Soaks G → {κ : Lft} {q : Share} {u v : Gv} {γ : GName} (d : el_d E) (b o rb ro : ℕ) →
      d.ptr ≡ block_ptr b o → d.len < 2 ^ 64 → d.len * sz E < 2 ^ 63
      → Step K 𝓛 (‵ (fobs γ ((Sr E).coded.code d)) ∷ ‵ (fbor κ (Body (mem (Sr E)) rb ro γ)) ∷ ‵ (flft κ q) ∷ Γ) G
      (‵ (places E d b o) ∷ ‵ (cell_at full_share (Sr E).mir (row_val b o d.len ∷ []) rb ro) ∷ ‵
      (fobor κ q (Body (mem (Sr E)) rb ro γ)) ∷ ‵ (fobs γ u) ∷ ‵ (fauth γ v) ∷ Γ) G
  row_closes t z d b o rb ro at fn fit = step (λ s. row_made E t d b o at fn fit $ move t (1 ∷ 0 ∷ []) $ closes t z
      (Sr E) d (row_val b o d.len ∷ []) rb ro $ s)
