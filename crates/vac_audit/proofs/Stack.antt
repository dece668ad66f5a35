-- The walk of a tree with a stack of its own: the work that remains above a tree that is being
-- walked.
use Rattle.std.proofs.Common.{◌≡◌, ℕ, ◌+◌, Bool, true, false, cond, List, [], ◌∷◌, ◌++◌, suc, refl, sym, ap, ◌∙◌, subst}
use Rattle.std.proofs.Common.{nat_eq}
use Rattle.std.specs.Prelude.{Result, Ok, Err}
use Rattle.tx_alloc.specs.Pool.{IsBlock}
use Rattle.tx_alloc.specs.Rows.{Rows}
use Rattle.vac_audit.specs.Tree.{Tree, leaf, node, rows}
use Rattle.vac_audit.specs.Walk.{Seen, Look, then, wants, follow, above, is_key, is_coloured, walk_tree}
use Rattle.vac_audit.specs.declared.Flaw.{Flaw}
use Rattle.vac_audit.specs.declared.Flaw.TheVariants.{Shared, Order, Colour}
use Rattle.vac_audit.proofs.Steps.{then_with, test_with, not_none}
use Rattle.vac_audit.proofs.Running.{then_err}

-- a node above the tree that is being walked: the tree is its left side, or its right side after
-- this left side
pub data Frame : Type 0 where
  in_left : (p : ℕ) → Frame
  in_right : (p : ℕ) → (l : Tree) → Frame

-- the least key of the tree that is walked below these nodes, the lowest of which is first
abbrev pub least : (ℕ → ℕ) → List Frame → ℕ
least m [] = 1
least m (in_left p ∷ fs) = least m fs
least m (in_right p l ∷ fs) = m p + 1

-- the colour of a node, when both sides are walked
abbrev pub hang : (ℕ → ℕ) → ℕ → Tree → Tree → Seen → Result (Tree × Seen) Flaw
hang m p l t s = then (wants (is_coloured (m (p + 3)) l t) (Colour (p + 3)))
    (λ _. Ok (node (nat_eq (m (p + 3)) 1) l (m p, p) t, s))

-- the node itself and its right side, after the left side was walked
abbrev pub go_right : (ℕ → ℕ) → ℕ → Look → ℕ → ℕ → ℕ → Tree → Seen → Result (Tree × Seen) Flaw
go_right m n look levels lo p l s =
    then (wants (is_key m p (above lo (rows l))) (Order p)) (λ _.
    then (look p s) (λ s'.
    then (walk_tree m n look levels (p + 2) (m p + 1) s') (λ t. hang m p l t.0 t.1)))

-- the result of the whole walk, from the result for the tree below these nodes
abbrev pub unwind : (ℕ → ℕ) → ℕ → Look → List Frame → ℕ → Result (Tree × Seen) Flaw → Result (Tree × Seen) Flaw
unwind m n look [] levels r = r
unwind m n look (in_left p ∷ fs) levels r = unwind m n look fs (suc levels)
    (then r (λ x. go_right m n look levels (least m fs) p x.0 x.1))
unwind m n look (in_right p l ∷ fs) levels r = unwind m n look fs (suc levels) (then r (λ x. hang m p l x.0 x.1))

module _ (m : ℕ → ℕ) (n : ℕ) (look : Look) where
  -- a flaw below is a flaw of the whole
  pub unwind_err : (fs : List Frame) (levels : ℕ) (f : Flaw) → unwind m n look fs levels (Err f) ≡ Err f
  unwind_err [] levels f = refl
  unwind_err (in_left p ∷ fs) levels f = unwind_err fs (suc levels) f
  unwind_err (in_right p l ∷ fs) levels f = unwind_err fs (suc levels) f

  unwind_as : (fs : List Frame) (levels : ℕ) (r r' whole : Result (Tree × Seen) Flaw) → r ≡ r' →
      unwind m n look fs levels r ≡ whole → unwind m n look fs levels r' ≡ whole
  unwind_as fs levels r r' whole e h = subst (λ (z : Result (Tree × Seen) Flaw). unwind m n look fs levels z ≡ whole) e
      h

  flaw_as : (fs : List Frame) (levels : ℕ) (r whole : Result (Tree × Seen) Flaw) (f : Flaw) → r ≡ Err f →
      unwind m n look fs levels r ≡ whole → whole ≡ Err f
  flaw_as fs levels r whole f e h = sym (unwind_as fs levels r (Err f) whole e h) ∙ unwind_err fs levels f

  -- the steps: down
  pub down_end : (fs : List Frame) (levels at : ℕ) (s : Seen) (whole : Result (Tree × Seen) Flaw) →
      follow m n at s.blocks ≡ Ok 0
      → unwind m n look fs (suc levels) (walk_tree m n look (suc levels) at (least m fs) s) ≡ whole →
      unwind m n look fs (suc levels) (Ok (leaf, s)) ≡ whole
  down_end fs levels at s whole e h = unwind_as fs (suc levels) _ _ whole
      (then_with (follow m n at s.blocks) _ 0 _ e refl) h

  pub down_flaw : (fs : List Frame) (levels at : ℕ) (s : Seen) (whole : Result (Tree × Seen) Flaw) (f : Flaw) →
      follow m n at s.blocks ≡ Err f
      → unwind m n look fs (suc levels) (walk_tree m n look (suc levels) at (least m fs) s) ≡ whole → whole ≡ Err f
  down_flaw fs levels at s whole f e h = flaw_as fs (suc levels) _ whole f (then_err (follow m n at s.blocks) _ f e) h

  pub down_out : (fs : List Frame) (at : ℕ) (s : Seen) (whole : Result (Tree × Seen) Flaw)
      → unwind m n look fs 0 (walk_tree m n look 0 at (least m fs) s) ≡ whole → whole ≡ Err (Shared at)
  down_out fs at s whole h = flaw_as fs 0 _ whole (Shared at) refl h

  pub down_block : (fs : List Frame) (levels at p : ℕ) (s : Seen) (whole : Result (Tree × Seen) Flaw) →
      follow m n at s.blocks ≡ Ok p → IsBlock n p
      → unwind m n look fs (suc levels) (walk_tree m n look (suc levels) at (least m fs) s) ≡ whole
      → unwind m n look (in_left p ∷ fs) levels (walk_tree m n look levels (p + 1) (least m fs)
      (record s { blocks = p ∷ s.blocks })) ≡ whole
  down_block fs levels at p s whole e b h =
      unwind_as fs (suc levels) _ _ whole (then_with (follow m n at s.blocks) _ p _ e
      (ap (λ (z : Bool). cond z (Ok (leaf, s))
      (then (walk_tree m n look levels (p + 1) (least m fs) (record s { blocks = p ∷ s.blocks }))
      (λ x. go_right m n look levels (least m fs) p x.0 x.1))) (not_none n p b))) h

  -- up to a node whose left side was walked
  pub left_order : (fs : List Frame) (levels p : ℕ) (t : Tree) (s : Seen) (whole : Result (Tree × Seen) Flaw) →
      is_key m p (above (least m fs) (rows t)) ≡ false
      → unwind m n look (in_left p ∷ fs) levels (Ok (t, s)) ≡ whole → whole ≡ Err (Order p)
  left_order fs levels p t s whole e h = flaw_as fs (suc levels) _ whole (Order p)
      (then_err (wants (is_key m p (above (least m fs) (rows t))) (Order p)) _ (Order p)
      (ap (λ (z : Bool). wants z (Order p)) e)) h

  pub left_flaw : (fs : List Frame) (levels p : ℕ) (t : Tree) (s : Seen) (whole : Result (Tree × Seen) Flaw) (f : Flaw)
      → is_key m p (above (least m fs) (rows t)) ≡ true → look p s ≡ Err f
      → unwind m n look (in_left p ∷ fs) levels (Ok (t, s)) ≡ whole → whole ≡ Err f
  left_flaw fs levels p t s whole f e g h = flaw_as fs (suc levels) _ whole f
      (test_with (is_key m p (above (least m fs) (rows t))) (Order p) _ _ e (then_err (look p s) _ f g)) h

  pub left_done : (fs : List Frame) (levels p : ℕ) (t : Tree) (s s' : Seen) (whole : Result (Tree × Seen) Flaw) →
      is_key m p (above (least m fs) (rows t)) ≡ true → look p s ≡ Ok s'
      → unwind m n look (in_left p ∷ fs) levels (Ok (t, s)) ≡ whole →
      unwind m n look (in_right p t ∷ fs) levels (walk_tree m n look levels (p + 2) (m p + 1) s') ≡ whole
  left_done fs levels p t s s' whole e g h = unwind_as fs (suc levels) _ _ whole
      (test_with (is_key m p (above (least m fs) (rows t))) (Order p) _ _ e (then_with (look p s) _ s' _ g refl)) h

  -- up to a node whose right side was walked
  pub right_flaw : (fs : List Frame) (levels p : ℕ) (l t : Tree) (s : Seen) (whole : Result (Tree × Seen) Flaw) →
      is_coloured (m (p + 3)) l t ≡ false
      → unwind m n look (in_right p l ∷ fs) levels (Ok (t, s)) ≡ whole → whole ≡ Err (Colour (p + 3))
  right_flaw fs levels p l t s whole e h = flaw_as fs (suc levels) _ whole (Colour (p + 3))
      (then_err (wants (is_coloured (m (p + 3)) l t) (Colour (p + 3))) _ (Colour (p + 3))
      (ap (λ (z : Bool). wants z (Colour (p + 3))) e)) h

  pub right_done : (fs : List Frame) (levels p : ℕ) (l t : Tree) (s : Seen) (whole : Result (Tree × Seen) Flaw) →
      is_coloured (m (p + 3)) l t ≡ true
      → unwind m n look (in_right p l ∷ fs) levels (Ok (t, s)) ≡ whole →
      unwind m n look fs (suc levels) (Ok (node (nat_eq (m (p + 3)) 1) l (m p, p) t, s)) ≡ whole
  right_done fs levels p l t s whole e h = unwind_as fs (suc levels) _ _ whole
      (test_with (is_coloured (m (p + 3)) l t) (Colour (p + 3)) _ _ e refl) h

-- the next key after a node
pub above_node : (lo k p : ℕ) (rs ts : Rows) → above lo (rs ++ ((k, p) ∷ ts)) ≡ above (k + 1) ts
above_node lo k p [] ts = refl
above_node lo k p (r ∷ rs) ts = above_node (r.0 + 1) k p rs ts
