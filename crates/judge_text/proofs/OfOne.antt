-- The calls for one object, of an order of all.
use Rattle.std.proofs.Common.{◌≡◌, ℕ, ◌≤◌, ◌==◌, Bool, true, false, cond, List, [], ◌∷◌, ◌++◌, refl, sym, ap, ◌∙◌}
use Rattle.std.proofs.Common.{subst, inl, inr}
use Rattle.std.specs.Prelude.{◌⊎◌}
use Rattle.std.specs.Str.{bytes_eq}
use Rattle.std.proofs.lemmas.Slice.Eq.{bytes_eq-Decides}
use Rattle.judge_object.specs.Rules.{Rules, IsAnswerOf}
use Rattle.judge_object.specs.Call.{Call, IsBehind, is_completed}
use Rattle.judge_object.specs.Orders.{of_client, IsOrderOf}
use Rattle.judge_object.specs.Linear.{GiveReplies}
use Rattle.judge_search.specs.Walk.{InTurn}
use Rattle.judge_search.proofs.Each.{Each}
use Rattle.judge_search.proofs.Places.{Precedes, times_of, turns_of, precedence_of, precedes_from, in_turn_from}
use Rattle.judge_text.specs.Many.{changed, is_for, part, many, PartsAreLinearizable}

-- a test of names, and what it says
abbrev pub Named : List ℕ → List ℕ → Type 0
Named a b = (bytes_eq a b ≡ true × (a ≡ b)) ⊎ (bytes_eq a b ≡ false × (a ≡ b → ⊥))

pub named : (a b : List ℕ) → Named a b
named a b =
    go (bytes_eq a b) refl
  where
    go : (t : Bool) → bytes_eq a b ≡ t → Named a b
    go true e = inl (e, (bytes_eq-Decides a b).0 e)
    go false e = inr (e, λ s. false_true (sym e ∙ (bytes_eq-Decides a b).1 s))
      where
        false_true : false ≡ true → ⊥
        false_true x = cc

module _ {O : Type 0} (name : O → List ℕ) where
  pub each_part : (P : Call O → Type 0) (k : List ℕ) (cs : List (Call O)) → Each P cs → Each P (part name k cs)
  each_part P k [] h = tt
  each_part P k (c ∷ cs) h =
      elim (named (name c.op) k) [
        | inl t ↦ rw t.0 (h.0, each_part P k cs h.1)
        | inr t ↦ rw t.0 (each_part P k cs h.1)
      ]

  pub part_append : (k : List ℕ) (xs ys : List (Call O)) → part name k (xs ++ ys) ≡ part name k xs ++ part name k ys
  part_append k [] ys = refl
  part_append k (x ∷ xs) ys =
      elim (named (name x.op) k) [
        | inl t ↦ rw t.0 (ap (λ l. x ∷ l) (part_append k xs ys))
        | inr t ↦ rw t.0 (part_append k xs ys)
      ]

  -- the calls of a client for an object
  pub part_client : (k : List ℕ) (client : ℕ) (cs : List (Call O)) →
      of_client client (part name k cs) ≡ part name k (of_client client cs)
  part_client k client [] = refl
  part_client k client (c ∷ cs) = go (is_for name k c) refl (c.client == client) refl (part_client k client cs)
    where
      go : (a : Bool) → is_for name k c ≡ a → (b : Bool) → (c.client == client) ≡ b →
          of_client client (part name k cs) ≡ part name k (of_client client cs) →
          of_client client (cond a (c ∷ part name k cs) (part name k cs)) ≡
          part name k (cond b (c ∷ of_client client cs) (of_client client cs))
      go true e true f h = rw (e, f) (ap (λ l. c ∷ l) h)
      go true e false f h = rw f h
      go false e true f h = rw e h
      go false e false f h = h

  pub turn_part : (k : List ℕ) (cs : List (Call O)) → InTurn cs → InTurn (part name k cs)
  turn_part k [] h = tt
  turn_part k (c ∷ cs) h =
      elim (named (name c.op) k) [
        | inl t ↦ rw t.0 (h.0, each_part (λ d. IsBehind d c) k cs h.1, turn_part k cs h.2)
        | inr t ↦ rw t.0 (turn_part k cs h.2)
      ]

  pub precedes_part : (k : List ℕ) (cs : List (Call O)) → Precedes cs → Precedes (part name k cs)
  precedes_part k [] h = tt
  precedes_part k (c ∷ cs) h =
      elim (named (name c.op) k) [
        | inl t ↦ rw t.0 (each_part (λ d. c.begin ≤ d.end) k cs h.0, precedes_part k cs h.1)
        | inr t ↦ rw t.0 (precedes_part k cs h.1)
      ]

  pub order_part : (k : List ℕ) (calls order : List (Call O)) → IsOrderOf calls order →
      IsOrderOf (part name k calls) (part name k order)
  order_part k calls order h = record {
    left = part name k h.left;
    merges = λ client. ap (of_client client) (sym (part_append k order h.left))
        ∙ part_client k client (order ++ h.left) ∙ ap (part name k) (h.merges client) ∙
        sym (part_client k client calls);
    never = each_part (λ c. is_completed c ≡ false) k h.left h.never;
  }

-- the state of an object that has changed, and of any other
pub changed_here : {T : Type 0} (s : List ℕ → T) (name k : List ℕ) (t : T) → k ≡ name → changed s name t k ≡ t
changed_here s name k t e = let b : bytes_eq k name ≡ true = (bytes_eq-Decides k name).1 e in rw b refl

pub changed_not : {T : Type 0} (s : List ℕ → T) (name k : List ℕ) (t : T) → (k ≡ name → ⊥) → changed s name t k ≡ s k
changed_not s name k t n =
    elim (named k name) [
      | inl b ↦ absurd (n b.1)
      | inr b ↦ rw b.0 refl
    ]

module _ {T O R : Type 0} (Y : Rules T O R) (name : O → List ℕ) where
  replies_part : (k : List ℕ) (s : List ℕ → T) (t : T) (cs : List (Call O)) → s k ≡ t →
      GiveReplies (many Y name) s cs → GiveReplies Y t (part name k cs)
  replies_part k s t [] e h = tt
  replies_part k s t (c ∷ cs) e h =
      elim (named (name c.op) k) [
        | inl x ↦
            let same : s (name c.op) ≡ t = ap s x.1 ∙ e in
            rw x.0 (
              subst (λ u. IsAnswerOf Y (Y.run u c.op).1 c.reply) same h.0,
              replies_part k (changed s (name c.op) (Y.run (s (name c.op)) c.op).0) (Y.run t c.op).0 cs
                  (changed_here s (name c.op) k (Y.run (s (name c.op)) c.op).0 (sym x.1) ∙
                  ap (λ u. (Y.run u c.op).0) same) h.1,
            )
        | inr x ↦
            rw x.0 (replies_part k (changed s (name c.op) (Y.run (s (name c.op)) c.op).0) t cs
            (changed_not s (name c.op) k (Y.run (s (name c.op)) c.op).0 (λ d. x.1 (sym d)) ∙ e) h.1)
      ]

  pub parts : PartsAreLinearizable Y name
  parts s calls h k =
      let turn = turn_part name k h.order (in_turn_from h.order h.linearization.times h.linearization.clients) in
      let precedes = precedes_part name k h.order (precedes_from h.order h.linearization.precedence) in
      let order = part name k h.order in
      record {
        order = order;
        orders = order_part name k calls h.order h.orders;
        linearization = record {
          replies = replies_part k s (s k) h.order refl h.linearization.replies;
          times = times_of order turn;
          clients = turns_of order turn;
          precedence = precedence_of order turn precedes;
        };
      }
