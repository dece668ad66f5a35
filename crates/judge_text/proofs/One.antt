-- A history of many objects whose calls are all for one.
use Rattle.std.proofs.Common.{◌≡◌, ◌<◌, ℕ, suc, List, [], ◌∷◌, ◌++◌, length, get_or, true, refl, sym, ap, ◌∙◌, subst}
use Rattle.std.proofs.Common.{arith}
use Rattle.std.specs.Str.{bytes_eq}
use Rattle.std.proofs.lemmas.Slice.Eq.{bytes_eq-Decides}
use Rattle.judge_object.specs.Rules.{Rules, IsAnswerOf}
use Rattle.judge_object.specs.Call.{Call}
use Rattle.judge_object.specs.declared.line.Line.{Line}
use Rattle.judge_object.specs.Orders.{IsLinearizable}
use Rattle.judge_object.specs.Linear.{GiveReplies}
use Rattle.judge_search.specs.Calls.{calls_of}
use Rattle.judge_search.proofs.Each.{Each}
use Rattle.judge_search.proofs.Clients.{each_order}
use Rattle.judge_text.specs.Many.{changed, part, many}
use Rattle.judge_text.specs.Runs.{AreOfOne}
use Rattle.judge_text.proofs.OfOne.{changed_here}

module _ {O : Type 0} (name : O → List ℕ) where
  -- the calls are all for the object of this name
  abbrev pub AreFor : List ℕ → List (Call O) → Type 0
  AreFor k calls = Each (λ (c : Call O). name c.op ≡ k) calls

  part_all : (k : List ℕ) (cs : List (Call O)) → AreFor k cs → part name k cs ≡ cs
  part_all k [] h = refl
  part_all k (c ∷ cs) h =
      let t : bytes_eq (name c.op) k ≡ true = (bytes_eq-Decides (name c.op) k).1 h.0 in
      rw t (ap (λ l. c ∷ l) (part_all k cs h.1))

  front_for : (k : List ℕ) (xs ys : List (Call O)) → AreFor k (xs ++ ys) → AreFor k xs
  front_for k [] ys h = tt
  front_for k (x ∷ xs) ys h = (h.0, front_for k xs ys h.1)

  lines_from : (k : List ℕ) (lines : List (Line O)) →
      ((i : ℕ) (d : Line O) → i < length lines → name (get_or lines i d).op ≡ k) → AreFor k (calls_of lines)
  lines_from k [] h = tt
  lines_from k (l ∷ ls) h = (h 0 l (omega arith), lines_from k ls (λ i d w. h (suc i) d (omega arith)))

module _ {T O R : Type 0} (Y : Rules T O R) (name : O → List ℕ) where
  replies_many : (k : List ℕ) (s : List ℕ → T) (t : T) (cs : List (Call O)) → s k ≡ t → AreFor name k cs →
      GiveReplies Y t cs → GiveReplies (many Y name) s cs
  replies_many k s t [] e o h = tt
  replies_many k s t (c ∷ cs) e o h =
      let same : s (name c.op) ≡ t = ap s o.0 ∙ e in (
        subst (λ u. IsAnswerOf Y (Y.run u c.op).1 c.reply) (sym same) h.0,
        replies_many k (changed s (name c.op) (Y.run (s (name c.op)) c.op).0) (Y.run t c.op).0 cs
            (changed_here s (name c.op) k (Y.run (s (name c.op)) c.op).0 (sym o.0) ∙
            ap (λ u. (Y.run u c.op).0) same) o.1 h.1,
      )

  of_one : (s : List ℕ → T) (k : List ℕ) (calls : List (Call O)) → AreFor name k calls →
      IsLinearizable Y (s k) (part name k calls) → IsLinearizable (many Y name) s calls
  of_one s k calls o given =
      let h = subst (IsLinearizable Y (s k)) (part_all name k calls o) given in
      let own = front_for name k h.order h.orders.left
      (each_order (λ (c : Call O). name c.op ≡ k) calls (h.order ++ h.orders.left) h.orders.merges o) in
      record {
        order = h.order;
        orders = h.orders;
        linearization = record {
          replies = replies_many k s (s k) h.order refl own h.linearization.replies;
          times = h.linearization.times;
          clients = h.linearization.clients;
          precedence = h.linearization.precedence;
        };
      }

  -- where all calls are for one object, its linearization is one of all
  pub one_alone : (s : List ℕ → T) (lines : List (Line O)) → AreOfOne name lines →
      ((k : List ℕ) → IsLinearizable Y (s k) (part name k (calls_of lines))) →
      IsLinearizable (many Y name) s (calls_of lines)
  one_alone s [] one h = of_one s [] [] tt (h [])
  one_alone s (l ∷ ls) one h =
      of_one s (name l.op) (calls_of (l ∷ ls)) (lines_from name (name l.op) (l ∷ ls) (λ i d w. one i d w))
      (h (name l.op))
