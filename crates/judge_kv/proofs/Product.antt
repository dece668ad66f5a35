-- The whole store, and the objects of its keys, of which each begins with the whole store.
use Rattle.std.proofs.Common.{◌≡◌, ℕ, Bool, true, false, cond, List, [], ◌∷◌, ◌++◌, map, refl, sym, ap, ◌∙◌}
use Rattle.std.proofs.Common.{subst, inl, inr}
use Rattle.judge_object.specs.Rules.{IsAnswerOf}
use Rattle.std.specs.Prelude.{◌+◌, All}
use Rattle.std.proofs.lemmas.List.Elements.{All-cons, All-head, All-tail, All-nil}
use Rattle.std.proofs.lemmas.List.Sorted.{All-permutation}
use Rattle.judge_object.specs.Call.{Call}
use Rattle.judge_object.specs.declared.level.Level.{Level}
use Rattle.judge_object.specs.declared.level.Level.TheVariants as level
use Rattle.judge_object.specs.Levels.{IsAt, IsSelectionOf}
use Rattle.judge_object.specs.Relaxed.{untimed, alone, relax}
use Rattle.judge_object.specs.Orders.{IsOrderOf}
use Rattle.judge_object.specs.Linear.{GiveReplies}
use Rattle.judge_kv.specs.Replies.{Answered}
use Rattle.judge_kv.specs.Rules.{Held, is_held, held_after}
use Rattle.judge_search.proofs.Each.{Each}
use Rattle.judge_search.proofs.Clients.{each_order}
use Rattle.judge_text.specs.Many.{changed, many}
use Rattle.judge_text.specs.Classing.{for_object}
use Rattle.judge_text.proofs.OfOne.{named, changed_here, changed_not}
use Rattle.judge_kv.specs.declared.clause.Role.{Role}
use Rattle.judge_kv.specs.declared.clause.Role.TheVariants.{If, Get}
use Rattle.judge_kv.specs.Stores.{Pairs, held_at, with_held}
use Rattle.judge_kv.specs.Requests.{Stated, Requested, One, Transact, is_role}
use Rattle.judge_kv.specs.StoreRules.{does_hold, all_hold, written_by, written, branch, told, store_after, whole}
use Rattle.judge_kv.specs.Classes.{keys_of, name_of, EachKey, IsOneFor, ObjectsMakeStore}
use Rattle.judge_kv.proofs.Lookups.{held_set}

-- two stores have the same at some keys
abbrev Agree : (List ℕ → Type 0) → Pairs → Pairs → Type 0
Agree P s u = (key : List ℕ) → P key → held_at key s ≡ held_at key u

module _ (P : List ℕ → Type 0) where
  -- the keys of clauses
  abbrev AreAt : List Stated → Type 0
  AreAt clauses = EachKey P (map (λ clause. clause.key) clauses)

  changed_agree : (key : List ℕ) (h i : Held) (s u : Pairs) (other : List ℕ) → h ≡ i → Agree P s u → P other →
      changed (λ k. held_at k s) key h other ≡ changed (λ k. held_at k u) key i other
  changed_agree key h i s u other e a p =
      elim (named other key) [
        | inl t ↦
            changed_here (λ k. held_at k s) key other h t.1 ∙ e
            ∙ sym (changed_here (λ k. held_at k u) key other i t.1)
        | inr t ↦
            changed_not (λ k. held_at k s) key other h t.1 ∙ a other p
            ∙ sym (changed_not (λ k. held_at k u) key other i t.1)
      ]

  set_agree : (key : List ℕ) (h i : Held) (s u : Pairs) → h ≡ i → Agree P s u →
      Agree P (with_held key h s) (with_held key i u)
  set_agree key h i s u e a other p =
      held_set key h s other ∙ changed_agree key h i s u other e a p ∙ sym (held_set key i u other)

  set_kept : (key : List ℕ) (h : Held) (s : Pairs) (other : List ℕ) → P key → (P other → ⊥) →
      held_at other (with_held key h s) ≡ held_at other s
  set_kept key h s other p n =
      held_set key h s other
      ∙ changed_not (λ k. held_at k s) key other h (λ e. n (subst P (sym e) p))

  -- the clauses of a role hold in both
  hold_agree : (role : Role) (clauses : List Stated) (s u : Pairs) → AreAt clauses → Agree P s u →
      all_hold s role clauses ≡ all_hold u role clauses
  hold_agree role [] s u p a = refl
  hold_agree role (clause ∷ clauses) s u p a =
      ap (λ h. cond (cond (is_role clause.role role) (is_held h clause.held) true) (all_hold s role clauses) false)
      (a clause.key p.0)
      ∙ ap (λ r. cond (does_hold u role clause) r false) (hold_agree role clauses s u p.1 a)

  -- the stores after the writes of a role
  one_agree : (role : Role) (clause : Stated) (s u : Pairs) → Agree P s u →
      Agree P (written_by s role clause) (written_by u role clause)
  one_agree role clause s u a = go (is_role clause.role role)
    where
      go : (b : Bool) → Agree P (cond b (with_held clause.key clause.held s) s)
          (cond b (with_held clause.key clause.held u) u)
      go true = set_agree clause.key clause.held clause.held s u refl a
      go false = a

  written_agree : (role : Role) (clauses : List Stated) (s u : Pairs) → Agree P s u →
      Agree P (written s role clauses) (written u role clauses)
  written_agree role [] s u a = a
  written_agree role (clause ∷ clauses) s u a =
      written_agree role clauses (written_by s role clause) (written_by u role clause) (one_agree role clause s u a)

  one_kept : (role : Role) (clause : Stated) (s : Pairs) (other : List ℕ) → P clause.key → (P other → ⊥) →
      held_at other (written_by s role clause) ≡ held_at other s
  one_kept role clause s other p n = go (is_role clause.role role)
    where
      go : (b : Bool) → held_at other (cond b (with_held clause.key clause.held s) s) ≡ held_at other s
      go true = set_kept clause.key clause.held s other p n
      go false = refl

  written_kept : (role : Role) (clauses : List Stated) (s : Pairs) (other : List ℕ) → AreAt clauses → (P other → ⊥) →
      held_at other (written s role clauses) ≡ held_at other s
  written_kept role [] s other p n = refl
  written_kept role (clause ∷ clauses) s other p n =
      written_kept role clauses (written_by s role clause) other p.1 n ∙ one_kept role clause s other p.0 n

  -- an operation on these keys gives the same reply in both
  pub reply_agree : (op : Requested) (s u : Pairs) → EachKey P (keys_of op) → Agree P s u →
      (store_after s op).1 ≡ (store_after u op).1
  reply_agree (One op) s u p a = ap (λ h. (held_after h op.does).1) (a op.key p.0)
  reply_agree (Transact clauses) s u p a =
      ap (λ h. told h (all_hold s Get clauses)) (hold_agree If clauses s u p a)
      ∙ ap (told (all_hold u If clauses)) (hold_agree Get clauses s u p a)

  pub state_agree : (op : Requested) (s u : Pairs) → EachKey P (keys_of op) → Agree P s u →
      Agree P (store_after s op).0 (store_after u op).0
  state_agree (One op) s u p a =
      set_agree op.key (held_after (held_at op.key s) op.does).0 (held_after (held_at op.key u) op.does).0 s u
      (ap (λ h. (held_after h op.does).0) (a op.key p.0)) a
  state_agree (Transact clauses) s u p a =
      subst (λ h. Agree P (written s (branch (all_hold s If clauses)) clauses) (written u (branch h) clauses))
      (hold_agree If clauses s u p a)
      (written_agree (branch (all_hold s If clauses)) clauses s u a)

  -- and leaves other keys as they are
  pub state_kept : (op : Requested) (s : Pairs) (other : List ℕ) → EachKey P (keys_of op) → (P other → ⊥) →
      held_at other (store_after s op).0 ≡ held_at other s
  state_kept (One op) s other p n =
      set_kept op.key (held_after (held_at op.key s) op.does).0 s other p.0 n
  state_kept (Transact clauses) s other p n =
      written_kept (branch (all_hold s If clauses)) clauses s other p n

module _ (objects : List ℕ → List ℕ) where
  -- each key has in the whole store what it has in its object
  abbrev AreParts : Pairs → (List ℕ → Pairs) → Type 0
  AreParts pairs t = (key : List ℕ) → held_at key (t (objects key)) ≡ held_at key pairs

  -- an operation whose keys have one object
  abbrev IsOf : Requested → Type 0
  IsOf op = EachKey (λ key. objects key ≡ objects (name_of op)) (keys_of op)

  agree : (pairs : Pairs) (t : List ℕ → Pairs) (k : List ℕ) → AreParts pairs t →
      Agree (λ key. objects key ≡ k) (t k) pairs
  agree pairs t k parts key e = ap (λ j. held_at key (t j)) (sym e) ∙ parts key

  parts_after : (pairs : Pairs) (t : List ℕ → Pairs) (op : Requested) → IsOf op → AreParts pairs t →
      AreParts (store_after pairs op).0
      (changed t (for_object objects name_of op) (store_after (t (for_object objects name_of op)) op).0)
  parts_after pairs t op of parts key =
      let k = for_object objects name_of op in
      let P = λ (other : List ℕ). objects other ≡ k in
      elim (named (objects key) k) [
        | inl e ↦
            ap (held_at key) (changed_here t k (objects key) (store_after (t k) op).0 e.1)
            ∙ state_agree P op (t k) pairs of (agree pairs t k parts) key e.1
        | inr e ↦
            ap (held_at key) (changed_not t k (objects key) (store_after (t k) op).0 e.1)
            ∙ parts key ∙ sym (state_kept P op pairs key of e.1)
      ]

  reply_same : (pairs : Pairs) (t : List ℕ → Pairs) (op : Requested) → IsOf op → AreParts pairs t →
      (store_after (t (for_object objects name_of op)) op).1 ≡ (store_after pairs op).1
  reply_same pairs t op of parts =
      let k = for_object objects name_of op in
      reply_agree (λ (other : List ℕ). objects other ≡ k) op (t k) pairs of (agree pairs t k parts)

  to_objects : (pairs : Pairs) (t : List ℕ → Pairs) (calls : List (Call Requested)) → Each (IsOneFor objects) calls →
      AreParts pairs t → GiveReplies whole pairs calls →
      GiveReplies (many whole (for_object objects name_of)) t calls
  to_objects pairs t [] of parts h = tt
  to_objects pairs t (call ∷ calls) of parts h =
      let k = for_object objects name_of call.op in (
        subst (λ (r : Answered). IsAnswerOf whole r call.reply) (sym (reply_same pairs t call.op of.0 parts)) h.0,
        to_objects (store_after pairs call.op).0 (changed t k (store_after (t k) call.op).0) calls of.1
            (parts_after pairs t call.op of.0 parts) h.1,
      )

  to_store : (pairs : Pairs) (t : List ℕ → Pairs) (calls : List (Call Requested)) → Each (IsOneFor objects) calls →
      AreParts pairs t → GiveReplies (many whole (for_object objects name_of)) t calls →
      GiveReplies whole pairs calls
  to_store pairs t [] of parts h = tt
  to_store pairs t (call ∷ calls) of parts h =
      let k = for_object objects name_of call.op in (
        subst (λ (r : Answered). IsAnswerOf whole r call.reply) (reply_same pairs t call.op of.0 parts) h.0,
        to_store (store_after pairs call.op).0 (changed t k (store_after (t k) call.op).0) calls of.1
            (parts_after pairs t call.op of.0 parts) h.1,
      )

front : (P : Call Requested → Type 0) (xs ys : List (Call Requested)) → Each P (xs ++ ys) → Each P xs
front P [] ys h = tt
front P (x ∷ xs) ys h = (h.0, front P xs ys h.1)

-- the calls of an order have what the calls of the history have
ordered : (P : Call Requested → Type 0) (calls order : List (Call Requested)) → IsOrderOf calls order → Each P calls →
    Each P order
ordered P calls order h each = front P order h.left (each_order P calls (order ++ h.left) h.merges each)

pub objects_make_store : ObjectsMakeStore
objects_make_store pairs calls objects joins = (
  λ h. record {
    order = h.order;
    orders = h.orders;
    linearization = record {
      replies = to_objects objects pairs (λ name. pairs) h.order
          (ordered (IsOneFor objects) calls h.order h.orders joins) (λ key. refl) h.linearization.replies;
      times = h.linearization.times;
      clients = h.linearization.clients;
      precedence = h.linearization.precedence;
    };
  },
  λ h. record {
    order = h.order;
    orders = h.orders;
    linearization = record {
      replies = to_store objects pairs (λ name. pairs) h.order
          (ordered (IsOneFor objects) calls h.order h.orders joins) (λ key. refl) h.linearization.replies;
      times = h.linearization.times;
      clients = h.linearization.clients;
      precedence = h.linearization.precedence;
    };
  },
)

-- ---- each level

-- what is known of calls by their operations holds also without the order that a level does not keep
of_untimed : (objects : List ℕ → List ℕ) (calls : List (Call Requested)) →
    Each (IsOneFor objects) (map untimed calls) → Each (IsOneFor objects) calls
of_untimed objects [] h = tt
of_untimed objects (c ∷ cs) h = (h.0, of_untimed objects cs h.1)

of_alone : (objects : List ℕ → List ℕ) (n : ℕ) (calls : List (Call Requested)) →
    Each (IsOneFor objects) (alone n calls) → Each (IsOneFor objects) calls
of_alone objects n [] h = tt
of_alone objects n (c ∷ cs) h = (h.0, of_alone objects (n + 1) cs h.1)

pub of_relaxed : (objects : List ℕ → List ℕ) (kept : Level) (calls : List (Call Requested)) →
    Each (IsOneFor objects) (relax kept calls) → Each (IsOneFor objects) calls
of_relaxed objects level.Linearizable calls h = h
of_relaxed objects level.Sequential calls h = of_untimed objects calls h
of_relaxed objects level.Serializable calls h = of_alone objects 1 calls h

to_all : (P : Call Requested → Type 0) (xs : List (Call Requested)) → Each P xs → All P xs
to_all P [] h = All-nil P
to_all P (x ∷ xs) h = All-cons P x xs h.0 (to_all P xs h.1)

of_all : (P : Call Requested → Type 0) (xs : List (Call Requested)) → All P xs → Each P xs
of_all P [] h = tt
of_all P (x ∷ xs) h = (All-head P x xs h, of_all P xs (All-tail P x xs h))

-- the calls of a selection have what the calls of the history have
selected : (P : Call Requested → Type 0) (calls order : List (Call Requested)) → IsSelectionOf calls order →
    Each P calls → Each P order
selected P calls order h each =
    front P order h.left (of_all P (order ++ h.left) (All-permutation P calls (order ++ h.left) h.all
    (to_all P calls each)))

-- a history of the whole store is at a level if and only if that of the objects of its keys is
pub store_to_objects : (kept : Level) (pairs : Pairs) (calls : List (Call Requested)) (objects : List ℕ → List ℕ) →
    Each (IsOneFor objects) calls → IsAt whole kept pairs calls →
    IsAt (many whole (for_object objects name_of)) kept (λ name. pairs) calls
store_to_objects level.Linearizable pairs calls objects joins h = (objects_make_store pairs calls objects joins).0 h
store_to_objects level.Sequential pairs calls objects joins h = record {
  order = h.order;
  orders = h.orders;
  replies = to_objects objects pairs (λ name. pairs) h.order
      (ordered (IsOneFor objects) calls h.order h.orders joins) (λ key. refl) h.replies;
}
store_to_objects level.Serializable pairs calls objects joins h = record {
  order = h.order;
  selects = h.selects;
  replies = to_objects objects pairs (λ name. pairs) h.order
      (selected (IsOneFor objects) calls h.order h.selects joins) (λ key. refl) h.replies;
}

pub objects_to_store : (kept : Level) (pairs : Pairs) (calls : List (Call Requested)) (objects : List ℕ → List ℕ) →
    Each (IsOneFor objects) calls → IsAt (many whole (for_object objects name_of)) kept (λ name. pairs) calls →
    IsAt whole kept pairs calls
objects_to_store level.Linearizable pairs calls objects joins h = (objects_make_store pairs calls objects joins).1 h
objects_to_store level.Sequential pairs calls objects joins h = record {
  order = h.order;
  orders = h.orders;
  replies = to_store objects pairs (λ name. pairs) h.order
      (ordered (IsOneFor objects) calls h.order h.orders joins) (λ key. refl) h.replies;
}
objects_to_store level.Serializable pairs calls objects joins h = record {
  order = h.order;
  selects = h.selects;
  replies = to_store objects pairs (λ name. pairs) h.order
      (selected (IsOneFor objects) calls h.order h.selects joins) (λ key. refl) h.replies;
}
