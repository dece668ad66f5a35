-- Classes of keys, joined by the operations of a history one after the other.
use Rattle.std.proofs.Common.{◌≡◌, ℕ, ◌+◌, ◌<◌, ◌≤◌, suc, zero, List, [], ◌∷◌, ◌++◌, length, map, take, get_or, refl}
use Rattle.std.proofs.Common.{sym, ap, ◌∙◌, subst, arith}
use Rattle.std.proofs.lemmas.List.{take_more, map-append}
use Rattle.judge_object.specs.Call.{Call, EachCall}
use Rattle.judge_object.specs.declared.line.Line.{Line}
use Rattle.judge_search.specs.Calls.{call_of, calls_of}
use Rattle.judge_search.specs.Walk.{IsWhole}
use Rattle.judge_text.specs.declared.classes.Classes.{Classes}
use Rattle.judge_text.specs.Classes.{AreJoined, HasNoClass}
use Rattle.judge_text.specs.Many.{AreStrict}
use Rattle.judge_text.specs.Classing.{NamesClasses}
use Rattle.judge_kv.specs.Requests.{Stated, Requested}
use Rattle.judge_kv.specs.Classes.{EachKey, IsOneFor, AreKeysJoined, JoinsCalls, AreStoreObjects, keys_of}

-- the keys of clauses
abbrev pub clause_keys : List Stated → List (List ℕ)
clause_keys clauses = map (λ clause. clause.key) clauses

keys_more : (P : List ℕ → Type 0) (keys : List (List ℕ)) (key : List ℕ) → EachKey P keys → P key →
    EachKey P (keys ++ key ∷ [])
keys_more P [] key h k = (k, tt)
keys_more P (x ∷ xs) key h k = (h.0, keys_more P xs key h.1 k)

keys_front : (P : List ℕ → Type 0) (keys : List (List ℕ)) (key : List ℕ) → EachKey P (keys ++ key ∷ []) →
    EachKey P keys × P key
keys_front P [] key h = (tt, h.0)
keys_front P (x ∷ xs) key h = let r = keys_front P xs key h.1 in ((h.0, r.0), r.1)

calls_more : (P : Call Requested → Type 0) (calls : List (Call Requested)) (call : Call Requested) →
    EachCall P calls → P call → EachCall P (calls ++ call ∷ [])
calls_more P [] call h k = (k, tt)
calls_more P (x ∷ xs) call h k = (h.0, calls_more P xs call h.1 k)

calls_front : (P : Call Requested → Type 0) (calls : List (Call Requested)) (call : Call Requested) →
    EachCall P (calls ++ call ∷ []) → EachCall P calls × P call
calls_front P [] call h = (tt, h.0)
calls_front P (x ∷ xs) call h = let r = calls_front P xs call h.1 in ((h.0, r.0), r.1)

-- one key is joined with itself
pub keys_first : (clauses : List Stated) (classes : Classes) →
    AreKeysJoined (clause_keys (take 1 clauses)) classes classes
keys_first [] classes g = (λ k. (k, tt), λ k e. k)
keys_first (x ∷ xs) classes g = (λ k. (k, (refl, tt)), λ k e. k)

-- the first of some clauses
record Headed (clauses : List Stated) (p : ℕ) (f : Stated) : Type 0 where
  rest : List (List ℕ)
  is : clause_keys (take p clauses) ≡ f.key ∷ rest

headed : (clauses : List Stated) (p : ℕ) (f : Stated) → 1 ≤ p → p < length clauses → f ≡ get_or clauses 0 f →
    Headed clauses p f
headed [] p f n l e = absurd (omega arith)
headed (y ∷ ys) zero f n l e = absurd (omega arith)
headed (y ∷ ys) (suc p) f n l e = record {
  rest = clause_keys (take p ys);
  is = ap (λ (c : Stated). c.key ∷ clause_keys (take p ys)) (sym e);
}

-- one clause more
pub clause_joined : (clauses : List Stated) (p : ℕ) (x f : Stated) (a b : List ℕ) (old middle new : Classes) → 1 ≤ p →
    p < length clauses → x ≡ get_or clauses p x → f ≡ get_or clauses 0 f → a ≡ f.key → b ≡ x.key →
    AreKeysJoined (clause_keys (take p clauses)) old middle → AreJoined a b middle new →
    AreKeysJoined (clause_keys (take (p + 1) clauses)) old new
clause_joined clauses p x f a b old middle new n l is first at bt h given =
    let head = headed clauses p f n l first in
    let keys = f.key ∷ head.rest in
    let before = subst (λ ks. AreKeysJoined ks old middle) head.is h in
    let j = subst (λ k. AreJoined f.key k middle new) bt (subst (λ k. AreJoined k b middle new) at given) in
    let path : clause_keys (take (p + 1) clauses) ≡ keys ++ x.key ∷ [] =
    ap clause_keys (take_more clauses p x l)
    ∙ map-append (λ (c : Stated). c.key) (take p clauses) (get_or clauses p x ∷ [])
    ∙ ap (λ (c : Stated). clause_keys (take p clauses) ++ c.key ∷ []) (sym is)
    ∙ ap (λ ks. ks ++ x.key ∷ []) head.is in
    subst (λ ks. AreKeysJoined ks old new) (sym path) (more f.key head.rest x.key old middle new before j)
  where
    more : (key : List ℕ) (rest : List (List ℕ)) (other : List ℕ) (old middle new : Classes) →
        AreKeysJoined (key ∷ rest) old middle → AreJoined key other middle new →
        AreKeysJoined ((key ∷ rest) ++ other ∷ []) old new
    more key rest other old middle new h j g = (
      λ k.
          let b = (j g).0 k in
          let a = (h g).0 b.0 in
          (a.0, keys_more (λ i. g i ≡ g key) (key ∷ rest) other a.1 (sym b.1)),
      λ k e.
          let r = keys_front (λ i. g i ≡ g key) (key ∷ rest) other e in
          (j g).1 ((h g).1 k r.0) (sym r.1),
    )

-- no call joins keys
pub calls_none : (classes : Classes) → HasNoClass classes → JoinsCalls [] classes
calls_none classes h g = (λ k. tt, λ e. h g)

-- one call more
pub call_joined : (lines : List (Line Requested)) (p : ℕ) (line : Line Requested) (middle new : Classes) →
    p < length lines → line ≡ get_or lines p line → JoinsCalls (calls_of (take p lines)) middle →
    AreKeysJoined (keys_of line.op) middle new → JoinsCalls (calls_of (take (p + 1) lines)) new
call_joined lines p line middle new l is h j =
    let calls = calls_of (take p lines) in
    let path : calls_of (take (p + 1) lines) ≡ calls ++ call_of line ∷ [] =
    ap calls_of (take_more lines p line l)
    ∙ map-append call_of (take p lines) (get_or lines p line ∷ [])
    ∙ ap (λ (x : Line Requested). calls ++ call_of x ∷ []) (sym is) in
    subst (λ cs. JoinsCalls cs new) (sym path) (λ g. (
      λ k.
          let b = (j g).0 k in
          calls_more (IsOneFor g) calls (call_of line) ((h g).0 b.0) b.1,
      λ e.
          let r = calls_front (IsOneFor g) calls (call_of line) e in
          (j g).1 ((h g).1 r.0) r.1,
    ))

-- the name of the whole store as one object
abbrev empty : List ℕ
empty = []

each_empty : (keys : List (List ℕ)) → EachKey (λ key. empty ≡ empty) keys
each_empty [] = tt
each_empty (x ∷ xs) = (refl, each_empty xs)

pub all_empty : (calls : List (Call Requested)) → EachCall (IsOneFor (λ key. [])) calls
all_empty [] = tt
all_empty (x ∷ xs) = (each_empty (keys_of x.op), all_empty xs)

-- the whole store as one object
pub are_together : (calls : List (Call Requested)) → (AreStrict calls → ⊥) → AreStoreObjects calls (λ key. [])
are_together calls touch = record {
  joins = all_empty calls;
  parts = λ strict g each key. absurd (touch strict);
  touching = λ whole not key. refl;
}

-- the classes of the keys
pub are_classes : (calls : List (Call Requested)) (classes : Classes) (objects : List ℕ → List ℕ) →
    JoinsCalls calls classes → NamesClasses classes objects → (IsWhole calls → AreStrict calls) →
    AreStoreObjects calls objects
are_classes calls classes objects joins names strict = record {
  joins = (joins objects).0 names.joins;
  parts = λ s g each key. names.parts g ((joins g).1 each) key;
  touching = λ whole not. absurd (not (strict whole));
}
