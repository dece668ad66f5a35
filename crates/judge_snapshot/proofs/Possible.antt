-- A commit is made if and only if some choice of snapshots allows it.
use Rattle.std.proofs.Common.{◌≡◌, ℕ, Bool, List, [], ◌∷◌, map, Some, refl, sym, ap, subst, inl, arith}
use Rattle.std.specs.Prelude.{codes, get_or}
use Rattle.judge_object.specs.declared.span.Span.{Span}
use Rattle.judge_object.specs.Rules.{Rules, IsAnswerOf}
use Rattle.judge_object.specs.Call.{Call}
use Rattle.judge_object.specs.Linear.{GiveReplies}
use Rattle.judge_snapshot.specs.WriteSets.{WriteSets, AreWriteSets}
use Rattle.judge_snapshot.specs.Snapshots.{Transaction, calls_of, MayCommitAll}
use Rattle.judge_snapshot.specs.Possible.{Past, claim, grown, all_longer, answered, commits}
use Rattle.judge_snapshot.proofs.Tests.{In}
use Rattle.judge_snapshot.proofs.Growing.{may_of, of_may, in_all, all_in}

first_code : (l : List ℕ) → l ≡ codes "no" → get_or l 0 0 ≡ 110
first_code l e = ap (λ (l : List ℕ). get_or l 0 0) e

pub no_ok : codes "no" ≡ codes "ok" → ⊥
no_ok e =
    let h : ◌≡◌ {A = ℕ} 111 110 = first_code (codes "ok") (sym e) in
    absurd (omega (arith, h))

module _ {S O R W : Type 0} (X : Rules S O R) (V : WriteSets S O W) (needs : Span → Span → Bool) where
  -- some choice of snapshots for an order of calls, from one of these pasts on
  pub record Choice (pasts : List (Past S W)) (order : List (Call O)) : Type 0 where
    pub from : Past S W
    pub transactions : List (Transaction O)
    pub is : In from pasts
    pub calls : calls_of transactions ≡ order
    pub may : MayCommitAll X V needs from.first from.versions transactions

  extend : (pasts : List (Past S W)) (call : Call O) (order : List (Call O)) →
      Choice (all_longer X V needs pasts call) order → Choice pasts (call ∷ order)
  extend pasts call order h =
      let g = in_all X V needs pasts call h.from h.is in
      let t : Transaction O = record { call = call; missed = g.missed } in
      let rest : MayCommitAll X V needs g.from.first (grown X V needs g.from t).versions h.transactions =
      subst (λ (p : Past S W). MayCommitAll X V needs p.first p.versions h.transactions) g.gives h.may in
      record {
        from = g.from;
        transactions = t ∷ h.transactions;
        is = g.is;
        calls = ap (λ l. call ∷ l) h.calls;
        may = (may_of X V needs g.from t g.can, rest);
      }

  pub chosen : (past : Past S W) (pasts : List (Past S W)) (order : List (Call O)) →
      GiveReplies (commits X V needs) (past ∷ pasts) (map claim order) → Choice (past ∷ pasts) order
  chosen past pasts [] h = record { from = past; transactions = []; is = inl refl; calls = refl; may = tt }
  chosen past pasts (call ∷ order) h =
      extend (past ∷ pasts) call order
      (go (all_longer X V needs (past ∷ pasts) call) h.0 h.1 (λ p ps g. chosen p ps order g))
    where
      go : (nexts : List (Past S W)) →
          IsAnswerOf (commits X V needs) (answered X V needs (past ∷ pasts) nexts).1 (Some (codes "ok")) →
          GiveReplies (commits X V needs) (answered X V needs (past ∷ pasts) nexts).0 (map claim order) →
          ((p : Past S W) (ps : List (Past S W)) → GiveReplies (commits X V needs) (p ∷ ps) (map claim order) →
          Choice (p ∷ ps) order) → Choice nexts order
      go [] a g more = absurd (no_ok a)
      go (next ∷ nexts) a g more = more next nexts g

  module _ (laws : AreWriteSets X V) where
    pub replies : (pasts : List (Past S W)) (past : Past S W) (transactions : List (Transaction O)) →
        In past pasts → MayCommitAll X V needs past.first past.versions transactions →
        GiveReplies (commits X V needs) pasts (map claim (calls_of transactions))
    replies pasts past [] h m = tt
    replies pasts past (t ∷ ts) h m =
        go (all_longer X V needs pasts t.call) (all_in X V needs laws pasts past t h m.0.within
        (of_may X V needs past t m.0))
        (λ nexts g. replies nexts (grown X V needs past t) ts g m.1)
      where
        go : (nexts : List (Past S W)) → In (grown X V needs past t) nexts →
            ((nexts : List (Past S W)) → In (grown X V needs past t) nexts →
            GiveReplies (commits X V needs) nexts (map claim (calls_of ts))) →
            IsAnswerOf (commits X V needs) (answered X V needs pasts nexts).1 (Some (codes "ok"))
            × GiveReplies (commits X V needs) (answered X V needs pasts nexts).0 (map claim (calls_of ts))
        go [] g more = absurd g
        go (next ∷ nexts) g more = (refl, more (next ∷ nexts) g)
