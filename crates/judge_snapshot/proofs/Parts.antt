-- Parts of transactions commit in the order of the transactions.
use Rattle.std.proofs.Common.{◌≡◌, ℕ, ◌≤◌, suc, zero, Bool, false, List, [], ◌∷◌, length, map, take, drop, Option, Some}
use Rattle.std.proofs.Common.{None, refl, sym, ap, ◌∙◌, subst, arith}
use Rattle.std.specs.List.{filter_map, cons_option}
use Rattle.std.specs.Prelude.{⊤}
use Rattle.judge_object.specs.declared.span.Span.{Span}
use Rattle.judge_object.specs.Rules.{Rules, IsAnswerOf}
use Rattle.judge_object.specs.Call.{Call, span_of}
use Rattle.judge_snapshot.specs.WriteSets.{WriteSets}
use Rattle.judge_snapshot.specs.Snapshots.{Transaction, Version, Each, calls_of, MayCommitAll, state_of}
use Rattle.judge_snapshot.specs.Snapshots.{snapshot, written, version}
use Rattle.judge_snapshot.specs.Parts.{installed, Reaches, Answers, IsPart, PartsMayCommit}

module _ {S O R W S' O' R' W' : Type 0} (X : Rules S O R) (V : WriteSets S O W) (X' : Rules S' O' R')
    (V' : WriteSets S' O' W') (state : S → S') (part : Call O → Option (Call O'))
    (needs : Span → Span → Bool) (needs' : Span → Span → Bool)
    (is : IsPart X V X' V' state part needs needs') (s : S) where
  -- what is written next has a key in common with the part of a version only if it has one with it
  abbrev Apart : Version S W → Version S' W' → Type 0
  Apart v v' = (t : S) (c : Call O) (d : Call O') → part c ≡ Some d → Answers X V X' V' t c →
      V.conflicts v.written (V.writes t c.op) ≡ false → V'.conflicts v'.written (V'.writes (state t) d.op) ≡ false

  -- the snapshot of the part of a later call needs the part of a version only if the call's snapshot needs the version
  abbrev Fresh : Version S W → Version S' W' → Type 0
  Fresh v v' = (c : Call O) (d : Call O') → part c ≡ Some d → needs v.span (span_of c) ≡ false →
      needs' v'.span (span_of d) ≡ false

  -- versions, and those of the parts
  data Rel : List (Version S W) → List (Version S' W') → Type 0 where
    none : Rel [] []
    skip : (v : Version S W) (past : List (Version S W)) (past' : List (Version S' W')) →
        state v.state ≡ state (state_of s past) → Rel past past' → Rel (v ∷ past) past'
    keep : (v : Version S W) (v' : Version S' W') (past : List (Version S W))
        (past' : List (Version S' W')) → Fresh v v' → v'.state ≡ state v.state → Apart v v' →
        Rel past past' → Rel (v ∷ past) (v' ∷ past')

  kept : (missed : ℕ) (past : List (Version S W)) (past' : List (Version S' W')) → Rel past past' → ℕ
  kept zero past past' r = 0
  kept (suc missed) _ _ none = 0
  kept (suc missed) _ _ (skip v past past' e r) = kept missed past past' r
  kept (suc missed) _ _ (keep v v' past past' p e a r) = suc (kept missed past past' r)

  newest : (past : List (Version S W)) (past' : List (Version S' W')) → Rel past past' →
      state_of (state s) past' ≡ state (state_of s past)
  newest _ _ none = refl
  newest _ _ (skip v past past' e r) = newest past past' r ∙ sym e
  newest _ _ (keep v v' past past' p e a r) = e

  -- the snapshot of a part is the part of the snapshot
  seen : (missed : ℕ) (past : List (Version S W)) (past' : List (Version S' W')) (r : Rel past past') →
      state_of (state s) (drop (kept missed past past' r) past') ≡ state (state_of s (drop missed past))
  unfolding kept
  seen zero _ _ none = refl
  seen zero _ _ (skip v past past' e r) = zero_drop past' ∙ newest past past' r ∙ sym e
    where
      zero_drop : (past' : List (Version S' W')) →
          state_of (state s) (drop 0 past') ≡ state_of (state s) past'
      zero_drop [] = refl
      zero_drop (v ∷ past') = refl
  seen zero _ _ (keep v v' past past' p e a r) = e
  seen (suc missed) _ _ none = refl
  seen (suc missed) _ _ (skip v past past' e r) = seen missed past past' r
  seen (suc missed) _ _ (keep v v' past past' p e a r) = seen missed past past' r

  within : (missed : ℕ) (past : List (Version S W)) (past' : List (Version S' W')) (r : Rel past past') →
      kept missed past past' r ≤ length past'
  unfolding kept
  within zero _ _ none = omega arith
  within zero _ _ (skip v past past' e r) = omega arith
  within zero _ _ (keep v v' past past' p e a r) = omega arith
  within (suc missed) _ _ none = omega arith
  within (suc missed) _ _ (skip v past past' e r) = within missed past past' r
  within (suc missed) _ _ (keep v v' past past' p e a r) =
      let more = within missed past past' r in omega (arith, more)

  -- a fact of each missed version gives one of each missed version of the parts
  module _ (P : Version S W → Type 0) (P' : Version S' W' → Type 0)
      (gives : (v : Version S W) (v' : Version S' W') → Fresh v v' → Apart v v' → P v → P' v') where
    each_kept : (missed : ℕ) (past : List (Version S W)) (past' : List (Version S' W')) (r : Rel past past') →
        Each P (take missed past) → Each P' (take (kept missed past past' r) past')
    unfolding kept
    each_kept zero _ _ none h = tt
    each_kept zero _ _ (skip v past past' e r) h = zero_take past'
      where
        zero_take : (past' : List (Version S' W')) → Each P' (take 0 past')
        zero_take [] = tt
        zero_take (v ∷ past') = tt
    each_kept zero _ _ (keep v v' past past' p e a r) h = tt
    each_kept (suc missed) _ _ none h = tt
    each_kept (suc missed) _ _ (skip v past past' e r) h = each_kept missed past past' r h.1
    each_kept (suc missed) _ _ (keep v v' past past' p e a r) h =
        (gives v v' p a h.0, each_kept missed past past' r h.1)

  -- each version has what it installed on the one before
  abbrev Linked : List (Version S W) → Type 0
  Linked [] = ⊤
  Linked (v ∷ past) = (v.state ≡ V.install v.written (state_of s past)) × Linked past

  reach : (missed : ℕ) (past : List (Version S W)) → Linked past →
      state_of s past ≡ installed V (state_of s (drop missed past)) (map (λ v. v.written) (take missed past))
  reach zero [] l = refl
  reach zero (v ∷ past) l = refl
  reach (suc missed) [] l = refl
  reach (suc missed) (v ∷ past) l = l.0 ∙ ap (V.install v.written) (reach missed past l.1)

  each_set : (w : W) (vs : List (Version S W)) → Each (λ v. V.conflicts v.written w ≡ false) vs →
      Each (λ x. V.conflicts x w ≡ false) (map (λ v. v.written) vs)
  each_set w [] h = tt
  each_set w (v ∷ vs) h = (h.0, each_set w vs h.1)

  abbrev Going : List (Version S W) → List (Version S' W') → List (Transaction O) → Type 0
  Going past past' order =
      (ts : List (Transaction O')) × (calls_of ts ≡ filter_map part (calls_of order))
      × MayCommitAll X' V' needs' (state s) past' ts

  go_on : (order : List (Transaction O)) (past : List (Version S W)) (past' : List (Version S' W')) →
      Rel past past' → Linked past → MayCommitAll X V needs s past order → Going past past' order
  go_on [] past past' r l h = ([], refl, tt)
  go_on (t ∷ order) past past' r l h =
      by (part t.call) refl
      (λ past'' r''. go_on order (version X V s past t ∷ past) past'' r'' (refl, l) h.1)
    where
      by : (o : Option (Call O')) → part t.call ≡ o →
          ((past'' : List (Version S' W')) → Rel (version X V s past t ∷ past) past'' →
          Going (version X V s past t ∷ past) past'' order) → Going past past' (t ∷ order)
      by None e more =
          let reached : Reaches V (snapshot X V s past t) (written X V s past t) (state_of s past) = record {
            sets = map (λ v. v.written) (take t.missed past);
            apart = each_set (written X V s past t) (take t.missed past) h.0.apart;
            is = reach t.missed past l;
          } in
          let rest = more past' (skip (version X V s past t) past past'
          (is.leaves (snapshot X V s past t) (state_of s past) t.call e h.0.reply reached) r) in
          (rest.0, rest.1 ∙ ap (λ o. cons_option o (filter_map part (calls_of order))) (sym e), rest.2)
      by (Some d) e more =
          let own : Transaction O' = record { call = d; missed = kept t.missed past past' r } in
          let reached : Reaches V (snapshot X V s past t) (written X V s past t) (state_of s past) = record {
            sets = map (λ v. v.written) (take t.missed past);
            apart = each_set (written X V s past t) (take t.missed past) h.0.apart;
            is = reach t.missed past l;
          } in
          let sees : snapshot X' V' (state s) past' own ≡ state (snapshot X V s past t) = seen t.missed past past' r in
          let now : state_of (state s) past' ≡ state (state_of s past) = newest past past' r in
          let writes : written X' V' (state s) past' own ≡ V'.writes (state (snapshot X V s past t)) d.op =
          ap (λ x. V'.writes x d.op) sees in
          let made : (version X' V' (state s) past' own).state ≡ state (version X V s past t).state =
          ap (λ x. V'.install x (state_of (state s) past')) writes
          ∙ ap (V'.install (V'.writes (state (snapshot X V s past t)) d.op)) now
          ∙ is.installs (snapshot X V s past t) (state_of s past) t.call d e h.0.reply reached in
          let rest = more (version X' V' (state s) past' own ∷ past') (keep (version X V s past t)
          (version X' V' (state s) past' own) past past' (λ c f p n. is.fresh t.call c d f e p n) made
          (λ x c f p a n. subst (λ y. V'.conflicts y (V'.writes (state x) f.op) ≡ false) (sym writes)
          (is.apart (snapshot X V s past t) x t.call c d f e p h.0.reply a n)) r) in (
            own ∷ rest.0,
            ap (λ l. d ∷ l) rest.1 ∙ ap (λ o. cons_option o (filter_map part (calls_of order))) (sym e),
            (
              record {
                within = within t.missed past past' r;
                reply = subst (λ x. IsAnswerOf X' (X'.run x d.op).1 d.reply) (sym sees)
                    (is.reply (snapshot X V s past t) t.call d e h.0.reply);
                apart = subst (λ x. Each (λ (v' : Version S' W'). V'.conflicts v'.written x ≡ false)
                    (take (kept t.missed past past' r) past')) (sym writes)
                    (each_kept (λ v. V.conflicts v.written (written X V s past t) ≡ false)
                    (λ v'. V'.conflicts v'.written (V'.writes (state (snapshot X V s past t)) d.op) ≡ false)
                    (λ v v' p a n. a (snapshot X V s past t) t.call d e h.0.reply n) t.missed past past' r h.0.apart);
                fresh = each_kept (λ v. needs v.span (span_of t.call) ≡ false)
                    (λ v'. needs' v'.span (span_of d) ≡ false)
                    (λ v v' p a n. p t.call d e n) t.missed past past' r h.0.fresh;
              },
              rest.2,
            ),
          )

module _ {S O R W S' O' R' W' : Type 0} (X : Rules S O R) (V : WriteSets S O W) (X' : Rules S' O' R')
    (V' : WriteSets S' O' W') where
  pub parts_may_commit : PartsMayCommit X V X' V'
  parts_may_commit state part needs needs' is s order h =
      let g = go_on X V X' V' state part needs needs' is s order [] [] none tt h in
      record { transactions = g.0; calls = g.1; may = g.2 }
