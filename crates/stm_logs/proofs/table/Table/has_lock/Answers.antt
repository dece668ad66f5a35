use Rattle.std.proofs.Common.{◌≡◌, ◌↔◌, ℕ, ◌<◌, nat_eq, not, true, refl, sym, ap, ◌∙◌, Some, arith, subst}
use Rattle.std.specs.FinMap.{get}
use Rattle.std.proofs.lemmas.Bool.Decides.{nat_tests}
use Rattle.stm_logs.specs.declared.nodes.Entry.{Entry}
use Rattle.stm_logs.specs.Nodes.{Block, at}
use Rattle.stm_logs.specs.Log.{LogValue}
use Rattle.stm_logs.proofs.LogLemmas.{get_lock, eq_zero}
use Rattle.stm_logs.proofs.table.Table.has_lock.Goals as goal

equal : (x y : ℕ) → nat_eq x y ≡ true → x ≡ y
equal x y t = grind (arith, nat_tests)

tested : (x y : ℕ) → x ≡ y → nat_eq x y ≡ true
tested x y e = grind (arith, nat_tests)

ended : (p : ℕ) → p ≡ 0 → not (nat_eq p 0) ≡ true → ⊥
ended p e t = cc (ap not (eq_zero p e))

pub shows-requires-clause-room : goal.shows-requires-clause-room
shows-requires-clause-room g c = c.self.invariant.ready.indexed.room

pub shows-requires-clause-limit : goal.shows-requires-clause-limit
shows-requires-clause-limit g c = c.self.invariant.ready.indexed.limit

pub returns-then-shows : goal.returns-then-shows
returns-then-shows g c = (
  λ t. (
      let b : Block = c.self.inside.nodes in
      let h = c.shows.ensures c.if-shows.true in (
        (at b.list h.0).number,
        ap (λ (w : LogValue). get w.locks (at b.list h.0).number) (sym c.self.view_is) ∙
            get_lock b.list b.count h.0 _ c.self.invariant.ready.chained h.1.0 h.1.1 refl ∙ ap Some h.1.2,
      )),
  λ w. refl,
)

pub first_from-first-requires : goal.first_from-first-requires
first_from-first-requires g c = c.self.invariant

pub get-requires : goal.get-requires
get-requires g c = omega (arith, c.self.invariant.ready.indexed.room, c.first_from-first.ensures.inside)

pub returns-then-first-ne0 : goal.returns-then-first-ne0
returns-then-first-ne0 g c =
    let b : Block = c.self.inside.nodes in
    let there = c.first_from-first.ensures.there in
    let lock : c.get.result.now.lock ≡ (at b.list c.first_from-first.result).lock =
    ap (λ (x : Entry). x.lock) c.get.ensures in
    let some : 0 < c.first_from-first.result = omega arith in
    subst (λ (w : LogValue). (nat_eq c.get.result.now.lock c.args.lock ≡ true)
    ↔ ((a : ℕ) × (get w.locks a ≡ Some c.args.lock))) c.self.view_is (
      λ t. there.0 (some, sym lock ∙ equal _ _ t),
      λ w. tested _ _ (lock ∙ (there.1 w).1),
    )

pub returns-else-first-ne0 : goal.returns-else-first-ne0
returns-else-first-ne0 g c =
    let first : ℕ = c.first_from-first.result in
    subst (λ (w : LogValue). (not (nat_eq first 0) ≡ true) ↔ ((a : ℕ) × (get w.locks a ≡ Some c.args.lock)))
    c.self.view_is (
      λ t. absurd (ended first (omega arith) t),
      λ w. absurd (omega (arith, (c.first_from-first.ensures.there.1 w).0)),
    )
