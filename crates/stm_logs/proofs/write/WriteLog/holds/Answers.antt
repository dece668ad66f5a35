use Rattle.std.proofs.Common.{◌≡◌, ℕ, Option, Some, None, true, refl, sym, ap, ◌∙◌}
use Rattle.core.specs.Option.{is_some}
use Rattle.std.specs.FinMap.{get}
use Rattle.stm_logs.specs.Log.{LogValue, SameAddresses}
use Rattle.stm_logs.proofs.write.WriteLog.holds.Goals as goal

some_word : (o : Option ℕ) → is_some o ≡ true → o ≡ None → ⊥
some_word None e none = cc
some_word (Some x) e none = cc

-- an address that has a value has its lock
lock_of_word : (w : LogValue) (a lock : ℕ) → SameAddresses w → ((l : ℕ) → get w.locks a ≡ Some l → l ≡ lock) →
    is_some (get w.words a) ≡ true → get w.locks a ≡ Some lock
lock_of_word w a lock same is there =
    let go : (o : Option ℕ) → get w.locks a ≡ o → get w.locks a ≡ Some lock =
    λ o. elim o as (λ p. get w.locks a ≡ p → get w.locks a ≡ Some lock) [
      | None ↦ λ none. absurd (some_word _ there ((same a).1 none))
      | Some l ↦ λ at_l. at_l ∙ ap Some (is l at_l)
    ] in
    go (get w.locks a) refl

pub returns-then-is_some : goal.returns-then-is_some
returns-then-is_some g c = (
  λ t. (
    c.args.addr.0,
    lock_of_word c.args.self.now c.args.addr.0 c.args.lock c.same_addresses.ensures c.requires
        (sym (ap is_some c.get.ensures) ∙ sym c.is_some.ensures ∙ c.if-is_some.true),
  ),
  λ w. c.if-is_some.true,
)
