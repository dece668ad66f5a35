-- Clauses of a transaction, one after the other.
use Rattle.std.proofs.Common.{◌≡◌, ℕ, ◌+◌, ◌<◌, ◌≤◌, true, false, cond, List, length, get_or, drop, sym, ap, ◌∙◌}
use Rattle.std.proofs.lemmas.List.{drop_all}
use Rattle.judge_kv.specs.declared.clause.Role.{Role}
use Rattle.judge_kv.specs.Stores.{Pairs}
use Rattle.judge_kv.specs.Requests.{Stated}
use Rattle.judge_kv.specs.StoreRules.{does_hold, all_hold, written_by, written}
use Rattle.judge_kv.proofs.Places.{from_there}

module _ (pairs : Pairs) (role : Role) (clauses : List Stated) (p : ℕ) where
  -- the clauses from a place on hold if all do
  abbrev pub HoldFrom : Type 0
  HoldFrom = all_hold pairs role clauses ≡ all_hold pairs role (drop p clauses)

  pub hold_not : (x : Stated) → p < length clauses → x ≡ get_or clauses p x → does_hold pairs role x ≡ false →
      HoldFrom → all_hold pairs role clauses ≡ false
  hold_not x l is e h =
      h ∙ ap (all_hold pairs role) (from_there clauses p x l is)
      ∙ ap (λ b. cond b (all_hold pairs role (drop (p + 1) clauses)) false) e

  pub hold_next : (x : Stated) → p < length clauses → x ≡ get_or clauses p x → does_hold pairs role x ≡ true →
      HoldFrom → all_hold pairs role clauses ≡ all_hold pairs role (drop (p + 1) clauses)
  hold_next x l is e h =
      h ∙ ap (all_hold pairs role) (from_there clauses p x l is)
      ∙ ap (λ b. cond b (all_hold pairs role (drop (p + 1) clauses)) false) e

  pub hold_all : length clauses ≤ p → HoldFrom → all_hold pairs role clauses ≡ true
  hold_all l h = h ∙ ap (all_hold pairs role) (drop_all p clauses l)

  -- one more write
  pub write_next : (old new : Pairs) (x : Stated) → p < length clauses → x ≡ get_or clauses p x →
      new ≡ written_by pairs role x → written old role clauses ≡ written pairs role (drop p clauses) →
      written old role clauses ≡ written new role (drop (p + 1) clauses)
  write_next old new x l is e h =
      h ∙ ap (written pairs role) (from_there clauses p x l is)
      ∙ ap (λ s. written s role (drop (p + 1) clauses)) (sym e)

  pub write_all : (old : Pairs) → length clauses ≤ p →
      written old role clauses ≡ written pairs role (drop p clauses) → pairs ≡ written old role clauses
  write_all old l h = sym (h ∙ ap (written pairs role) (drop_all p clauses l))
