use Rattle.std.proofs.Common.{ℕ, ◌<◌, List, length, get_or, length-set, sym, ap, ◌∙◌, arith, subst}
use Rattle.std.proofs.Common.{add-one}
use Rattle.stm_logs.specs.Keys.{key_at, content_before, IsChosen}
use Rattle.stm_logs.proofs.KeyLemmas.{before_up, step_done, step_left, all_done, inserted_keys, inserted_same}
use Rattle.stm_logs.proofs.KeyLemmas.{here_same}
use Rattle.stm_logs.proofs.keys.Keys.insert.Given as given
use Rattle.stm_logs.proofs.keys.Keys.insert.Goals as goal

pub chosen-requires : goal.chosen-requires
chosen-requires c =
    let inv = c.loop-place.invariant in
    let inside : c.loop-place.place < length c.loop-place.self.places =
    omega (arith, inv.len, c.whole_groups-end.ensures.most) in
    let here = here_same c.loop-place.self.places c.loop-place.place inside ∙ inv.left c.loop-place.place
    (omega arith) in
    let up = before_up (key_at c.args.self.now) c.args.count c.requires.keys c.loop-place.place in
    omega (arith, up, here, inv.before)

pub loop-place-preserved : goal.loop-place-preserved
loop-place-preserved c =
    let xs : List ℕ = c.loop-place.self.places in
    let j : ℕ = c.loop-place.place in
    let inv = c.loop-place.invariant in
    let inside : j < length xs = omega (arith, inv.len, c.whole_groups-end.ensures.most) in
    let here = here_same xs j inside ∙ inv.left j (omega arith) in
    let this : IsChosen (content_before (key_at c.args.self.now) j)
    (key_at c.args.self.now j) c.args.key c.chosen.result =
    subst (λ h. IsChosen (content_before (key_at c.args.self.now) j) h c.args.key c.chosen.result) here
    (subst (λ b. IsChosen b (get_or xs j 0) c.args.key c.chosen.result) inv.before c.chosen.ensures) in
    record {
      len = length-set xs j c.chosen.result ∙ inv.len;
      before = here ∙ ap (content_before (key_at c.args.self.now)) (sym (add-one j));
      done = step_done (key_at c.args.self.now) xs j c.args.key c.chosen.result inside this inv.done;
      left = step_left (key_at c.args.self.now) xs j c.chosen.result inv.left;
    }

chosen_all : (c : goal.After-loop-place) → (k : ℕ) → IsChosen (content_before (key_at c.args.self.now) k)
    (key_at c.args.self.now k) c.args.key
    (key_at c.loop-place.self k)
chosen_all c = all_done (key_at c.args.self.now) (key_at c.loop-place.self) c.args.count c.args.key c.loop-place.place
    c.requires.keys c.requires.key.1 (omega (arith, c.whole_groups-end.ensures.some)) c.loop-place.invariant.done
    c.loop-place.invariant.left

pub returns-clause-keys : goal.returns-clause-keys
returns-clause-keys c = inserted_keys (key_at c.args.self.now) (key_at c.loop-place.self) c.args.count c.args.key
    c.requires.keys c.requires.key.0 c.requires.key.1 c.requires.new (chosen_all c)

pub returns-clause-same : goal.returns-clause-same
returns-clause-same c = inserted_same (key_at c.args.self.now) (key_at c.loop-place.self) c.args.count c.args.key
    c.requires.keys c.requires.key.0 c.requires.key.1 c.requires.new (chosen_all c)
