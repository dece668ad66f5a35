-- Fingers are pointed elsewhere.
use Rattle.std.proofs.Common.{ℕ, ◌<◌, List, length, set, length-set, refl, ◌∙◌}
use Rattle.stm_logs.specs.Nodes.{Node, at, with_finger}
use Rattle.stm_logs.specs.Order.{OnlyFingers}
use Rattle.stm_logs.proofs.NodeLemmas.{field_kept}

pub finger_set : (ns : List Node) (q e : ℕ) → q < length ns → OnlyFingers ns (set ns q (with_finger (at ns q) e))
finger_set ns q e l =
    let y : Node = with_finger (at ns q) e in
    record {
      len = length-set ns q y;
      same = λ j. record {
        number = field_kept (λ x. x.number) ns q y l refl j;
        place = field_kept (λ x. x.place) ns q y l refl j;
        slot = field_kept (λ x. x.slot) ns q y l refl j;
      };
      values = field_kept (λ x. x.value) ns q y l refl;
      locks = field_kept (λ x. x.lock) ns q y l refl;
      nexts = field_kept (λ x. x.next) ns q y l refl;
    }

pub fingers_same : (ns : List Node) → OnlyFingers ns ns
fingers_same ns = record {
  len = refl;
  same = λ j. record { number = refl; place = refl; slot = refl };
  values = λ j. refl;
  locks = λ j. refl;
  nexts = λ j. refl;
}

pub fingers_both : (a b c : List Node) → OnlyFingers a b → OnlyFingers b c → OnlyFingers a c
fingers_both a b c f g = record {
  len = g.len ∙ f.len;
  same = λ j. (let s = f.same j in let t = g.same j in record {
    number = t.number ∙ s.number;
    place = t.place ∙ s.place;
    slot = t.slot ∙ s.slot;
  });
  values = λ j. g.values j ∙ f.values j;
  locks = λ j. g.locks j ∙ f.locks j;
  nexts = λ j. g.nexts j ∙ f.nexts j;
}
