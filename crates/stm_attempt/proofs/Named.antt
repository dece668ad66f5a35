-- What a commit leaves of its client's value, by its names.
use Rattle.std.proofs.Common.{◌≡◌, ap, ◌∙◌, []}
use Rattle.stm_core.specs.Client.{Client}
use Rattle.stm_core.specs.Event.{idle_attempt}
use Rattle.stm_attempt.specs.Committing.{IsSameAttempt}

-- the client's value without what a commit changes
abbrev pub apart : Client → Client
apart v = record v {
  floor = 0;
  records = [];
  attempt = record idle_attempt {
    number = v.attempt.number;
    rv = v.attempt.rv;
    reads = v.attempt.reads;
    lone = v.attempt.lone;
    renewal = v.attempt.renewal;
    began_at = v.attempt.began_at;
  };
}

pub same_attempt : (v v' : Client) → apart v' ≡ apart v → IsSameAttempt v v'
same_attempt v v' e = record {
  grants = ap (λ (x : Client). x.grants) e;
  is_gathered = ap (λ (x : Client). x.is_gathered) e;
  number = ap (λ (x : Client). x.attempt.number) e;
  rv = ap (λ (x : Client). x.attempt.rv) e;
  reads = ap (λ (x : Client). x.attempt.reads) e;
  lone = ap (λ (x : Client). x.attempt.lone) e;
  began_at = ap (λ (x : Client). x.attempt.began_at) e;
  renewal = ap (λ (x : Client). x.attempt.renewal) e;
  aborted_before = ap (λ (x : Client). x.aborted_before) e;
  aborted = ap (λ (x : Client). x.aborted) e;
}

pub same_on : (v w u : Client) → IsSameAttempt v w → IsSameAttempt w u → IsSameAttempt v u
same_on v w u a b = record {
  grants = b.grants ∙ a.grants;
  is_gathered = b.is_gathered ∙ a.is_gathered;
  number = b.number ∙ a.number;
  rv = b.rv ∙ a.rv;
  reads = b.reads ∙ a.reads;
  lone = b.lone ∙ a.lone;
  began_at = b.began_at ∙ a.began_at;
  renewal = b.renewal ∙ a.renewal;
  aborted_before = b.aborted_before ∙ a.aborted_before;
  aborted = b.aborted ∙ a.aborted;
}
