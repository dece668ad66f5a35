-- Moments as numbers: the moments of a lane stand together, in their order.
use Rattle.std.specs.Prelude.{◌≡◌, ℕ, ◌+◌, ◌*◌, min, max, Bool, List, map, nat_le, if◌then◌else◌}
use Rattle.std.specs.List.{count_by}
use Rattle.std.specs.List.Sorted.{IsNonDecreasing}
use Rattle.judge_object.specs.declared.span.Span.{Span}
use Rattle.judge_object.specs.declared.span.TheConstants.{NEVER}
use Rattle.judge_coverage.specs.declared.moments.Moments.{Moments}
use Rattle.judge_coverage.specs.declared.moments.TheConstants.{LANE}

-- the lane of a call: that of its client if calls are kept apart, otherwise 0
abbrev pub lane_of : Bool → Span → ℕ
lane_of apart call = if apart then call.client else 0

-- the key of a moment in a lane
abbrev pub key_of : ℕ → ℕ → ℕ
key_of lane moment = lane * LANE + min moment NEVER

-- the key of the BEGIN of a call
abbrev pub begin_key : Bool → Span → ℕ
begin_key apart call = key_of (lane_of apart call) call.begin

-- the key of the END of a call, or of its BEGIN if the call ends before it begins
abbrev pub end_key : Bool → Span → ℕ
end_key apart call = key_of (lane_of apart call) (max call.begin call.end)

-- the number of keys up to a key
abbrev pub number_up_to : ℕ → List ℕ → ℕ
number_up_to key keys = count_by (λ other. nat_le other key) keys

-- these are the moments of calls
pub record AreMoments (apart : Bool) (calls : List Span) (moments : Moments) : Type 0 where
  pub begins_ascend : IsNonDecreasing moments.begins.items
  pub ends_ascend : IsNonDecreasing moments.ends.items
  pub begins : (key : ℕ) → number_up_to key moments.begins.items
      ≡ number_up_to key (map (begin_key apart) calls)
  pub ends : (key : ℕ) → number_up_to key moments.ends.items
      ≡ number_up_to key (map (end_key apart) calls)
