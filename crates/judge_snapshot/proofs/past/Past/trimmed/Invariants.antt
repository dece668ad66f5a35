use Rattle.std.proofs.Common.{◌≡◌, take, map, false}
use Rattle.std.specs.List.{list_any}
use Rattle.judge_snapshot.proofs.Places.{is_old}
use Rattle.judge_snapshot.proofs.past.Past.trimmed.Given as goal

-- the versions so far, none of which is old
abbrev pub invariant-versions : goal.invariant-versions
invariant-versions g l = record {
  are : map (λ v. v.value) l.versions.items ≡ take l.place l.self.versions;
  none : list_any (is_old l.horizon) (take l.place l.self.versions) ≡ false;
}
