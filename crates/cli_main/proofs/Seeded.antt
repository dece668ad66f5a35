-- A load of a seed that was run, or refused.
use Rattle.std.proofs.Common.{◌≡◌, ◌↔◌, ◌⊎◌, inl, inr, refl, sym, subst, false, vec_len}
use Rattle.std.specs.Prelude.{Result, Ok, Err, IsErrOf, IsErrAnd}
use Rattle.rand_pcg.specs.Lcg.{Lcg}
use Rattle.load_tasks.specs.declared.settings.Settings.{Settings}
use Rattle.load_tasks.specs.Streams.{gives, stream_of}
use Rattle.load_run.specs.declared.statistics.AttemptStatistics.{AttemptStatistics}
use Rattle.load_run.specs.Keeping.{RecorderContents}
use Rattle.load_run.specs.declared.slots.Recorders.{Recorders}
use Rattle.load_run.specs.declared.load.Load.{Load}
use Rattle.load_run.specs.declared.load.LoadReport.{LoadReport}
use Rattle.load_run.specs.declared.load.LoadFault.{LoadFault}
use Rattle.load_run.specs.declared.load.LoadFault.TheVariants as load
use Rattle.load_run.specs.Attempted.{AreStatistics}
use Rattle.load_run.specs.Load.{IsStopOfLoad, StopsLoad, is_load}
use Rattle.load_run.specs.Streams.{IsBySeed}
use Rattle.load_run.proofs.Loads.{kept_by_seed, stop_by_seed}
use Rattle.cli_main.specs.Load.{HasRun, RunsKept}

-- a load that can be run does not stop for its arguments
never_arguments : (s : Settings) (state : Lcg) (e : LoadFault) → e ≡ load.Arguments → StopsLoad gives s state e → ⊥
never_arguments s state load.Arguments same h = h.1
never_arguments s state load.Memory same h = absurd cc
never_arguments s state load.Spawn same h = absurd cc
never_arguments s state (load.Opening fault) same h = absurd cc

-- what a load of a seed gave
pub ran_by_seed : {G K : Type 0} (notes : K → RecorderContents) (s : Settings) (recorders : Recorders K)
    (l : Load Lcg G K)
    (result : Result (LoadReport × AttemptStatistics × Recorders K) LoadFault) →
    (IsErrOf {T = Load Lcg G K} (Ok l) load.Arguments ↔ (is_load s (vec_len recorders.clients) ≡ false)) →
    IsBySeed s recorders l → HasRun notes l result → RunsKept notes s recorders result
ran_by_seed notes s recorders l (Ok r) can is h = record {
  arguments = (λ e. absurd cc, λ f. absurd (let e = can.1 f in cc));
  kept = kept_by_seed notes s recorders r.2 l r.0.outcomes r.0.report r.1.attempts is h.kept;
  statistics = subst (λ (t : Settings). AreStatistics t.tries r.0.outcomes r.1) is.settings_are h.statistics;
  refused = tt;
}
ran_by_seed notes s recorders l (Err e) can is h = record {
  arguments = (
    λ same. absurd (never_arguments _ _ e (let x = same in cc) h.refused),
    λ f. absurd (let x = can.1 f in cc),
  );
  kept = tt;
  statistics = tt;
  refused = inr (stop_by_seed s recorders l e is h.refused);
}

-- no load was made
pub not_seeded : {L K : Type 0} (notes : K → RecorderContents) (s : Settings) (recorders : Recorders K) (e : LoadFault)
    →
    (IsErrOf {T = L} (Err e) load.Arguments ↔ (is_load s (vec_len recorders.clients) ≡ false)) →
    (e ≡ load.Arguments) ⊎ (e ≡ load.Memory) → RunsKept notes s recorders (Err e)
not_seeded {L} notes s recorders e can (inl arguments) = record {
  arguments = (λ same. can.0 (let x = same in cc), λ f. let x = can.1 f in cc);
  kept = tt;
  statistics = tt;
  refused = inl arguments;
}
not_seeded {L} notes s recorders e can (inr memory) = record {
  arguments = (λ same. can.0 (let x = same in cc), λ f. let x = can.1 f in cc);
  kept = tt;
  statistics = tt;
  refused = inr (
    stream_of s.seed 0,
    subst (λ (f : LoadFault). IsStopOfLoad gives s (stream_of s.seed 0)
        (stream_of s.seed 0) f) (sym memory) (inl refl),
  );
}

pub handed_on : {K : Type 0} (notes : K → RecorderContents) (s : Settings) (recorders : Recorders K)
    (r : Result (LoadReport × AttemptStatistics × Recorders K) LoadFault) (e : LoadFault) →
    IsErrAnd r (λ f. f ≡ e) → RunsKept notes s recorders (Err e) → RunsKept notes s recorders r
handed_on notes s recorders (Ok x) e is h = absurd is
handed_on notes s recorders (Err f) e is h = subst (λ (f : LoadFault). RunsKept notes s recorders (Err f)) (sym is) h
