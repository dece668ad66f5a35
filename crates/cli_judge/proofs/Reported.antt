-- The report of a judge on its log.
use Rattle.std.proofs.Common.{◌≡◌, ℕ, Bool, true, false, List, Option, is_some, sym, subst, refl}
use Rattle.judge_options.specs.declared.asked.JudgeSettings.{JudgeSettings}
use Rattle.cli_judge.specs.Asking.{is_refused}
use Rattle.cli_judge.specs.Reporting.{ReportsCalls, ReportsBeside, ReportsUnless}

-- the report was written to what was there, unless progress lines were
pub beside : (progress stats has_workload : Bool) (status : ℕ) (held middle holds : Option (List ℕ)) →
    (progress ≡ false → middle ≡ held) → ReportsCalls stats has_workload status middle holds →
    ReportsBeside progress stats has_workload status held holds
beside true stats has_workload status held middle holds untold report = tt
beside false stats has_workload status held middle holds untold report =
    subst (λ h. ReportsCalls stats has_workload status h holds) (untold refl) report

-- the command line is refused
pub reports_refused : (how : JudgeSettings) (status : ℕ) (told tells : Option (List ℕ)) →
    is_refused how ≡ true → ReportsUnless (is_refused how) how status told tells
reports_refused how status told tells is = subst (λ b. ReportsUnless b how status told tells) (sym is) tt

-- the command line is not refused
pub reports_asked : (how : JudgeSettings) (status : ℕ) (told tells : Option (List ℕ)) →
    is_refused how ≡ false →
    ReportsBeside how.search.progress how.search.stats (is_some how.tasks) status told tells →
    ReportsUnless (is_refused how) how status told tells
reports_asked how status told tells is report =
    subst (λ b. ReportsUnless b how status told tells) (sym is) report

-- what holds of the reader that was watched
pub through : {X : Type 0} (P : X → X → Type 0) (start first middle last : X) → first ≡ start → last ≡ middle →
    P first middle → P start last
through P start first middle last e f h = subst (λ x. P x last) e (subst (P first) (sym f) h)
