-- A client that is alone has the whole history, and each call leads it on.
use Rattle.std.proofs.Common.{◌≡◌, ℕ, List, [], ◌∷◌, ◌++◌, false}
use Rattle.std.proofs.Common.{Result, Ok, Err, IfOk, refl, sym, ap, subst, ◌∙◌}
use Rattle.stm_core.specs.Client.{Client, Record}
use Rattle.stm_core.proofs.Whole.{all_grants, own_sorted}
use Rattle.stm_region.specs.Shown.{RegionShown}
use Rattle.stm_core.specs.Guards.{stripe_of}
use Rattle.vac_model.specs.declared.tasks.Task.{Task}
use Rattle.vac_model.specs.declared.replies.Reply.{Reply}
use Rattle.vac_model.specs.State.{State, empty_state}
use Rattle.vac_model.specs.Run.{run}
use Rattle.vac_model.specs.Code.{code}
use Rattle.vac_model.proofs.Codes.{code_determines}
use Rattle.vac_manager.specs.Law.{IsLawful}
use Rattle.vac_manager.specs.Legal.{RecordRuns, IsLegal, IsHistoryTo, WasLegal, capacity_of}
use Rattle.vac_manager.specs.Called.{HasAllGrants, Adds, Records, Continues, LeadsOn, HasWholeHistory}
use Rattle.stm_object.proofs.Histories.{all_of_one}

-- the records of a client with all grants are a history
pub whole : (region : RegionShown) (v : Client) → WasLegal region v → HasAllGrants v → HasWholeHistory region v
whole region v h all =
    let law : List ℕ → List (ℕ × ℕ) → List (ℕ × ℕ) → Type 0 = λ tag reads writes. IsLawful tag reads writes in
    let k = h.decided.decides in
    let then : Client = h.decided.then in
    let same = sym h.decided.same in
    let out : then.is_gathered ≡ false = ap (λ (c : Client). c.is_gathered) same ∙ h.out in
    let grants : then.grants ≡ v.grants = ap (λ (c : Client). c.grants) same in
    let records : then.records ≡ v.records = ap (λ (c : Client). c.records) same in
    let alone = all_grants law (stripe_of region.stripes) k.core k.rule k.number then k.member out (grants ∙ all) in
    let sorted = own_sorted law (stripe_of region.stripes) k.core k.rule k.number then k.member in
    let mine = all_of_one k.core.clients k.number then k.member sorted
    (λ j w t n. ap (λ (c : Client). c.records) (k.rule.past.are_gone j w t (alone j w t n))) in
    (h.last, subst (λ (rs : List Record). IsHistoryTo region rs h.last) (mine ∙ records) h.legal)

-- a record's tag says its task and its reply
one_step : (r : Record) (s a b : State) → RecordRuns r s a → RecordRuns r s b → a ≡ b
one_step r s a b p q =
    let same = code_determines p.task q.task p.reply q.reply (sym p.told ∙ q.told) in
    sym (ap (λ (x : State × Reply). x.0) p.runs) ∙ (ap (λ (t : Task). (run s t).0) same.0 ∙
    ap (λ (x : State × Reply). x.0) q.runs)

-- a history leads to one state
pub one_last : (s : State) (rs : List Record) (a b : State) → IsLegal s rs a → IsLegal s rs b → a ≡ b
one_last s [] a b h g = sym h ∙ g
one_last s (r ∷ rs) a b h g =
    let same = one_step r s h.0 g.0 h.1 g.1 in
    one_last g.0 rs a b (subst (λ (x : State). IsLegal x rs a) same h.2) g.2

last_runs : (s : State) (rs : List Record) (r : Record) (last : State) → IsLegal s (rs ++ (r ∷ [])) last →
    (mid : State) × IsLegal s rs mid × RecordRuns r mid last
last_runs s [] r last h = (s, refl, subst (λ (x : State). RecordRuns r s x) h.2 h.1)
last_runs s (x ∷ rs) r last h = let q = last_runs h.0 rs r last h.2 in (q.0, (h.0, h.1, q.1), q.2)

leads_on : (region : RegionShown) (t : Task) (reply : Reply) (v v' : Client) → Adds region.renewal (code t reply) v v' →
    HasWholeHistory region v' → (s : State) → IsHistoryTo region v.records s →
    LeadsOn region t reply s v'
leads_on region t reply v v' a w s h =
    let q = last_runs (empty_state (capacity_of region)) v.records a.added w.0
    (subst (λ (rs : List Record). IsHistoryTo region rs w.0) a.records w.1) in
    let same = one_last (empty_state (capacity_of region)) v.records q.0 s q.1 h in
    let p : RecordRuns a.added s w.0 = subst (λ (x : State). RecordRuns a.added x w.0) same q.2 in
    let c = code_determines t p.task reply p.reply (sym a.tag_is ∙ p.told) in
    let ran : run s t ≡ (w.0, reply) = ap (λ (u : Task). run s u) c.0 ∙
    (p.runs ∙ ap (λ (r : Reply). (w.0, r)) (sym c.1)) in
    record {
      reply_is = sym (ap (λ (x : State × Reply). x.1) ran);
      history = subst (λ (x : State). IsHistoryTo region v'.records x) (sym (ap (λ (x : State × Reply). x.0) ran)) w.1;
    }

pub continues : {E : Type 0} (region : RegionShown) (t : Task) (result : Result Reply E) (v v' : Client) →
    Records region t result v v' → IfOk result (λ _. HasWholeHistory region v') → Continues region t result v v'
continues region t (Ok reply) v v' a w = λ s h. leads_on region t reply v v' a w s h
continues region t (Err e) v v' r w = λ s h. subst (λ (rs : List Record). IsHistoryTo region rs s) (sym r) h

-- the same at a result that was made of another
pub whole_of : {E : Type 0} (region : RegionShown) (result : Result Reply E) (v v' : Client) →
    IfOk result (λ _. WasLegal region v') → v'.grants ≡ v.grants → HasAllGrants v →
    IfOk result (λ _. HasWholeHistory region v')
whole_of region (Ok reply) v v' h same all = whole region v' h (same ∙ all)
whole_of region (Err e) v v' h same all = tt
