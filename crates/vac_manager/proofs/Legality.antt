-- A serial list of lawful records is legal.
use Rattle.std.proofs.Common.{◌≡◌, ℕ, List, [], ◌∷◌, false, length, refl, subst, zero}
use Rattle.tx_memory.specs.Image.{In, laid}
use Rattle.tx_memory.specs.Paired.{in_later}
use Rattle.stm_core.specs.Client.{Client, Record}
use Rattle.stm_core.specs.History.{Serial, image_after, all_records}
use Rattle.stm_region.specs.Shown.{RegionShown}
use Rattle.stm_object.specs.History.{WasInOrder}
use Rattle.vac_model.specs.declared.tasks.Task.{Task}
use Rattle.vac_model.specs.declared.replies.Reply.{Reply}
use Rattle.vac_model.specs.State.{State, empty_state}
use Rattle.vac_model.specs.Run.{run}
use Rattle.vac_records.proofs.Single.{one_state}
use Rattle.vac_manager.specs.Law.{memory_of_image, Shows, IsLawful, vacation}
use Rattle.vac_manager.specs.Legal.{RecordRuns, IsLegal, capacity_of, WasLegal}

-- an image represents one state
same_shown : (image : List ℕ) (s s' : State) → Shows image s → Shows image s' → s ≡ s'
same_shown image s s' h g = one_state (memory_of_image image) (length image) [] [] s s' h.represents g.represents

pub legal : (image : List ℕ) (s : State) (rs : List Record) → Shows image s → Serial image rs →
    ((r : Record) → In r rs → IsLawful r.tag r.reads r.writes) →
    (last : State) × (IsLegal s rs last × Shows (image_after image rs) last)
legal image s [] h serial lawful = (s, (refl, h))
legal image s (r ∷ rs) h serial lawful =
    let l = lawful r (zero, refl) in
    let o = l.does.on image s h serial.0 in
    let after = (run s l.entry.0).0 in
    let step : RecordRuns r s after = record {
      task = l.entry.0;
      reply = l.entry.1;
      range = l.does.is_entry;
      told = l.told;
      runs = λ i. (after, o.0 i);
      steady = λ e.
          same_shown image after s (subst (λ (ws : List (ℕ × ℕ)). Shows (laid image ws) after) e o.1) h;
    } in
    let rest = legal (laid image r.writes) after rs o.1 serial.1 (λ x i. lawful x (in_later x r rs i)) in
    (rest.0, ((after, step, rest.1.0), rest.1.1))

-- what was in order when it was decided was legal
pub was_legal : (region : RegionShown) (e : Task × Reply) (v v' : Client) →
    Shows region.first (empty_state (capacity_of region)) → v'.is_gathered ≡ false →
    WasInOrder vacation region e v v' → WasLegal region v'
was_legal region e v v' h out w =
    let k = w.decided.decides in
    let l = legal region.first (empty_state (capacity_of region)) (all_records k.core.clients) h k.serial k.abides in
    record {
      made = w.adds.made;
      earlier = v.records;
      newest = w.adds.records;
      decided = w.decided;
      out = out;
      last = l.0;
      legal = l.1.0;
      among = w.among;
    }
