-- The sums over the three tables and the customers make the report.
use Rattle.std.proofs.Common.{◌≡◌, sym, ap, ◌∙◌}
use Rattle.tx_memory.specs.View.{View}
use Rattle.vac_model.specs.declared.items.Kind.TheVariants.{Car, Flight, Room}
use Rattle.vac_model.specs.declared.replies.Report.{Report}
use Rattle.vac_model.specs.State.{report}
use Rattle.vac_tasks.specs.declared.item_report.ItemSums.{ItemSums}
use Rattle.vac_tasks.specs.declared.customer_report.CustomerSums.{CustomerSums}
use Rattle.vac_tasks.specs.Reported.{Reported}
use Rattle.vac_tasks.specs.Sums.{items_together, ItemsSummed, CustomersSummed, sums_of_items, sums_of_customers}
use Rattle.vac_tasks.proofs.HeldReport.{read_both}

-- a report of these parts
abbrev pub made_of : ItemSums → ItemSums → ItemSums → ItemSums → CustomerSums → Report
made_of cars flights rooms items customers = record {
  cars = cars.count;
  flights = flights.count;
  rooms = rooms.count;
  customers = customers.count;
  bookings = customers.units;
  used = items.used;
  free = items.free;
  total = items.total;
  billed = customers.billed;
}

pub reported : (s0 s1 s2 s3 s4 : View) (cars flights rooms both items : ItemSums) (customers : CustomerSums) →
    both ≡ items_together cars flights → items ≡ items_together both rooms → ItemsSummed s0 s1 Car cars →
    ItemsSummed s1 s2 Flight flights → ItemsSummed s2 s3 Room rooms → CustomersSummed s3 s4 customers →
    Reported s0 s4 (made_of cars flights rooms items customers)
reported s0 s1 s2 s3 s4 cars flights rooms both items customers e g c f r u =
    let r2 = read_both s0 s1 s2 c.reads f.reads in
    let r3 = read_both s0 s2 s3 r2 r.reads in
    let all : items ≡ items_together (items_together cars flights) rooms =
    g ∙ ap (λ (x : ItemSums). items_together x rooms) e in
    record {
      reads = read_both s0 s3 s4 r3 u.reads;
      is = λ image state j4 h.
          let j3 = u.reads.kept.seen image j4 in
          let j2 = r.reads.kept.seen image j3 in
          let j1 = f.reads.kept.seen image j2 in
          let car : sums_of_items state.cars ≡ cars = c.is image state j1 h in
          let flight : sums_of_items state.flights ≡ flights = f.is image state j2 (rw c.reads.writes h) in
          let room : sums_of_items state.rooms ≡ rooms = r.is image state j3 (rw r2.writes h) in
          let user : sums_of_customers state.customers ≡ customers = u.is image state j4 (rw r3.writes h) in
          let parts : report state ≡ made_of cars flights rooms
          (items_together (items_together cars flights) rooms) customers = (
          λ q. made_of (car q) (flight q) (room q) (items_together (items_together (car q) (flight q)) (room q))
          (user q)) in
          parts ∙ ap (λ (x : ItemSums). made_of cars flights rooms x customers) (sym all);
    }
