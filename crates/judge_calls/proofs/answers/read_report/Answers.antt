use Rattle.std.proofs.Common.{◌<◌, ◌^◌, ℕ, List, [], ◌∷◌, All, rules}
use Rattle.std.proofs.lemmas.List.Elements.{All-nil, All-cons}
use Rattle.judge_calls.proofs.answers.read_report.Goals as goal

abbrev IsWord : ℕ → Type 0
IsWord n = n < 2 ^ 64

more : (n : ℕ) (ns : List ℕ) → IsWord n → All IsWord ns → All IsWord (n ∷ ns)
more n ns h g = All-cons IsWord n ns h g

pub returns : goal.returns
returns c =
    let r = c.args.report in
    let cars : r.cars < 2 ^ 64 = search rules in
    let flights : r.flights < 2 ^ 64 = search rules in
    let rooms : r.rooms < 2 ^ 64 = search rules in
    let customers : r.customers < 2 ^ 64 = search rules in
    let bookings : r.bookings < 2 ^ 64 = search rules in
    let used : r.used < 2 ^ 64 = search rules in
    let free : r.free < 2 ^ 64 = search rules in
    let total : r.total < 2 ^ 64 = search rules in
    let billed : r.billed < 2 ^ 64 = search rules in
    let h8 = more r.billed [] billed (All-nil IsWord) in
    let h7 = more r.total (r.billed ∷ []) total h8 in
    let h6 = more r.free (r.total ∷ r.billed ∷ []) free h7 in
    let h5 = more r.used (r.free ∷ r.total ∷ r.billed ∷ []) used h6 in
    let h4 = more r.bookings (r.used ∷ r.free ∷ r.total ∷ r.billed ∷ []) bookings h5 in
    let h3 = more r.customers (r.bookings ∷ r.used ∷ r.free ∷ r.total ∷ r.billed ∷ []) customers h4 in
    let h2 = more r.rooms (r.customers ∷ r.bookings ∷ r.used ∷ r.free ∷ r.total ∷ r.billed ∷ []) rooms h3 in
    let h1 = more r.flights (r.rooms ∷ r.customers ∷ r.bookings ∷ r.used ∷ r.free ∷ r.total ∷ r.billed ∷ []) flights h2
    in
    more r.cars (r.flights ∷ r.rooms ∷ r.customers ∷ r.bookings ∷ r.used ∷ r.free ∷ r.total ∷ r.billed ∷ []) cars h1
