use Rattle.std.proofs.Common.{sym, subst, arith}
use Rattle.vac_model.specs.declared.items.Kind.TheVariants.{Car, Flight, Room}
use Rattle.vac_model.proofs.Bounds.{HasSmallSums, small_sums}
use Rattle.vac_sequential.proofs.tables.Tables.report.Goals as goal

pub units-requires : goal.units-requires
units-requires c =
    let sums = subst HasSmallSums (sym c.self.view_is) (small_sums c.args.self.now c.requires) in
    omega (arith, sums.units)

pub bills-requires : goal.bills-requires
bills-requires c =
    let sums = subst HasSmallSums (sym c.self.view_is) (small_sums c.args.self.now c.requires) in
    omega (arith, sums.bills)

pub used-requires : goal.used-requires
used-requires c =
    let sums = subst HasSmallSums (sym c.self.view_is) (small_sums c.args.self.now c.requires) in
    omega (arith, sums.used Car)

pub used-requires-2 : goal.used-requires-2
used-requires-2 c =
    let sums = subst HasSmallSums (sym c.self.view_is) (small_sums c.args.self.now c.requires) in
    omega (arith, sums.used Flight)

pub used-requires-3 : goal.used-requires-3
used-requires-3 c =
    let sums = subst HasSmallSums (sym c.self.view_is) (small_sums c.args.self.now c.requires) in
    omega (arith, sums.used Room)

pub overflow_add-result : goal.overflow_add-result
overflow_add-result c =
    let sums = subst HasSmallSums (sym c.self.view_is) (small_sums c.args.self.now c.requires) in
    omega (arith, sums.used Car, sums.used Flight, c.used.ensures, c.used-2.ensures)

pub overflow_add-result-2 : goal.overflow_add-result-2
overflow_add-result-2 c =
    let sums = subst HasSmallSums (sym c.self.view_is) (small_sums c.args.self.now c.requires) in
    omega (arith, sums.used Car, sums.used Flight, sums.used Room, c.used.ensures, c.used-2.ensures, c.used-3.ensures)

pub free-requires : goal.free-requires
free-requires c =
    let sums = subst HasSmallSums (sym c.self.view_is) (small_sums c.args.self.now c.requires) in
    omega (arith, sums.free Car)

pub free-requires-2 : goal.free-requires-2
free-requires-2 c =
    let sums = subst HasSmallSums (sym c.self.view_is) (small_sums c.args.self.now c.requires) in
    omega (arith, sums.free Flight)

pub free-requires-3 : goal.free-requires-3
free-requires-3 c =
    let sums = subst HasSmallSums (sym c.self.view_is) (small_sums c.args.self.now c.requires) in
    omega (arith, sums.free Room)

pub overflow_add-result-3 : goal.overflow_add-result-3
overflow_add-result-3 c =
    let sums = subst HasSmallSums (sym c.self.view_is) (small_sums c.args.self.now c.requires) in
    omega (arith, sums.free Car, sums.free Flight, c.free.ensures, c.free-2.ensures)

pub overflow_add-result-4 : goal.overflow_add-result-4
overflow_add-result-4 c =
    let sums = subst HasSmallSums (sym c.self.view_is) (small_sums c.args.self.now c.requires) in
    omega (arith, sums.free Car, sums.free Flight, sums.free Room, c.free.ensures, c.free-2.ensures, c.free-3.ensures)

pub total-requires : goal.total-requires
total-requires c =
    let sums = subst HasSmallSums (sym c.self.view_is) (small_sums c.args.self.now c.requires) in
    omega (arith, sums.total Car)

pub total-requires-2 : goal.total-requires-2
total-requires-2 c =
    let sums = subst HasSmallSums (sym c.self.view_is) (small_sums c.args.self.now c.requires) in
    omega (arith, sums.total Flight)

pub total-requires-3 : goal.total-requires-3
total-requires-3 c =
    let sums = subst HasSmallSums (sym c.self.view_is) (small_sums c.args.self.now c.requires) in
    omega (arith, sums.total Room)

pub overflow_add-result-5 : goal.overflow_add-result-5
overflow_add-result-5 c =
    let sums = subst HasSmallSums (sym c.self.view_is) (small_sums c.args.self.now c.requires) in
    omega (arith, sums.total Car, sums.total Flight, c.total.ensures, c.total-2.ensures)

pub overflow_add-result-6 : goal.overflow_add-result-6
overflow_add-result-6 c =
    let sums = subst HasSmallSums (sym c.self.view_is) (small_sums c.args.self.now c.requires) in
    omega (
      arith,
      sums.total Car,
      sums.total Flight,
      sums.total Room,
      c.total.ensures,
      c.total-2.ensures,
      c.total-3.ensures,
    )
