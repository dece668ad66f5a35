use Rattle.std.proofs.Common.{rules, ◌≡◌, length, refl, sym, ◌∙◌, arith}
use Rattle.std.proofs.Math.ListN.{length-replicate}
use Rattle.stm_logs.specs.declared.nodes.TheConstants.{BLANK, FREE}
use Rattle.stm_logs.proofs.BesideLemmas.{len_beside, blank_beside}
use Rattle.stm_logs.proofs.nodes.Nodes.new.Goals as goal

pub reserve-requires : goal.reserve-requires
reserve-requires g c κs within = (search rules, (search rules, (sym (length-replicate c.args.len BLANK), omega arith)))

pub reserve-requires-2 : goal.reserve-requires-2
reserve-requires-2 g c κs within = (search rules, (search rules, (sym (length-replicate c.args.len FREE), omega arith)))

pub returns : goal.returns
returns g c =
    let nodes : length c.fill.new.row.items ≡ c.args.len = omega (
      arith,
      c.fill.new.row.ok.0,
      c.fill.ensures.places.1,
      c.in_ok-row.ensures.0,
    ) in
    let places : length c.fill-2.new.row.items ≡ c.args.len =
    omega (arith, c.fill-2.new.row.ok.0, c.fill-2.ensures.places.1, c.in-Ok.ensures.0) in
    let same : length c.fill.new.row.items ≡ length c.fill-2.new.row.items = nodes ∙ sym places in
    (len_beside _ _ same ∙ nodes, refl, blank_beside _ _ same c.fill.ensures.items c.fill-2.ensures.items)
