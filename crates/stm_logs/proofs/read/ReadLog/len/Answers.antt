use Rattle.std.proofs.Common.{sym, ap, ◌∙◌, ◌≤◌, ◌≡◌, ◌+◌, ◌*◌, length, arith}
use Rattle.stm_logs.proofs.ChunkLemmas.{length-logged}
use Rattle.stm_logs.proofs.read.ReadLog.len.Goals as goal

pub returns : goal.returns
returns g c =
    let s = c.self.inside in
    let few : s.used ≤ length s.hand = omega (arith, c.self.invariant.1, c.self.invariant.2) in
    let order : s.full * 1024 + s.used ≡ 1024 * s.full + s.used = omega arith in
    order ∙ sym (length-logged s.rest.items s.full s.hand s.used c.self.invariant.0 few) ∙ ap length c.self.view_is
