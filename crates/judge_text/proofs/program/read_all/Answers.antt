use Rattle.std.proofs.Common.{ℕ, ◌≡◌, ◌<◌, ◌∙◌, ap, sym, subst, length, take, refl, arith}
use Rattle.std.specs.Global.{Vec}
use Rattle.std.specs.Io.KnownBytes.{Consumes}
use Rattle.std.proofs.KnownBytes.{Consumes-nil, Consumes-trans, Consumes-kept}
use Rattle.judge_text.proofs.Ending.{read_end}
use Rattle.judge_text.proofs.program.read_all.Goals as goal
use Rattle.judge_text.proofs.program.read_all.Goals.{in-Ok+in_ok-extend_from_slice-in-Ok, in-Err+else-ne}

pub reads-init : goal.reads-init
reads-init g c = record {
  consumed = subst (Consumes (g.R.Read.remaining c.args.input.now) (g.R.Read.remaining c.args.input.now))
      (sym c.new-text.ensures.items) (Consumes-nil (g.R.Read.remaining c.args.input.now));
  chunk = c.as_mut_slice-chunk.ensures.len ∙ c.in_ok-buffer.ensures.len;
}

pub returns-in-Ok-eq0-clause-ok : goal.returns-in-Ok-eq0-clause-ok
returns-in-Ok-eq0-clause-ok g c =
    let at = c.reads.invariant in
    let zero : c.in-Ok-eq0.field-0 ≡ 0 = c.in-Ok-eq0.field-0-test in
    let got = rw zero at c.in-Ok-eq0.ensures.bytes in
    let room : 0 < length c.read.new.buf = omega (arith, at.chunk) in
    read_end _ _ _ _ at.consumed got.0 (got.1 refl room)

pub reads-preserved : goal.reads-preserved
reads-preserved g c =
    let at = c.reads.invariant in
    let unread = g.R.Read.remaining c.args.input.now in
    let left = g.R.Read.remaining c.reads.input in
    let now = g.R.Read.remaining c.read.new.self in
    let text = c.reads.text.items in
    let chunk : length c.read.new.buf ≡ 65536 = omega (arith, at.chunk) in
    elim c.match-read.branch [
      | in-Ok+in_ok-extend_from_slice-in-Ok w ↦ record {
        consumed = subst (Consumes unread now)
            (sym (ap (λ (v : Vec ℕ). v.items) w.text-is ∙ w.in_ok-extend_from_slice-in-Ok.ensures.items))
            (Consumes-trans unread left now text (take w.in-Ok.count c.read.new.buf) at.consumed
            w.in-Ok.ensures.bytes.0);
        chunk = chunk;
      }
      | in-Err+else-ne w ↦ record {
        consumed = subst (Consumes unread now) (sym (ap (λ (v : Vec ℕ). v.items) w.text-is))
            (Consumes-kept unread left now text at.consumed w.in-Err.ensures.bytes);
        chunk = chunk;
      }
    ]
