-- Calls that are written in the order of their records are legal.
use Rattle.vac_model.specs.State.{empty_state}
use Rattle.load_record.specs.Legal.{OrderedCallsAreLegal, LegalUpToPrecedence, TextsAreLegalUpToPrecedence}
use Rattle.load_record.proofs.Exchange.{gives}
use Rattle.load_record.proofs.Sequence.{times, sequential}

pub ordered_calls_legal : OrderedCallsAreLegal
ordered_calls_legal n kept all last h merged turns ordered =
    let given = gives (empty_state n) last all h.history h.calls ordered h.sorted h.versioned h.legal in
    record {
      replies = given.0;
      leaves = given.1;
      times = times kept all merged.each_once turns;
      clients = sequential kept all merged.each_once turns;
    }

pub up_to_precedence : LegalUpToPrecedence
up_to_precedence n calls last h = (
  λ l. l.precedence,
  λ p. record { replies = h.replies; times = h.times; clients = h.clients; precedence = p },
)

pub texts_up_to_precedence : TextsAreLegalUpToPrecedence
texts_up_to_precedence n calls last theirs h =
    let order = up_to_precedence n calls last h in
    (λ e. order.0 ((theirs.judged n).0 e), λ p. (theirs.judged n).1 (order.1 p))
