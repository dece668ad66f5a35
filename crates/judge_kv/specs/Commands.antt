-- The operations and replies that commands and answers stand for.
use Rattle.judge_kv.specs.declared.command.Change.{Change as Changing}
use Rattle.judge_kv.specs.declared.command.Change.TheVariants as change
use Rattle.judge_kv.specs.declared.command.Command.{Command}
use Rattle.judge_kv.specs.declared.command.Command.TheVariants as command
use Rattle.judge_kv.specs.declared.answer.Said.{Said}
use Rattle.judge_kv.specs.declared.answer.Said.TheVariants as said
use Rattle.judge_kv.specs.Operations.{Does, Get, Put, Delete, CompareAndSet, Append, PutIfAbsent, GetAndSet, Increment, Transact, TransactAndGet, Change, Keep, Become}
use Rattle.judge_kv.specs.Shared.{value_in}
use Rattle.judge_kv.specs.Replies.{Answered, Done, Truth, Has, Missing}

-- what a transaction makes of its key
abbrev pub makes : Changing → Change
makes change.Keep = Keep
makes (change.Become held) = Become (value_in held)

-- what a command asks of its key
abbrev pub does : Command → Does
does command.Get = Get
does (command.Put value) = Put value.value
does command.Delete = Delete
does (command.CompareAndSet old new) = CompareAndSet old.value new.value
does (command.Append more) = Append more.value
does (command.PutIfAbsent value) = PutIfAbsent value.value
does (command.GetAndSet value) = GetAndSet value.value
does (command.Increment by) = Increment by
does (command.Transact it) =
    Transact (value_in it.value.old) (makes it.value.first) (makes it.value.second)
does (command.TransactAndGet it) =
    TransactAndGet (value_in it.value.old) (makes it.value.first) (makes it.value.second)

-- the reply
abbrev pub answered : Said → Answered
answered said.Done = Done
answered (said.Truth is) = Truth is
answered (said.Has value) = Has value.value
answered said.Missing = Missing
