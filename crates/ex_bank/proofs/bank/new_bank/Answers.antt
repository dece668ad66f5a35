use Rattle.std.proofs.Common.{rules}
use Rattle.stm_object.specs.Steps.{begins_words}
use Rattle.ex_bank.specs.declared.law.TheConstants.{ACCOUNTS}
use Rattle.ex_bank.specs.Accounts.{IsBank, IsEntry, Finds, after, code}
use Rattle.ex_bank.proofs.bank.new_bank.Goals as goal

pub new-requires-clause-begins : goal.new-requires-clause-begins
new-requires-clause-begins c = begins_words ACCOUNTS IsBank IsEntry Finds after code _ (search rules)
