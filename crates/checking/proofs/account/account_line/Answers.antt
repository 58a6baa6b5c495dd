-- Whether the file was read decides.
-- Assumes nothing.
use Rattle.checking.proofs.AccountLaws.{accounts}
use Rattle.checking.proofs.account.account_line.Goals as goal

pub returns-then-error-ne0 : goal.returns-then-error-ne0
returns-then-error-ne0 c = search accounts

pub returns : goal.returns
returns c = search accounts
