-- No second outcome meets the contract of a file's line, read or not. For a run's line, `one-laid` of `ascii` says so.
-- Assumes nothing.
use mathlib.Core.Path.{◌≡◌, sym, ◌∙◌}
use mathlib.Core.Bool.{Bool}
use mathlib.Core.List.{List}
use Prim.Native.Nat.{ℕ}
use lib.IntN.{ℤ}
use Rattle.ascii.proofs.OneOutcome.{one-stop, one-laid}
use Rattle.checking.specs.declared.line.Checked.{Checked}
use Rattle.checking.specs.Checked.{CheckTold}
use Rattle.checking.specs.declared.run.Came.{Came}
use Rattle.checking.specs.declared.account.Account.{Account}
use Rattle.checking.specs.Account.{AccountTold}

same_answer : (a b : ℕ) (s t : Bool) → a ≡ b → s ≡ t → ◌≡◌ {A = Checked} (record { count = a; accepted = s }) (record { count = b; accepted = t })
same_answer a b s t p q = rw (p, q)

module _ (out name file new new' : List ℕ) (r r' : Checked) (p : CheckTold out name file new r) (q : CheckTold out name file new' r') where
  pub one-check-answer : r ≡ r'
  one-check-answer =
      same_answer r.count r'.count r.accepted r'.accepted (one-stop _ _ _ _ _ _ _ p.line q.line) (p.accepted ∙ sym q.accepted)

  pub one-check-line : new ≡ new'
  one-check-line = one-laid _ _ _ _ _ _ _ p.line q.line

same-account : (a b : ℕ) (s t : Came) → a ≡ b → s ≡ t → ◌≡◌ {A = Account} (record { count = a; came = s }) (record { count = b; came = t })
same-account a b s t p q = rw (p, q)

module _ (out name : List ℕ) (error : ℤ) (file new new' : List ℕ) (r r' : Account) (p : AccountTold out name error file new r) (q : AccountTold out name error file new' r') where
  pub one-account-answer : r ≡ r'
  one-account-answer = same-account r.count r'.count r.came r'.came (one-stop _ _ _ _ _ _ _ p.line q.line) (p.came ∙ sym q.came)

  pub one-account-line : new ≡ new'
  one-account-line = one-laid _ _ _ _ _ _ _ p.line q.line
