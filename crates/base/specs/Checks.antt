-- "Order of checks": of several checks the first fault decides. The file check, the opening and every other call are written with these.
use Rattle.std.specs.Prelude.{Bool, true, false, List, [], ◌∷◌}

-- What a check finds: nothing, or a fault.
pub data Check (X : Type 0) : Type 0 where
  fine : Check X
  refused : X → Check X

-- Where the test does not hold: this fault.
unfoldable pub need : {X : Type 0} → Bool → X → Check X
need true x = fine
need false x = refused x

-- The first fault of these.
unfoldable pub first_fault : {X : Type 0} → List (Check X) → Check X
first_fault [] = fine
first_fault (fine ∷ l) = first_fault l
first_fault (refused x ∷ l) = refused x

-- Whether a check found none.
unfoldable pub is_fine : {X : Type 0} → Check X → Bool
is_fine fine = true
is_fine (refused x) = false

-- The same check, its fault told by another name.
unfoldable pub renamed : {X Y : Type 0} → (X → Y) → Check X → Check Y
renamed g fine = fine
renamed g (refused x) = refused (g x)
