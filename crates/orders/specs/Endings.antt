-- How the program ends, by what was ordered and how it was carried out: "0 done, 1 refused, 2 wrong usage or a file that can't be read or written".
use Rattle.std.specs.Prelude.{Bool, true, false}
use Rattle.streams.specs.declared.ending.Ending.{Ending}
use Rattle.streams.specs.declared.ending.Ending.TheVariants.{Done, Failed}
use Rattle.orders.specs.declared.Usage.{Usage}
use Rattle.orders.specs.declared.Usage.TheVariants.{Right, Wished, NoCommand, NoOption, TooFew, TooMany, NoNumber, InputTwice}

-- A wrong usage has failed; any other order ends as it was carried out.
abbrev pub ending_of : Usage → (run : Ending) → Ending
ending_of Right run = run
ending_of Wished run = run
ending_of NoCommand run = Failed
ending_of NoOption run = Failed
ending_of TooFew run = Failed
ending_of TooMany run = Failed
ending_of NoNumber run = Failed
ending_of InputTwice run = Failed

-- What could not be read or written has failed.
abbrev pub ending_if : (done : Bool) → Ending
ending_if true = Done
ending_if false = Failed
