-- The paper's number of each outcome.
use Rattle.std.specs.Prelude.{ℕ}
use Rattle.machine.specs.declared.Outcome.{Outcome}
use Rattle.machine.specs.declared.Outcome.TheVariants.{Limit, Break, Image, Start, Fetch, Illegal, Stack, Address, Divide}

abbrev pub number : Outcome → ℕ
number Limit = 0
number Break = 1
number Image = 2
number Start = 3
number Fetch = 4
number Illegal = 5
number Stack = 6
number Address = 7
number Divide = 8
