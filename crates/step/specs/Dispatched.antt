-- How many bytes of a core `dispatch` tells apart. From there on they are EMULATE, STORESP, LOADSP and IM.
use Rattle.std.specs.Prelude.{ℕ}
use Rattle.machine.specs.declared.Core.{Core}
use Rattle.machine.specs.declared.Core.TheVariants.{Narrow, Wide}

abbrev pub dispatched : Core → ℕ
dispatched Narrow = 32
dispatched Wide = 64
